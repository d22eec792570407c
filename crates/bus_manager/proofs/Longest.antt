-- The reach of a tree is that of its longest paths.
use Rattle.std.proofs.Common.{◌≡◌, ℕ, zero, suc, ◌+◌, ◌-◌, ◌≤◌, ◌⊎◌, inl, inr, List, [], ◌∷◌, ◌++◌, length, take, drop, refl, sym, ap, subst, ◌∙◌, arith, Bool, true, false, leb, append_assoc, length-append}
use Rattle.std.specs.Prelude.{max}
use Rattle.std.proofs.lemmas.Bool.{leb-true, leb-false}
use Rattle.std.proofs.lemmas.List.{append-nil}
use Rattle.std.proofs.Math.Seq.{take-append_seam, drop-append_seam}
use Rattle.self_id.specs.Node.{Node, downs}
use Rattle.topology_stack.specs.Tree.{Label, Tree, branch, Slots, no_more, absent, unplugged, up, down, statuses, node_of, walk, walk_below}
use Rattle.bus_manager.specs.declared.paths.Reach.{Reach}
use Rattle.bus_manager.specs.Hops.{SomeChild, GoesDown, PathTurns, IsPath, IsPathBelow, IsHops}
use Rattle.bus_manager.specs.codings.Reach.{with_child, above, after_node, after_nodes}

-- the reach of a tree, and those of the trees below some slots
abbrev mutual
  pub reach : Tree → Reach
  reach (branch a s) = above (reaches s)

  pub reaches : Slots → List Reach
  reaches no_more = []
  reaches (absent s) = reaches s
  reaches (unplugged s) = reaches s
  reaches (up s) = reaches s
  reaches (down t s) = reach t ∷ reaches s

-- ---- the reach is that of paths

-- a way from a node down over so many cables, none included
abbrev pub Way : ℕ → Slots → Type 0
Way zero s = Unit {0}
Way (suc k) s = SomeChild (GoesDown k) s

-- a path at or below a node with these slots
abbrev pub PathOf : ℕ → Slots → Type 0
PathOf k s = Way k s ⊎ (PathTurns k s ⊎ IsPathBelow k s)

pub record Below (s : Slots) (r : Reach) : Type 0 where
  pub way : Way r.depth s
  pub deepest : (k : ℕ) → Way k s → k ≤ r.depth
  pub path : PathOf r.longest s
  pub longest : (k : ℕ) → PathOf k s → k ≤ r.longest

pub record OfTree (t : Tree) (r : Reach) : Type 0 where
  pub way : GoesDown r.depth t
  pub deepest : (k : ℕ) → GoesDown k t → k ≤ r.depth
  pub path : IsPath r.longest t
  pub longest : (k : ℕ) → IsPath k t → k ≤ r.longest

none : Below no_more (record { depth = 0; longest = 0 })
none = record { way = tt; deepest = none_deep; path = inl tt; longest = none_long }
  where
    none_deep : (k : ℕ) → Way k no_more → k ≤ 0
    none_deep zero h = omega arith
    none_deep (suc k) h = absurd h

    none_long : (k : ℕ) → PathOf k no_more → k ≤ 0
    none_long zero h = omega arith
    none_long (suc k) (inl h) = absurd h
    none_long (suc k) (inr (inl h)) = absurd h
    none_long (suc k) (inr (inr h)) = absurd h

step_deep : (t : Tree) (s : Slots) (r q : Reach) → OfTree t r → Below s q → (k : ℕ) →
    Way k (down t s) → k ≤ (with_child r q).depth
step_deep t s r q h b zero w = omega arith
step_deep t s r q h b (suc k) (inl w) = omega (arith, h.deepest k w)
step_deep t s r q h b (suc k) (inr w) = omega (arith, b.deepest (suc k) w)

step_long : (t : Tree) (s : Slots) (r q : Reach) → OfTree t r → Below s q → (k : ℕ) →
    PathOf k (down t s) → k ≤ (with_child r q).longest
step_long t s r q h b k (inl w) = omega (arith, step_deep t s r q h b k w, b.longest q.depth (inl b.way))
step_long t s r q h b k (inr (inl (inl (i, j, di, dj, is)))) = omega (arith, h.deepest i di, b.deepest (suc j) dj)
step_long t s r q h b k (inr (inl (inr w))) = omega (arith, b.longest k (inr (inl w)))
step_long t s r q h b k (inr (inr (inl w))) = omega (arith, h.longest k w)
step_long t s r q h b k (inr (inr (inr w))) = omega (arith, b.longest k (inr (inr w)))

-- which of two numbers is the greater
max_is : (a b : ℕ) → (max a b ≡ a) ⊎ (max a b ≡ b)
max_is a b = elim (leb a b) as (λ (v : Bool). leb a b ≡ v → (max a b ≡ a) ⊎ (max a b ≡ b)) [
  | true ↦ λ e. inr (let lt = leb-true a b e in omega arith)
  | false ↦ λ e. inl (let lt = leb-false a b e in omega arith)
] refl

way_more : (t : Tree) (s : Slots) (k : ℕ) → Way k s → Way k (down t s)
way_more t s zero w = tt
way_more t s (suc k) w = inr w

path_more : (t : Tree) (s : Slots) (k : ℕ) → PathOf k s → PathOf k (down t s)
path_more t s k (inl w) = inl (way_more t s k w)
path_more t s k (inr (inl w)) = inr (inl (inr w))
path_more t s k (inr (inr w)) = inr (inr (inr w))

-- over the first child and down below another one, if there is one
through : (t : Tree) (s : Slots) (i k : ℕ) → GoesDown i t → Way k s → PathOf (i + 1 + k) (down t s)
through t s i zero di w = let e : i + 1 + 0 ≡ suc i = omega arith in subst (λ (n : ℕ). PathOf n (down t s)) (sym e) (inl (inl di))
through t s i (suc j) di w = inr (inl (inl (i, j, di, w, omega arith)))

step : (t : Tree) (s : Slots) (r q : Reach) → OfTree t r → Below s q →
    Below (down t s) (with_child r q)
step t s r q h b = record {
  way = elim (max_is (r.depth + 1) q.depth) [
    | inl e ↦ let d : (with_child r q).depth ≡ suc r.depth = omega (arith, e) in subst (λ (k : ℕ). Way k (down t s)) (sym d) (inl h.way)
    | inr e ↦ subst (λ (k : ℕ). Way k (down t s)) (sym e) (way_more t s q.depth b.way)
  ];
  deepest = step_deep t s r q h b;
  path = elim (max_is (max r.longest (r.depth + 1 + q.depth)) q.longest) [
    | inl e ↦ elim (max_is r.longest (r.depth + 1 + q.depth)) [
      | inl f ↦ subst (λ (k : ℕ). PathOf k (down t s)) (sym (e ∙ f)) (inr (inr (inl h.path)))
      | inr f ↦ subst (λ (k : ℕ). PathOf k (down t s)) (sym (e ∙ f)) (through t s r.depth q.depth h.way b.way)
    ]
    | inr e ↦ subst (λ (k : ℕ). PathOf k (down t s)) (sym e) (path_more t s q.longest b.path)
  ];
  longest = step_long t s r q h b;
}

as_way : (k : ℕ) (a : Label) (s : Slots) → GoesDown k (branch a s) → Way k s
as_way zero a s g = tt
as_way (suc k) a s g = g

of_way : (k : ℕ) (a : Label) (s : Slots) → Way k s → GoesDown k (branch a s)
of_way zero a s w = tt
of_way (suc k) a s w = w

as_path : (k : ℕ) (a : Label) (s : Slots) → IsPath k (branch a s) → PathOf k s
as_path k a s (inl g) = inl (as_way k a s g)
as_path k a s (inr w) = inr w

of_path : (k : ℕ) (a : Label) (s : Slots) → PathOf k s → IsPath k (branch a s)
of_path k a s (inl w) = inl (of_way k a s w)
of_path k a s (inr w) = inr w

-- slots that lead nowhere change nothing
same_way : (k : ℕ) (s s' : Slots) → ((P : Tree → Type 0) → SomeChild P s → SomeChild P s') →
    Way k s → Way k s'
same_way zero s s' f w = tt
same_way (suc k) s s' f w = f (GoesDown k) w

abbrev Rest : ℕ → Slots → Type 0
Rest k s = PathTurns k s ⊎ IsPathBelow k s

same_path : (k : ℕ) (s s' : Slots) → ((P : Tree → Type 0) → SomeChild P s → SomeChild P s') →
    (Rest k s → Rest k s') → PathOf k s → PathOf k s'
same_path k s s' f u (inl w) = inl (same_way k s s' f w)
same_path k s s' f u (inr w) = inr (u w)

skip : (s s' : Slots) (r : Reach) → ((P : Tree → Type 0) → SomeChild P s → SomeChild P s') →
    ((P : Tree → Type 0) → SomeChild P s' → SomeChild P s) → ((k : ℕ) → Rest k s → Rest k s') →
    ((k : ℕ) → Rest k s' → Rest k s) → Below s r → Below s' r
skip s s' r f g u v b = record {
  way = same_way r.depth s s' f b.way;
  deepest = λ k w. b.deepest k (same_way k s' s g w);
  path = same_path r.longest s s' f (u r.longest) b.path;
  longest = λ k w. b.longest k (same_path k s' s g (v k) w);
}

mutual
  pub reach_is : (t : Tree) → OfTree t (reach t)
  reach_is (branch a s) =
      let b = reaches_are s in
      record {
        way = of_way (above (reaches s)).depth a s b.way;
        deepest = λ k g. b.deepest k (as_way k a s g);
        path = of_path (above (reaches s)).longest a s b.path;
        longest = λ k g. b.longest k (as_path k a s g);
      }

  pub reaches_are : (s : Slots) → Below s (above (reaches s))
  reaches_are no_more = none
  reaches_are (absent s) = skip s (absent s) (above (reaches s)) (λ P w. w) (λ P w. w) (λ k w. w) (λ k w. w) (reaches_are s)
  reaches_are (unplugged s) = skip s (unplugged s) (above (reaches s)) (λ P w. w) (λ P w. w) (λ k w. w) (λ k w. w) (reaches_are s)
  reaches_are (up s) = skip s (up s) (above (reaches s)) (λ P w. w) (λ P w. w) (λ k w. w) (λ k w. w) (reaches_are s)
  reaches_are (down t s) = step t s (reach t) (above (reaches s)) (reach_is t) (reaches_are s)

pub is_hops : (t : Tree) → IsHops t (reach t).longest
is_hops t = let h = reach_is t in record { path = h.path; longest = h.longest }

-- no path is as long as the tree has nodes
mutual
  pub small : (t : Tree) →
      ((reach t).depth + 1 ≤ length (walk t)) × ((reach t).longest + 1 ≤ length (walk t))
  small (branch a s) = let b = small_below s in (omega (arith, b.0, length-append (walk_below s) (node_of a s ∷ [])), omega (arith, b.1, length-append (walk_below s) (node_of a s ∷ [])))

  pub small_below : (s : Slots) →
      ((above (reaches s)).depth ≤ length (walk_below s)) × ((above (reaches s)).longest ≤ length (walk_below s))
  small_below no_more = (omega arith, omega arith)
  small_below (absent s) = small_below s
  small_below (unplugged s) = small_below s
  small_below (up s) = small_below s
  small_below (down t s) =
      let h = small t in
      let b = small_below s in
      let l = length-append (walk t) (walk_below s) in
      (omega (arith, h.0, b.0, l), omega (arith, h.0, h.1, b.0, b.1, l))

-- ---- node by node

after_nodes-append : (ws : List Reach) (ms ns : List Node) →
    after_nodes ws (ms ++ ns) ≡ after_nodes (after_nodes ws ms) ns
after_nodes-append ws [] ns = refl
after_nodes-append ws (m ∷ ms) ns = after_nodes-append (after_node ws m) ms ns

length-reaches : (s : Slots) → length (reaches s) ≡ downs (statuses s)
length-reaches no_more = refl
length-reaches (absent s) = length-reaches s
length-reaches (unplugged s) = length-reaches s
length-reaches (up s) = length-reaches s
length-reaches (down t s) = omega (arith, length-reaches s)

-- a node takes the reaches of its children
takes : (ws : List Reach) (a : Label) (s : Slots) →
    after_node (ws ++ reaches s) (node_of a s) ≡ ws ++ reach (branch a s) ∷ []
takes ws a s =
    let start : length (ws ++ reaches s) - downs (statuses s) ≡ length ws = omega (arith, length-append ws (reaches s), length-reaches s) in
    ap (λ (k : ℕ). take k (ws ++ reaches s) ++ above (drop k (ws ++ reaches s)) ∷ []) start
    ∙ ap (λ (x : List Reach). x ++ above (drop (length ws) (ws ++ reaches s)) ∷ []) (take-append_seam ws (reaches s))
    ∙ ap (λ (x : List Reach). ws ++ above x ∷ []) (drop-append_seam ws (reaches s))

mutual
  pub after_nodes-walk : (t : Tree) (ws : List Reach) → after_nodes ws (walk t) ≡ ws ++ reach t ∷ []
  after_nodes-walk (branch a s) ws =
      after_nodes-append ws (walk_below s) (node_of a s ∷ []) ∙ ap (λ (x : List Reach). after_node x (node_of a s)) (after_nodes-walk_below s ws) ∙ takes ws a s

  pub after_nodes-walk_below : (s : Slots) (ws : List Reach) →
      after_nodes ws (walk_below s) ≡ ws ++ reaches s
  after_nodes-walk_below no_more ws = sym (append-nil ws)
  after_nodes-walk_below (absent s) ws = after_nodes-walk_below s ws
  after_nodes-walk_below (unplugged s) ws = after_nodes-walk_below s ws
  after_nodes-walk_below (up s) ws = after_nodes-walk_below s ws
  after_nodes-walk_below (down t s) ws =
      after_nodes-append ws (walk t) (walk_below s) ∙ ap (λ (x : List Reach). after_nodes x (walk_below s)) (after_nodes-walk t ws) ∙ after_nodes-walk_below s (ws ++ reach t ∷ [])
      ∙ append_assoc ws (reach t ∷ []) (reaches s)
