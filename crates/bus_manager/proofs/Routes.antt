-- Over a path as many cables go as nodes stand behind its first: the paths of a tree's form are those
-- from node to node.
use Rattle.std.proofs.Common.{◌≡◌, ◌≢◌, ℕ, zero, suc, ◌+◌, ◌-◌, ◌<◌, ◌≤◌, ◌⊎◌, inl, inr, Option, Some, List, [], ◌∷◌, ◌++◌, length, refl, sym, ap, subst, ◌∙◌, arith, length-append}
use Rattle.std.specs.Prelude.{slice_get}
use Rattle.std.proofs.lemmas.Bool.{cases_lt}
use Rattle.self_id.specs.Node.{ups}
use Rattle.topology_stack.specs.Tree.{Label, Tree, branch, Slots, no_more, absent, unplugged, up, down, statuses, walk, walk_below, IsPart, AreParts, IsWhole, IsBusTree}
use Rattle.topology_stack.specs.Far.{slot_ends, ends_from, ends_below, ends}
use Rattle.speed_map.specs.Path.{Joined, IsNew, IsPath as IsNodePath}
use Rattle.speed_map.proofs.Lemmas.{last, length-ends_from, length-ends_below, joined_within, one_path}
use Rattle.bus_manager.specs.Hops.{SomeChild, GoesDown, PathTurns, IsPath, IsPathBelow, HopsAreOfNodePaths}
use Rattle.topology_stack.proofs.Lemmas.{length-walk, some_node}
use Rattle.quad_lanes.proofs.Lemmas.{slice_get-left, slice_get-right}

abbrev Ends : Type 0
Ends = List (Option ℕ)

-- ---- paths one behind the other

abbrev AllOf : (ℕ → Type 0) → List ℕ → Type 0
AllOf P [] = Unit {0}
AllOf P (x ∷ xs) = P x × AllOf P xs

all_append : (P : ℕ → Type 0) (xs ys : List ℕ) → AllOf P xs → AllOf P ys → AllOf P (xs ++ ys)
all_append P [] ys h k = k
all_append P (x ∷ xs) ys h k = (h.0, all_append P xs ys h.1 k)

all_weaker : (P Q : ℕ → Type 0) → ((x : ℕ) → P x → Q x) → (xs : List ℕ) → AllOf P xs → AllOf Q xs
all_weaker P Q f [] h = tt
all_weaker P Q f (x ∷ xs) h = (f x h.0, all_weaker P Q f xs h.1)

new_append : (x : ℕ) (p q : List ℕ) → IsNew x p → IsNew x q → IsNew x (p ++ q)
new_append x [] q h k = k
new_append x (y ∷ p) q h k = (h.0, new_append x p q h.1 k)

differs : (P : ℕ → Type 0) (x : ℕ) (q : List ℕ) → ((v : ℕ) → P v → x ≢ v) → AllOf P q → IsNew x q
differs P x [] d h = tt
differs P x (v ∷ q) d h = (d v h.0, differs P x q d h.1)

path_append : (T : Tree) (P Q : ℕ → Type 0) → ((u v : ℕ) → P u → Q v → u ≢ v) →
    (a b c : ℕ) (p q : List ℕ) → P a → AllOf P p → AllOf Q q → IsNodePath T a b p →
    IsNodePath T b c q → IsNodePath T a c (p ++ q)
path_append T P Q d a b c [] q pa hp hq h k = subst (λ x. IsNodePath T x c q) (sym h) k
path_append T P Q d a b c (x ∷ p) q pa hp hq h k =
    (h.0, new_append a (x ∷ p) q h.1 (differs Q a q (λ v. d a v pa) hq), path_append T P Q d x b c p q hp.0 hp.1 hq h.2 k)

-- ---- ways down and up

abbrev Within : ℕ → ℕ → ℕ → ℕ → Type 0
Within low high top u = (u ≡ top) ⊎ ((low ≤ u) × (u < high))

abbrev Inside : ℕ → ℕ → ℕ → Type 0
Inside low high u = (low ≤ u) × (u < high)

-- from a node down to another over so many cables and back up, by nodes of a range
record Way (T : Tree) (low high top x k : ℕ) : Type 0 where
  downs : List ℕ
  down_path : IsNodePath T top x downs
  down_long : length downs ≡ k
  down_in : AllOf (Inside low high) downs
  ups_list : List ℕ
  up_path : IsNodePath T x top ups_list
  up_long : length ups_list ≡ k
  up_in : AllOf (Within low high top) ups_list
  here : Within low high top x

at_top : (T : Tree) (low high top : ℕ) → Way T low high top top 0
at_top T low high top = record {
  downs = [];
  down_path = refl;
  down_long = refl;
  down_in = tt;
  ups_list = [];
  up_path = refl;
  up_long = refl;
  up_in = tt;
  here = inl refl;
}

below_top : (low c me u : ℕ) → c < me → Within low c c u → u < me
below_top low c me u lt (inl e) = omega (arith, lt, e)
below_top low c me u lt (inr h) = omega (arith, lt, h.1)

wider : (low c high me u : ℕ) → low ≤ c → c < high → Within low c c u → Within low high me u
wider low c high me u le lt (inl e) = inr (omega (arith, le, e), omega (arith, lt, e))
wider low c high me u le lt (inr h) = inr (h.0, omega (arith, lt, h.1))

-- one cable more
lift : (T : Tree) (low c high me x k : ℕ) → low ≤ c → c < high → high ≤ me → Joined T me c →
    Joined T c me → Way T low c c x k → Way T low high me x (k + 1)
lift T low c high me x k le lt le' j back w =
    let less : c < me = omega (arith, lt, le') in
    let new : IsNew me (c ∷ w.downs) = differs (λ u. u < me) me (c ∷ w.downs) (λ v h e. omega (arith, h, e)) (less, all_weaker (Inside low c) (λ u. u < me) (λ u h. omega (arith, h.1, less)) w.downs w.down_in) in
    let over : IsNodePath T c me (me ∷ []) = (back, ((λ e. omega (arith, less, e)), tt), refl) in
    record {
      downs = c ∷ w.downs;
      down_path = (j, new, w.down_path);
      down_long = omega (arith, w.down_long);
      down_in = ((le, lt), all_weaker (Inside low c) (Inside low high) (λ u h. (h.0, omega (arith, h.1, lt))) w.downs w.down_in);
      ups_list = w.ups_list ++ me ∷ [];
      up_path = path_append T (λ u. u < me) (λ v. v ≡ me) (λ u v h e d. omega (arith, h, e, d)) x c me w.ups_list (me ∷ []) (below_top low c me x less w.here)
          (all_weaker (Within low c c) (λ u. u < me) (λ u h. below_top low c me u less h) w.ups_list w.up_in) (refl, tt) w.up_path over;
      up_long = omega (arith, length-append w.ups_list (me ∷ []), w.up_long);
      up_in = all_append (Within low high me) w.ups_list (me ∷ []) (all_weaker (Within low c c) (Within low high me) (λ u h. wider low c high me u le lt h) w.ups_list w.up_in) (inl refl, tt);
      here = wider low c high me x le lt w.here;
    }

stretched : (low high low' high' top u : ℕ) → low' ≤ low → high ≤ high' → Within low high top u →
    Within low' high' top u
stretched low high low' high' top u a b (inl e) = inl e
stretched low high low' high' top u a b (inr h) = inr (omega (arith, a, h.0), omega (arith, b, h.1))

stretch : (T : Tree) (low high low' high' top x k : ℕ) → low' ≤ low → high ≤ high' →
    Way T low high top x k → Way T low' high' top x k
stretch T low high low' high' top x k a b w = record {
  downs = w.downs;
  down_path = w.down_path;
  down_long = w.down_long;
  down_in = all_weaker (Inside low high) (Inside low' high') (λ u h. (omega (arith, a, h.0), omega (arith, b, h.1))) w.downs w.down_in;
  ups_list = w.ups_list;
  up_path = w.up_path;
  up_long = w.up_long;
  up_in = all_weaker (Within low high top) (Within low' high' top) (λ u h. stretched low high low' high' top u a b h) w.ups_list w.up_in;
  here = stretched low high low' high' top x a b w.here;
}

record Route (T : Tree) (x y k : ℕ) : Type 0 where
  ids : List ℕ
  path : IsNodePath T x y ids
  long : length ids ≡ k

down_route : (T : Tree) (low high top x k : ℕ) → Way T low high top x k → Route T top x k
down_route T low high top x k w = record { ids = w.downs; path = w.down_path; long = w.down_long }

up_route : (T : Tree) (low high top x k : ℕ) → Way T low high top x k → Route T x top k
up_route T low high top x k w = record { ids = w.ups_list; path = w.up_path; long = w.up_long }

apart : (low high low' high' me u v : ℕ) → (high ≤ low') ⊎ (high' ≤ low) → high' ≤ me →
    Within low high me u → Inside low' high' v → u ≢ v
apart low high low' high' me u v d le (inl e) h same = omega (arith, le, e, h.1, same)
apart low high low' high' me u v (inl d) le (inr k) h same = omega (arith, d, k.1, h.0, same)
apart low high low' high' me u v (inr d) le (inr k) h same = omega (arith, d, k.0, h.1, same)

-- up to a node and down again elsewhere
turn : (T : Tree) (low high low' high' me x y k l : ℕ) → (high ≤ low') ⊎ (high' ≤ low) →
    high' ≤ me → Way T low high me x k → Way T low' high' me y l → Route T x y (k + l)
turn T low high low' high' me x y k l d le w v = record {
  ids = w.ups_list ++ v.downs;
  path = path_append T (Within low high me) (Inside low' high') (λ a b h i. apart low high low' high' me a b d le h i) x me y w.ups_list v.downs w.here w.up_in v.down_in w.up_path v.down_path;
  long = omega (arith, length-append w.ups_list v.downs, w.up_long, v.down_long);
}

-- ---- parts of a tree

-- the ends of a subtree's nodes are those of the whole tree
abbrev Emb : Tree → ℕ → ℕ → Tree → Type 0
Emb T from parent t = (i : ℕ) (e : Ends) → slice_get (ends_from from parent t) i ≡ Some e → slice_get (ends T) (from + i) ≡ Some e

abbrev EmbS : Tree → ℕ → ℕ → Slots → Type 0
EmbS T from me s = (i : ℕ) (e : Ends) → slice_get (ends_below from me s) i ≡ Some e → slice_get (ends T) (from + i) ≡ Some e

-- the slots lead to these nodes
abbrev LeadS : Tree → ℕ → ℕ → ℕ → Slots → Type 0
LeadS T from me parent s = (slot k : ℕ) → slice_get (slot_ends from parent s) slot ≡ Some (Some k) → Joined T me k

emb_below : (T : Tree) (from parent : ℕ) (a : Label) (s : Slots) → Emb T from parent (branch a s) →
    EmbS T from (from + length (walk_below s)) s
emb_below T from parent a s h i e k = h i e (slice_get-left (ends_below from (from + length (walk_below s)) s) (slot_ends from parent s ∷ []) i e k)

top_ends : (T : Tree) (from parent : ℕ) (a : Label) (s : Slots) → Emb T from parent (branch a s) →
    slice_get (ends T) (from + length (walk_below s)) ≡ Some (slot_ends from parent s)
top_ends T from parent a s h = h (length (walk_below s)) (slot_ends from parent s) (last (ends_below from (from + length (walk_below s)) s) (slot_ends from parent s) (length (walk_below s)) (sym (length-ends_below from (from + length (walk_below s)) s)))

lead_top : (T : Tree) (from parent : ℕ) (a : Label) (s : Slots) → Emb T from parent (branch a s) →
    LeadS T from (from + length (walk_below s)) parent s
lead_top T from parent a s h slot k e = record { slot = slot; far = record { of_node = slot_ends from parent s; node = top_ends T from parent a s h; slot_end = e } }

emb_first : (T : Tree) (from me : ℕ) (t : Tree) (s : Slots) → EmbS T from me (down t s) →
    Emb T from me t
emb_first T from me t s h i e k = h i e (slice_get-left (ends_from from me t) (ends_below (from + length (walk t)) me s) i e k)

emb_rest : (T : Tree) (from me : ℕ) (t : Tree) (s : Slots) → EmbS T from me (down t s) →
    EmbS T (from + length (walk t)) me s
emb_rest T from me t s h i e k =
    let at : from + (length (walk t) + i) ≡ from + length (walk t) + i = omega arith in
    ap (λ n. slice_get (ends T) n) (sym at) ∙ h (length (walk t) + i) e (slice_get-right (ends_from from me t) (ends_below (from + length (walk t)) me s) (length (walk t)) i (length-ends_from from me t) ∙ k)

-- a part has a slot that leads up
up_slot : (from parent : ℕ) (s : Slots) → 1 ≤ ups (statuses s) →
    (slot : ℕ) × (slice_get (slot_ends from parent s) slot ≡ Some (Some parent))
up_slot from parent no_more le = absurd (omega (arith, le))
up_slot from parent (absent s) le = let r = up_slot from parent s le in (suc r.0, r.1)
up_slot from parent (unplugged s) le = let r = up_slot from parent s le in (suc r.0, r.1)
up_slot from parent (up s) le = (0, refl)
up_slot from parent (down t s) le = let r = up_slot (from + length (walk t)) parent s le in (suc r.0, r.1)

-- the outermost node of a part, and its parent
back_up : (T : Tree) (from me : ℕ) (t : Tree) → Emb T from me t → IsPart t →
    Joined T (from + length (walk t) - 1) me
back_up T from me (branch a s) h p =
    let r = up_slot from me s (omega (arith, p.1)) in
    let at : from + length (walk_below s) ≡ from + length (walk (branch a s)) - 1 = omega (arith, length-walk a s) in
    subst (λ c. Joined T c me) at (lead_top T from me a s h r.0 me r.1)

top_of : (a : Label) (s : Slots) (from : ℕ) →
    from + length (walk (branch a s)) - 1 ≡ from + length (walk_below s)
top_of a s from = omega (arith, length-walk a s)

-- ---- each node is below the outermost one by some cables

abbrev Parts : Tree → Type 0
Parts (branch a s) = AreParts s

part_parts : (t : Tree) → IsPart t → Parts t
part_parts (branch a s) p = p.2

move : (T : Tree) (low high top x k high' top' x' k' : ℕ) → high ≡ high' → top ≡ top' → x ≡ x' →
    k ≡ k' → Way T low high top x k → Way T low high' top' x' k'
move T low high top x k high' top' x' k' a b c d w =
    subst (λ n. Way T low high' top' x' n) d (subst (λ n. Way T low high' top' n k) c (subst (λ n. Way T low high' n x k) b (subst (λ n. Way T low n top x k) a w)))

same_route : (T : Tree) (x y k x' y' k' : ℕ) → x ≡ x' → y ≡ y' → k ≡ k' → Route T x y k →
    Route T x' y' k'
same_route T x y k x' y' k' a b c r = subst (λ n. Route T x' y' n) c (subst (λ n. Route T x' n k) b (subst (λ n. Route T n y k) a r))

-- a way in a child is one in its parent's slots
abbrev top : ℕ → Tree → ℕ
top from t = from + length (walk t) - 1

lift_child : (T : Tree) (from me parent : ℕ) (t : Tree) (s : Slots) (x k high : ℕ) →
    EmbS T from me (down t s) → LeadS T from me parent (down t s) → IsPart t →
    from + length (walk t) ≤ high → high ≤ me → Way T from (top from t) (top from t) x k →
    Way T from high me x (k + 1)
lift_child T from me parent t s x k high h lead p le le' w =
    lift T from (top from t) high me x k (omega (arith, some_node t)) (omega (arith, le, some_node t)) le' (lead 0 (top from t) refl) (back_up T from me t (emb_first T from me t s h) p) w

mutual
  downT : (T : Tree) (from parent : ℕ) (t : Tree) (i : ℕ) → Emb T from parent t → Parts t →
      i < length (walk t) →
      (k : ℕ) × (GoesDown k t × Way T from (top from t) (top from t) (from + i) k)
  downT T from parent (branch a s) i h p lt = elim (cases_lt i (length (walk_below s))) [
    | inl less ↦
        let me = from + length (walk_below s) in
        let d = downS T from me parent s i (emb_below T from parent a s h) (lead_top T from parent a s h) p (omega arith) less in
        (suc d.0, (d.1.0, move T from me me (from + i) (d.0 + 1) (top from (branch a s)) (top from (branch a s)) (from + i) (suc d.0) (sym (top_of a s from)) (sym (top_of a s from)) refl (omega arith) d.1.1))
    | inr more ↦ (0, (tt, move T from (top from (branch a s)) (top from (branch a s)) (top from (branch a s)) 0 (top from (branch a s)) (top from (branch a s)) (from + i) 0 refl refl (omega (arith, more, lt, length-walk a s)) refl (at_top T from (top from (branch a s)) (top from (branch a s)))))
  ]

  downS : (T : Tree) (from me parent : ℕ) (s : Slots) (i : ℕ) → EmbS T from me s →
      LeadS T from me parent s → AreParts s → from + length (walk_below s) ≤ me →
      i < length (walk_below s) →
      (k : ℕ) × (SomeChild (GoesDown k) s × Way T from (from + length (walk_below s)) me (from + i) (k + 1))
  downS T from me parent no_more i h lead p le lt = absurd (omega (arith, lt))
  downS T from me parent (absent s) i h lead p le lt = downS T from me parent s i h (λ slot. lead (suc slot)) p le lt
  downS T from me parent (unplugged s) i h lead p le lt = downS T from me parent s i h (λ slot. lead (suc slot)) p le lt
  downS T from me parent (up s) i h lead p le lt = downS T from me parent s i h (λ slot. lead (suc slot)) p le lt
  downS T from me parent (down t s) i h lead p le lt = elim (cases_lt i (length (walk t))) [
    | inl less ↦
        let d = downT T from me t i (emb_first T from me t s h) (part_parts t p.0) less in
        (d.0, (inl d.1.0, lift_child T from me parent t s (from + i) d.0 (from + length (walk_below (down t s))) h lead p.0 (omega (arith, length-append (walk t) (walk_below s))) le d.1.1))
    | inr more ↦
        let far = length-append (walk t) (walk_below s) in
        let d = downS T (from + length (walk t)) me parent s (i - length (walk t)) (emb_rest T from me t s h) (λ slot. lead (suc slot)) p.1 (omega (arith, le, far)) (omega (arith, more, lt, far)) in (
          d.0,
          (
            inr d.1.0,
            stretch T (from + length (walk t)) (from + length (walk_below (down t s))) from (from + length (walk_below (down t s))) me (from + i) (d.0 + 1) (omega arith) (omega arith)
                (move T (from + length (walk t)) (from + length (walk t) + length (walk_below s)) me (from + length (walk t) + (i - length (walk t))) (d.0 + 1) (from + length (walk_below (down t s))) me (from + i) (d.0 + 1) (omega (arith, far)) refl (omega (arith, more)) refl d.1.1),
          ),
        )
  ]

-- ---- over so many cables there is a node below

mutual
  wayT : (T : Tree) (from parent : ℕ) (t : Tree) (k : ℕ) → Emb T from parent t → Parts t →
      GoesDown k t →
      (i : ℕ) × ((i < length (walk t)) × Way T from (top from t) (top from t) (from + i) k)
  wayT T from parent (branch a s) zero h p g =
      (length (walk_below s), (omega (arith, length-walk a s), move T from (top from (branch a s)) (top from (branch a s)) (top from (branch a s)) 0 (top from (branch a s)) (top from (branch a s)) (from + length (walk_below s)) 0 refl refl (top_of a s from) refl (at_top T from (top from (branch a s)) (top from (branch a s)))))
  wayT T from parent (branch a s) (suc k) h p g =
      let me = from + length (walk_below s) in
      let d = wayS T from me parent s k (emb_below T from parent a s h) (lead_top T from parent a s h) p (omega arith) g in
      (d.0, (omega (arith, d.1.0, length-walk a s), move T from me me (from + d.0) (k + 1) (top from (branch a s)) (top from (branch a s)) (from + d.0) (suc k) (sym (top_of a s from)) (sym (top_of a s from)) refl (omega arith) d.1.1))

  wayS : (T : Tree) (from me parent : ℕ) (s : Slots) (k : ℕ) → EmbS T from me s →
      LeadS T from me parent s → AreParts s → from + length (walk_below s) ≤ me →
      SomeChild (GoesDown k) s →
      (i : ℕ) × ((i < length (walk_below s)) × Way T from (from + length (walk_below s)) me (from + i) (k + 1))
  wayS T from me parent no_more k h lead p le g = absurd g
  wayS T from me parent (absent s) k h lead p le g = wayS T from me parent s k h (λ slot. lead (suc slot)) p le g
  wayS T from me parent (unplugged s) k h lead p le g = wayS T from me parent s k h (λ slot. lead (suc slot)) p le g
  wayS T from me parent (up s) k h lead p le g = wayS T from me parent s k h (λ slot. lead (suc slot)) p le g
  wayS T from me parent (down t s) k h lead p le (inl g) =
      let far = length-append (walk t) (walk_below s) in
      let d = wayT T from me t k (emb_first T from me t s h) (part_parts t p.0) g in
      (d.0, (omega (arith, d.1.0, far), lift_child T from me parent t s (from + d.0) k (from + length (walk_below (down t s))) h lead p.0 (omega (arith, far)) le d.1.1))
  wayS T from me parent (down t s) k h lead p le (inr g) =
      let far = length-append (walk t) (walk_below s) in
      let d = wayS T (from + length (walk t)) me parent s k (emb_rest T from me t s h) (λ slot. lead (suc slot)) p.1 (omega (arith, le, far)) g in (
        length (walk t) + d.0,
        (
          omega (arith, d.1.0, far),
          stretch T (from + length (walk t)) (from + length (walk_below (down t s))) from (from + length (walk_below (down t s))) me (from + (length (walk t) + d.0)) (k + 1) (omega arith) (omega arith)
              (move T (from + length (walk t)) (from + length (walk t) + length (walk_below s)) me (from + length (walk t) + d.0) (k + 1) (from + length (walk_below (down t s))) me (from + (length (walk t) + d.0)) (k + 1) (omega (arith, far)) refl (omega arith) refl d.1.1),
        ),
      )

-- ---- between two nodes goes a path of the tree's form

later : (k : ℕ) (t : Tree) (s : Slots) → PathTurns k s ⊎ IsPathBelow k s →
    PathTurns k (down t s) ⊎ IsPathBelow k (down t s)
later k t s (inl h) = inl (inr h)
later k t s (inr h) = inr (inr h)

mutual
  routesT : (T : Tree) (from parent : ℕ) (t : Tree) (i j : ℕ) → Emb T from parent t → Parts t →
      i < length (walk t) → j < length (walk t) →
      (k : ℕ) × (IsPath k t × Route T (from + i) (from + j) k)
  routesT T from parent (branch a s) i j h p lt lt' = elim (cases_lt i (length (walk_below s))) [
    | inr at_i ↦
        let d = downT T from parent (branch a s) j h p lt' in
        let here : top from (branch a s) ≡ from + i = omega (arith, at_i, lt, length-walk a s) in
        (d.0, (inl d.1.0, same_route T (top from (branch a s)) (from + j) d.0 (from + i) (from + j) d.0 here refl refl (down_route T from (top from (branch a s)) (top from (branch a s)) (from + j) d.0 d.1.1)))
    | inl less ↦ elim (cases_lt j (length (walk_below s))) [
      | inr at_j ↦
          let d = downT T from parent (branch a s) i h p lt in
          let here : top from (branch a s) ≡ from + j = omega (arith, at_j, lt', length-walk a s) in
          (d.0, (inl d.1.0, same_route T (from + i) (top from (branch a s)) d.0 (from + i) (from + j) d.0 refl here refl (up_route T from (top from (branch a s)) (top from (branch a s)) (from + i) d.0 d.1.1)))
      | inl less' ↦
          let r = routesS T from (from + length (walk_below s)) parent s i j (emb_below T from parent a s h) (lead_top T from parent a s h) p (omega arith) less less' in
          (r.0, (inr r.1.0, r.1.1))
    ]
  ]

  routesS : (T : Tree) (from me parent : ℕ) (s : Slots) (i j : ℕ) → EmbS T from me s →
      LeadS T from me parent s → AreParts s → from + length (walk_below s) ≤ me →
      i < length (walk_below s) → j < length (walk_below s) →
      (k : ℕ) × ((PathTurns k s ⊎ IsPathBelow k s) × Route T (from + i) (from + j) k)
  routesS T from me parent no_more i j h lead p le lt lt' = absurd (omega (arith, lt))
  routesS T from me parent (absent s) i j h lead p le lt lt' = routesS T from me parent s i j h (λ slot. lead (suc slot)) p le lt lt'
  routesS T from me parent (unplugged s) i j h lead p le lt lt' = routesS T from me parent s i j h (λ slot. lead (suc slot)) p le lt lt'
  routesS T from me parent (up s) i j h lead p le lt lt' = routesS T from me parent s i j h (λ slot. lead (suc slot)) p le lt lt'
  routesS T from me parent (down t s) i j h lead p le lt lt' =
      let far = length-append (walk t) (walk_below s) in
      let n = length (walk t) in
      elim (cases_lt i n) [
        | inl here ↦ elim (cases_lt j n) [
          | inl here' ↦
              let r = routesT T from me t i j (emb_first T from me t s h) (part_parts t p.0) here here' in
              (r.0, (inr (inl r.1.0), r.1.1))
          | inr there' ↦
              let d = downT T from me t i (emb_first T from me t s h) (part_parts t p.0) here in
              let e = downS T (from + n) me parent s (j - n) (emb_rest T from me t s h) (λ slot. lead (suc slot)) p.1 (omega (arith, le, far)) (omega (arith, there', lt', far)) in
              let w = lift_child T from me parent t s (from + i) d.0 (from + n) h lead p.0 (omega arith) (omega (arith, le, far)) d.1.1 in (
                (d.0 + 1) + (e.0 + 1),
                (
                  inl (inl (d.0, e.0, d.1.0, e.1.0, refl)),
                  same_route T (from + i) (from + n + (j - n)) ((d.0 + 1) + (e.0 + 1)) (from + i) (from + j) ((d.0 + 1) + (e.0 + 1)) refl (omega (arith, there')) refl
                      (turn T from (from + n) (from + n) (from + n + length (walk_below s)) me (from + i) (from + n + (j - n)) (d.0 + 1) (e.0 + 1) (inl (omega arith)) (omega (arith, le, far)) w e.1.1),
                ),
              )
        ]
        | inr there ↦ elim (cases_lt j n) [
          | inl here' ↦
              let d = downT T from me t j (emb_first T from me t s h) (part_parts t p.0) here' in
              let e = downS T (from + n) me parent s (i - n) (emb_rest T from me t s h) (λ slot. lead (suc slot)) p.1 (omega (arith, le, far)) (omega (arith, there, lt, far)) in
              let w = lift_child T from me parent t s (from + j) d.0 (from + n) h lead p.0 (omega arith) (omega (arith, le, far)) d.1.1 in (
                (d.0 + 1) + (e.0 + 1),
                (
                  inl (inl (d.0, e.0, d.1.0, e.1.0, refl)),
                  same_route T (from + n + (i - n)) (from + j) ((e.0 + 1) + (d.0 + 1)) (from + i) (from + j) ((d.0 + 1) + (e.0 + 1)) (omega (arith, there)) refl (omega arith)
                      (turn T (from + n) (from + n + length (walk_below s)) from (from + n) me (from + n + (i - n)) (from + j) (e.0 + 1) (d.0 + 1) (inr (omega arith)) (omega (arith, le, far)) e.1.1 w),
                ),
              )
          | inr there' ↦
              let r = routesS T (from + n) me parent s (i - n) (j - n) (emb_rest T from me t s h) (λ slot. lead (suc slot)) p.1 (omega (arith, le, far)) (omega (arith, there, lt, far)) (omega (arith, there', lt', far)) in
              (r.0, (later r.0 t s r.1.0, same_route T (from + n + (i - n)) (from + n + (j - n)) r.0 (from + i) (from + j) r.0 (omega (arith, there)) (omega (arith, there')) refl r.1.1))
        ]
      ]

-- ---- a path of the tree's form goes between two nodes

record Found (T : Tree) (from n k : ℕ) : Type 0 where
  i : ℕ
  j : ℕ
  there : i < n
  route : Route T (from + i) (from + j) k

shift : (T : Tree) (from m n k : ℕ) → Found T (from + m) n k → Found T from (m + n) k
shift T from m n k f = record {
  i = m + f.i;
  j = m + f.j;
  there = omega (arith, f.there);
  route = same_route T (from + m + f.i) (from + m + f.j) k (from + (m + f.i)) (from + (m + f.j)) k (omega arith) (omega arith) refl f.route;
}

longer : (T : Tree) (from m n k : ℕ) → m ≤ n → Found T from m k → Found T from n k
longer T from m n k le f = record { i = f.i; j = f.j; there = omega (arith, le, f.there); route = f.route }

turnS : (T : Tree) (from me parent : ℕ) (s : Slots) (k : ℕ) → EmbS T from me s →
    LeadS T from me parent s → AreParts s → from + length (walk_below s) ≤ me → PathTurns k s →
    Found T from (length (walk_below s)) k
turnS T from me parent no_more k h lead p le g = absurd g
turnS T from me parent (absent s) k h lead p le g = turnS T from me parent s k h (λ slot. lead (suc slot)) p le g
turnS T from me parent (unplugged s) k h lead p le g = turnS T from me parent s k h (λ slot. lead (suc slot)) p le g
turnS T from me parent (up s) k h lead p le g = turnS T from me parent s k h (λ slot. lead (suc slot)) p le g
turnS T from me parent (down t s) k h lead p le (inl g) =
    let far = length-append (walk t) (walk_below s) in
    let n = length (walk t) in
    let d = wayT T from me t g.0 (emb_first T from me t s h) (part_parts t p.0) g.2 in
    let e = wayS T (from + n) me parent s g.1 (emb_rest T from me t s h) (λ slot. lead (suc slot)) p.1 (omega (arith, le, far)) g.3 in
    let w = lift_child T from me parent t s (from + d.0) g.0 (from + n) h lead p.0 (omega arith) (omega (arith, le, far)) d.1.1 in
    record {
      i = d.0;
      j = n + e.0;
      there = omega (arith, d.1.0, far);
      route = same_route T (from + d.0) (from + n + e.0) ((g.0 + 1) + (g.1 + 1)) (from + d.0) (from + (n + e.0)) k refl (omega arith) (sym g.4)
          (turn T from (from + n) (from + n) (from + n + length (walk_below s)) me (from + d.0) (from + n + e.0) (g.0 + 1) (g.1 + 1) (inl (omega arith)) (omega (arith, le, far)) w e.1.1);
    }
turnS T from me parent (down t s) k h lead p le (inr g) =
    let far = length-append (walk t) (walk_below s) in
    longer T from (length (walk t) + length (walk_below s)) (length (walk_below (down t s))) k (omega (arith, far))
    (shift T from (length (walk t)) (length (walk_below s)) k
    (turnS T (from + length (walk t)) me parent s k (emb_rest T from me t s h) (λ slot. lead (suc slot)) p.1 (omega (arith, le, far)) g))

mutual
  routeT : (T : Tree) (from parent : ℕ) (t : Tree) (k : ℕ) → Emb T from parent t → Parts t →
      IsPath k t → Found T from (length (walk t)) k
  routeT T from parent (branch a s) k h p (inl g) =
      let d = wayT T from parent (branch a s) k h p g in
      record {
        i = length (walk_below s);
        j = d.0;
        there = omega (arith, length-walk a s);
        route = same_route T (top from (branch a s)) (from + d.0) k (from + length (walk_below s)) (from + d.0) k (top_of a s from) refl refl (down_route T from (top from (branch a s)) (top from (branch a s)) (from + d.0) k d.1.1);
      }
  routeT T from parent (branch a s) k h p (inr (inl g)) =
      longer T from (length (walk_below s)) (length (walk (branch a s))) k (omega (arith, length-walk a s))
      (turnS T from (from + length (walk_below s)) parent s k (emb_below T from parent a s h) (lead_top T from parent a s h) p (omega arith) g)
  routeT T from parent (branch a s) k h p (inr (inr g)) =
      longer T from (length (walk_below s)) (length (walk (branch a s))) k (omega (arith, length-walk a s))
      (routeB T from (from + length (walk_below s)) s k (emb_below T from parent a s h) p g)

  routeB : (T : Tree) (from me : ℕ) (s : Slots) (k : ℕ) → EmbS T from me s → AreParts s →
      IsPathBelow k s → Found T from (length (walk_below s)) k
  routeB T from me no_more k h p g = absurd g
  routeB T from me (absent s) k h p g = routeB T from me s k h p g
  routeB T from me (unplugged s) k h p g = routeB T from me s k h p g
  routeB T from me (up s) k h p g = routeB T from me s k h p g
  routeB T from me (down t s) k h p (inl g) =
      longer T from (length (walk t)) (length (walk_below (down t s))) k (omega (arith, length-append (walk t) (walk_below s)))
      (routeT T from me t k (emb_first T from me t s h) (part_parts t p.0) g)
  routeB T from me (down t s) k h p (inr g) =
      longer T from (length (walk t) + length (walk_below s)) (length (walk_below (down t s))) k (omega (arith, length-append (walk t) (walk_below s)))
      (shift T from (length (walk t)) (length (walk_below s)) k (routeB T (from + length (walk t)) me s k (emb_rest T from me t s h) p.1 g))

-- ---- the whole tree

whole_parts : (t : Tree) → IsWhole t → Parts t
whole_parts (branch a s) w = w.2

all_of : (t : Tree) → Emb t 0 63 t
all_of t i e h = let at : i ≡ 0 + i = omega arith in ap (λ n. slice_get (ends t) n) (sym at) ∙ h

end_within : (t : Tree) (a b : ℕ) (ids : List ℕ) → IsBusTree t → a < length (walk t) →
    IsNodePath t a b ids → b < length (walk t)
end_within t a b [] bus lt h = omega (arith, lt, h)
end_within t a b (x ∷ ids) bus lt h = end_within t x b ids bus (joined_within t a h.0.slot x bus lt h.0.far).0 h.2

pub hops_of_paths : HopsAreOfNodePaths
hops_of_paths t hops bus is =
    let f = routeT t 0 63 t hops (all_of t) (whole_parts t bus.whole) is.path in
    record {
      from = 0 + f.i;
      to = 0 + f.j;
      ids = f.route.ids;
      there = omega (arith, f.there);
      path = f.route.path;
      long = f.route.long;
      longest = λ a b others lt path.
          let r = routesT t 0 63 t a b (all_of t) (whole_parts t bus.whole) lt (end_within t a b others bus lt path) in
          let route = same_route t (0 + a) (0 + b) r.0 a b r.0 (omega arith) (omega arith) refl r.1.1 in
          let same : others ≡ route.ids = one_path t a b others route.ids bus lt path route.path in
          omega (arith, ap length same, route.long, is.longest r.0 r.1.0);
    }
