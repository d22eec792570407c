-- A tree node by node: each with its place in the walk, the ends of its slots, and the first ID of its
-- subtree. The IDs of a subtree run from that one to the node's own.
use Rattle.std.proofs.Common.{◌≡◌, ℕ, ◌+◌, ◌-◌, ◌<◌, ◌≤◌, List, [], ◌∷◌, ◌++◌, length, Option, Some, refl, sym, ap, ◌∙◌, inl, inr, ⊎_elim, ◌⊎◌, arith, length-append}
use Rattle.std.specs.Prelude.{slice_get}
use Rattle.std.proofs.lemmas.Bool.{cases_lt}
use Rattle.self_id.specs.Node.{Node}
use Rattle.topology_stack.specs.Tree.{Tree, branch, Slots, no_more, absent, unplugged, up, down, walk, walk_below, node_of}
use Rattle.topology_stack.specs.Far.{slot_ends, ends_from, ends_below}
use Rattle.speed_map.specs.codings.Sweep.{firsts_from, firsts_below}
use Rattle.quad_lanes.proofs.Lemmas.{slice_get-left, slice_get-right}
use Rattle.topology_stack.proofs.Lemmas.{length-slot_ends, length-walk}

abbrev pub Ends : Type 0
Ends = List (Option ℕ)

-- the node at place i of a tree's walk; the IDs begin at `from`
abbrev mutual
  pub NodeT : ℕ → ℕ → Tree → ℕ → Ends → ℕ → Type 0
  NodeT from parent (branch a s) i e f = ((i ≡ length (walk_below s)) × (e ≡ slot_ends from parent s) × (f ≡ from)) ⊎ NodeS from (from + length (walk_below s)) s i e f

  pub NodeS : ℕ → ℕ → Slots → ℕ → Ends → ℕ → Type 0
  NodeS from me no_more i e f = ⊥
  NodeS from me (absent s) i e f = NodeS from me s i e f
  NodeS from me (unplugged s) i e f = NodeS from me s i e f
  NodeS from me (up s) i e f = NodeS from me s i e f
  NodeS from me (down t s) i e f = NodeT from me t i e f ⊎ ((j : ℕ) × (i ≡ length (walk t) + j) × NodeS (from + length (walk t)) me s j e f)

-- ---- the last of a list

pub last : {X : Type 0} (xs : List X) (x : X) (i : ℕ) → i ≡ length xs →
    slice_get (xs ++ x ∷ []) i ≡ Some x
last xs x i e = let at : i ≡ length xs + 0 = omega (arith, e) in ap (slice_get (xs ++ x ∷ [])) at ∙ slice_get-right xs (x ∷ []) (length xs) 0 refl

-- ---- where a node stands

pub record Within (from n i f : ℕ) : Type 0 where
  pub place : i < n
  pub low : from ≤ f
  pub high : f ≤ from + i

mutual
  pub withinT : (from parent : ℕ) (t : Tree) (i : ℕ) (e : Ends) (f : ℕ) →
      NodeT from parent t i e f → Within from (length (walk t)) i f
  withinT from parent (branch a s) i e f h = ⊎_elim
      (λ (top : (i ≡ length (walk_below s)) × (e ≡ slot_ends from parent s) × (f ≡ from)). record { place = omega (arith, length-walk a s, top.0); low = omega (arith, top.2); high = omega (arith, top.2) })
      (λ (below : NodeS from (from + length (walk_below s)) s i e f). let w = withinS from (from + length (walk_below s)) s i e f below in record { place = omega (arith, length-walk a s, w.place); low = w.low; high = w.high })
      h

  pub withinS : (from me : ℕ) (s : Slots) (i : ℕ) (e : Ends) (f : ℕ) → NodeS from me s i e f →
      Within from (length (walk_below s)) i f
  withinS from me no_more i e f h = absurd h
  withinS from me (absent s) i e f h = withinS from me s i e f h
  withinS from me (unplugged s) i e f h = withinS from me s i e f h
  withinS from me (up s) i e f h = withinS from me s i e f h
  withinS from me (down t s) i e f h = ⊎_elim
      (λ (here : NodeT from me t i e f). let w = withinT from me t i e f here in record { place = omega (arith, length-append (walk t) (walk_below s), w.place); low = w.low; high = w.high })
      (λ (there : (j : ℕ) × (i ≡ length (walk t) + j) × NodeS (from + length (walk t)) me s j e f).
      let w = withinS (from + length (walk t)) me s there.0 e f there.2 in
      record { place = omega (arith, length-append (walk t) (walk_below s), w.place, there.1); low = omega (arith, w.low); high = omega (arith, w.high, there.1) })
      h

-- ---- the lists tell each node

mutual
  pub length-ends_from : (from parent : ℕ) (t : Tree) →
      length (ends_from from parent t) ≡ length (walk t)
  length-ends_from from parent (branch a s) =
      length-append (ends_below from (from + length (walk_below s)) s) (slot_ends from parent s ∷ []) ∙ (omega (arith, length-ends_below from (from + length (walk_below s)) s, length-walk a s))

  pub length-ends_below : (from me : ℕ) (s : Slots) →
      length (ends_below from me s) ≡ length (walk_below s)
  length-ends_below from me no_more = refl
  length-ends_below from me (absent s) = length-ends_below from me s
  length-ends_below from me (unplugged s) = length-ends_below from me s
  length-ends_below from me (up s) = length-ends_below from me s
  length-ends_below from me (down t s) =
      length-append (ends_from from me t) (ends_below (from + length (walk t)) me s)
      ∙ (omega (arith, length-ends_from from me t, length-ends_below (from + length (walk t)) me s, length-append (walk t) (walk_below s)))

mutual
  pub length-firsts_from : (from : ℕ) (t : Tree) → length (firsts_from from t) ≡ length (walk t)
  length-firsts_from from (branch a s) = length-append (firsts_below from s) (from ∷ []) ∙ (omega (arith, length-firsts_below from s, length-walk a s))

  pub length-firsts_below : (from : ℕ) (s : Slots) →
      length (firsts_below from s) ≡ length (walk_below s)
  length-firsts_below from no_more = refl
  length-firsts_below from (absent s) = length-firsts_below from s
  length-firsts_below from (unplugged s) = length-firsts_below from s
  length-firsts_below from (up s) = length-firsts_below from s
  length-firsts_below from (down t s) =
      length-append (firsts_from from t) (firsts_below (from + length (walk t)) s)
      ∙ (omega (arith, length-firsts_from from t, length-firsts_below (from + length (walk t)) s, length-append (walk t) (walk_below s)))

pub record Told (ns : List Node) (es : List Ends) (fs : List ℕ) (i : ℕ) (e : Ends) (f : ℕ) : Type 0 where
  pub node : Node
  pub node_is : slice_get ns i ≡ Some node
  pub slots : length e ≡ length node.ports
  pub ends_are : slice_get es i ≡ Some e
  pub first_is : slice_get fs i ≡ Some f

mutual
  pub toldT : (from parent : ℕ) (t : Tree) (i : ℕ) (e : Ends) (f : ℕ) → NodeT from parent t i e f →
      Told (walk t) (ends_from from parent t) (firsts_from from t) i e f
  toldT from parent (branch a s) i e f h = ⊎_elim
      (λ (top : (i ≡ length (walk_below s)) × (e ≡ slot_ends from parent s) × (f ≡ from)). record {
        node = node_of a s;
        node_is = last (walk_below s) (node_of a s) i top.0;
        slots = ap length top.1 ∙ length-slot_ends from parent s;
        ends_are = last (ends_below from (from + length (walk_below s)) s) (slot_ends from parent s) i (top.0 ∙ sym (length-ends_below from (from + length (walk_below s)) s)) ∙ ap (λ (x : Ends). Some x) (sym top.1);
        first_is = last (firsts_below from s) from i (top.0 ∙ sym (length-firsts_below from s)) ∙ ap (λ (x : ℕ). Some x) (sym top.2);
      })
      (λ (below : NodeS from (from + length (walk_below s)) s i e f).
      let w = toldS from (from + length (walk_below s)) s i e f below in
      record {
        node = w.node;
        node_is = slice_get-left (walk_below s) (node_of a s ∷ []) i w.node w.node_is;
        slots = w.slots;
        ends_are = slice_get-left (ends_below from (from + length (walk_below s)) s) (slot_ends from parent s ∷ []) i e w.ends_are;
        first_is = slice_get-left (firsts_below from s) (from ∷ []) i f w.first_is;
      })
      h

  pub toldS : (from me : ℕ) (s : Slots) (i : ℕ) (e : Ends) (f : ℕ) → NodeS from me s i e f →
      Told (walk_below s) (ends_below from me s) (firsts_below from s) i e f
  toldS from me no_more i e f h = absurd h
  toldS from me (absent s) i e f h = toldS from me s i e f h
  toldS from me (unplugged s) i e f h = toldS from me s i e f h
  toldS from me (up s) i e f h = toldS from me s i e f h
  toldS from me (down t s) i e f h = ⊎_elim
      (λ (here : NodeT from me t i e f).
      let w = toldT from me t i e f here in
      record {
        node = w.node;
        node_is = slice_get-left (walk t) (walk_below s) i w.node w.node_is;
        slots = w.slots;
        ends_are = slice_get-left (ends_from from me t) (ends_below (from + length (walk t)) me s) i e w.ends_are;
        first_is = slice_get-left (firsts_from from t) (firsts_below (from + length (walk t)) s) i f w.first_is;
      })
      (λ (there : (j : ℕ) × (i ≡ length (walk t) + j) × NodeS (from + length (walk t)) me s j e f).
      let w = toldS (from + length (walk t)) me s there.0 e f there.2 in
      record {
        node = w.node;
        node_is = ap (slice_get (walk t ++ walk_below s)) there.1 ∙ slice_get-right (walk t) (walk_below s) (length (walk t)) there.0 refl ∙ w.node_is;
        slots = w.slots;
        ends_are = ap (slice_get (ends_from from me t ++ ends_below (from + length (walk t)) me s)) there.1
            ∙ slice_get-right (ends_from from me t) (ends_below (from + length (walk t)) me s) (length (walk t)) there.0 (length-ends_from from me t) ∙ w.ends_are;
        first_is = ap (slice_get (firsts_from from t ++ firsts_below (from + length (walk t)) s)) there.1
            ∙ slice_get-right (firsts_from from t) (firsts_below (from + length (walk t)) s) (length (walk t)) there.0 (length-firsts_from from t) ∙ w.first_is;
      })
      h

-- each place has a node
mutual
  pub nodeT : (from parent : ℕ) (t : Tree) (i : ℕ) → i < length (walk t) →
      (e : Ends) × (f : ℕ) × NodeT from parent t i e f
  nodeT from parent (branch a s) i lt = ⊎_elim
      (λ (below : i < length (walk_below s)). let h = nodeS from (from + length (walk_below s)) s i below in (h.0, h.1, inr h.2))
      (λ (above : length (walk_below s) ≤ i). (slot_ends from parent s, from, inl (omega (arith, above, lt, length-walk a s), refl, refl)))
      (cases_lt i (length (walk_below s)))

  pub nodeS : (from me : ℕ) (s : Slots) (i : ℕ) → i < length (walk_below s) →
      (e : Ends) × (f : ℕ) × NodeS from me s i e f
  nodeS from me no_more i lt = absurd (omega (arith, lt))
  nodeS from me (absent s) i lt = nodeS from me s i lt
  nodeS from me (unplugged s) i lt = nodeS from me s i lt
  nodeS from me (up s) i lt = nodeS from me s i lt
  nodeS from me (down t s) i lt = ⊎_elim
      (λ (here : i < length (walk t)). let h = nodeT from me t i here in (h.0, h.1, inl h.2))
      (λ (there : length (walk t) ≤ i).
      let h = nodeS (from + length (walk t)) me s (i - length (walk t)) (omega (arith, there, lt, length-append (walk t) (walk_below s))) in
      (h.0, h.1, inr (i - length (walk t), omega (arith, there), h.2)))
      (cases_lt i (length (walk t)))
