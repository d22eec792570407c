-- What the slots of a node lead to: down to a child, whose subtree lies within the node's, or up to the
-- parent, within whose subtree the node's lies.
use Rattle.std.proofs.Common.{◌≡◌, ℕ, zero, suc, ◌+◌, ◌-◌, ◌<◌, ◌≤◌, length, Some, refl, sym, ap, ◌∙◌, inl, inr, ⊎_elim, ◌⊎◌, arith, length-append}
use Rattle.std.specs.Prelude.{slice_get}
use Rattle.std.proofs.lemmas.Bool.{cases_lt}
use Rattle.self_id.specs.Node.{ups}
use Rattle.topology_stack.specs.Tree.{Tree, branch, Slots, no_more, absent, unplugged, up, down, statuses, walk, walk_below, IsPart, AreParts}
use Rattle.topology_stack.specs.Far.{slot_ends}
use Rattle.speed_map.proofs.Nodes.{Ends, NodeT, NodeS, withinT, withinS}
use Rattle.topology_stack.proofs.Lemmas.{length-walk, some_node}

-- the outermost node of a tree
pub lastT : (from parent : ℕ) (t : Tree) →
    (e : Ends) × NodeT from parent t (length (walk t) - 1) e from
lastT from parent (branch a s) = (slot_ends from parent s, inl (omega (arith, length-walk a s), refl, refl))

-- ---- the other end of a slot

-- a node below
pub record Child (from me : ℕ) (s : Slots) (k : ℕ) : Type 0 where
  pub j : ℕ
  pub e : Ends
  pub f : ℕ
  pub node : NodeS from me s j e f
  pub is : k ≡ from + j

pub end_of : (from me parent : ℕ) (s : Slots) (slot k : ℕ) →
    slice_get (slot_ends from parent s) slot ≡ Some (Some k) → (k ≡ parent) ⊎ Child from me s k
end_of from me parent no_more slot k h = absurd cc
end_of from me parent (absent s) zero k h = absurd cc
end_of from me parent (absent s) (suc slot) k h = ⊎_elim (λ (p : k ≡ parent). inl p) (λ (c : Child from me s k). inr (record { j = c.j; e = c.e; f = c.f; node = c.node; is = c.is })) (end_of from me parent s slot k h)
end_of from me parent (unplugged s) zero k h = absurd cc
end_of from me parent (unplugged s) (suc slot) k h = ⊎_elim (λ (p : k ≡ parent). inl p) (λ (c : Child from me s k). inr (record { j = c.j; e = c.e; f = c.f; node = c.node; is = c.is })) (end_of from me parent s slot k h)
end_of from me parent (up s) zero k h = inl cc
end_of from me parent (up s) (suc slot) k h = ⊎_elim (λ (p : k ≡ parent). inl p) (λ (c : Child from me s k). inr (record { j = c.j; e = c.e; f = c.f; node = c.node; is = c.is })) (end_of from me parent s slot k h)
end_of from me parent (down t s) zero k h =
    let top = lastT from me t in
    let same : k ≡ from + length (walk t) - 1 = cc in
    inr (record { j = length (walk t) - 1; e = top.0; f = from; node = inl top.1; is = omega (arith, same, some_node t) })
end_of from me parent (down t s) (suc slot) k h = ⊎_elim
    (λ (p : k ≡ parent). inl p)
    (λ (c : Child (from + length (walk t)) me s k). inr (record { j = length (walk t) + c.j; e = c.e; f = c.f; node = inr (c.j, refl, c.node); is = omega (arith, c.is) }))
    (end_of (from + length (walk t)) me parent s slot k h)

pub data Kin (from parent : ℕ) (t : Tree) (i f k : ℕ) : Type 0 where
  child : (j : ℕ) (e : Ends) (g : ℕ) → NodeT from parent t j e g → k ≡ from + j → j < i → f ≤ g →
      Kin from parent t i f k
  outer : i + 1 ≡ length (walk t) → k ≡ parent → Kin from parent t i f k
  above : (j : ℕ) (e : Ends) (g : ℕ) → NodeT from parent t j e g → k ≡ from + j → i < j → g ≤ f →
      (back : ℕ) × (slice_get e back ≡ Some (Some (from + i))) → Kin from parent t i f k

data KinS (from me : ℕ) (s : Slots) (i f k : ℕ) : Type 0 where
  child_s : (j : ℕ) (e : Ends) (g : ℕ) → NodeS from me s j e g → k ≡ from + j → j < i → f ≤ g →
      KinS from me s i f k
  outer_s : k ≡ me →
      ((p : ℕ) → (back : ℕ) × (slice_get (slot_ends from p s) back ≡ Some (Some (from + i)))) →
      KinS from me s i f k
  above_s : (j : ℕ) (e : Ends) (g : ℕ) → NodeS from me s j e g → k ≡ from + j → i < j → g ≤ f →
      (back : ℕ) × (slice_get e back ≡ Some (Some (from + i))) → KinS from me s i f k

mutual
  pub kinT : (from parent : ℕ) (t : Tree) (i : ℕ) (e : Ends) (f slot k : ℕ) →
      NodeT from parent t i e f → slice_get e slot ≡ Some (Some k) → Kin from parent t i f k
  kinT from parent (branch a s) i e f slot k h far =
      let me = from + length (walk_below s) in
      ⊎_elim
      (λ (top : (i ≡ length (walk_below s)) × (e ≡ slot_ends from parent s) × (f ≡ from)).
      let far' : slice_get (slot_ends from parent s) slot ≡ Some (Some k) = ap (λ (x : Ends). slice_get x slot) (sym top.1) ∙ far in
      ⊎_elim
      (λ (p : k ≡ parent). outer (omega (arith, top.0, length-walk a s)) p)
      (λ (c : Child from me s k). let w = withinS from me s c.j c.e c.f c.node in child c.j c.e c.f (inr c.node) c.is (omega (arith, top.0, w.place)) (omega (arith, top.2, w.low)))
      (end_of from me parent s slot k far'))
      (λ (below : NodeS from me s i e f).
      let w = withinS from me s i e f below in
      elim (kinS from me s i e f slot k below far) [
        | child_s j e' g n is lt le ↦ child j e' g (inr n) is lt le
        | outer_s is back ↦ above (length (walk_below s)) (slot_ends from parent s) from (inl (refl, refl, refl)) is w.place w.low (back parent)
        | above_s j e' g n is lt le back ↦ above j e' g (inr n) is lt le back
      ])
      h

  kinS : (from me : ℕ) (s : Slots) (i : ℕ) (e : Ends) (f slot k : ℕ) → NodeS from me s i e f →
      slice_get e slot ≡ Some (Some k) → KinS from me s i f k
  kinS from me no_more i e f slot k h far = absurd h
  kinS from me (absent s) i e f slot k h far = elim (kinS from me s i e f slot k h far) [
    | child_s j e' g n is lt le ↦ child_s j e' g n is lt le
    | outer_s is back ↦ outer_s is (λ (p : ℕ). let r = back p in (suc r.0, r.1))
    | above_s j e' g n is lt le back ↦ above_s j e' g n is lt le back
  ]
  kinS from me (unplugged s) i e f slot k h far = elim (kinS from me s i e f slot k h far) [
    | child_s j e' g n is lt le ↦ child_s j e' g n is lt le
    | outer_s is back ↦ outer_s is (λ (p : ℕ). let r = back p in (suc r.0, r.1))
    | above_s j e' g n is lt le back ↦ above_s j e' g n is lt le back
  ]
  kinS from me (up s) i e f slot k h far = elim (kinS from me s i e f slot k h far) [
    | child_s j e' g n is lt le ↦ child_s j e' g n is lt le
    | outer_s is back ↦ outer_s is (λ (p : ℕ). let r = back p in (suc r.0, r.1))
    | above_s j e' g n is lt le back ↦ above_s j e' g n is lt le back
  ]
  kinS from me (down t s) i e f slot k h far = ⊎_elim
      (λ (here : NodeT from me t i e f). elim (kinT from me t i e f slot k here far) [
        | child j e' g n is lt le ↦ child_s j e' g (inl n) is lt le
        | outer at is ↦ outer_s is (λ (p : ℕ). (0, ap (λ (x : ℕ). Some (Some x)) (omega (arith, at))))
        | above j e' g n is lt le back ↦ above_s j e' g (inl n) is lt le back
      ])
      (λ (there : (j : ℕ) × (i ≡ length (walk t) + j) × NodeS (from + length (walk t)) me s j e f).
      let before = there.1 in
      let at : from + length (walk t) + there.0 ≡ from + i = omega (arith, before) in
      elim (kinS (from + length (walk t)) me s there.0 e f slot k there.2 far) [
        | child_s j e' g n is lt le ↦ child_s (length (walk t) + j) e' g (inr (j, refl, n)) (omega (arith, is)) (omega (arith, lt, before)) le
        | outer_s is back ↦ outer_s is (λ (p : ℕ). let r = back p in (suc r.0, r.1 ∙ ap (λ (x : ℕ). Some (Some x)) at))
        | above_s j e' g n is lt le back ↦ above_s (length (walk t) + j) e' g (inr (j, refl, n)) (omega (arith, is)) (omega (arith, lt, before)) le (back.0, back.1 ∙ ap (λ (x : ℕ). Some (Some x)) at)
      ])
      h

-- ---- each node of a subtree but its own is in a child's subtree

record CoverS (from me : ℕ) (s : Slots) (e : Ends) (m : ℕ) : Type 0 where
  slot : ℕ
  j : ℕ
  of_child : Ends
  first : ℕ
  far : slice_get e slot ≡ Some (Some (from + j))
  node : NodeS from me s j of_child first
  low : first ≤ from + m
  high : m ≤ j

pub record CoverT (from parent : ℕ) (t : Tree) (i : ℕ) (e : Ends) (m : ℕ) : Type 0 where
  pub slot : ℕ
  pub j : ℕ
  pub of_child : Ends
  pub first : ℕ
  pub far : slice_get e slot ≡ Some (Some (from + j))
  pub node : NodeT from parent t j of_child first
  pub low : first ≤ from + m
  pub high : m ≤ j
  pub before : j < i

-- of the node whose slots these are
cover_top : (from me parent : ℕ) (s : Slots) (m : ℕ) → m < length (walk_below s) →
    CoverS from me s (slot_ends from parent s) m
cover_top from me parent no_more m lt = absurd (omega (arith, lt))
cover_top from me parent (absent s) m lt =
    let c = cover_top from me parent s m lt in
    record { slot = suc c.slot; j = c.j; of_child = c.of_child; first = c.first; far = c.far; node = c.node; low = c.low; high = c.high }
cover_top from me parent (unplugged s) m lt =
    let c = cover_top from me parent s m lt in
    record { slot = suc c.slot; j = c.j; of_child = c.of_child; first = c.first; far = c.far; node = c.node; low = c.low; high = c.high }
cover_top from me parent (up s) m lt =
    let c = cover_top from me parent s m lt in
    record { slot = suc c.slot; j = c.j; of_child = c.of_child; first = c.first; far = c.far; node = c.node; low = c.low; high = c.high }
cover_top from me parent (down t s) m lt = ⊎_elim
    (λ (here : m < length (walk t)).
    let top = lastT from me t in
    let at : from + length (walk t) - 1 ≡ from + (length (walk t) - 1) = omega (arith, some_node t) in
    record { slot = 0; j = length (walk t) - 1; of_child = top.0; first = from; far = ap (λ (k : ℕ). Some (Some k)) at; node = inl top.1; low = omega arith; high = omega (arith, here) })
    (λ (there : length (walk t) ≤ m).
    let c = cover_top (from + length (walk t)) me parent s (m - length (walk t)) (omega (arith, there, lt, length-append (walk t) (walk_below s))) in
    let at : from + length (walk t) + c.j ≡ from + (length (walk t) + c.j) = omega arith in
    record { slot = suc c.slot; j = length (walk t) + c.j; of_child = c.of_child; first = c.first; far = c.far ∙ ap (λ (k : ℕ). Some (Some k)) at; node = inr (c.j, refl, c.node); low = omega (arith, c.low, there); high = omega (arith, c.high) })
    (cases_lt m (length (walk t)))

mutual
  pub coverT : (from parent : ℕ) (t : Tree) (i : ℕ) (e : Ends) (f m : ℕ) →
      NodeT from parent t i e f → f ≤ from + m → m < i → CoverT from parent t i e m
  coverT from parent (branch a s) i e f m h le lt =
      let me = from + length (walk_below s) in
      ⊎_elim
      (λ (top : (i ≡ length (walk_below s)) × (e ≡ slot_ends from parent s) × (f ≡ from)).
      let c = cover_top from me parent s m (omega (arith, lt, top.0)) in
      let w = withinS from me s c.j c.of_child c.first c.node in
      record { slot = c.slot; j = c.j; of_child = c.of_child; first = c.first; far = ap (λ (x : Ends). slice_get x c.slot) top.1 ∙ c.far; node = inr c.node; low = c.low; high = c.high; before = omega (arith, top.0, w.place) })
      (λ (below : NodeS from me s i e f).
      let c = coverS from me s i e f m below le lt in
      record { slot = c.0.slot; j = c.0.j; of_child = c.0.of_child; first = c.0.first; far = c.0.far; node = inr c.0.node; low = c.0.low; high = c.0.high; before = c.1 })
      h

  coverS : (from me : ℕ) (s : Slots) (i : ℕ) (e : Ends) (f m : ℕ) → NodeS from me s i e f →
      f ≤ from + m → m < i → (c : CoverS from me s e m) × (c.j < i)
  coverS from me no_more i e f m h le lt = absurd h
  coverS from me (absent s) i e f m h le lt =
      let c = coverS from me s i e f m h le lt in
      (record { slot = c.0.slot; j = c.0.j; of_child = c.0.of_child; first = c.0.first; far = c.0.far; node = c.0.node; low = c.0.low; high = c.0.high }, c.1)
  coverS from me (unplugged s) i e f m h le lt =
      let c = coverS from me s i e f m h le lt in
      (record { slot = c.0.slot; j = c.0.j; of_child = c.0.of_child; first = c.0.first; far = c.0.far; node = c.0.node; low = c.0.low; high = c.0.high }, c.1)
  coverS from me (up s) i e f m h le lt =
      let c = coverS from me s i e f m h le lt in
      (record { slot = c.0.slot; j = c.0.j; of_child = c.0.of_child; first = c.0.first; far = c.0.far; node = c.0.node; low = c.0.low; high = c.0.high }, c.1)
  coverS from me (down t s) i e f m h le lt = ⊎_elim
      (λ (here : NodeT from me t i e f).
      let c = coverT from me t i e f m here le lt in
      (record { slot = c.slot; j = c.j; of_child = c.of_child; first = c.first; far = c.far; node = inl c.node; low = c.low; high = c.high }, c.before))
      (λ (there : (j : ℕ) × (i ≡ length (walk t) + j) × NodeS (from + length (walk t)) me s j e f).
      let w = withinS (from + length (walk t)) me s there.0 e f there.2 in
      let past : length (walk t) ≤ m = omega (arith, w.low, le) in
      let c = coverS (from + length (walk t)) me s there.0 e f (m - length (walk t)) there.2 (omega (arith, le, past)) (omega (arith, lt, past, there.1)) in
      let at : from + length (walk t) + c.0.j ≡ from + (length (walk t) + c.0.j) = omega arith in (
        record { slot = c.0.slot; j = length (walk t) + c.0.j; of_child = c.0.of_child; first = c.0.first; far = c.0.far ∙ ap (λ (k : ℕ). Some (Some k)) at; node = inr (c.0.j, refl, c.0.node); low = omega (arith, c.0.low, past); high = omega (arith, c.0.high) },
        omega (arith, c.1, there.1),
      ))
      h

-- ---- subtrees are nested

mutual
  pub nestedT : (from parent : ℕ) (t : Tree) (i : ℕ) (e : Ends) (f j : ℕ) (e' : Ends) (g : ℕ) →
      NodeT from parent t i e f → NodeT from parent t j e' g → f ≤ from + j → j ≤ i → f ≤ g
  nestedT from parent (branch a s) i e f j e' g h k le before =
      let me = from + length (walk_below s) in
      let w = withinT from parent (branch a s) j e' g k in
      ⊎_elim
      (λ (top : (i ≡ length (walk_below s)) × (e ≡ slot_ends from parent s) × (f ≡ from)). omega (arith, top.2, w.low))
      (λ (below : NodeS from me s i e f).
      let v = withinS from me s i e f below in
      ⊎_elim
      (λ (top' : (j ≡ length (walk_below s)) × (e' ≡ slot_ends from parent s) × (g ≡ from)). absurd (omega (arith, top'.0, v.place, before)))
      (λ (below' : NodeS from me s j e' g). nestedS from me s i e f j e' g below below' le before)
      k)
      h

  nestedS : (from me : ℕ) (s : Slots) (i : ℕ) (e : Ends) (f j : ℕ) (e' : Ends) (g : ℕ) →
      NodeS from me s i e f → NodeS from me s j e' g → f ≤ from + j → j ≤ i → f ≤ g
  nestedS from me no_more i e f j e' g h k le before = absurd h
  nestedS from me (absent s) i e f j e' g h k le before = nestedS from me s i e f j e' g h k le before
  nestedS from me (unplugged s) i e f j e' g h k le before = nestedS from me s i e f j e' g h k le before
  nestedS from me (up s) i e f j e' g h k le before = nestedS from me s i e f j e' g h k le before
  nestedS from me (down t s) i e f j e' g h k le before = ⊎_elim
      (λ (here : NodeT from me t i e f).
      let v = withinT from me t i e f here in
      ⊎_elim
      (λ (here' : NodeT from me t j e' g). nestedT from me t i e f j e' g here here' le before)
      (λ (there' : (l : ℕ) × (j ≡ length (walk t) + l) × NodeS (from + length (walk t)) me s l e' g). absurd (omega (arith, v.place, there'.1, before)))
      k)
      (λ (there : (l : ℕ) × (i ≡ length (walk t) + l) × NodeS (from + length (walk t)) me s l e f).
      let v = withinS (from + length (walk t)) me s there.0 e f there.2 in
      ⊎_elim
      (λ (here' : NodeT from me t j e' g). let w = withinT from me t j e' g here' in absurd (omega (arith, v.low, w.place, le)))
      (λ (there' : (l : ℕ) × (j ≡ length (walk t) + l) × NodeS (from + length (walk t)) me s l e' g).
      nestedS (from + length (walk t)) me s there.0 e f there'.0 e' g there.2 there'.2 (omega (arith, le, there'.1)) (omega (arith, there.1, there'.1, before)))
      k)
      h

-- ---- a node below has a parent

up_slot : (from parent : ℕ) (s : Slots) → 0 < ups (statuses s) →
    (slot : ℕ) × (slice_get (slot_ends from parent s) slot ≡ Some (Some parent))
up_slot from parent no_more some = absurd (omega (arith, some))
up_slot from parent (absent s) some = let r = up_slot from parent s some in (suc r.0, r.1)
up_slot from parent (unplugged s) some = let r = up_slot from parent s some in (suc r.0, r.1)
up_slot from parent (up s) some = (0, refl)
up_slot from parent (down t s) some = let r = up_slot (from + length (walk t)) parent s some in (suc r.0, r.1)

pub record Raised (from i : ℕ) (e : Ends) : Type 0 where
  pub slot : ℕ
  pub k : ℕ
  pub far : slice_get e slot ≡ Some (Some k)
  pub later : from + i < k

mutual
  raisedT : (from parent : ℕ) (t : Tree) (i : ℕ) (e : Ends) (f : ℕ) → IsPart t →
      from + length (walk t) ≤ parent → NodeT from parent t i e f → Raised from i e
  raisedT from parent (branch a s) i e f part room h =
      let me = from + length (walk_below s) in
      ⊎_elim
      (λ (top : (i ≡ length (walk_below s)) × (e ≡ slot_ends from parent s) × (f ≡ from)).
      let r = up_slot from parent s (omega (arith, part.1)) in
      record { slot = r.0; k = parent; far = ap (λ (x : Ends). slice_get x r.0) top.1 ∙ r.1; later = omega (arith, top.0, room, length-walk a s) })
      (λ (below : NodeS from me s i e f). raisedS from me s i e f part.2 (omega arith) below)
      h

  pub raisedS : (from me : ℕ) (s : Slots) (i : ℕ) (e : Ends) (f : ℕ) → AreParts s →
      from + length (walk_below s) ≤ me → NodeS from me s i e f → Raised from i e
  raisedS from me no_more i e f parts room h = absurd h
  raisedS from me (absent s) i e f parts room h = raisedS from me s i e f parts room h
  raisedS from me (unplugged s) i e f parts room h = raisedS from me s i e f parts room h
  raisedS from me (up s) i e f parts room h = raisedS from me s i e f parts room h
  raisedS from me (down t s) i e f parts room h = ⊎_elim
      (λ (here : NodeT from me t i e f). raisedT from me t i e f parts.0 (omega (arith, room, length-append (walk t) (walk_below s))) here)
      (λ (there : (j : ℕ) × (i ≡ length (walk t) + j) × NodeS (from + length (walk t)) me s j e f).
      let r = raisedS (from + length (walk t)) me s there.0 e f parts.1 (omega (arith, room, length-append (walk t) (walk_below s))) there.2 in
      record { slot = r.slot; k = r.k; far = r.far; later = omega (arith, r.later, there.1) })
      h

-- the slots of a root lead down
pub no_up : (from parent : ℕ) (s : Slots) (slot k : ℕ) → ups (statuses s) ≡ 0 →
    slice_get (slot_ends from parent s) slot ≡ Some (Some k) → k < from + length (walk_below s)
no_up from parent no_more slot k none h = absurd cc
no_up from parent (absent s) zero k none h = absurd cc
no_up from parent (absent s) (suc slot) k none h = no_up from parent s slot k none h
no_up from parent (unplugged s) zero k none h = absurd cc
no_up from parent (unplugged s) (suc slot) k none h = no_up from parent s slot k none h
no_up from parent (up s) slot k none h = absurd (omega (arith, none))
no_up from parent (down t s) zero k none h =
    let same : from + length (walk t) - 1 ≡ k = cc in
    omega (arith, same, some_node t, length-append (walk t) (walk_below s))
no_up from parent (down t s) (suc slot) k none h =
    let r = no_up (from + length (walk t)) parent s slot k none h in
    omega (arith, r, length-append (walk t) (walk_below s))
