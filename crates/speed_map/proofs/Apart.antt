-- Two subtrees below one node have no node in common.
use Rattle.std.proofs.Common.{◌≡◌, ℕ, zero, suc, ◌+◌, ◌-◌, ◌<◌, ◌≤◌, length, Some, refl, sym, ap, ◌∙◌, inl, inr, ⊎_elim, arith, length-append}
use Rattle.std.specs.Prelude.{slice_get}
use Rattle.topology_stack.specs.Tree.{Tree, branch, Slots, no_more, absent, unplugged, up, down, walk, walk_below}
use Rattle.topology_stack.specs.Far.{slot_ends}
use Rattle.speed_map.proofs.Nodes.{Ends, NodeT, NodeS, withinS}
use Rattle.speed_map.proofs.Kin.{Child, end_of}
use Rattle.topology_stack.proofs.Lemmas.{length-walk, some_node}

-- a node of a tree whose subtree begins behind another node
pub record BehindT (from parent : ℕ) (t : Tree) (x y : ℕ) : Type 0 where
  pub j : ℕ
  pub e : Ends
  pub g : ℕ
  pub node : NodeT from parent t j e g
  pub at : y ≡ from + j
  pub behind : x < g

record BehindS (from me : ℕ) (s : Slots) (x y : ℕ) : Type 0 where
  j : ℕ
  e : Ends
  g : ℕ
  node : NodeS from me s j e g
  at : y ≡ from + j
  behind : x < g

-- of the node whose slots these are
apart_top : (from me parent : ℕ) (s : Slots) (a b x y : ℕ) →
    slice_get (slot_ends from parent s) a ≡ Some (Some x) →
    slice_get (slot_ends from parent s) b ≡ Some (Some y) → x < y → y < parent →
    BehindS from me s x y
apart_top from me parent no_more a b x y ha hb lt room = absurd cc
apart_top from me parent (absent s) zero b x y ha hb lt room = absurd cc
apart_top from me parent (absent s) (suc a) zero x y ha hb lt room = absurd cc
apart_top from me parent (absent s) (suc a) (suc b) x y ha hb lt room =
    let r = apart_top from me parent s a b x y ha hb lt room in
    record { j = r.j; e = r.e; g = r.g; node = r.node; at = r.at; behind = r.behind }
apart_top from me parent (unplugged s) zero b x y ha hb lt room = absurd cc
apart_top from me parent (unplugged s) (suc a) zero x y ha hb lt room = absurd cc
apart_top from me parent (unplugged s) (suc a) (suc b) x y ha hb lt room =
    let r = apart_top from me parent s a b x y ha hb lt room in
    record { j = r.j; e = r.e; g = r.g; node = r.node; at = r.at; behind = r.behind }
apart_top from me parent (up s) zero b x y ha hb lt room = absurd (let same : parent ≡ x = cc in omega (arith, same, lt, room))
apart_top from me parent (up s) (suc a) zero x y ha hb lt room = absurd (let same : parent ≡ y = cc in omega (arith, same, room))
apart_top from me parent (up s) (suc a) (suc b) x y ha hb lt room =
    let r = apart_top from me parent s a b x y ha hb lt room in
    record { j = r.j; e = r.e; g = r.g; node = r.node; at = r.at; behind = r.behind }
apart_top from me parent (down t s) zero zero x y ha hb lt room = absurd (let same : x ≡ y = cc in omega (arith, same, lt))
apart_top from me parent (down t s) zero (suc b) x y ha hb lt room =
    let last : from + length (walk t) - 1 ≡ x = cc in
    ⊎_elim
    (λ (is : y ≡ parent). absurd (omega (arith, is, room)))
    (λ (c : Child (from + length (walk t)) me s y).
    let w = withinS (from + length (walk t)) me s c.j c.e c.f c.node in
    record { j = length (walk t) + c.j; e = c.e; g = c.f; node = inr (c.j, refl, c.node); at = omega (arith, c.is); behind = omega (arith, last, w.low, some_node t) })
    (end_of (from + length (walk t)) me parent s b y hb)
apart_top from me parent (down t s) (suc a) zero x y ha hb lt room =
    let last : from + length (walk t) - 1 ≡ y = cc in
    ⊎_elim
    (λ (is : x ≡ parent). absurd (omega (arith, is, lt, room)))
    (λ (c : Child (from + length (walk t)) me s x). absurd (omega (arith, last, c.is, lt, some_node t)))
    (end_of (from + length (walk t)) me parent s a x ha)
apart_top from me parent (down t s) (suc a) (suc b) x y ha hb lt room =
    let r = apart_top (from + length (walk t)) me parent s a b x y ha hb lt room in
    record { j = length (walk t) + r.j; e = r.e; g = r.g; node = inr (r.j, refl, r.node); at = omega (arith, r.at); behind = r.behind }

mutual
  pub apartT : (from parent : ℕ) (t : Tree) (i : ℕ) (e : Ends) (f a b x y : ℕ) →
      from + length (walk t) ≤ parent → NodeT from parent t i e f → slice_get e a ≡ Some (Some x) →
      slice_get e b ≡ Some (Some y) →
      x < y → y < from + i → BehindT from parent t x y
  apartT from parent (branch l s) i e f a b x y room h ha hb lt before =
      let me = from + length (walk_below s) in
      ⊎_elim
      (λ (top : (i ≡ length (walk_below s)) × (e ≡ slot_ends from parent s) × (f ≡ from)).
      let ends_a : slice_get (slot_ends from parent s) a ≡ Some (Some x) = ap (λ (z : Ends). slice_get z a) (sym top.1) ∙ ha in
      let ends_b : slice_get (slot_ends from parent s) b ≡ Some (Some y) = ap (λ (z : Ends). slice_get z b) (sym top.1) ∙ hb in
      let r = apart_top from me parent s a b x y ends_a ends_b lt (omega (arith, before, top.0, room, length-walk l s)) in
      record { j = r.j; e = r.e; g = r.g; node = inr r.node; at = r.at; behind = r.behind })
      (λ (below : NodeS from me s i e f).
      let r = apartS from me s i e f a b x y (omega arith) below ha hb lt before in
      record { j = r.j; e = r.e; g = r.g; node = inr r.node; at = r.at; behind = r.behind })
      h

  apartS : (from me : ℕ) (s : Slots) (i : ℕ) (e : Ends) (f a b x y : ℕ) →
      from + length (walk_below s) ≤ me → NodeS from me s i e f → slice_get e a ≡ Some (Some x) →
      slice_get e b ≡ Some (Some y) →
      x < y → y < from + i → BehindS from me s x y
  apartS from me no_more i e f a b x y room h ha hb lt before = absurd h
  apartS from me (absent s) i e f a b x y room h ha hb lt before =
      let r = apartS from me s i e f a b x y room h ha hb lt before in
      record { j = r.j; e = r.e; g = r.g; node = r.node; at = r.at; behind = r.behind }
  apartS from me (unplugged s) i e f a b x y room h ha hb lt before =
      let r = apartS from me s i e f a b x y room h ha hb lt before in
      record { j = r.j; e = r.e; g = r.g; node = r.node; at = r.at; behind = r.behind }
  apartS from me (up s) i e f a b x y room h ha hb lt before =
      let r = apartS from me s i e f a b x y room h ha hb lt before in
      record { j = r.j; e = r.e; g = r.g; node = r.node; at = r.at; behind = r.behind }
  apartS from me (down t s) i e f a b x y room h ha hb lt before = ⊎_elim
      (λ (here : NodeT from me t i e f).
      let r = apartT from me t i e f a b x y (omega (arith, room, length-append (walk t) (walk_below s))) here ha hb lt before in
      record { j = r.j; e = r.e; g = r.g; node = inl r.node; at = r.at; behind = r.behind })
      (λ (there : (j : ℕ) × (i ≡ length (walk t) + j) × NodeS (from + length (walk t)) me s j e f).
      let r = apartS (from + length (walk t)) me s there.0 e f a b x y (omega (arith, room, length-append (walk t) (walk_below s))) there.2 ha hb lt (omega (arith, before, there.1)) in
      record { j = length (walk t) + r.j; e = r.e; g = r.g; node = inr (r.j, refl, r.node); at = omega (arith, r.at); behind = r.behind })
      h
