-- Where of a fresh component without loop one node alone waits to become root, it does, and stays
-- root.
use Rattle.std.proofs.Common.{◌≡◌, ◌≢◌, inl, inr, ℕ, zero, suc, ◌+◌, ◌-◌, ◌*◌, ◌^◌, ◌<◌, ◌≤◌, false, length, Option, Some, None, slice_get, refl, sym, ◌∙◌, ap, subst, arith}
use Rattle.std.specs.Prelude.{IsSome}
use Rattle.std.proofs.Math.Nat.{mul-le-mul_left}
use Rattle.std.proofs.lemmas.Option.{slice_get_within, slice_get_cases}
use Rattle.outcomes.proofs.Common.{Tree, PortNode, Holds, IsEmpty, IsClosed, IsComponent, IsCore, WaysUp, shared, CableWorld, is_before_tree, IsLawful, IsFresh, after-delay, after-length, some-of, quiet-then, quiet-lawful, after-cabling, HoldSchedule, holds_after, quiet_after, quiet-acyclic, Calmly, done-over, IsAcyclic, WaitsAlone, ResetsAreDone, ResetsAreOver, IsRoot, RootWalk}
use Rattle.cabling.proofs.Lemmas.{loopless}
use Rattle.outcomes.proofs.walks.WaysUp.{ways}
use Rattle.convergence.proofs.Lemmas.{one-root, resets-done, done-at}
use Rattle.outcomes.proofs.forced.FreeTrees.{all-late}
use Rattle.outcomes.proofs.roots.RootWalk.{root-walk}
use Rattle.outcomes.specs.Forced.{CanBeForcedAt}
use Rattle.outcomes.proofs.forced.Waits.{steadily, late-parentless, seen-most, spread-most, forces, waiting}
use Rattle.convergence.specs.Turns.{seen_turns}
use Rattle.convergence.proofs.Lemmas.{slack-later}

node-at :
    (v : CableWorld) (k : ℕ) → k < length v.nodes → (x : PortNode) × (slice_get v.nodes k ≡ Some x)
node-at v k h = elim (slice_get_cases v.nodes k).1 [
  | inl x ↦ (x.0, x.2)
  | inr out ↦ absurd (omega (arith, h, out.0))
]

module _
    (hs : HoldSchedule) (w : CableWorld) (l : IsLawful w) (node set core : ℕ) (comp : IsComponent w.cabling node set)
    (is_core : IsCore w.cabling set core) (empty : IsEmpty core) (small : set < 2 ^ 63)
    (fresh : IsFresh w set) (f : ℕ) (alone : WaitsAlone w set f) (can : CanBeForcedAt w f) where
  abbrev later : ℕ → CableWorld
  later i = quiet_after hs i w

  abbrev spread : ℕ
  spread = length w.nodes * w.delay

  -- resets are done
  abbrev first : ℕ
  first = spread + (w.longest.hold + seen_turns w)

  abbrev start : CableWorld
  start = later first

  -- the holds from there
  abbrev rest : HoldSchedule
  rest = holds_after first hs

  start-lawful : IsLawful start
  start-lawful = quiet-lawful hs first w l

  start-done : ResetsAreDone start
  start-done = let low : w.longest.hold + seen_turns w ≤ w.longest.hold + seen_turns w = omega arith in resets-done hs w l (w.longest.hold + seen_turns w) low

  there : f < length w.nodes
  there = let y = some-of (slice_get w.nodes f) _ alone.waits in slice_get_within w.nodes f y.0 y.1

  pub up : (up : ℕ → Option ℕ) × WaysUp w.cabling set f up
  up = ways w.cabling f set (loopless w.cabling f set core l.well_formed.cabling (omega (arith, there, l.well_formed.count)) (shared w.cabling node f set l.well_formed.cabling comp alone.holds) small is_core empty)

  free :
      (i k : ℕ) (x : PortNode) → Holds set k → k ≢ f →
      slice_get (quiet_after rest i start).nodes k ≡ Some x → x.state.view.force ≡ false
  free i k x h other at =
      let z : spread + (w.longest.hold + seen_turns w + i) ≡ first + i = omega arith in
      let is : quiet_after rest i start ≡ later (spread + (w.longest.hold + seen_turns w + i)) = sym (ap (λ n. later n) z ∙ quiet-then hs first i w) in
      forces hs w l node set comp fresh (w.longest.hold + seen_turns w + i) k false x h (alone.others k h other) (ap (λ (u : CableWorld). slice_get u.nodes k) (sym is) ∙ at)

  start-late :
      (i : ℕ) → length start.nodes * seen_turns start ≤ i → (k : ℕ) (x : PortNode) → Holds set k →
      slice_get (quiet_after rest i start).nodes k ≡ Some x →
      is_before_tree x.state.view.phase ≡ false
  start-late =
      let same : length start.nodes ≡ length w.nodes = after-length hs w l first in
      let closed : IsClosed start.cabling set = subst (λ c. IsClosed c set) (sym (after-cabling hs first w)) comp.closed in
      let ways_then : WaysUp start.cabling set f up.0 = subst (λ c. WaysUp c set f up.0) (sym (after-cabling hs first w)) up.1 in
      all-late rest start start-lawful start-done set f closed alone.holds (omega (arith, there, same)) up.0 ways_then free

  -- and then roles are taken, one after the other
  abbrev pub enough : ℕ
  enough = first + length w.nodes * seen_turns w

  -- all know their tree
  pub late :
      (k : ℕ) → enough ≤ k → (j : ℕ) (x : PortNode) → Holds set j →
      slice_get (later k).nodes j ≡ Some x → is_before_tree x.state.view.phase ≡ false
  late k h j x has at =
      let z : k ≡ first + (k - first) = omega (arith, h) in
      let same : length start.nodes ≡ length w.nodes = after-length hs w l first in
      let room : length w.nodes * seen_turns w ≤ k - first = omega (arith, h) in
      let few : seen_turns start ≤ seen_turns w = omega (arith, after-delay hs w l first, slack-later hs w l first) in
      let most : length w.nodes * seen_turns start ≤ length w.nodes * seen_turns w = mul-le-mul_left (length w.nodes) few in
      let is : later k ≡ quiet_after rest (k - first) start = ap (λ n. later n) z ∙ quiet-then hs first (k - first) w in
      start-late (k - first) (rw same (omega (arith, most, room))) j x has (ap (λ (u : CableWorld). slice_get u.nodes j) (sym is) ∙ at)

  pub parentless :
      (i : ℕ) (x : PortNode) → slice_get (later (enough + i)).nodes f ≡ Some x →
      x.state.view.parent ≡ None
  parentless zero x at =
      let z : enough + 0 ≡ spread + (w.longest.hold + seen_turns w + length w.nodes * seen_turns w) = omega arith in
      let soon : spread + (w.longest.hold + seen_turns w + length w.nodes * seen_turns w) ≤ w.longest.hold + 127 * seen_turns w = omega (arith, spread-most hs w l node set comp fresh, seen-most hs w l node set comp fresh) in
      let n : enough ≤ enough + 0 = omega arith in
      (waiting hs w l node set comp fresh (w.longest.hold + seen_turns w + length w.nodes * seen_turns w) f x can soon alone.holds alone.waits (subst (λ n. slice_get (later n).nodes f ≡ Some x) z at)).late (late (enough + 0) n f x alone.holds at)
  parentless (suc i) x at =
      let z : enough + suc i ≡ enough + i + 1 = omega arith in
      let past : spread ≤ enough + i = omega arith in
      let n : enough ≤ enough + i = omega arith in
      let at_next : slice_get (later (enough + i + 1)).nodes f ≡ Some x = subst (λ n. slice_get (later n).nodes f ≡ Some x) z at in
      let c : Calmly (later (enough + i)) f x.state = steadily hs w l (enough + i) past f x at_next in
      late-parentless hs w l (enough + i) past f x at_next (late (enough + i) n f c.node alone.holds c.at) (parentless i c.node c.at)

  pub root : (k : ℕ) → enough ≤ k → IsRoot (later k) f
  root k h =
      let z : enough + (k - enough) ≡ k = omega (arith, h) in
      let inside : f < length (later k).nodes = omega (arith, there, after-length hs w l k) in
      let x = node-at (later k) f inside in
      record { node = x.0; at = x.1; late = late k h f x.0 alone.holds x.1; parentless = parentless (k - enough) x.0 (subst (λ n. slice_get (later n).nodes f ≡ Some x.0) (sym z) x.1) }

  module _ (k : ℕ) (h : enough ≤ k) where
    abbrev v : CableWorld
    v = later k

    lawful : IsLawful (later k)
    lawful = quiet-lawful hs k w l

    over : ResetsAreOver (later k)
    over =
        let z : k ≡ first + (k - first) = omega (arith, h) in
        let is : later k ≡ quiet_after rest (k - first) start = ap (λ n. later n) z ∙ quiet-then hs first (k - first) w in
        done-over (later k) (quiet-lawful hs k w l) (subst ResetsAreDone (sym is) (done-at rest start start-lawful start-done (k - first)))

    comp_then : IsComponent (later k).cabling node set
    comp_then = subst (λ c. IsComponent c node set) (sym (after-cabling hs k w)) comp

    core_then : IsCore (later k).cabling set core
    core_then = subst (λ c. IsCore c set core) (sym (after-cabling hs k w)) is_core

    -- each other node has a parent port
    pub others :
        (j : ℕ) (x : PortNode) → Holds set j → j ≢ f →
        slice_get (later k).nodes j ≡ Some x → IsSome x.state.view.parent
    others j x has other at = go x.state.view.parent refl
      where
        go : (o : Option ℕ) → x.state.view.parent ≡ o → IsSome o
        go (Some p) e = refl
        go None e = absurd (other (one-root v lawful set (λ a b y h. over a b y) node j f comp_then has alone.holds (record { node = x; at = at; late = late k h j x has at; parentless = e }) (root k h)))

    -- the tree from the root
    pub walk : IsAcyclic w → (t : Tree) × RootWalk (later k) set f t
    walk acyclic = root-walk v lawful (quiet-acyclic hs k w l acyclic) node set (λ a b y h. over a b y) core f comp_then core_then small alone.holds (root k h)
