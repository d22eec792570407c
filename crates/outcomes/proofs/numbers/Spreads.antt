-- Once all nodes are in A0 the root's list spreads: on each cable the packets come within d turns.
use Rattle.std.proofs.Common.{length-append, ◌≡◌, inl, inr, ℕ, zero, suc, ◌+◌, ◌-◌, ◌*◌, ◌<◌, ◌≤◌, Bool, true, false, List, [], ◌∷◌, ◌++◌, map, length, Option, Some, slice_get, refl, sym, ◌∙◌, ap, subst, arith, if◌then◌else◌}
use Rattle.outcomes.proofs.Common.{Tree, emits, End, Wiring, Holds, PortNode, new_signal, age_signal, age_wire, gives, CableWorld, wire_of, ComesOfPowerOn, turn_at, turn, signals_of, IsLawful, node-after, side, side-wire, after-delay, some-same, departures, ticking, comes-lawful, is_ready, is_named, silent, quads_in, has_grant, has_done, MessagesSince, parent_mode, allows, IsSettling, IsAtRest, IsTree, HoldSchedule, quiet_after, parent_of, parent_now, place_now, numbers, mark, emit, is_port, contrary, end_at}
use Rattle.port_state.specs.declared.signal.Signal.TheVariants as signal
use Rattle.cable_world.proofs.Lemmas.{side-node}
use Rattle.outcomes.specs.Messages as message
use Rattle.std.proofs.lemmas.Nat.{mul-le}
use Rattle.convergence.specs.Turns.{seen_turns}
use Rattle.outcomes.proofs.numbers.AtRest.{mute-named, silent-of, rests-where, stays-tree}
use Rattle.outcomes.proofs.identify.Lines.{no-done-down}
use Rattle.outcomes.proofs.numbers.Settling.{up-or-root}
use Rattle.outcomes.proofs.identify.MarksKept.{hears-late}
use Rattle.outcomes.proofs.identify.Ports.{child-role}
use Rattle.outcomes.proofs.walks.Rising.{child-before, places-differ}
use Rattle.std.proofs.lemmas.Bool.{eq-eqb, or_parts}
use Rattle.std.proofs.lemmas.Option.{slice_get_within}
use Rattle.outcomes.proofs.identify.Messages.{grants, dones, has-append, none-comes, kept-room, quads-append, silent-quads, since-zero, since-older, since-append, since-silent, since-none}
use Rattle.outcomes.proofs.numbers.NumberedTurn.{above-line}
use Rattle.outcomes.proofs.numbers.Progress.{node-rises}
use Rattle.outcomes.proofs.numbers.Stages.{of-node}
use Rattle.outcomes.proofs.numbers.Settles.{S, L, A, I, next, wire-next, node-of, gains-on, Link, link-on, wires-on, ReadyAt, ready-soon}

none-of-more :
    (xs ys : List ℕ) (l below : ℕ) → l ≡ below + length xs → l ≡ below + length (xs ++ ys) → ys ≡ []
none-of-more xs [] l below e f = refl
none-of-more xs (y ∷ ys) l below e f = absurd (omega (arith, e, f, length-append xs (y ∷ ys)))

ready-grants : (r g : Bool) → r ≡ true → allows (parent_mode r g) signal.Grant ≡ false
ready-grants r g e = grind arith

module _
    (hs : HoldSchedule) (w : CableWorld) (r : ComesOfPowerOn w) (k : ℕ)
    (late : length w.nodes * w.delay ≤ k)
    (set core root : ℕ) (t : Tree) (s0 : IsSettling (quiet_after hs k w) set core root t) where
  abbrev V : ℕ → CableWorld
  V j = quiet_after hs (k + j) w

  abbrev AllReady : ℕ → Type 0
  AllReady j = ReadyAt hs w r k late set core root t s0 j

  pub ready-later : (j m : ℕ) → AllReady j → AllReady (j + m)
  ready-later j m rd q x h at =
      let n = node-of hs w r k late set core root t s0 j q h in
      sym (ap (of-node (λ v. is_ready v.view.phase)) at)
      ∙ (gains-on hs w r k late set core root t s0 j m q h).ready
      (ap (of-node (λ v. is_ready v.view.phase)) n.1 ∙ rd q n.0 h n.1)

  abbrev pub HasAll : ℕ → ℕ → Type 0
  HasAll j q = (x : PortNode) → slice_get (V j).nodes q ≡ Some x → x.state.list.items ≡ emits t

  s : (j : ℕ) → IsSettling (V j) set core root t
  s j = S hs w r k late set core root t s0 j

  l : (j : ℕ) → IsLawful (V j)
  l j = L hs w r k late set core root t s0 j

  -- a parent that has all, and has all after the turn, sends nothing to its child
  sends-none :
      (j : ℕ) (a b : End) → Holds set a.node → AllReady j → (n : Link (V j) a b) → HasAll j a.node →
      HasAll (suc j) a.node → silent (departures (side (V j) a n.above)) ≡ true
  sends-none j a b h rd n has has-then =
      let v : CableWorld = V j in
      let i = I hs w r k late set core root t s0 j in
      let h_b : Holds set b.node = (s j).component.closed a b n.joined h in
      let z : PortNode = (turn_at v a.node n.above).node in
      let at_z : slice_get (turn v).nodes a.node ≡ Some z =
      node-after v a.node n.above (l j).well_formed.count n.above_at in
      let line =
      above-line v (l j) i set root t (s j).component.closed (s j).walk (s j).all (s j).numbered b a
      n.below n.above h_b ((l j).well_formed.cabling.both_ways a b n.joined) n.below_at n.above_at
      n.is in
      let there = signals_of (wire_of v a).signals in
      let now = departures (side v a n.above) in
      let ready : is_ready n.below.state.view.phase ≡ true = rd b.node n.below h_b n.below_at in
      let named : is_named n.above.state a.port ≡ true =
      (i.nodes a.node n.above n.above_at).all_named (rd a.node n.above h n.above_at) a.port
      n.is.child in
      let named-then : is_named (ticking (side v a n.above)).state a.port ≡ true =
      ap (λ u. is_named u a.port) (sym (side-node v a n.above))
      ∙ (node-rises v (l j) i set core root t (s j) a.node n.above z h n.above_at at_z).named a.port
      named in
      let before-it : length (emits t) ≡ length n.below.state.list.items + length (quads_in there) =
      ap length (sym (has n.above n.above_at)
      ∙ sym (ap (message.kept n.above.state.list.items)
      (n.is.line.no_up (mute-named n.below.state.view.granted (is_named n.above.state a.port)
      named))) ∙ n.is.line.agree ∙ kept-room n.below.state.list.items (quads_in there)
      n.is.line.room_down)
      ∙ length-append n.below.state.list.items (quads_in there) in
      let list-then : (ticking (side v a n.above)).state.list.items ≡ emits t =
      ap (λ u. u.list.items) (sym (side-node v a n.above))
      ∙ has-then z (sym (ap (λ (u : CableWorld). slice_get u.nodes a.node)
      (next hs w r k late set core root t s0 j)) ∙ at_z) in
      let after-it : length (emits t) ≡ length n.below.state.list.items + length
      (quads_in (there ++ now)) =
      ap length (sym list-then
      ∙ sym (ap (message.kept (ticking (side v a n.above)).state.list.items)
      (line.no_up (mute-named n.below.state.view.granted
      (is_named (ticking (side v a n.above)).state a.port) named-then))) ∙ line.agree
      ∙ kept-room n.below.state.list.items (quads_in (there ++ now)) line.room_down)
      ∙ length-append n.below.state.list.items (quads_in (there ++ now)) in
      let mode = parent_mode (is_ready n.below.state.view.phase) n.below.state.view.granted in
      let barred =
      ready-grants (is_ready n.below.state.view.phase) n.below.state.view.granted ready in
      let no-grant = none-comes grants mode (there ++ now) barred line.fits_down in
      silent-of now
      (or_parts (has_grant there) (has_grant now) (sym (has-append grants there now) ∙ no-grant)).1
      (or_parts (has_done there) (has_done now)
      (sym (has-append dones there now) ∙ no-done-down line)).1
      (none-of-more (quads_in there) (quads_in now) (length (emits t))
      (length n.below.state.list.items) before-it
      (after-it ∙ ap (λ (qs : List ℕ). length n.below.state.list.items + length qs)
      (quads-append there now)))

  ages :
      (j i : ℕ) (a b : End) → Holds set a.node → AllReady j → Link (V j) a b → HasAll j a.node →
      HasAll (suc j) a.node → MessagesSince i (wire_of (V j) a).signals → MessagesSince (i + 1)
      (wire_of (V (suc j)) a).signals
  ages j i a b h rd n has has-then since =
      subst (MessagesSince (i + 1)) (sym (wire-next hs w r k late set core root t s0 j a))
      (subst (MessagesSince (i + 1))
      (sym (side-wire (V j) a b n.above (l j).well_formed n.joined n.above_at))
      (go (gives (V j).delay (age_wire (wire_of (V j) a)))))
    where
      new : MessagesSince (i + 1) (map new_signal (departures (side (V j) a n.above)))
      new =
          since-silent (i + 1) (departures (side (V j) a n.above))
          (sends-none j a b h rd n has has-then)

      go :
          (g : Bool) → MessagesSince (i + 1)
          ((if g then [] else map age_signal (wire_of (V j) a).signals) ++ map new_signal
          (departures (side (V j) a n.above)))
      go true = new
      go false =
          since-append (i + 1) (map age_signal (wire_of (V j) a).signals)
          (map new_signal (departures (side (V j) a n.above)))
          (since-older i (wire_of (V j) a).signals since) new

  -- d turns after a node has all, so has its child
  since :
      (j : ℕ) (a b : End) → Holds set a.node → AllReady j → Link (V j) a b →
      ((m : ℕ) → HasAll (j + m) a.node) → (i : ℕ) → MessagesSince i (wire_of (V (j + i)) a).signals
  since j a b h rd n has zero = since-zero (wire_of (V (j + 0)) a).signals
  since j a b h rd n has (suc i) =
      let one : i + 1 ≡ suc i = omega arith in
      let e : suc (j + i) ≡ j + suc i = omega arith in
      subst (λ (m : ℕ). MessagesSince m (wire_of (V (j + suc i)) a).signals) one
      (subst (λ (m : ℕ). MessagesSince (i + 1) (wire_of (V m) a).signals) e
      (ages (j + i) i a b h (ready-later j i rd)
      (link-on hs w r k late set core root t s0 j i a b h n) (has i)
      (subst (λ (m : ℕ). HasAll m a.node) (sym e) (has (suc i))) (since j a b h rd n has i)))

  pub child-has :
      (j : ℕ) (a b : End) → Holds set a.node → AllReady j → Link (V j) a b →
      ((m : ℕ) → HasAll (j + m) a.node) → HasAll (j + w.delay) b.node
  child-has j a b h rd n has x at =
      let d : (V (j + w.delay)).delay ≡ w.delay =
      after-delay hs w (comes-lawful w r) (k + (j + w.delay)) in
      let n1 = link-on hs w r k late set core root t s0 j w.delay a b h n in
      let i1 = I hs w r k late set core root t s0 (j + w.delay) in
      let rd1 = ready-later j w.delay rd in
      let old : MessagesSince (V (j + w.delay)).delay (wire_of (V (j + w.delay)) a).signals =
      subst (λ (m : ℕ). MessagesSince m (wire_of (V (j + w.delay)) a).signals) (sym d)
      (since j a b h rd n has w.delay) in
      let still : silent (signals_of (wire_of (V (j + w.delay)) a).signals) ≡ true =
      since-none (V (j + w.delay)).delay (wire_of (V (j + w.delay)) a).signals
      (l (j + w.delay)).well_formed.some_delay old ((l (j + w.delay)).well_formed.ages a) in
      let named : is_named n1.above.state a.port ≡ true =
      (i1.nodes a.node n1.above n1.above_at).all_named (rd1 a.node n1.above h n1.above_at) a.port
      n1.is.child in
      let same : x ≡ n1.below = some-same x n1.below (sym at ∙ n1.below_at) in
      ap (λ (y : PortNode). y.state.list.items) same
      ∙ sym (ap (message.kept n1.below.state.list.items)
      (silent-quads (signals_of (wire_of (V (j + w.delay)) a).signals) still))
      ∙ sym n1.is.line.agree
      ∙ ap (message.kept n1.above.state.list.items)
      (n1.is.line.no_up (mute-named n1.below.state.view.granted (is_named n1.above.state a.port)
      named))
      ∙ has w.delay n1.above n1.above_at

  pub root-has : (j : ℕ) → AllReady j → HasAll j root
  root-has j rd x at =
      let q = (s j).is_root in
      let same : x ≡ q.node = some-same x q.node (sym at ∙ q.at) in
      ap (λ (y : PortNode). y.state.list.items) same ∙ (s j).numbered.last root q.node (s j).inside
      q.at (rd root q.node (s j).inside q.at) q.parentless ∙ ap (emit t) (s j).walk.marked.last
      ∙ (s j).walk.all

  -- ---- down the tree, by places

  module _ (j : ℕ) (rd : AllReady j) where
    below-it :
        (a b : End) → Holds set a.node → (n : Link (V j) a b) → place_now (V j)
        root t b.node < place_now (V j) root t a.node
    below-it a b h n =
        child-before (V j).cabling (parent_now (V j)) set root (numbers (V j).cabling root t)
        (mark (V j).cabling root t 0) (s j).walk.marked a.node a.port b h n.joined
        (λ e.
        let off =
        (child-role n.above.state a.port ((l j).well_formed.nodes a.node n.above n.above_at).valid
        (hears-late n.above.state.view.phase ((s j).all a.node n.above h n.above_at))
        n.is.child).0 in
        contrary (ap (λ (o : Option ℕ). is_port o a.port) (sym (ap parent_of n.above_at) ∙ e)
        ∙ eq-eqb a.port a.port refl) off)

    only-root :
        (q : ℕ) → Holds set q → length (numbers (V j).cabling root t) ≤ place_now (V j)
        root t q + 1 → q ≡ root
    only-root q h le =
        let within =
        slice_get_within (numbers (V j).cabling root t) (place_now (V j) root t q) q
        ((s j).walk.marked.at q h) in
        let last : place_now (V j) root t root + 1 ≡ length (numbers (V j).cabling root t) =
        (s j).walk.marked.last in
        places-differ (V j).cabling (parent_now (V j)) set root (numbers (V j).cabling root t)
        (mark (V j).cabling root t 0) (s j).walk.marked q root h (s j).inside
        (omega (arith, within, last, le))

    spreads :
        (f q : ℕ) → Holds set q → length (numbers (V j).cabling root t) ≤ place_now (V j)
        root t q + 1 + f → (m : ℕ) → HasAll (j + (f * w.delay + m)) q
    spreads zero q h le m =
        let same : q ≡ root = only-root q h (omega (arith, le)) in
        subst (HasAll (j + (0 * w.delay + m))) (sym same)
        (root-has (j + (0 * w.delay + m)) (ready-later j (0 * w.delay + m) rd))
    spreads (suc f) q h le m =
        let n = node-of hs w r k late set core root t s0 j q h in
        elim (up-or-root (V j) (l j) (A hs w r k late set core root t s0 j)
        (I hs w r k late set core root t s0 j) set root (s j).component (s j).inside (s j).is_root
        (s j).all q n.0 h n.1) [
          | inl same ↦
              subst (HasAll (j + (suc f * w.delay + m))) (sym same)
              (root-has (j + (suc f * w.delay + m)) (ready-later j (suc f * w.delay + m) rd))
          | inr u ↦
              let b : End = end_at q u.port in
              let link : Link (V j) u.end b = record {
                joined = u.joined;
                above = u.is;
                above_at = u.at;
                below = n.0;
                below_at = n.1;
                is = u.above;
              } in
              let less = below-it u.end b u.inside_too link in
              let step : suc f * w.delay ≡ w.delay + f * w.delay = omega arith in
              let now : j + (f * w.delay + m) + w.delay ≡ j + (suc f * w.delay + m) =
              omega (arith, step) in
              subst (λ (i : ℕ). HasAll i q) now
              (child-has (j + (f * w.delay + m)) u.end b u.inside_too
              (ready-later j (f * w.delay + m) rd)
              (link-on hs w r k late set core root t s0 j (f * w.delay + m) u.end b u.inside_too
              link)
              (λ more. let e : j + (f * w.delay + (m + more)) ≡ j + (f * w.delay + m) + more =
              omega arith in subst (λ (i : ℕ). HasAll i u.end.node) e
              (spreads f u.end.node u.inside_too (omega (arith, le, less)) (m + more))))
        ]

    -- so all have it
    pub all-have :
        (q : ℕ) → Holds set q → HasAll (j + (length (numbers (V j).cabling root t) - 1) * w.delay) q
    all-have q h =
        let last : place_now (V j) root t root + 1 ≡ length (numbers (V j).cabling root t) =
        (s j).walk.marked.last in
        let z : j + ((length (numbers (V j).cabling root t) - 1) * w.delay + 0)
        ≡ j + (length (numbers (V j).cabling root t) - 1) * w.delay = omega arith in
        subst (λ (i : ℕ). HasAll i q) z
        (spreads (length (numbers (V j).cabling root t) - 1) q h (omega (arith, last)) 0)

  -- ---- at rest

  rest-of-lists : (j : ℕ) → AllReady j → ((q : ℕ) → Holds set q → HasAll j q) → IsAtRest (V j) set
  rest-of-lists j rd has =
      rests-where (V j) (l j) (I hs w r k late set core root t s0 j) set (s j).component.closed
      (s j).all (emits t) rd (λ q x h at. has q h x at)

  pub rest-soon :
      (m : ℕ) × (m ≤ 5 * length (numbers (quiet_after hs k w).cabling root t) * seen_turns w)
      × IsAtRest (V m) set
  rest-soon =
      let u = ready-soon hs w r k late set core root t s0 in
      let n = length (numbers (quiet_after hs k w).cabling root t) in
      let some : place_now (quiet_after hs k w) root t root + 1 ≡ n = s0.walk.marked.last in
      let same : (V u.0).cabling ≡ (quiet_after hs k w).cabling =
      ap (λ (i : ℕ). (quiet_after hs (k + i) w).cabling) (let e : u.0 ≡ 0 + u.0 = omega arith in e)
      ∙ wires-on hs w r k late set core root t s0 0 u.0
      ∙ ap (λ (i : ℕ). (quiet_after hs i w).cabling)
      (let e : k + 0 ≡ k = omega arith in e) in
      let long : length (numbers (V u.0).cabling root t) ≡ n =
      ap (λ (c : Wiring). length (numbers c root t)) same in
      let later : ℕ = (length (numbers (V u.0).cabling root t) - 1) * w.delay in (
        u.0 + later,
        bound n (length (numbers (V u.0).cabling root t)) w.delay (seen_turns w) u.0 long (omega arith)
            (omega (arith, some)) u.1,
        rest-of-lists (u.0 + later) (ready-later u.0 later u.2)
            (λ q h. all-have u.0 u.2 q h),
      )
    where
      bound :
          (n o d s m : ℕ) → o ≡ n → d ≤ s → 1 ≤ n → m ≤ (4 * n + 1) * s →
          m + (o - 1) * d ≤ 5 * n * s
      bound zero o d s m e less some le = absurd (omega (arith, some))
      bound (suc n) o d s m e less some le =
          let first : o - 1 ≡ n = omega (arith, e) in
          let split : 5 * suc n * s ≡ (4 * suc n + 1) * s + n * s = grind arith in
          omega (arith, le, ap (λ (i : ℕ). i * d) first, split, mul-le n d n s (omega arith) less)

  -- from then on it is a tree
  pub tree-soon :
      (j : ℕ) → 5 * length (numbers (quiet_after hs k w).cabling root t) * seen_turns w ≤ j →
      IsTree (V j)
      set root t
  tree-soon j le =
      let q = rest-soon in
      let e : k + q.0 + (j - q.0) ≡ k + j = omega (arith, le, q.1) in
      subst (λ (i : ℕ). IsTree (quiet_after hs i w) set root t) e
      (stays-tree hs w r (k + q.0) (omega (arith, late)) set core root t (s q.0) q.2 (j - q.0))
