-- A turn of a lawful world keeps what is so of self identify.
use Rattle.std.proofs.Common.{◌≡◌, ℕ, ◌+◌, ◌≤◌, length, Bool, true, false, List, [], Option, Some, None, slice_get, if◌then◌else◌, refl, sym, ◌∙◌, ap, subst, arith}
use Rattle.outcomes.proofs.Common.{Signal, sent_on, hears_packets, PortNode, End, Wiring, far, ports_of, age_wire, gives, CableWorld, wire_of, inbox, turn_at, turn, signals_of, IsLawful, cabling-after, side, side-wire, before, turn-state, comes, joined-of, quads_in, Mode, mode, fits, Greets, Identifies, IsIdentifying, end_at}
use Rattle.cable_world.specs.Turn.{signals_from}
use Rattle.cable_world.proofs.Lemmas.{delay-after, side-node, hears, ready, inbox-at}
use Rattle.outcomes.proofs.identify.MarksKept.{beat-tick-marked}
use Rattle.outcomes.proofs.identify.HearAll.{MayCome, HasRoom, hear-marked}
use Rattle.outcomes.proofs.identify.GreetsTurn.{greets-turn}
use Rattle.outcomes.proofs.identify.IdentifiesTurn.{Told, identifies-turn}
use Rattle.port_state.specs.Machine.{beat}

module _ (w : CableWorld) (l : IsLawful w) (i : IsIdentifying w) where
  -- all that comes to a node may come
  may-come :
      (k : ℕ) (x : PortNode) → slice_get w.nodes k ≡ Some x →
      hears_packets x.state.view.phase ≡ true → MayCome x.state (inbox w 0 (ports_of w.cabling k))
  may-come k x at h p = go (far w.cabling (end_at k p)) refl
    where
      given-fits :
          (m : Mode) (g : Bool) (ss : List Signal) → fits m ss ≡ true →
          fits m (if g then ss else []) ≡ true
      given-fits m true ss f = f
      given-fits m false ss f = refl

      go :
          (o : Option End) → far w.cabling (end_at k p) ≡ o →
          fits (mode x.state p) (sent_on p (inbox w 0 (ports_of w.cabling k))) ≡ true
      go None none =
          let z : 0 + p ≡ p = omega arith in
          ap (fits (mode x.state p)) (subst (λ n. sent_on n (inbox w 0 (ports_of w.cabling k)) ≡ signals_from w (far w.cabling (end_at k p))) z (inbox-at w 0 p (ports_of w.cabling k)) ∙ ap (signals_from w) none)
      go (Some b) there =
          let back : far w.cabling b ≡ Some (end_at k p) = l.well_formed.cabling.both_ways (end_at k p) b there in
          let n = joined-of w (end_at k p) b l.well_formed there in
          ap (fits (mode x.state p)) (comes w b (end_at k p) there)
          ∙ given-fits (mode x.state p) (gives w.delay (age_wire (wire_of w b))) (signals_of (wire_of w b).signals) ((i.cables (end_at k p) b x n.other there at n.other_at).front h)

  has-room :
      (k : ℕ) (x : PortNode) → slice_get w.nodes k ≡ Some x →
      hears_packets x.state.view.phase ≡ true → HasRoom x.state (inbox w 0 (ports_of w.cabling k))
  has-room k x at h p = go (far w.cabling (end_at k p)) refl
    where
      bounded : length x.state.list.items ≤ 252
      bounded = (l.well_formed.nodes k x at).valid.bounded.list

      given-room :
          (g : Bool) (ss : List Signal) → length x.state.list.items + length (quads_in ss) ≤ 252 →
          length x.state.list.items + length (quads_in (if g then ss else [])) ≤ 252
      given-room true ss f = f
      given-room false ss f = omega (arith, bounded)

      go :
          (o : Option End) → far w.cabling (end_at k p) ≡ o →
          length x.state.list.items + length (quads_in (sent_on p (inbox w 0 (ports_of w.cabling k))))
          ≤ 252
      go None none =
          let z : 0 + p ≡ p = omega arith in
          let nothing : sent_on p (inbox w 0 (ports_of w.cabling k)) ≡ [] = subst (λ n. sent_on n (inbox w 0 (ports_of w.cabling k)) ≡ signals_from w (far w.cabling (end_at k p))) z (inbox-at w 0 p (ports_of w.cabling k)) ∙ ap (signals_from w) none in
          omega (arith, bounded, ap (λ ss. length (quads_in ss)) nothing)
      go (Some b) there =
          let n = joined-of w (end_at k p) b l.well_formed there in
          subst (λ ss. length x.state.list.items + length (quads_in ss) ≤ 252) (sym (comes w b (end_at k p) there))
          (given-room (gives w.delay (age_wire (wire_of w b))) (signals_of (wire_of w b).signals) ((i.cables (end_at k p) b x n.other there at n.other_at).room h))

  pub told :
      (a b : End) (x y : PortNode) → far w.cabling a ≡ Some b → slice_get w.nodes a.node ≡ Some x →
      slice_get w.nodes b.node ≡ Some y → Told w.delay (side w a x) (side w b y)
  told a b x y e at_x at_y =
      let back : far w.cabling b ≡ Some a = l.well_formed.cabling.both_ways a b e in
      record {
        pair = record {
          some_delay = l.well_formed.some_delay;
          near = ready w a b x l.well_formed l.coupled e at_x;
          other = ready w b a y l.well_formed l.coupled back at_y;
          comes = comes w b a e;
          goes = comes w a b back;
          levels = l.agrees.levels a b x y e at_x at_y;
          levels_back = l.agrees.levels b a y x back at_y at_x;
          coupled = l.coupled.cables a b x y e at_x at_y;
          coupled_back = l.coupled.cables b a y x back at_y at_x;
        };
        near = record { marked = i.nodes a.node x at_x; comes = may-come a.node x at_x; room = has-room a.node x at_x };
        other = record { marked = i.nodes b.node y at_y; comes = may-come b.node y at_y; room = has-room b.node y at_y };
        greets = i.greets a b x y e at_x at_y;
        greets_back = i.greets b a y x back at_y at_x;
        identifies = i.cables a b x y e at_x at_y;
        identifies_back = i.cables b a y x back at_y at_x;
      }

  turn-greets :
      (a b : End) (x y : PortNode) → far w.cabling a ≡ Some b → slice_get w.nodes a.node ≡ Some x →
      slice_get w.nodes b.node ≡ Some y →
      Greets (turn_at w a.node x).node.state a.port (wire_of (turn w) a).signals (turn_at w b.node y).node.state b.port (wire_of (turn w) b).signals
  turn-greets a b x y e at_x at_y =
      let t = told a b x y e at_x at_y in
      rw (side-node w a x, side-node w b y, side-wire w a b x l.well_formed e at_x, side-wire w b a y l.well_formed (l.well_formed.cabling.both_ways a b e) at_y)
      (greets-turn w.delay (side w a x) (side w b y) t.pair t.greets)

  turn-cables :
      (a b : End) (x y : PortNode) → far w.cabling a ≡ Some b → slice_get w.nodes a.node ≡ Some x →
      slice_get w.nodes b.node ≡ Some y →
      Identifies w.delay (turn_at w a.node x).node.state a.port (wire_of (turn w) a).signals (turn_at w b.node y).node.state b.port (wire_of (turn w) b).signals
  turn-cables a b x y e at_x at_y =
      rw (side-node w a x, side-node w b y, side-wire w a b x l.well_formed e at_x, side-wire w b a y l.well_formed (l.well_formed.cabling.both_ways a b e) at_y)
      (identifies-turn w.delay (side w a x) (side w b y) (told a b x y e at_x at_y))

  was : (a b : End) → far (turn w).cabling a ≡ Some b → far w.cabling a ≡ Some b
  was a b e = sym (ap (λ (d : Wiring). far d a) (cabling-after w)) ∙ e

  pub turn-identifying : IsIdentifying (turn w)
  turn-identifying = record {
    nodes = λ k y e.
        let x = before w k y l.well_formed e in
        let h = hears w k x.0 l.well_formed x.1 in
        rw (x.2, turn-state (inbox w 0 (ports_of w.cabling k)) x.0) (beat-tick-marked (beat x.0) _ h.valid (hear-marked (inbox w 0 (ports_of w.cabling k)) x.0.state (l.well_formed.nodes k x.0 x.1).valid (i.nodes k x.0 x.1) (may-come k x.0 x.1)));
    greets = λ a b y z e at_y at_z.
        let x = before w a.node y l.well_formed at_y in
        let u = before w b.node z l.well_formed at_z in
        rw (x.2, u.2) (turn-greets a b x.0 u.0 (was a b e) x.1 u.1);
    cables = λ a b y z e at_y at_z.
        let x = before w a.node y l.well_formed at_y in
        let u = before w b.node z l.well_formed at_z in
        rw (x.2, u.2, delay-after w) (turn-cables a b x.0 u.0 (was a b e) x.1 u.1);
  }
