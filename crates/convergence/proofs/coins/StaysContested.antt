-- What nodes know of coins holds in every world that comes of a power-on world.
use Rattle.std.proofs.Common.{◌≡◌, ◌⊎◌, inl, inr, ℕ, ◌≤◌, Bool, true, false, if◌then◌else◌, List, [], ◌∷◌, ◌++◌, Some, None, slice_get, refl, sym, ◌∙◌, ap, subst, arith}
use Rattle.std.specs.Prelude.{nat_le}
use Rattle.port_state.specs.declared.timing.Timing.{Timing}
use Rattle.cable_world.specs.Times.{Suits}
use Rattle.cable_world.proofs.Lemmas.{beat-misses, suits-cables}
use Rattle.convergence.proofs.Common.{End, Wiring, far, ports_of, Phase, NodeState, beat, is_child, is_port, port_is, draws_with, IsValid, PortNode, Travelling, new_signal, CableWorld, wire_of, hold, ComesOfPowerOn, inbox, turn_at, turn, IsLawful, is_before_tree, is_shaking, signals_of, has_reset, shown_or_idle, level_shown, leads_down, cabling-after, delay-after, before, hears, ticks, side, side-node, side-wire, ticking, not-both, turn-state, comes, holds-kept, PlacedHold, HoldSchedule, with_holds, quiet_after, AddsDraw, DrewTogether, KnowsCoins, AreApart, AreRivals, Contests, IsContested, contrary}
use Rattle.port_state.specs.declared.signal.Phase.TheVariants as phase
use Rattle.port_state.specs.declared.signal.Signal.TheVariants as signal
use Rattle.port_state.specs.Config.{ConfigPacket}
use Rattle.port_state.specs.Machine.{node_set_config}
use Rattle.port_state.specs.Coins.{coin}
use Rattle.port_state.specs.Clock.{Clock, misses}
use Rattle.cable_world.specs.declared.act.Act.{Act}
use Rattle.cable_world.specs.World.{IsPowerOnWorld}
use Rattle.cable_world.specs.Act.{change_in_set, note_changes, Acted, hold_fault}
use Rattle.cable_world.specs.Lawful.{IsWellFormed}
use Rattle.cable_world.proofs.Lemmas.{power-on-apart, not-leading, ends-in-reset, Entered, Stayed, Acting, acting, each-kept, hold-happens, shown-is, ready, shown-same, shown_if_there, HasBegun, CableEnd, cable-end, none-some}
use Rattle.cable_world.proofs.Lemmas as between
use Rattle.convergence.specs.Kept.{IsKept}
use Rattle.convergence.proofs.turns.AlongRuns.{kept, kept-quiet}
use Rattle.convergence.specs.Rivals.{HasOneRival}
use Rattle.convergence.proofs.coins.ContestsInTurns.{contests-turn, won-from}
use Rattle.convergence.proofs.coins.CoinsInTurns.{knows-after}
use Rattle.convergence.proofs.coins.Rivals.{Rivals}
use Rattle.convergence.proofs.turns.Roles.{early-parentless}
use Rattle.convergence.proofs.turns.PortFacts.{same-port}

pub rivals-of :
    (w : CableWorld) → IsLawful w → IsContested w → (a b : End) (x y : PortNode) →
    far w.cabling a ≡ Some b → slice_get w.nodes a.node ≡ Some x →
    slice_get w.nodes b.node ≡ Some y → Rivals w.delay (side w a x) (side w b y)
rivals-of w l c a b x y e at_x at_y =
    let back : far w.cabling b ≡ Some a = l.well_formed.cabling.both_ways a b e in
    let tx : Suits w.delay w.longest x.state.timing = (l.well_formed.nodes a.node x at_x).timing in
    let ty : Suits w.delay w.longest y.state.timing = (l.well_formed.nodes b.node y at_y).timing in
    record {
      pair = record {
        some_delay = l.well_formed.some_delay;
        near = ready w a b x l.well_formed l.coupled e at_x;
        other = ready w b a y l.well_formed l.coupled back at_y;
        comes = comes w b a e;
        goes = comes w a b back;
        levels = l.agrees.levels a b x y e at_x at_y;
        levels_back = l.agrees.levels b a y x back at_y at_x;
        coupled = l.coupled.cables a b x y e at_x at_y;
        coupled_back = l.coupled.cables b a y x back at_y at_x;
      };
      near = c.nodes a.node x at_x;
      other = c.nodes b.node y at_y;
      here = c.cables a b x y e at_x at_y;
      there = c.cables b a y x back at_y at_x;
      waits = tx.long_least;
      waits_back = ty.long_least;
      short = tx.short_most;
      short_back = ty.short_most;
      beats = record { missed = beat-misses x; longest = w.longest; keeps = l.paced a.node x at_x };
      beats_back = record { missed = beat-misses y; longest = w.longest; keeps = l.paced b.node y at_y };
    }

turn-cable :
    (w : CableWorld) → IsLawful w → IsContested w → (a b : End) (x y : PortNode) →
    far w.cabling a ≡ Some b → slice_get w.nodes a.node ≡ Some x →
    slice_get w.nodes b.node ≡ Some y →
    Contests w.delay (turn_at w a.node x).node.state (turn_at w a.node x).node.clock a.port (wire_of (turn w) a).signals (turn_at w b.node y).node.state (turn_at w b.node y).node.clock b.port (wire_of (turn w) b).signals
turn-cable w l c a b x y e at_x at_y =
    let back : far w.cabling b ≡ Some a = l.well_formed.cabling.both_ways a b e in
    rw (side-node w a x, side-node w b y, side-wire w a b x l.well_formed e at_x, side-wire w b a y l.well_formed back at_y)
    (contests-turn w.delay (side w a x) (side w b y) (rivals-of w l c a b x y e at_x at_y))

turn-one-rival : (w : CableWorld) → IsLawful w → IsContested w → HasOneRival (turn w)
turn-one-rival w l c a b e f x y z same ab ef at_x at_y at_z down_a down_e drew_y drew_z =
    let was : (g h : End) → far (turn w).cabling g ≡ Some h → far w.cabling g ≡ Some h = λ g h n. sym (ap (λ (d : Wiring). far d g) (cabling-after w)) ∙ n in
    let u = before w a.node x l.well_formed at_x in
    let v = before w b.node y l.well_formed at_y in
    let t = before w f.node z l.well_formed at_z in
    let u_e : slice_get w.nodes e.node ≡ Some u.0 = ap (slice_get w.nodes) (sym same) ∙ u.1 in
    let first = rivals-of w l c a b u.0 v.0 (was a b ab) u.1 v.1 in
    let second = rivals-of w l c e f u.0 t.0 (was e f ef) u_e t.1 in
    let down_first : leads_down (ticking (side w a u.0)).state.view.ports a.port ≡ true = ap (λ (n : NodeState). leads_down n.view.ports a.port) (sym (ap (λ (n : PortNode). n.state) u.2 ∙ side-node w a u.0)) ∙ down_a in
    let same_node : x.state ≡ (ticking (side w e u.0)).state = ap (λ (n : PortNode). n.state) u.2 ∙ ap (λ k. (turn_at w k u.0).node.state) same ∙ side-node w e u.0 in
    let down_second : leads_down (ticking (side w e u.0)).state.view.ports e.port ≡ true = ap (λ (n : NodeState). leads_down n.view.ports e.port) (sym same_node) ∙ down_e in
    let drew_first : 1 ≤ (ticking (side w b v.0)).state.view.draws = subst (λ (n : NodeState). 1 ≤ n.view.draws) (ap (λ (n : PortNode). n.state) v.2 ∙ side-node w b v.0) drew_y in
    let drew_second : 1 ≤ (ticking (side w f t.0)).state.view.draws = subst (λ (n : NodeState). 1 ≤ n.view.draws) (ap (λ (n : PortNode). n.state) t.2 ∙ side-node w f t.0) drew_z in
    let p = won-from w.delay (side w a u.0) (side w b v.0) first down_first drew_first in
    let q = won-from w.delay (side w e u.0) (side w f t.0) second down_second drew_second in
    let parentless : (k : ℕ) → u.0.state.view.parent ≡ None → is_port u.0.state.view.parent k ≡ true → ⊥ = λ k none up. contrary up (ap (λ o. is_port o k) none) in
    elim p.3 [
      | inl m ↦ elim q.3 [
        | inl n ↦ c.one_rival a b e f u.0 v.0 t.0 same (was a b ab) (was e f ef) u.1 v.1 t.1 m.0 n.0 (omega (arith, drew_first, m.1.draws)) (omega (arith, drew_second, n.1.draws))
        | inr n ↦ absurd (parentless e.port (first.here.won m.0 (omega (arith, drew_first, m.1.draws))).root n.1)
      ]
      | inr m ↦ elim q.3 [
        | inl n ↦ absurd (parentless a.port (second.here.won n.0 (omega (arith, drew_second, n.1.draws))).root m.1)
        | inr n ↦ same-port u.0.state.view.parent a.port e.port m.1 n.1
      ]
    ]

pub turn-contested : (w : CableWorld) → IsLawful w → IsContested w → IsContested (turn w)
turn-contested w l c = record {
  nodes = λ k y e.
      let f : IsWellFormed w = l.well_formed in
      let x = before w k y f e in
      rw (x.2, turn-state (inbox w 0 (ports_of w.cabling k)) x.0)
      (knows-after w.delay (inbox w 0 (ports_of w.cabling k)) (beat x.0) x.0.state f.some_delay (suits-cables w.delay w.longest x.0.state.timing (f.nodes k x.0 x.1).timing) (hears w k x.0 f x.1) (ticks w k x.0 f x.1) (c.nodes k x.0 x.1));
  cables = λ a b y z e at_y at_z.
      let was : far w.cabling a ≡ Some b = sym (ap (λ (d : Wiring). far d a) (cabling-after w)) ∙ e in
      let x = before w a.node y l.well_formed at_y in
      let u = before w b.node z l.well_formed at_z in
      rw (x.2, u.2, delay-after w) (turn-cable w l c a b x.0 u.0 was x.1 u.1);
  one_rival = turn-one-rival w l c;
}

-- ---- what happens between two turns

begun-knows : (x : NodeState) → HasBegun x → KnowsCoins x
begun-knows x b = record {
  fresh = λ e. b.draws;
  undrawn = λ e. b.first_draws;
  counts = omega (arith, b.draws);
  drawn = λ c. absurd (clash x.view.phase b.phase c);
  waits = λ c. absurd (clash x.view.phase b.phase c);
  shows = λ c. absurd (clash x.view.phase b.phase c);
}
  where
    clash : (f : Phase) → f ≡ phase.ResetStart → f ≡ phase.Contend → ⊥
    clash f a b = cc

begun-apart :
    (x : NodeState) → HasBegun x → IsValid x → (k : ℕ) → is_port x.view.parent k ≡ true → ⊥
begun-apart x b v k u = contrary u (ap (λ o. is_port o k) (early-parentless x v (ap is_before_tree b.phase)))

-- at this end of the cable
begun-here :
    (d : ℕ) (x : NodeState) (c : Clock) (p : ℕ) (there : List Travelling) (y : NodeState) (e : Clock)
    (q : ℕ) (back : List Travelling) → HasBegun x → IsValid x → Contests d x c p there y e q back
begun-here d x c p there y e q back b v = record {
  told = λ l s. contrary (ap is_before_tree b.phase) l;
  later = λ u n s. absurd (begun-apart x b v p u);
  rivals = λ u o. absurd (begun-apart x b v p u);
  won = λ g s. absurd (not-both (leads_down x.view.ports p) g (not-leading x p b v));
  below = λ g n. absurd (not-both (leads_down x.view.ports p) g (not-leading x p b v));
}

-- at the other end
begun-there :
    (d : ℕ) (x : NodeState) (i : Clock) (p : ℕ) (there : List Travelling) (old : NodeState) (j : Clock)
    (y : NodeState) (e : Clock) (q : ℕ) (back : List Travelling) → HasBegun y → IsValid y →
    level_shown y q ≡ level_shown old q → Contests d x i p there old j q back →
    Contests d x i p there y e q (back ++ new_signal signal.Reset ∷ [])
begun-there d x i p there old j y e q back b v shown c = record {
  told = λ l s. c.told l (sym (ap is_child shown) ∙ s);
  later = λ u n s. absurd (not-both (has_reset (signals_of (back ++ new_signal signal.Reset ∷ []))) (ends-in-reset back) n);
  rivals = λ u o. absurd (begun-apart y b v q o);
  won = λ l s. absurd (omega (arith, s, b.draws));
  below = λ l n. absurd (not-both (has_reset (signals_of (back ++ new_signal signal.Reset ∷ []))) (ends-in-reset back) n);
}

module _ (w v : CableWorld) (h : between.Happens w v) (c : IsContested w) where
  -- a cable whose node at the first end is as it was
  node-stayed :
      (a b : End) (x y : PortNode) → far v.cabling a ≡ Some b → slice_get v.nodes b.node ≡ Some y →
      Stayed w v a b x → Entered w v b a y ⊎ Stayed w v b a y →
      Contests w.delay x.state x.clock a.port (wire_of w a).signals y.state y.clock b.port (wire_of v b).signals
  node-stayed a b x y e at s (inr u) =
      subst (λ (ts : List Travelling). Contests w.delay x.state x.clock a.port (wire_of w a).signals y.state y.clock b.port ts) (sym u.signals)
      (c.cables a b x y s.cable s.node u.node)
  node-stayed a b x y e at s (inl u) =
      let back : far w.cabling b ≡ Some a = h.before.cabling.both_ways a b s.cable in
      let old : CableEnd w b = cable-end w b a h.before back in
      let same : shown_if_there y.state b.port ≡ shown_if_there old.node.state b.port =
      sym (shown-is v b y at) ∙ h.shows b a back (h.after.cabling.both_ways a b e) ∙ shown-is w b old.node old.node_at in
      subst (λ (ts : List Travelling). Contests w.delay x.state x.clock a.port (wire_of w a).signals y.state y.clock b.port ts) (sym (u.signals back))
      (begun-there w.delay x.state x.clock a.port (wire_of w a).signals old.node.state old.node.clock y.state y.clock b.port (wire_of w b).signals u.begun (h.after.nodes b.node y at).valid
      (shown-same y.state old.node.state b.port same)
      (c.cables a b x old.node s.cable s.node old.node_at))

  happened-cable :
      (a b : End) (x y : PortNode) → far v.cabling a ≡ Some b → slice_get v.nodes a.node ≡ Some x →
      slice_get v.nodes b.node ≡ Some y →
      Contests v.delay x.state x.clock a.port (wire_of v a).signals y.state y.clock b.port (wire_of v b).signals
  happened-cable a b x y e at there = elim (h.ends a b x e at) [
    | inl s ↦ begun-here v.delay x.state x.clock a.port (wire_of v a).signals y.state y.clock b.port (wire_of v b).signals s.begun (h.after.nodes a.node x at).valid
    | inr s ↦
        subst (λ (d : ℕ). Contests d x.state x.clock a.port (wire_of v a).signals y.state y.clock b.port (wire_of v b).signals) (sym h.delay)
        (subst (λ (ts : List Travelling). Contests w.delay x.state x.clock a.port ts y.state y.clock b.port (wire_of v b).signals) (sym s.signals)
        (node-stayed a b x y e there s (h.ends b a y (h.after.cabling.both_ways a b e) there)))
  ]

  happened : IsContested v
  happened = record {
    nodes = λ k x at. elim (h.nodes k x at) [
      | inl b ↦ begun-knows x.state b
      | inr was ↦ c.nodes k x was
    ];
    cables = happened-cable;
    one_rival = λ a b e f x y z same ab ef at_x at_y at_z down_a down_e drew_y drew_z.
        let stayed : (k : ℕ) (n : PortNode) → slice_get v.nodes k ≡ Some n → 1 ≤ n.state.view.draws → slice_get w.nodes k ≡ Some n = λ k n at some. elim (h.nodes k n at) [
          | inl s ↦ absurd (omega (arith, some, s.draws))
          | inr was ↦ was
        ] in
        let held : (g k : End) → g.node ≡ a.node → far v.cabling g ≡ Some k → leads_down x.state.view.ports g.port ≡ true → Stayed w v g k x = λ g k is n down. elim (h.ends g k x n (ap (slice_get v.nodes) is ∙ at_x)) [
          | inl s ↦ absurd (not-both (leads_down x.state.view.ports g.port) down (not-leading x.state g.port s.begun (h.after.nodes a.node x at_x).valid))
          | inr s ↦ s
        ] in
        let p = held a b refl ab down_a in
        let q = held e f (sym same) ef down_e in
        c.one_rival a b e f x y z same p.cable q.cable p.node (stayed b.node y at_y drew_y) (stayed f.node z at_z drew_z) down_a down_e drew_y drew_z;
  }

pub hold-contested :
    (end : End) (n : ℕ) (w : CableWorld) → hold_fault end w ≡ None → IsLawful w → IsContested w →
    IsContested (hold end n w)
hold-contested end n w none l c = happened w (hold end n w) (hold-happens end n w none l.well_formed) c

-- some nodes hear a configuration packet
-- nothing of what is drawn, shown or told by roles changes
record IsAs (x z : NodeState) : Type 0 where
  phase : z.view.phase ≡ x.view.phase
  timing : z.timing ≡ x.timing
  timer : z.view.timer ≡ x.view.timer
  wait : z.view.wait ≡ x.view.wait
  parent : z.view.parent ≡ x.view.parent
  draws : z.view.draws ≡ x.view.draws
  first_draws : z.view.first_draws ≡ x.view.first_draws
  ports : z.view.ports ≡ x.view.ports

is-as : (x : NodeState) → IsAs x x
is-as x = record { phase = refl; timing = refl; timer = refl; wait = refl; parent = refl; draws = refl; first_draws = refl; ports = refl }

told-as : (packet : ConfigPacket) (x : PortNode) → IsAs x.state (node_set_config packet x).state
told-as packet x = record { phase = refl; timing = refl; timer = refl; wait = refl; parent = refl; draws = refl; first_draws = refl; ports = refl }

adds-as : (x z : NodeState) (n f : ℕ) → IsAs x z → AddsDraw n f x → AddsDraw n f z
adds-as x z n f e s = record { count = e.draws ∙ s.count; coins = e.first_draws ∙ s.coins ∙ ap (λ b. draws_with b n f) (sym (ap (λ (t : Timing). nat_le t.long z.view.wait) e.timing ∙ ap (nat_le x.timing.long) e.wait)) }

after-as :
    (x z y u : NodeState) → IsAs x z → IsAs y u →
    AddsDraw y.view.draws y.view.first_draws x → AddsDraw u.view.draws u.view.first_draws z
after-as x z y u e f s = rw (f.draws, f.first_draws) (adds-as x z y.view.draws y.view.first_draws e s)

together-as :
    (x z y u : NodeState) → IsAs x z → IsAs y u → DrewTogether x y → DrewTogether z u
together-as x z y u e f t = record { draws = t.draws; first = t.first; here = adds-as x z t.draws t.first e t.here; there = adds-as y u t.draws t.first f t.there }

shown-as : (x z : NodeState) (p : ℕ) → IsAs x z → level_shown z p ≡ level_shown x p
shown-as x z p e = ap (λ ps. shown_or_idle (slice_get ps p)) e.ports

apart-as :
    (d : ℕ) (x z : NodeState) (p : ℕ) (y u : NodeState) (back : List Travelling) → IsAs x z →
    IsAs y u → AreApart d x p y back → AreApart d z p u back
apart-as d x z p y u back e f a = record {
  here = e.phase ∙ a.here;
  there = ap is_shaking f.phase ∙ a.there;
  how = elim a.how [
    | inl s ↦ inl (record { drew = after-as x z y u e f s.drew; shown = shown-as x z p e ∙ s.shown })
    | inr s ↦ inr (record { drew = together-as x z y u e f s.drew; long = rw e.timer s.long; coins = rw (e.wait, e.timer, f.wait, e.timing, f.timing) s.coins })
  ];
}

contests-as :
    (d : ℕ) (x z : NodeState) (i : Clock) (p : ℕ) (there : List Travelling) (y u : NodeState) (j : Clock)
    (q : ℕ) (back : List Travelling) → IsAs x z → IsAs y u → Contests d x i p there y j q back →
    Contests d z i p there u j q back
contests-as d x z i p there y u j q back e f h = record {
  told = λ l s. ap (λ ps. port_is (λ r. r.child) ps p) e.ports ∙ h.told (sym (ap is_before_tree e.phase) ∙ l) (sym (ap is_child (shown-as y u q f)) ∙ s);
  later = λ v n s. ap is_before_tree f.phase ∙ h.later (sym (ap (λ o. is_port o p) e.parent) ∙ v) n (omega (arith, s, e.draws));
  rivals = λ v o. go (h.rivals (sym (ap (λ i. is_port i p) e.parent) ∙ v) (sym (ap (λ i. is_port i q) f.parent) ∙ o));
  won = λ c s.
      let k = h.won (sym (ap (λ ps. port_is (λ r. r.child) ps p) e.ports) ∙ c) (omega (arith, s, f.draws)) in
      record {
        root = e.parent ∙ k.root;
        drew = elim k.drew [ inl a ↦ inl (after-as x z y u e f a) | inr t ↦ inr (together-as x z y u e f t) ];
      };
  below = λ c n.
      let k = h.below (sym (ap (λ ps. port_is (λ r. r.child) ps p) e.ports) ∙ c) n in
      record {
        calm = λ t. k.calm (sym f.phase ∙ t);
        asks = λ s. let m = k.asks (sym (ap is_shaking f.phase) ∙ s) in (e.phase ∙ m.0, shown-as x z p e ∙ m.1);
      };
}
  where
    go : AreRivals d x i p there y j q back → AreRivals d z i p there u j q back
    go (inl a) = inl (record {
      here = ap is_shaking e.phase ∙ a.here;
      there = ap is_shaking f.phase ∙ a.there;
      drew = record { draws = e.draws ∙ a.drew.draws ∙ sym f.draws; first_draws = e.first_draws ∙ a.drew.first_draws ∙ sym f.first_draws };
    })
    go (inr (inl m)) = inr (inl (record {
      here = e.phase ∙ m.here;
      there = f.phase ∙ m.there;
      drew = together-as x z y u e f m.drew;
      near = rw (e.timer, f.timer, f.wait, e.timing, f.timing) m.near;
      far = rw (e.timer, f.timer, e.wait, e.timing, f.timing) m.far;
    }))
    go (inr (inr (inl a))) = inr (inr (inl (apart-as d x z p y u back e f a)))
    go (inr (inr (inr a))) = inr (inr (inr (apart-as d y u q x z there f e a)))

told-contested :
    (set : ℕ) (packet : ConfigPacket) (w : CableWorld) → IsContested w →
    IsContested (record w { nodes = change_in_set set (node_set_config packet) 0 w.nodes })
told-contested set packet w c =
    let change : PortNode → PortNode = node_set_config packet in
    record {
      nodes = λ k. each-kept set change w.nodes k (λ x. KnowsCoins x.state) (λ x h. record { fresh = h.fresh; undrawn = h.undrawn; counts = h.counts; drawn = h.drawn; waits = h.waits; shows = h.shows }) (c.nodes k);
      cables = λ a b x y e at there.
          let Two : PortNode → PortNode → Type 0 = λ x y. Contests w.delay x.state x.clock a.port (wire_of w a).signals y.state y.clock b.port (wire_of w b).signals in
          each-kept set change w.nodes a.node (λ x. Two x y)
          (λ x h. contests-as w.delay x.state (change x).state x.clock a.port (wire_of w a).signals y.state y.state y.clock b.port (wire_of w b).signals (told-as packet x) (is-as y.state) h)
          (λ x at. each-kept set change w.nodes b.node (λ y. Two x y)
          (λ y h. contests-as w.delay x.state x.state x.clock a.port (wire_of w a).signals y.state (change y).state y.clock b.port (wire_of w b).signals (is-as x.state) (told-as packet y) h)
          (λ y there. c.cables a b x y e at there) y there) x at;
      one_rival = λ a b e f x y z same ab ef at_x at_y at_z.
          let Three : PortNode → PortNode → PortNode → Type 0 = λ x y z. leads_down x.state.view.ports a.port ≡ true → leads_down x.state.view.ports e.port ≡ true → 1 ≤ y.state.view.draws → 1 ≤ z.state.view.draws → a.port ≡ e.port in
          each-kept set change w.nodes a.node (λ x. Three x y z) (λ x h. h)
          (λ x at_x. each-kept set change w.nodes b.node (λ y. Three x y z) (λ y h. h)
          (λ y at_y. each-kept set change w.nodes f.node (λ z. Three x y z) (λ z h. h)
          (λ z at_z. c.one_rival a b e f x y z same ab ef at_x at_y at_z) z at_z) y at_y) x at_x;
    }

noting-contested : (w u v : CableWorld) → v ≡ note_changes w u → IsContested u → IsContested v
noting-contested w u v e c =
    let all : IsContested (note_changes w u) = record { nodes = c.nodes; cables = c.cables; one_rival = c.one_rival } in
    subst IsContested (sym e) all

pub act-contested :
    (a : Act) (w v : CableWorld) → Acted a w v → IsLawful w → IsContested w → IsContested v
act-contested a w v did l c =
    let t : Acting w v = acting a w v did l.well_formed in
    let heard : IsContested t.told = elim t.hears [
      | inl same ↦ subst IsContested (sym same) c
      | inr h ↦ subst IsContested (sym h.2) (told-contested h.0 h.1 w c)
    ] in
    noting-contested w t.done v t.is (happened t.told t.done t.happens heard)

-- ---- power-on, and from there

pub power-on-contested : (w : CableWorld) → IsPowerOnWorld w → IsContested w
power-on-contested w h = record {
  nodes = λ k x at.
      let on = h.nodes k x at in
      begun-knows x.state (record {
        phase = ap (λ (y : NodeState). y.view.phase) on.is;
        timer = ap (λ (y : NodeState). y.view.timer) on.is;
        draws = ap (λ (y : NodeState). y.view.draws) on.is;
        first_draws = ap (λ (y : NodeState). y.view.first_draws) on.is;
      });
  cables = λ a b x y e. absurd (none-some (far w.cabling a) b (power-on-apart w h a) e);
  one_rival = λ a b e f x y z same ab. absurd (none-some (far w.cabling a) b (power-on-apart w h a) ab);
}

pub contested-kept : IsKept IsContested
contested-kept = kept IsContested power-on-contested turn-contested hold-contested act-contested

pub comes-contested : (w : CableWorld) → ComesOfPowerOn w → IsContested w
comes-contested = contested-kept.reached

pub holds-contested :
    (holds : List PlacedHold) (w : CableWorld) → IsLawful w → IsContested w →
    IsContested (with_holds holds w)
holds-contested = holds-kept IsContested contested-kept.hold

pub quiet-contested :
    (hs : HoldSchedule) (k : ℕ) (w : CableWorld) → IsLawful w → IsContested w →
    IsContested (quiet_after hs k w)
quiet-contested = kept-quiet IsContested contested-kept
