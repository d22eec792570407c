-- What happens between two turns keeps what holds at the two ends of a cable.
use Rattle.std.proofs.Common.{◌≡◌, ℕ, ◌-◌, ◌⊎◌, inl, inr, Bool, true, false, ◌&&◌, ◌||◌, List, [], ◌∷◌, ◌++◌, Some, None, slice_get, refl, subst, sym, ◌∙◌, ap, arith}
use Rattle.std.specs.Prelude.{nat_lt}
use Rattle.cabling.specs.declared.cable.End.{End}
use Rattle.cabling.specs.Wiring.{far}
use Rattle.port_state.specs.declared.signal.Level.{Level}
use Rattle.port_state.specs.declared.signal.Phase.{Phase}
use Rattle.port_state.specs.declared.signal.Phase.TheVariants.{ResetStart, Contend}
use Rattle.port_state.specs.declared.signal.Signal.TheVariants as signal
use Rattle.port_state.specs.declared.states.NodeState.{NodeState}
use Rattle.port_state.specs.Heard.{is_resetting}
use Rattle.port_state.specs.Valid.{FitsPhase, IsValid}
use Rattle.port_state.specs.Config.{ConfigPacket}
use Rattle.port_state.specs.Machine.{PortNode, node_set_config}
use Rattle.cable_world.specs.declared.act.Act.{Act}
use Rattle.cable_world.specs.Wire.{Travelling, new_signal}
use Rattle.cable_world.specs.World.{CableWorld, wire_of, IsPowerOnWorld}
use Rattle.cable_world.specs.Act.{change_in_set, note_changes, Acted, hold, hold_fault}
use Rattle.cable_world.specs.Signals.{is_reset, signals_of, has_reset, shows_no_notice, AllAsOldAs}
use Rattle.cable_world.specs.Agreement.{level_after_one, level_shown, leads_down}
use Rattle.cable_world.specs.Lawful.{IsWellFormed}
use Rattle.cable_world.specs.Phases.{is_before_tree, is_after_hold, is_in_bus_reset, slack}
use Rattle.cable_world.specs.Coupling.{NoneTakesBack, is_asking, is_reset_known, Coupling, HeedsReset, WaitsLong, IsCoupled}
use Rattle.cable_world.proofs.tables.AtPowerOn.{power-on-apart}
use Rattle.cable_world.proofs.levels.LastHeard.{shown-same, shown_if_there}
use Rattle.cable_world.proofs.levels.LastSent.{no-child}
use Rattle.cable_world.proofs.Options.{none-some}
use Rattle.cable_world.proofs.acts.ResettingSteps.{HasBegun}
use Rattle.cable_world.proofs.acts.Happenings.{Entered, Stayed, Happens, shown-is, hold-happens, each-kept, Acting, acting}
use Rattle.cable_world.proofs.coupling.Streams.{not-both}
use Rattle.cable_world.proofs.tables.CableEnds.{CableEnd, cable-end}

-- ---- signals

since-zero : (n : ℕ) (ts : List Travelling) → n ≡ 0 → AllAsOldAs n ts
since-zero n [] z = tt
since-zero n (t ∷ ts) z = (omega (arith, z), since-zero n ts z)

pub ends-in-reset :
    (ts : List Travelling) → has_reset (signals_of (ts ++ new_signal signal.Reset ∷ [])) ≡ true
ends-in-reset [] = refl
ends-in-reset (t ∷ ts) = rw (ends-in-reset ts) (or-true (is_reset t.signal))
  where
    or-true : (b : Bool) → (b || true) ≡ true
    or-true true = refl
    or-true false = refl

-- a Reset takes no Parent back
reset-behind :
    (young : ℕ) (l : Level) (ts : List Travelling) → NoneTakesBack young l ts →
    NoneTakesBack young l (ts ++ new_signal signal.Reset ∷ [])
reset-behind young l [] h = (λ age parent. refl, tt)
reset-behind young l (t ∷ ts) h = (h.0, reset-behind young (level_after_one t.signal l) ts h.1)

-- ---- a node that has just entered R0

not-contending : (x : NodeState) → HasBegun x → x.view.phase ≡ Contend → ⊥
not-contending x b e = let start : x.view.phase ≡ ResetStart = b.phase in cc

not-known : (d : ℕ) (x : NodeState) → HasBegun x → is_reset_known d x ≡ true → ⊥
not-known d x b e = go x.view.phase x.view.timer b.phase b.timer e
  where
    go :
        (phase : Phase) (timer : ℕ) → phase ≡ ResetStart → timer ≡ 0 →
        ((is_resetting phase && nat_lt d timer) || is_after_hold phase) ≡ true → ⊥
    go phase timer p t k = grind (arith, p, t, k)

pub not-leading :
    (x : NodeState) (k : ℕ) → HasBegun x → IsValid x → leads_down x.view.ports k ≡ false
not-leading x k b v = no-child x.view.parent x.view.ports k (subst (λ (phase : Phase). FitsPhase phase x.view.parent x.view.ports) b.phase v.fits)

-- at this end of the cable
begun-here :
    (d : ℕ) (x : NodeState) (p : ℕ) (there : List Travelling) (y : NodeState) (q : ℕ) (back : List Travelling) →
    HasBegun x → IsValid x → Coupling d x p there y q back
begun-here d x p there y q back b v =
    let timer : x.view.timer ≡ 0 = b.timer in
    record {
      timed = λ t. since-zero (x.view.timer - slack x.view.phase) there (omega (arith, timer));
      reset = λ r. ap is_resetting b.phase;
      no_notice = λ k. absurd (not-known d x b k);
      early = λ k. absurd (not-known d x b k);
      child = λ c r. absurd (not-both (leads_down x.view.ports p) c (not-leading x p b v));
      contend = λ c r. absurd (not-contending x b c);
    }

-- at the other end
begun-there :
    (d : ℕ) (x : NodeState) (p : ℕ) (there : List Travelling) (old y : NodeState) (q : ℕ) (back : List Travelling) →
    HasBegun y → level_shown y q ≡ level_shown old q → Coupling d x p there old q back →
    Coupling d x p there y q (back ++ new_signal signal.Reset ∷ [])
begun-there d x p there old y q back b shown c = record {
  timed = c.timed;
  reset = c.reset;
  no_notice = λ k. (ap shows_no_notice shown ∙ (c.no_notice k).0, (c.no_notice k).1);
  early = λ k. ap (λ (phase : Phase). is_before_tree phase || is_asking y q) b.phase;
  child = λ f r. absurd (not-both (has_reset (signals_of (back ++ new_signal signal.Reset ∷ []))) (ends-in-reset back) r);
  contend = λ f r. reset-behind (x.view.timer - d) (level_shown x p) back (c.contend f r);
}

-- ---- a cable after what happens

module _ (w v : CableWorld) (h : Happens w v) (c : IsCoupled w) where
  -- a cable whose node at the first end is as it was
  node-stayed :
      (a b : End) (x y : PortNode) → far v.cabling a ≡ Some b → slice_get v.nodes b.node ≡ Some y →
      Stayed w v a b x → Entered w v b a y ⊎ Stayed w v b a y →
      Coupling w.delay x.state a.port (wire_of w a).signals y.state b.port (wire_of v b).signals
  node-stayed a b x y e at s (inr u) =
      subst (λ (ts : List Travelling). Coupling w.delay x.state a.port (wire_of w a).signals y.state b.port ts) (sym u.signals)
      (c.cables a b x y s.cable s.node u.node)
  node-stayed a b x y e at s (inl u) =
      let back : far w.cabling b ≡ Some a = h.before.cabling.both_ways a b s.cable in
      let old : CableEnd w b = cable-end w b a h.before back in
      let same : shown_if_there y.state b.port ≡ shown_if_there old.node.state b.port =
      sym (shown-is v b y at) ∙ h.shows b a back (h.after.cabling.both_ways a b e) ∙ shown-is w b old.node old.node_at in
      subst (λ (ts : List Travelling). Coupling w.delay x.state a.port (wire_of w a).signals y.state b.port ts) (sym (u.signals back))
      (begun-there w.delay x.state a.port (wire_of w a).signals old.node.state y.state b.port (wire_of w b).signals u.begun
      (shown-same y.state old.node.state b.port same)
      (c.cables a b x old.node s.cable s.node old.node_at))

  coupled-after :
      (a b : End) (x y : PortNode) → far v.cabling a ≡ Some b → slice_get v.nodes a.node ≡ Some x →
      slice_get v.nodes b.node ≡ Some y →
      Coupling v.delay x.state a.port (wire_of v a).signals y.state b.port (wire_of v b).signals
  coupled-after a b x y e at there = elim (h.ends a b x e at) [
    | inl s ↦ begun-here v.delay x.state a.port (wire_of v a).signals y.state b.port (wire_of v b).signals s.begun (h.after.nodes a.node x at).valid
    | inr s ↦
        subst (λ (d : ℕ). Coupling d x.state a.port (wire_of v a).signals y.state b.port (wire_of v b).signals) (sym h.delay)
        (subst (λ (ts : List Travelling). Coupling w.delay x.state a.port ts y.state b.port (wire_of v b).signals) (sym s.signals)
        (node-stayed a b x y e there s (h.ends b a y (h.after.cabling.both_ways a b e) there)))
  ]

  happened : IsCoupled v
  happened = record {
    watches = λ k x at. elim (h.nodes k x at) [
      | inl b ↦ λ j on shown. ap is_in_bus_reset b.phase
      | inr was ↦ c.watches k x was
    ];
    waits = λ k x at. elim (h.nodes k x at) [
      | inl b ↦ λ e. absurd (not-contending x.state b e)
      | inr was ↦ subst (λ (d : ℕ). WaitsLong d x.state) (sym h.delay) (c.waits k x was)
    ];
    cables = coupled-after;
  }

pub hold-coupled :
    (end : End) (turns : ℕ) (w : CableWorld) → hold_fault end w ≡ None → IsWellFormed w →
    IsCoupled w → IsCoupled (hold end turns w)
hold-coupled end turns w none f c = happened w (hold end turns w) (hold-happens end turns w none f) c

-- ---- configuration packets

-- some nodes hear a packet
told-coupled :
    (set : ℕ) (packet : ConfigPacket) (w : CableWorld) → IsCoupled w →
    IsCoupled (record w { nodes = change_in_set set (node_set_config packet) 0 w.nodes })
told-coupled set packet w c =
    let change : PortNode → PortNode = node_set_config packet in
    record {
      watches = λ k. each-kept set change w.nodes k (λ x. HeedsReset x.state) (λ x h. h) (c.watches k);
      waits = λ k. each-kept set change w.nodes k (λ x. WaitsLong w.delay x.state) (λ x h. h) (c.waits k);
      cables = λ a b x y e at there.
          let Pair : PortNode → PortNode → Type 0 = λ x y. Coupling w.delay x.state a.port (wire_of w a).signals y.state b.port (wire_of w b).signals in
          each-kept set change w.nodes a.node (λ x. Pair x y)
          (λ x h. record { timed = h.timed; reset = h.reset; no_notice = h.no_notice; early = h.early; child = h.child; contend = h.contend })
          (λ x at. each-kept set change w.nodes b.node (λ y. Pair x y)
          (λ y h. record { timed = h.timed; reset = h.reset; no_notice = h.no_notice; early = h.early; child = h.child; contend = h.contend })
          (λ y there. c.cables a b x y e at there) y there) x at;
    }

-- ---- every act

noting-coupled : (w u v : CableWorld) → v ≡ note_changes w u → IsCoupled u → IsCoupled v
noting-coupled w u v e c =
    let all : IsCoupled (note_changes w u) = record { watches = c.watches; waits = c.waits; cables = c.cables } in
    subst IsCoupled (sym e) all

pub act-coupled :
    (a : Act) (w v : CableWorld) → Acted a w v → IsWellFormed w → IsCoupled w → IsCoupled v
act-coupled a w v did f c =
    let t : Acting w v = acting a w v did f in
    let heard : IsCoupled t.told = elim t.hears [
      | inl same ↦ subst IsCoupled (sym same) c
      | inr h ↦ subst IsCoupled (sym h.2) (told-coupled h.0 h.1 w c)
    ] in
    noting-coupled w t.done v t.is (happened t.told t.done t.happens heard)

-- ---- power-on

pub power-on-coupled : (w : CableWorld) → IsPowerOnWorld w → IsCoupled w
power-on-coupled w h =
    let phase : (k : ℕ) (x : PortNode) → slice_get w.nodes k ≡ Some x → x.state.view.phase ≡ ResetStart =
    λ k x at. ap (λ (y : NodeState). y.view.phase) (h.nodes k x at).is in
    record {
      watches = λ k x at j on shown. ap is_in_bus_reset (phase k x at);
      waits = λ k x at e. let start : x.state.view.phase ≡ ResetStart = phase k x at in absurd cc;
      cables = λ a b x y e. absurd (none-some (far w.cabling a) b (power-on-apart w h a) e);
    }
