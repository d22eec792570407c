-- What happens between two turns keeps what is so of self identify.
use Rattle.std.proofs.Common.{◌≡◌, ◌⊎◌, inl, inr, ℕ, zero, suc, ◌+◌, ◌-◌, Bool, true, false, ◌&&◌, ◌||◌, List, [], ◌∷◌, ◌++◌, replicate, length, Option, Some, None, slice_get, slice_set, refl, sym, ◌∙◌, ap, subst, arith, append-nil, true≢false}
use Rattle.std.proofs.lemmas.Bool.{cases_eq, or_parts}
use Rattle.std.proofs.lemmas.Option.{slice_get_within}
use Rattle.outcomes.proofs.Common.{contrary, End, far, Level, Phase, ResetStart, Signal, PortView, NodeState, port_is, is_port, hears_packets, IsValid, PortNode, node_disturb, node_set_config, Act, Config, Travelling, new_signal, CableWorld, wire_of, IsPowerOnWorld, change_in_set, note_changes, Acted, ActLeads, hold, hold_fault, level_sent, level_shown, leads_down, level_after, signals_of, has_reset, is_before_tree, is_shaking, is_asking, IsLawful, acting, some-same, IsMarked, silent, quads_in, mode, fits, any_child, Greets, Identifies, IsIdentifying, config_packet}
use Rattle.port_state.specs.declared.signal.Level.TheVariants as level
use Rattle.port_state.specs.declared.signal.Signal.TheVariants as signal
use Rattle.port_state.specs.PowerOn.{power_on_with, free_port}
use Rattle.port_state.specs.Machine.{NodeStep, node_plugged, node_pulled}
use Rattle.cable_world.specs.declared.act.Act.TheVariants.{Plug, Pull, Reset}
use Rattle.cable_world.specs.Act.{step_at, with_step, pull_from}
use Rattle.cable_world.specs.Agreement.{level_after_one, LevelsAgree}
use Rattle.cable_world.specs.Signals.{is_reset}
use Rattle.cable_world.proofs.Lemmas.{power-on-apart, shown-is, Entered, Stayed, Happens, Acting, hold-happens, each-kept, not-leading, ends-in-reset, shown-same, CableEnd, cable-end, HasBegun, untouched, none-some, replaced, act-lawful, hold-lawful, signals-append}
use Rattle.outcomes.specs.Identify.{may_speak, is_child_signal}
use Rattle.outcomes.proofs.identify.Messages.{silent-append, quads-append, fits-silent, since-zero, since-less, since-append, since-silent}
use Rattle.outcomes.proofs.identify.MarksKept.{enter-marked}
use Rattle.convergence.proofs.Lemmas.{early-parentless}
use Rattle.port_state.specs.Config.{ConfigPacket}

-- ---- nodes

abbrev AllMarked : CableWorld → Type 0
AllMarked w = (k : ℕ) (x : PortNode) → slice_get w.nodes k ≡ Some x → IsMarked x.state

step-marked :
    (k : ℕ) (step : PortNode → NodeStep) (w : CableWorld) →
    ((x : PortNode) → IsMarked (step x).node.state) → AllMarked w → AllMarked (with_step k step w)
step-marked k step w s m j x at = elim (cases_eq j k) [
  | inl n ↦ here (slice_get w.nodes k) refl (subst (λ i. slice_get (with_step k step w).nodes i ≡ Some x) n at)
  | inr ne ↦ m j x (sym (untouched k step w j ne).node ∙ at)
]
  where
    here :
        (o : Option PortNode) → slice_get w.nodes k ≡ o →
        slice_get (step_at o k step w).nodes k ≡ Some x → IsMarked x.state
    here None e at = absurd (none-some (slice_get w.nodes k) x e at)
    here (Some y) e at =
        let now : slice_get (slice_set w.nodes k (step y).node) k ≡ Some (step y).node = replaced w.nodes k (step y).node (slice_get_within w.nodes k y e) in
        subst (λ (z : PortNode). IsMarked z.state) (some-same (step y).node x (sym now ∙ at)) (s y)

pull-marked :
    (a : End) (o : Option End) (w : CableWorld) → AllMarked w → AllMarked (pull_from a o w)
pull-marked a None w m = m
pull-marked a (Some b) w m = step-marked b.node (node_pulled b.port) _ (λ x. enter-marked true _) (step-marked a.node (node_pulled a.port) _ (λ x. enter-marked true _) m)

config-marked :
    (set : ℕ) (packet : ConfigPacket) (w : CableWorld) → AllMarked w →
    AllMarked (record w { nodes = change_in_set set (node_set_config packet) 0 w.nodes })
config-marked set packet w m k = each-kept set (node_set_config packet) w.nodes k (λ x. IsMarked x.state)
    (λ x h. record { id = h.id; granted = h.granted; ready = h.ready; all_named = h.all_named; root = h.root; unheard = h.unheard; named = h.named; asked = h.asked; asks = h.asks; order = h.order }) (m k)

act-marked : (a : Act) (w v : CableWorld) → ActLeads a w v → AllMarked w → AllMarked v
act-marked (Plug a b) w v e m = subst AllMarked (sym e) (step-marked b.node (node_plugged b.port) _ (λ x. enter-marked true _) (step-marked a.node (node_plugged a.port) _ (λ x. enter-marked true _) m))
act-marked (Pull end) w v e m = subst AllMarked (sym e) (pull-marked end (far w.cabling end) w m)
act-marked (Reset node) w v e m = subst AllMarked (sym e) (step-marked node node_disturb w (λ x. enter-marked true _) m)
act-marked (Config from root_id force gap) w v e m = subst AllMarked (sym e.2) (step-marked from node_disturb _ (λ x. enter-marked true _) (config-marked e.0 (config_packet root_id force gap) w m))

-- ---- the two ends of a cable

silent-reset :
    (ts : List Travelling) → silent (signals_of ts) ≡ true →
    silent (signals_of (ts ++ new_signal signal.Reset ∷ [])) ≡ true
silent-reset ts h = ap silent (signals-append ts (new_signal signal.Reset ∷ [])) ∙ silent-append (signals_of ts) (signal.Reset ∷ []) h refl

no-parent : (x : NodeState) (k : ℕ) → HasBegun x → IsValid x → is_port x.view.parent k ≡ true → ⊥
no-parent x k b v p = contrary p (ap (λ o. is_port o k) (early-parentless x v (ap is_before_tree b.phase)))

no-child : (x : NodeState) (k : ℕ) → HasBegun x → IsValid x → leads_down x.view.ports k ≡ true → ⊥
no-child x k b v c = contrary c (not-leading x k b v)

no-asking : (x : NodeState) (k : ℕ) → HasBegun x → is_asking x k ≡ true → ⊥
no-asking x k b a = let start : x.view.phase ≡ ResetStart = b.phase in go x.view.phase (is_port x.view.parent k) start a
  where
    go : (h : Phase) (i : Bool) → h ≡ ResetStart → (is_shaking h && i) ≡ true → ⊥
    go h i e a = grind arith

-- behind a node that tells Reset, with no Reset under way, no level is, and the other end shows
-- Reset
says-no-child :
    (l : Level) (ss : List Signal) → has_reset ss ≡ false → level_after l ss ≡ level.Reset →
    (l ≡ level.Reset) × (any_child ss ≡ false)
says-no-child l [] r e = (e, refl)
says-no-child l (s ∷ ss) r e =
    let b = or_parts (is_reset s) (has_reset ss) r in
    let rest = says-no-child (level_after_one s l) ss b.1 e in
    let first = one s l b.0 rest.0 in
    (first.0, ap (λ c. c || any_child ss) first.1 ∙ rest.1)
  where
    one :
        (s : Signal) (l : Level) → is_reset s ≡ false → level_after_one s l ≡ level.Reset →
        (l ≡ level.Reset) × (is_child_signal s ≡ false)
    one signal.Reset l r e = absurd (true≢false r)
    one signal.Idle l r e = absurd cc
    one signal.Parent l r e = absurd cc
    one signal.Child l r e = absurd cc
    one signal.Grant l r e = (e, refl)
    one (signal.Packet quad) l r e = (e, refl)
    one signal.Done l r e = (e, refl)

-- at the end whose node entered R0
identifies-here :
    (d : ℕ) (x : NodeState) (p : ℕ) (there : List Travelling) (y : NodeState) (q : ℕ)
    (back : List Travelling) → HasBegun x → IsValid x → Identifies d x p there y q back
identifies-here d x p there y q back b v =
    let timer : x.view.timer ≡ 0 = b.timer in
    record {
      quiet = λ m. contrary (ap may_speak b.phase) m;
      hushed = λ m. contrary (ap may_speak b.phase) m;
      stale = λ r. since-less (x.view.timer - (d + 1)) 0 back (omega (arith, timer)) (since-zero back);
      front = λ h. contrary h (ap hears_packets b.phase);
      room = λ h. contrary h (ap hears_packets b.phase);
      before = λ c. absurd (no-child x p b v c);
      idle = λ c. absurd (no-child x p b v c);
      line = λ c. absurd (no-child x p b v c);
    }

-- at the other end
identifies-there :
    (d : ℕ) (x : NodeState) (p : ℕ) (there : List Travelling) (old y : NodeState) (q : ℕ)
    (back : List Travelling) → HasBegun y → IsValid y → Identifies d x p there old q back →
    Identifies d x p there y q (back ++ new_signal signal.Reset ∷ [])
identifies-there d x p there old y q back b v i = record {
  quiet = i.quiet;
  hushed = λ m. silent-reset back (i.hushed m);
  stale = λ r. since-append (x.view.timer - (d + 1)) back (new_signal signal.Reset ∷ []) (i.stale r) (since-silent (x.view.timer - (d + 1)) (signal.Reset ∷ []) refl);
  front = λ h. ap (fits (mode x p)) (signals-append back (new_signal signal.Reset ∷ [])) ∙ fits-silent (mode x p) (signals_of back) (signal.Reset ∷ []) (i.front h) refl;
  room = λ h. omega (arith, i.room h, ap length (ap quads_in (signals-append back (new_signal signal.Reset ∷ [])) ∙ quads-append (signals_of back) (signal.Reset ∷ []) ∙ append-nil (quads_in (signals_of back))));
  before = λ c e. absurd (no-parent y q b v e);
  idle = λ c e. absurd (no-parent y q b v e);
  line = λ c e. absurd (no-parent y q b v e);
}

-- ---- what happens between two turns

module _
    (w v : CableWorld) (h : Happens w v) (i : IsIdentifying w) (levels : LevelsAgree v)
    (m : AllMarked v) where
  -- what a cable shows at an end of it stays
  still-shown :
      (a b : End) (x old : PortNode) → far w.cabling a ≡ Some b → far v.cabling a ≡ Some b →
      slice_get v.nodes a.node ≡ Some x → slice_get w.nodes a.node ≡ Some old →
      level_shown x.state a.port ≡ level_shown old.state a.port
  still-shown a b x old was is at at_old = shown-same x.state old.state a.port (sym (shown-is v a x at) ∙ h.shows a b was is ∙ shown-is w a old at_old)

  -- the other node entered R0
  greets-there :
      (a b : End) (x y : PortNode) → far v.cabling a ≡ Some b → slice_get v.nodes a.node ≡ Some x →
      slice_get v.nodes b.node ≡ Some y → HasBegun y.state → (HasBegun x.state)
      ⊎ (has_reset (signals_of (wire_of v b).signals) ≡ true) →
      Greets x.state a.port (wire_of v a).signals y.state b.port (wire_of v b).signals
  greets-there a b x y e at there b_y either = record {
    asks = λ k. absurd (no-asking y.state b.port b_y k);
    greeted = λ c r. absurd (neither c r);
    both = λ c r. absurd (neither c r);
    says_shown = λ r s. absurd (reset-child (level_shown x.state a.port) (told r).0 s);
    says = λ r s. contrary s ((told r).1);
    accepted = λ n p r. absurd (quiet n r);
  }
    where
      reset-child : (k : Level) → k ≡ level.Reset → k ≡ level.Child → ⊥
      reset-child k s t = grind arith

      back : far v.cabling b ≡ Some a
      back = h.after.cabling.both_ways a b e

      told :
          has_reset (signals_of (wire_of v b).signals) ≡ false →
          (level_shown x.state a.port ≡ level.Reset)
          × (any_child (signals_of (wire_of v b).signals) ≡ false)
      told r = says-no-child (level_shown x.state a.port) (signals_of (wire_of v b).signals) r
          (levels b a y x back there at ∙ ap (λ f. level_sent f (leads_down y.state.view.ports b.port)) b_y.phase)

      neither :
          leads_down x.state.view.ports a.port ≡ true → has_reset (signals_of (wire_of v b).signals)
          ≡ false → ⊥
      neither c r = elim either [
        | inl b_x ↦ no-child x.state a.port b_x (h.after.nodes a.node x at).valid c
        | inr t ↦ contrary t r
      ]

      quiet :
          hears_packets x.state.view.phase ≡ true → has_reset (signals_of (wire_of v b).signals)
          ≡ false → ⊥
      quiet n r = elim either [
        | inl b_x ↦ contrary n (ap hears_packets b_x.phase)
        | inr t ↦ contrary t r
      ]

  -- this node did alone
  greets-here :
      (x old y : NodeState) (p q : ℕ) (there there_old back : List Travelling) → HasBegun x →
      IsValid x → level_shown x p ≡ level_shown old p → Greets old p there_old y q back →
      Greets x p there y q back
  greets-here x old y p q there there_old back b val s g = record {
    asks = λ k e r. g.asks k (sym s ∙ e) r;
    greeted = λ c r. absurd (no-child x p b val c);
    both = λ c r. absurd (no-child x p b val c);
    says_shown = λ r e. g.says_shown r (sym s ∙ e);
    says = g.says;
    accepted = λ n p r. contrary n (ap hears_packets b.phase);
  }

  greets-after :
      (a b : End) (x y : PortNode) → far v.cabling a ≡ Some b → slice_get v.nodes a.node ≡ Some x →
      slice_get v.nodes b.node ≡ Some y →
      Greets x.state a.port (wire_of v a).signals y.state b.port (wire_of v b).signals
  greets-after a b x y e at there = go (h.ends a b x e at) (h.ends b a y back there)
    where
      back : far v.cabling b ≡ Some a
      back = h.after.cabling.both_ways a b e

      go :
          Entered w v a b x ⊎ Stayed w v a b x → Entered w v b a y ⊎ Stayed w v b a y →
          Greets x.state a.port (wire_of v a).signals y.state b.port (wire_of v b).signals
      go (inl s) (inl u) = greets-there a b x y e at there u.begun (inl s.begun)
      go (inr s) (inl u) =
          greets-there a b x y e at there u.begun (inr (ap (λ ts. has_reset (signals_of ts)) (u.signals (h.before.cabling.both_ways a b s.cable)) ∙ ends-in-reset (wire_of w b).signals))
      go (inl s) (inr u) =
          let cable : far w.cabling a ≡ Some b = h.before.cabling.both_ways b a u.cable in
          let old : CableEnd w a = cable-end w a b h.before cable in
          subst (λ ts. Greets x.state a.port (wire_of v a).signals y.state b.port ts) (sym u.signals)
          (greets-here x.state old.node.state y.state a.port b.port (wire_of v a).signals (wire_of w a).signals (wire_of w b).signals s.begun (h.after.nodes a.node x at).valid
          (still-shown a b x old.node cable e at old.node_at) (i.greets a b old.node y cable old.node_at u.node))
      go (inr s) (inr u) =
          subst (λ ts. Greets x.state a.port ts y.state b.port (wire_of v b).signals) (sym s.signals)
          (subst (λ ts. Greets x.state a.port (wire_of w a).signals y.state b.port ts) (sym u.signals) (i.greets a b x y s.cable s.node u.node))

  cables-after :
      (a b : End) (x y : PortNode) → far v.cabling a ≡ Some b → slice_get v.nodes a.node ≡ Some x →
      slice_get v.nodes b.node ≡ Some y →
      Identifies v.delay x.state a.port (wire_of v a).signals y.state b.port (wire_of v b).signals
  cables-after a b x y e at there = go (h.ends a b x e at) (h.ends b a y (h.after.cabling.both_ways a b e) there)
    where
      go :
          Entered w v a b x ⊎ Stayed w v a b x → Entered w v b a y ⊎ Stayed w v b a y →
          Identifies v.delay x.state a.port (wire_of v a).signals y.state b.port (wire_of v b).signals
      go (inl s) u = identifies-here v.delay x.state a.port (wire_of v a).signals y.state b.port (wire_of v b).signals s.begun (h.after.nodes a.node x at).valid
      go (inr s) (inl u) =
          let back : far w.cabling b ≡ Some a = h.before.cabling.both_ways a b s.cable in
          let old : CableEnd w b = cable-end w b a h.before back in
          subst (λ (d : ℕ). Identifies d x.state a.port (wire_of v a).signals y.state b.port (wire_of v b).signals) (sym h.delay)
          (subst (λ ts. Identifies w.delay x.state a.port ts y.state b.port (wire_of v b).signals) (sym s.signals)
          (subst (λ ts. Identifies w.delay x.state a.port (wire_of w a).signals y.state b.port ts) (sym (u.signals back))
          (identifies-there w.delay x.state a.port (wire_of w a).signals old.node.state y.state b.port (wire_of w b).signals u.begun (h.after.nodes b.node y there).valid (i.cables a b x old.node s.cable s.node old.node_at))))
      go (inr s) (inr u) =
          subst (λ (d : ℕ). Identifies d x.state a.port (wire_of v a).signals y.state b.port (wire_of v b).signals) (sym h.delay)
          (subst (λ ts. Identifies w.delay x.state a.port ts y.state b.port (wire_of v b).signals) (sym s.signals)
          (subst (λ ts. Identifies w.delay x.state a.port (wire_of w a).signals y.state b.port ts) (sym u.signals) (i.cables a b x y s.cable s.node u.node)))

  happened : IsIdentifying v
  happened = record { nodes = m; greets = greets-after; cables = cables-after }

-- ---- acts

-- some nodes hear a configuration packet
told-identifying :
    (set : ℕ) (packet : ConfigPacket) (w : CableWorld) → IsIdentifying w →
    IsIdentifying (record w { nodes = change_in_set set (node_set_config packet) 0 w.nodes })
told-identifying set packet w i =
    let change : PortNode → PortNode = node_set_config packet in
    record {
      nodes = config-marked set packet w i.nodes;
      greets = λ a b x y e at there.
          let Pair : PortNode → PortNode → Type 0 = λ x y. Greets x.state a.port (wire_of w a).signals y.state b.port (wire_of w b).signals in
          each-kept set change w.nodes a.node (λ x. Pair x y)
          (λ x g. record { asks = g.asks; greeted = g.greeted; both = g.both; says_shown = g.says_shown; says = g.says; accepted = g.accepted })
          (λ x at. each-kept set change w.nodes b.node (λ y. Pair x y)
          (λ y g. record { asks = g.asks; greeted = g.greeted; both = g.both; says_shown = g.says_shown; says = g.says; accepted = g.accepted })
          (λ y there. i.greets a b x y e at there) y there) x at;
      cables = λ a b x y e at there.
          let Pair : PortNode → PortNode → Type 0 = λ x y. Identifies w.delay x.state a.port (wire_of w a).signals y.state b.port (wire_of w b).signals in
          each-kept set change w.nodes a.node (λ x. Pair x y)
          (λ x g. record { quiet = g.quiet; hushed = g.hushed; stale = g.stale; front = g.front; room = g.room; before = g.before; idle = g.idle; line = g.line })
          (λ x at. each-kept set change w.nodes b.node (λ y. Pair x y)
          (λ y g. record { quiet = g.quiet; hushed = g.hushed; stale = g.stale; front = g.front; room = g.room; before = g.before; idle = g.idle; line = g.line })
          (λ y there. i.cables a b x y e at there) y there) x at;
    }

pub act-identifying :
    (a : Act) (w v : CableWorld) → Acted a w v → IsLawful w → IsIdentifying w → IsIdentifying v
act-identifying a w v did l i =
    let t : Acting w v = acting a w v did l.well_formed in
    let now : IsLawful (note_changes w t.done) = subst IsLawful t.is (act-lawful a w v did l) in
    let marked : AllMarked (note_changes w t.done) = subst AllMarked t.is (act-marked a w v did.2 i.nodes) in
    let told : IsIdentifying t.told = elim t.hears [
      | inl same ↦ subst IsIdentifying (sym same) i
      | inr h ↦ subst IsIdentifying (sym h.2) (told-identifying h.0 h.1 w i)
    ] in
    let done : IsIdentifying t.done = happened t.told t.done t.happens told (λ a b. now.agrees.levels a b) marked in
    subst IsIdentifying (sym t.is) (record { nodes = done.nodes; greets = done.greets; cables = done.cables })

-- ---- hold

pub hold-identifying :
    (end : End) (turns : ℕ) (w : CableWorld) → hold_fault end w ≡ None → IsLawful w →
    IsIdentifying w → IsIdentifying (hold end turns w)
hold-identifying end turns w none l i = happened w (hold end turns w) (hold-happens end turns w none l.well_formed) i (hold-lawful end turns w none l).agrees.levels i.nodes

-- ---- power-on

free :
    (t : PortView → Bool) → t free_port ≡ false → (n k : ℕ) → port_is t (replicate n free_port)
    k ≡ true → ⊥
free t h zero k e = true≢false (sym e)
free t h (suc n) zero e = contrary e h
free t h (suc n) (suc k) e = free t h n k e

power-on-marked :
    (x : NodeState) →
    IsMarked (power_on_with x.resets_gap x.ports x.attrs x.view.force x.timing)
power-on-marked x =
    let none : (k : ℕ) → port_is (λ p. p.asked) (replicate x.ports free_port) k ≡ true → ⊥ = free (λ p. p.asked) refl x.ports in
    record {
      id = refl;
      granted = λ e. absurd (true≢false (sym e));
      ready = λ e. absurd (true≢false (sym e));
      all_named = λ e. absurd (true≢false (sym e));
      root = λ e. absurd (true≢false (sym e));
      unheard = λ e. refl;
      named = λ k e. absurd (free (λ p. p.named) refl x.ports k e);
      asked = λ k e. absurd (none k e);
      asks = λ k e. absurd (none k e);
      order = λ j k l e. absurd (none k e);
    }

pub power-on-identifying : (w : CableWorld) → IsPowerOnWorld w → IsIdentifying w
power-on-identifying w h = record {
  nodes = λ k x at. let p = h.nodes k x at in subst IsMarked (sym p.is) (power-on-marked x.state);
  greets = λ a b x y e. absurd (none-some (far w.cabling a) b (power-on-apart w h a) e);
  cables = λ a b x y e. absurd (none-some (far w.cabling a) b (power-on-apart w h a) e);
}
