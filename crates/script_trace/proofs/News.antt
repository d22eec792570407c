-- What is told where nothing is new, and where nothing is.
use Rattle.std.proofs.Common.{◌≡◌, ℕ, zero, suc, ◌+◌, ◌==◌, ◌&&◌, ◌||◌, not, inl, inr, Bool, true, false, List, [], ◌∷◌, ◌++◌, All, Option, Some, None, map, length, drop, cond, is_some, is_none, slice_get, slice_index_or, refl, sym, ◌∙◌, ap, subst, arith}
use Rattle.std.specs.Prelude.{nat_lt}
use Rattle.std.specs.Option.{option_map}
use Rattle.std.proofs.lemmas.Bool.{cases_lt, cond-false}
use Rattle.std.proofs.lemmas.Bool.Decides.{nat_tests}
use Rattle.std.proofs.lemmas.List.{append-nil, get_or_past}
use Rattle.std.proofs.lemmas.List.Elements.{All-head, All-tail}
use Rattle.std.proofs.lemmas.Option.{slice_get-map, slice_get_within, get_or_from_slice_get}
use Rattle.cabling.proofs.Lemmas.{none_of_zero}
use Rattle.port_state.specs.declared.ports.PortView.{PortView}
use Rattle.port_state.specs.declared.states.NodeState.{NodeState}
use Rattle.port_state.specs.declared.view.View.{View}
use Rattle.port_state.specs.Ports.{PortNumber, port_is, passes}
use Rattle.port_state.specs.Sends.{PortSignal, sent_on}
use Rattle.port_state.specs.Clock.{Clock, even, slow, every, misses, TicksFor}
use Rattle.port_state.specs.Machine.{PortNode, node_tick}
use Rattle.port_state.specs.Idle.{IsIdleTick, after_ticks}
use Rattle.cabling.specs.NodeSet.{Nodes}
use Rattle.cabling.specs.declared.cable.End.{End}
use Rattle.cable_world.specs.declared.wire.Travelling.{Travelling}
use Rattle.cable_world.specs.Wire.{Wire, empty_wire, add_signals, age_signal, age_wire, gives, stays}
use Rattle.cable_world.specs.World.{CableWorld, wire_of}
use Rattle.cable_world.specs.ByNumber.{NodesTakeTurns, WiresTakeTurns}
use Rattle.cable_world.specs.Lawful.{IsLawful}
use Rattle.cable_world.specs.Turn.{turn, turn_at}
use Rattle.cable_world.specs.Still.{IsSilent, AreSilent, IsStillFor, after_still, StillTurnsPass}
use Rattle.cable_world.proofs.Lemmas.{none-some, some-same, still-silent}
use Rattle.world_agenda.specs.Alone.{TurnLeavesAlone, LeavesAloneBut}
use Rattle.world_agenda.proofs.Lemmas.{still-turn}
use Rattle.script_text.specs.ReportText.{Names}
use Rattle.script_trace.proofs.Shown.{older}
use Rattle.script_trace.specs.Event.{Seen, head, enters, state_number, miss_line, state_line, timeout_line, parent_line, child_lines, coin_line, id_line, sent_line, sent_lines, all_sent_lines, lines_at, node_lines}
use Rattle.script_trace.specs.Step.{all_lines, seen_before_turn}
use Rattle.script_trace.specs.News.{ShowsNothingNew, IsNewWithin}
use Rattle.script_trace.specs.Voice.{TellsNewsAlone}
use Rattle.script_trace.specs.Trace.{trace_voice}

pub both-none : (xs ys : List ℕ) → xs ≡ [] → ys ≡ [] → xs ++ ys ≡ []
both-none xs ys p q = ap (λ (l : List ℕ). l ++ ys) p ∙ q

-- ---- what a node shows whose timer alone is other

pub same-number : (n : ℕ) → (n == n) ≡ true
same-number n = grind (arith, nat_tests)

no-more : (n : ℕ) → nat_lt n n ≡ false
no-more n = grind (arith, nat_tests)

same-numbers : (m n : ℕ) → (not (m == m) || not (n == n)) ≡ false
same-numbers m n = rw (same-number m, same-number n) refl

none-then-true : (b : Bool) → (not b && b) ≡ false
none-then-true true = refl
none-then-true false = refl

pub true-then-none : (b : Bool) → (b && not b) ≡ false
true-then-none true = refl
true-then-none false = refl

none-then-some : {A : Type 0} → (o : Option A) → (is_none o && is_some o) ≡ false
none-then-some None = refl
none-then-some (Some x) = refl

module _ (front : List ℕ) where
  no-child-from :
      (before : List PortView) (j : PortNumber) (ports : List PortView) →
      ((i : ℕ) (p : PortView) → slice_get ports i ≡ Some p → slice_get before (j + i) ≡ Some p) →
      child_lines front before j ports ≡ []
  no-child-from before j [] h = refl
  no-child-from before j (p ∷ ports) h =
      let here : j + 0 ≡ j = omega arith in
      let at : slice_get before j ≡ Some p = subst (λ (n : ℕ). slice_get before n ≡ Some p) here (h 0 p refl) in
      both-none _ (child_lines front before (j + 1) ports)
      (cond-false (p.child && not (port_is (λ q. q.child) before j)) _ []
      (ap (λ (o : Option PortView). p.child && not (passes (λ q. q.child) o)) at ∙ true-then-none p.child))
      (no-child-from before (j + 1) ports (λ i q e.
      let next : j + suc i ≡ j + 1 + i = omega arith in
      subst (λ (n : ℕ). slice_get before n ≡ Some q) next (h (suc i) q e)))

  no-child : (ports : List PortView) → child_lines front ports 0 ports ≡ []
  no-child ports = no-child-from ports 0 ports (λ i p e.
      let here : i ≡ 0 + i = omega arith in
      subst (λ (n : ℕ). slice_get ports n ≡ Some p) here e)

  module _ (v : View) (t : ℕ) where
    abbrev later : View
    later = record v { timer = t }

    no-state : state_line front v later ≡ []
    no-state = cond-false (enters v later) _ [] (same-numbers (state_number v.phase) v.resets)

    no-timeout : timeout_line front v later ≡ []
    no-timeout = cond-false (not v.timed_out && v.timed_out) _ [] (none-then-true v.timed_out)

    no-parent : parent_line front v later ≡ []
    no-parent = cond-false (is_none v.parent && is_some v.parent) _ [] (none-then-some v.parent)

    no-coin : coin_line front v later ≡ []
    no-coin = cond-false (nat_lt v.draws v.draws) _ [] (no-more v.draws)

    no-id : id_line front v later ≡ []
    no-id = cond-false (is_none v.id && is_some v.id) _ [] (none-then-some v.id)

-- ---- a node that shows nothing new

abbrev pub IsOld : Travelling → Type 0
IsOld t = (t.age == 0) ≡ false

module _ (front : List ℕ) (w : CableWorld) (k : ℕ) where
  none-sent : (j : PortNumber) (ts : List Travelling) → All IsOld ts → sent_lines front j ts ≡ []
  none-sent j [] h = refl
  none-sent j (t ∷ ts) h =
      both-none (sent_line front j t) (sent_lines front j ts)
      (cond-false (t.age == 0) _ [] (All-head IsOld t ts h)) (none-sent j ts (All-tail IsOld t ts h))

  no-sent :
      (there : List ℕ) (j : PortNumber) (ports : List PortView) →
      ((port : PortNumber) → All IsOld (drop (slice_index_or there port 0) (wire_of w (record { node = k; port = port })).signals)) →
      all_sent_lines front w k there j ports ≡ []
  no-sent there j [] h = refl
  no-sent there j (p ∷ ports) h =
      both-none _ (all_sent_lines front w k there (j + 1) ports) (none-sent j _ (h j)) (no-sent there (j + 1) ports h)

  no-line-at : (s : Seen) (v : View) → ShowsNothingNew w k s v → lines_at front w k s v ≡ []
  no-line-at s v h =
      let t = v.timer in
      let u = s.view in
      subst (λ (z : View). lines_at front w k s z ≡ []) (sym h.view)
      (both-none _ _ (cond-false s.missed _ [] h.ticked)
      (both-none _ _ (no-state front u t) (both-none _ _ (no-timeout front u t)
      (both-none _ _ (no-parent front u t) (both-none _ _ (no-child front u.ports)
      (both-none _ _ (no-coin front u t) (both-none _ _ (no-id front u t) (no-sent s.there 0 u.ports h.sent))))))))

pub no-line :
    (names : Names) (w : CableWorld) (k : ℕ) (s : Seen) (v : View) → ShowsNothingNew w k s v →
    node_lines names w k s v ≡ []
no-line names w k s v h = no-line-at (head names w.turns k) w k s v h

-- the nodes from a number on
abbrev pub IsOldFrom : CableWorld → ℕ → List Seen → List PortNode → Type 0
IsOldFrom w k seen nodes =
    (i : ℕ) (s : Seen) (x : PortNode) → slice_get seen i ≡ Some s → slice_get nodes i ≡ Some x → ShowsNothingNew w (k + i) s x.state.view

pub old-head :
    (w : CableWorld) (k : ℕ) (s : Seen) (seen : List Seen) (x : PortNode) (nodes : List PortNode) →
    IsOldFrom w k (s ∷ seen) (x ∷ nodes) → ShowsNothingNew w k s x.state.view
old-head w k s seen x nodes h =
    let here : k + 0 ≡ k = omega arith in
    subst (λ (n : ℕ). ShowsNothingNew w n s x.state.view) here (h 0 s x refl refl)

pub old-tail :
    (w : CableWorld) (k : ℕ) (s : Seen) (seen : List Seen) (x : PortNode) (nodes : List PortNode) →
    IsOldFrom w k (s ∷ seen) (x ∷ nodes) → IsOldFrom w (k + 1) seen nodes
old-tail w k s seen x nodes h = λ i t y at there.
    let next : k + suc i ≡ k + 1 + i = omega arith in
    subst (λ (n : ℕ). ShowsNothingNew w n t y.state.view) next (h (suc i) t y at there)

-- all nodes
pub old-all : (w : CableWorld) (seen : List Seen) → IsNewWithin 0 seen w → IsOldFrom w 0 seen w.nodes
old-all w seen h = λ i s x at there.
    let same : i ≡ 0 + i = omega arith in
    subst (λ (n : ℕ). ShowsNothingNew w n s x.state.view) same (h i s x at there (none_of_zero i))

no-lines : (names : Names) (w : CableWorld) (k : ℕ) (seen : List Seen) (nodes : List PortNode) →
    IsOldFrom w k seen nodes → all_lines names w k seen nodes ≡ []
no-lines names w k [] nodes h = refl
no-lines names w k (s ∷ seen) [] h = refl
no-lines names w k (s ∷ seen) (x ∷ nodes) h =
    both-none (node_lines names w k s x.state.view) (all_lines names w (k + 1) seen nodes)
    (no-line names w k s x.state.view (old-head w k s seen x nodes h))
    (no-lines names w (k + 1) seen nodes (old-tail w k s seen x nodes h))

pub trace-news : TellsNewsAlone trace_voice
trace-news legend seen w h = no-lines legend.names w 0 seen w.nodes (old-all w seen h)

-- ---- nothing is under way

all-or : {X : Type 0} → (P : X → Type 0) (xs : List X) (i : ℕ) (d : X) → All P xs → P d → P (slice_index_or xs i d)
all-or P xs i d h base = elim (cases_lt i (length xs)) [
  | inl inside ↦ h i d inside
  | inr past ↦ subst P (sym (get_or_past xs i d past)) base
]

pub silent-wire : (w : CableWorld) (end : End) → AreSilent w.wires → (wire_of w end).signals ≡ []
silent-wire w end h =
    all-or IsSilent (slice_index_or w.wires end.node []) end.port empty_wire
    (all-or (λ row. All IsSilent row) w.wires end.node [] h (λ i d inside. absurd (omega (arith, inside)))) refl

-- ---- a node whose tick is idle

pub timer-alone : (x : PortNode) → IsIdleTick x →
    (node_tick x).node.state.view ≡ record x.state.view { timer = (node_tick x).node.state.view.timer }
timer-alone x h = ap (λ (s : NodeState). record s.view { timer = (node_tick x).node.state.view.timer }) h.state

-- what stands among what the nodes showed before a turn
pub before-turn :
    (nodes : List PortNode) (k : ℕ) (s : Seen) → slice_get (map seen_before_turn nodes) k ≡ Some s →
    (x : PortNode) × (slice_get nodes k ≡ Some x) × (s ≡ seen_before_turn x)
before-turn nodes k s at = go (slice_get nodes k) refl
  where
    go : (o : Option PortNode) → slice_get nodes k ≡ o →
        (x : PortNode) × (slice_get nodes k ≡ Some x) × (s ≡ seen_before_turn x)
    go None e = absurd (none-some _ s (slice_get-map seen_before_turn nodes k ∙ ap (option_map seen_before_turn) e) at)
    go (Some x) e = (x, e, some-same s (seen_before_turn x) (sym at ∙ slice_get-map seen_before_turn nodes k ∙ ap (option_map seen_before_turn) e))

-- ---- a turn

drop-old : (n : ℕ) (ts : List Travelling) → All IsOld ts → All IsOld (drop n ts)
drop-old zero ts h = h
drop-old (suc n) [] h = h
drop-old (suc n) (t ∷ ts) h = drop-old n ts (All-tail IsOld t ts h)

all-older : (ts : List Travelling) → All IsOld (map age_signal ts)
all-older [] i d h = absurd (omega (arith, h))
all-older (t ∷ ts) zero d h = older t.age
all-older (t ∷ ts) (suc i) d h = all-older ts i d (omega (arith, h))

-- on a wire on which nothing is sent
stays-old : (d : ℕ) (w : Wire) → All IsOld (add_signals [] (stays d w)).signals
stays-old d w = subst (All IsOld) (sym (append-nil (stays d w).signals)) (go (gives d (age_wire w)))
  where
    go : (given : Bool) → All IsOld (cond given [] (map age_signal w.signals))
    go true = λ i e h. absurd (omega (arith, h))
    go false = all-older w.signals

module _ (w : CableWorld) (nodes : NodesTakeTurns) (wires : WiresTakeTurns) (l : IsLawful w) (m : IsLawful (turn w)) where
  wire-old :
      (k : ℕ) (x y : PortNode) → slice_get w.nodes k ≡ Some x → slice_get (turn w).nodes k ≡ Some y → y ≡ (turn_at w k x).node →
      TurnLeavesAlone w k x → (port : PortNumber) → All IsOld (wire_of (turn w) (record { node = k; port = port })).signals
  wire-old k x y at now is alone port =
      let end : End = record { node = k; port = port } in
      let old = (l.well_formed.nodes k x at).wires in
      let new = (m.well_formed.nodes k y now).wires in
      let same : y.state.ports ≡ x.state.ports = ap (λ (z : PortNode). z.state.ports) is ∙ ap (λ (z : NodeState). z.ports) alone.state in
      elim (cases_lt port (length (slice_index_or w.wires k []))) [
        | inl there ↦
            subst (λ (u : Wire). All IsOld u.signals)
            (sym (wires w end x l.well_formed.count at there
            ∙ ap (λ (ss : List PortSignal). add_signals (sent_on port ss) (stays w.delay (wire_of w end))) alone.sends))
            (stays-old w.delay (wire_of w end))
        | inr past ↦
            subst (λ (u : Wire). All IsOld u.signals)
            (sym (get_or_past (slice_index_or (turn w).wires k []) port empty_wire (omega (arith, past, old, new, same))))
            (λ i e h. absurd (omega (arith, h)))
      ]

  pub turn-news : (set : Nodes) → LeavesAloneBut set w → IsNewWithin set (map seen_before_turn w.nodes) (turn w)
  turn-news set leaves k s y at now out =
      let found = before-turn w.nodes k s at in
      let x = found.0 in
      let alone = leaves k x found.1 out in
      let is : y ≡ (turn_at w k x).node = some-same y (turn_at w k x).node (sym now ∙ nodes w k x l.well_formed.count found.1) in
      subst (λ (u : Seen). ShowsNothingNew (turn w) k u y.state.view) (sym found.2) (record {
        ticked = alone.ticks;
        view = ap (λ (z : PortNode). z.state.view) is
            ∙ ap (λ (z : NodeState). record z.view { timer = (turn_at w k x).node.state.view.timer }) alone.state
            ∙ ap (λ (z : PortNode). record x.state.view { timer = z.state.view.timer }) (sym is);
        sent = λ port. drop-old (slice_index_or [] port 0) _ (wire-old k x y found.1 now is alone port);
      })

-- ---- turns in which nothing happens

-- no clock misses one of the next so many turns
abbrev pub AllTick : ℕ → CableWorld → Type 0
AllTick count w = (k : ℕ) (x : PortNode) → slice_get w.nodes k ≡ Some x → TicksFor count x.clock

ticks-next : (c : Clock) → TicksFor 1 c → misses c ≡ false
ticks-next even t = refl
ticks-next (slow zero next) t = absurd (omega (arith, t))
ticks-next (slow (suc k) next) t = refl
ticks-next (every gap zero) t = absurd (omega (arith, t))
ticks-next (every gap (suc k)) t = refl

pub still-news : (w : CableWorld) → StillTurnsPass → length w.nodes ≡ length w.cabling → IsStillFor 1 w → AllTick 1 w →
    IsNewWithin 0 (map seen_before_turn w.nodes) (turn w)
still-news w law e h ticks = subst (IsNewWithin 0 (map seen_before_turn w.nodes)) (sym (still-turn law w e h)) (λ k s y at now out.
    let found = before-turn w.nodes k s at in
    let x = found.0 in
    let idle : IsIdleTick x = subst IsIdleTick (get_or_from_slice_get w.nodes k x x found.1) (h.idle k x (slice_get_within w.nodes k x found.1) 0 (omega arith)) in
    let is : y ≡ (node_tick x).node = some-same y (node_tick x).node
    (sym now ∙ slice_get-map (after_ticks 1) w.nodes k ∙ ap (option_map (after_ticks 1)) found.1) in
    let none = still-silent 1 w.wires (h.silent (omega arith)) in
    subst (λ (u : Seen). ShowsNothingNew (after_still 1 w) k u y.state.view) (sym found.2) (record {
      ticked = ticks-next x.clock (ticks k x found.1);
      view = ap (λ (z : PortNode). z.state.view) is ∙ timer-alone x idle ∙ ap (λ (z : PortNode). record x.state.view { timer = z.state.view.timer }) (sym is);
      sent = λ port. drop-old (slice_index_or [] port 0) _
          (subst (All IsOld) (sym (silent-wire (after_still 1 w) (record { node = k; port = port }) none)) (λ i d inside. absurd (omega (arith, inside))));
    }))
