-- What is to be known of a node's part of a turn: of the signals that it hears, and of the tick
-- after them.
use Rattle.std.proofs.Common.{◌≡◌, ◌⊎◌, ℕ, ◌+◌, ◌<◌, ◌≤◌, Bool, true, false, ◌||◌, List, [], Option, None, Some}
use Rattle.std.specs.Prelude.{min}
use Rattle.port_state.specs.declared.signal.Level.TheVariants as level
use Rattle.port_state.specs.declared.signal.Phase.TheVariants.{ResetStart, TreeStart, Contend}
use Rattle.port_state.specs.declared.signal.Signal.{Signal}
use Rattle.port_state.specs.declared.states.NodeState.{NodeState}
use Rattle.port_state.specs.Ports.{is_parent, is_connected, is_port}
use Rattle.port_state.specs.Sends.{sent_on}
use Rattle.port_state.specs.Step.{Step}
use Rattle.port_state.specs.Heard.{is_resetting, hears_packets}
use Rattle.port_state.specs.Machine.{on_beat}
use Rattle.port_state.specs.Valid.{IsValid}
use Rattle.cable_world.specs.Turn.{hear_all}
use Rattle.cable_world.specs.Phases.{is_before_tree, is_after_hold, is_in_bus_reset, is_shaking, is_timed}
use Rattle.cable_world.specs.Signals.{has_reset, shows_no_notice, has_no_notice, has_no_parent_signal, has_no_takeback}
use Rattle.cable_world.specs.Agreement.{level_shown, leads_down, level_after, level_sent_at}
use Rattle.cable_world.specs.Coupling.{is_asking, HeedsReset}

-- ---- hearing

-- no signal began a reset
pub record NoEntry (x : NodeState) (h : Step) : Type 0 where
  pub phase : h.state.view.phase ≡ x.view.phase
  pub timer : h.state.view.timer ≡ x.view.timer
  pub wait : h.state.view.wait ≡ x.view.wait
  pub parent : h.state.view.parent ≡ x.view.parent
  pub draws : h.state.view.draws ≡ x.view.draws
  pub first_draws : h.state.view.first_draws ≡ x.view.first_draws
  pub timed_out : h.state.view.timed_out ≡ x.view.timed_out
  pub child : (k : ℕ) → leads_down h.state.view.ports k ≡ leads_down x.view.ports k
  pub sends : hears_packets x.view.phase ≡ false → h.sends ≡ []
  pub calm : (k : ℕ) → has_reset (sent_on k h.sends) ≡ false

-- a Reset did
pub record EntersReset (x : NodeState) (h : Step) : Type 0 where
  pub before : is_resetting x.view.phase ≡ false
  pub phase : h.state.view.phase ≡ ResetStart
  pub timer : h.state.view.timer ≡ 0
  pub draws : h.state.view.draws ≡ 0
  pub first_draws : h.state.view.first_draws ≡ 0

pub record HearsWell (signals : List (ℕ × Signal)) (x : NodeState) : Type 0 where
  pub valid : IsValid (hear_all signals x).state
  pub timing : (hear_all signals x).state.timing ≡ x.timing
  pub cables :
      (k : ℕ) → is_connected (hear_all signals x).state.view.ports k ≡ is_connected x.view.ports k
  pub cases : NoEntry x (hear_all signals x) ⊎ EntersReset x (hear_all signals x)
  -- a Reset that comes to a port with a cable leaves the node in R0
  pub enters :
      (k : ℕ) → is_connected x.view.ports k ≡ true → has_reset (sent_on k signals) ≡ true →
      is_resetting (hear_all signals x).state.view.phase ≡ true
  pub shown :
      (k : ℕ) → is_connected x.view.ports k ≡ true →
      level_shown (hear_all signals x).state k ≡ level_after (level_shown x k) (sent_on k signals)
  pub says :
      (k : ℕ) → is_connected x.view.ports k ≡ true →
      level_after (level_sent_at x k) (sent_on k (hear_all signals x).sends)
      ≡ level_sent_at (hear_all signals x).state k
  pub watches : HeedsReset x → HeedsReset (hear_all signals x).state
  -- what is sent takes no Parent back, and is none
  pub takes_none_back : (k : ℕ) → has_no_takeback (sent_on k (hear_all signals x).sends) ≡ true
  pub asks_none : (k : ℕ) → has_no_parent_signal (sent_on k (hear_all signals x).sends) ≡ true

-- ---- ticking

abbrev pub risen : ℕ → ℕ
risen t = min (t + 1) 65535

-- of a turn of its clock, which may be missed
pub record TicksWell (b : Option Bool) (x : NodeState) : Type 0 where
  pub valid : IsValid (on_beat b x).state
  pub timing : (on_beat b x).state.timing ≡ x.timing
  pub cables : (k : ℕ) → is_connected (on_beat b x).state.view.ports k ≡ is_connected x.view.ports k
  pub shown : (k : ℕ) → level_shown (on_beat b x).state k ≡ level_shown x k
  pub says :
      (k : ℕ) → is_connected x.view.ports k ≡ true →
      level_after (level_sent_at x k) (sent_on k (on_beat b x).sends)
      ≡ level_sent_at (on_beat b x).state k
  -- no tick begins a reset or sends a Reset
  pub out : is_resetting x.view.phase ≡ false → is_resetting (on_beat b x).state.view.phase ≡ false
  pub calm : (k : ℕ) → has_reset (sent_on k (on_beat b x).sends) ≡ false
  -- in R0, before the hold is over
  pub holds :
      is_resetting x.view.phase ≡ true → x.view.timer + 1 < x.timing.hold → x.timing.hold ≤ 65535 →
      (is_resetting (on_beat b x).state.view.phase ≡ true)
      × (x.view.timer ≤ (on_beat b x).state.view.timer) × ((on_beat b x).state.view.timer ≤ x.view.timer + 1) × ((on_beat b x).sends ≡ [])
  -- the timer rises there, unless the turn is missed
  pub rises :
      is_resetting x.view.phase ≡ true → x.view.timer + 1 < x.timing.hold → x.timing.hold ≤ 65535 →
      (b ≡ None) ⊎ ((on_beat b x).state.view.timer ≡ x.view.timer + 1)
  -- where the timer tells, it rose with nothing sent, or begins anew
  pub timed :
      is_timed (on_beat b x).state.view.phase ≡ true →
      (((on_beat b x).state.view.phase ≡ x.view.phase) × ((on_beat b x).state.view.timer ≤ x.view.timer + 1) × ((on_beat b x).sends ≡ []))
      ⊎ ((on_beat b x).state.view.timer ≡ 0)
  pub between :
      is_after_hold (on_beat b x).state.view.phase ≡ true →
      (is_after_hold x.view.phase ≡ true)
      ⊎ ((is_resetting x.view.phase ≡ true) × (x.timing.hold ≤ risen x.view.timer))
  pub watches :
      (k : ℕ) → is_connected x.view.ports k ≡ true →
      (level_shown x k ≡ level.Reset → is_in_bus_reset x.view.phase ≡ true) →
      level_shown x k ≡ level.Reset → is_in_bus_reset (on_beat b x).state.view.phase ≡ true
  pub early :
      (k : ℕ) → is_connected x.view.ports k ≡ true → shows_no_notice (level_shown x k) ≡ true →
      (is_before_tree x.view.phase || is_asking x k) ≡ true →
      (is_before_tree (on_beat b x).state.view.phase || is_asking (on_beat b x).state k) ≡ true
  pub no_notice :
      (k : ℕ) → is_connected x.view.ports k ≡ true →
      is_before_tree (on_beat b x).state.view.phase ≡ true →
      has_no_notice (sent_on k (on_beat b x).sends) ≡ true
  -- a parent port that shows no Parent stays the parent port
  pub parent :
      (k : ℕ) → is_port x.view.parent k ≡ true → is_parent (level_shown x k) ≡ false →
      is_port (on_beat b x).state.view.parent k ≡ true
  -- no Parent is sent to a child
  pub asks_no_child :
      (k : ℕ) → is_connected x.view.ports k ≡ true →
      leads_down (on_beat b x).state.view.ports k ≡ true →
      has_no_parent_signal (sent_on k (on_beat b x).sends) ≡ true
  -- how a port becomes a child port
  pub child :
      (k : ℕ) → is_connected x.view.ports k ≡ true →
      leads_down (on_beat b x).state.view.ports k ≡ true →
      (leads_down x.view.ports k ≡ true)
      ⊎ (((x.view.phase ≡ TreeStart) × (level_shown x k ≡ level.Parent)) ⊎ ((x.view.phase ≡ Contend) × (x.view.parent ≡ Some k) × (level_shown x k ≡ level.Parent) × (x.view.wait ≤ risen x.view.timer)))
  -- a contention goes on, or begins
  pub contend :
      (on_beat b x).state.view.phase ≡ Contend →
      ((x.view.phase ≡ Contend) × ((on_beat b x).state.view.parent ≡ x.view.parent) × ((on_beat b x).state.view.timer ≤ x.view.timer + 1) × ((on_beat b x).state.view.wait ≡ x.view.wait))
      ⊎ (((on_beat b x).state.view.timer ≡ 0) × (((on_beat b x).state.view.wait ≡ x.timing.short) ⊎ ((on_beat b x).state.view.wait ≡ x.timing.long)))
  -- what is sent at once takes no Parent back, or has none
  pub batch :
      (k : ℕ) → is_connected x.view.ports k ≡ true →
      (has_no_takeback (sent_on k (on_beat b x).sends) || has_no_parent_signal (sent_on k (on_beat b x).sends))
      ≡ true
  -- a node that asks its parent, and is shown Idle, doesn't take it back
  pub asks :
      (k : ℕ) → is_connected x.view.ports k ≡ true → is_shaking x.view.phase ≡ true →
      is_port x.view.parent k ≡ true → level_shown x k ≡ level.Idle →
      has_no_takeback (sent_on k (on_beat b x).sends) ≡ true
