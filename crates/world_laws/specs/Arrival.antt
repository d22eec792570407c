-- What is heard over a cable: each signal that is sent, within d turns, in order and once, unless the
-- cable is pulled first.
use Rattle.std.specs.Prelude.{◌≡◌, ◌≢◌, ◌+◌, ◌≤◌, All, List, [], ◌∷◌, ◌++◌, Option, None, Some, slice_get, if◌then◌else◌}
use Rattle.cabling.specs.declared.cable.End.{End}
use Rattle.cabling.specs.Wiring.{far, ports_of}
use Rattle.port_state.specs.declared.signal.Signal.{Signal}
use Rattle.port_state.specs.declared.signal.Signal.TheVariants as signal
use Rattle.port_state.specs.Sends.{sent_on}
use Rattle.port_state.specs.Machine.{PortNode}
use Rattle.cable_world.specs.declared.act.Act.{Act}
use Rattle.cable_world.specs.declared.act.Act.TheVariants.{Pull}
use Rattle.cable_world.specs.declared.wire.Travelling.{Travelling}
use Rattle.cable_world.specs.World.{CableWorld, wire_of}
use Rattle.cable_world.specs.Turn.{inbox, turn_at}
use Rattle.cable_world.specs.Run.{ComesOfPowerOn}
use Rattle.cable_world.specs.Events.{Event, acts, holds, turns, Runs, turn_count}
use Rattle.cable_world.specs.Signals.{signals_of}
use Rattle.world_laws.specs.Touched.{is_touched}

-- what a port hears in a turn of this world, the oldest first
abbrev pub heard_at : End → CableWorld → List Signal
heard_at b w = sent_on b.port (inbox w 0 (ports_of w.cabling b.node))

-- what a port hears in the turns of a run, the oldest first
abbrev pub heard_in :
    End → (events : List Event) → (w v : CableWorld) → Runs events w v → List Signal
heard_in b [] w v run = []
heard_in b (acts a ∷ events) w v run = heard_in b events run.0 v run.2
heard_in b (holds end k ∷ events) w v run = heard_in b events run.0 v run.2
heard_in b (turns ∷ events) w v run = heard_at b w ++ heard_in b events run.0 v run.2

-- what a node, if it is there, sends on its port at an end in a turn
abbrev pub sends_at : CableWorld → End → Option PortNode → List Signal
sends_at w a None = []
sends_at w a (Some x) = sent_on a.port (turn_at w a.node x).sends

-- what is sent at an end in a turn of this world, by the node's own step
abbrev pub sent_at : End → CableWorld → List Signal
sent_at a w = sends_at w a (slice_get w.nodes a.node)

-- what is sent there in an act: a Reset, where the act resets the node
abbrev pub sent_in_act : End → Act → CableWorld → List Signal
sent_in_act a act w = if is_touched act w a.node then signal.Reset ∷ [] else []

-- what is sent there in a run, the oldest first
abbrev pub sent_in :
    End → (events : List Event) → (w v : CableWorld) → Runs events w v → List Signal
sent_in a [] w v run = []
sent_in a (acts act ∷ events) w v run = sent_in_act a act w ++ sent_in a events run.0 v run.2
sent_in a (holds end k ∷ events) w v run = sent_in a events run.0 v run.2
sent_in a (turns ∷ events) w v run = sent_at a w ++ sent_in a events run.0 v run.2

-- no act pulls the cable at one of these ends
abbrev pub NonePulls : End → End → List Event → Type 0
NonePulls a b events = All (λ e. (e ≢ acts (Pull a)) × (e ≢ acts (Pull b))) events

-- a run in which a cable joins two ends, and no act pulls it
pub record IsJoined (w : CableWorld) (events : List Event) (a b : End) : Type 0 where
  pub comes : ComesOfPowerOn w
  pub cable : far w.cabling a ≡ Some b
  pub unpulled : NonePulls a b events

-- ---- laws

-- the cable is there at the end of the run
abbrev pub CablesStay : Type 0
CablesStay =
    (w v : CableWorld) (events : List Event) (a b : End) → IsJoined w events a b →
    Runs events w v → far v.cabling a ≡ Some b

-- A signal that has been under way for so many turns is heard at the far end once d turns are full,
-- right behind those that are under way before it.
abbrev pub SignalsArrive : Type 0
SignalsArrive =
    (w v : CableWorld) (events : List Event) (run : Runs events w v) (a b : End)
    (before : List Travelling) (t : Travelling) (after : List Travelling) →
    IsJoined w events a b → (wire_of w a).signals ≡ before ++ t ∷ after →
    w.delay ≤ t.age + turn_count events →
    (later : List Signal) × (heard_in b events w v run ≡ signals_of before ++ t.signal ∷ later)

-- What was heard, and then what is under way, is what was under way, and then what the node at the
-- other end sent since: nothing is lost, heard twice or heard out of order.
abbrev pub SignalsKeepTheirOrder : Type 0
SignalsKeepTheirOrder =
    (w v : CableWorld) (events : List Event) (run : Runs events w v) (a b : End) →
    IsJoined w events a b →
    heard_in b events w v run ++ signals_of (wire_of v a).signals
    ≡ signals_of (wire_of w a).signals ++ sent_in a events w v run

-- What is sent has been heard d turns later: after a run and d turns more, what was under way at its
-- beginning and then what was sent in it is what was heard first.
abbrev pub SentSignalsArrive : Type 0
SentSignalsArrive =
    (w u v : CableWorld) (first later : List Event) (run : Runs first w u) (on : Runs later u v)
    (a b : End) → IsJoined w first a b → NonePulls a b later → w.delay ≤ turn_count later →
    (rest : List Signal)
    × (heard_in b first w u run ++ heard_in b later u v on
    ≡ (signals_of (wire_of w a).signals ++ sent_in a first w u run) ++ rest)
