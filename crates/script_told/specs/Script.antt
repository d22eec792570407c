-- A script: its lines, and what a command comes to between two of them.
use Rattle.std.specs.Prelude.{◌≡◌, ℕ, nat_lt, ◌==◌, ◌&&◌, not, is_some, Bool, true, false, List, [], ◌∷◌, ◌++◌, length, slice_get, slice_set, Option, None, Some, unwrap_or, Result, Ok, Err, if◌then◌else◌}
use Rattle.std.specs.List.{slice_split}
use Rattle.self_id.specs.declared.node.Attrs.{Attrs}
use Rattle.self_id.specs.declared.standard.Standard.{Standard}
use Rattle.port_state.specs.Coins.{Coins, coins_of_bits, coins_of_seed}
use Rattle.port_state.specs.declared.timing.Timing.{Timing}
use Rattle.port_state.specs.declared.ranges.TimeRanges.{TimeRanges}
use Rattle.port_state.specs.PowerOn.{power_on_with}
use Rattle.port_state.specs.Clock.{Clock, even, is_even}
use Rattle.port_state.specs.Machine.{PortNode}
use Rattle.cable_world.specs.World.{NodeNumber}
use Rattle.script_lines.specs.declared.kind.Kind.{Kind}
use Rattle.script_lines.specs.declared.kind.Kind.TheVariants.{Twice, Late, TooManyNodes, NoNode, Range}
use Rattle.script_lines.specs.declared.kind.ScriptFault.{ScriptFault}
use Rattle.script_lines.specs.declared.command.Command.{Command}
use Rattle.script_lines.specs.declared.command.Command.TheVariants as command
use Rattle.script_lines.specs.declared.command.Command.TheVariants.{Node, Delay, Times}
use Rattle.script_lines.specs.declared.clock.TooSlow.{TooSlow}
use Rattle.script_lines.specs.declared.times.ScriptTimes.{ScriptTimes}
use Rattle.script_lines.specs.Times.{profile_times, standard_times}
use Rattle.script_lines.specs.Clock.{gap_of, clock_said, slow_ranges}
use Rattle.script_text.specs.ReportText.{Names}
use Rattle.script_told.specs.Bus.{Bus, bus_of_nodes, is_declared, node_named}
use Rattle.script_told.specs.Step.{LineAnswer, Does}

-- ---- lines

-- the lines of a script stand between its line feeds; behind a line feed at its end there is none
abbrev pub without_last_if_empty : List (List ℕ) → List (List ℕ)
without_last_if_empty [] = []
without_last_if_empty (line ∷ []) = if length line == 0 then [] else line ∷ []
without_last_if_empty (line ∷ next ∷ lines) = line ∷ without_last_if_empty (next ∷ lines)

abbrev pub script_lines : List ℕ → List (List ℕ)
script_lines bytes = without_last_if_empty (slice_split (λ c. c == 10) bytes)

-- ---- the nodes that a script declares

-- what was declared so far
pub record Draft : Type 0 where
  -- d: a cable delays a signal by at most so many turns
  pub delay : ℕ
  pub times : ScriptTimes
  pub names : Names
  pub nodes : List PortNode
  -- a clock is slow, and no further node is declared
  pub slowed : Bool

-- nothing but a delay: the times of nodes are the profile's
abbrev pub draft_with : ℕ → Draft
draft_with delay = record {
  delay = delay;
  times = profile_times delay;
  names = [];
  nodes = [];
  slowed = false;
}

-- without a line that says it the delay is 4
abbrev pub first_draft : Draft
first_draft = draft_with 4

-- the times of a node: where one isn't given, the least of its range
abbrev pub times_of : TimeRanges → Option ℕ → Option ℕ → Option ℕ → Timing
times_of ranges hold short long = record ranges.least {
  hold = unwrap_or hold ranges.least.hold;
  short = unwrap_or short ranges.least.short;
  long = unwrap_or long ranges.least.long;
}

-- the coins of a node: those that are given, or of the seed, which is the node's number where none
-- is given
abbrev pub coins_of : ℕ → ℕ → ℕ → Option ℕ → Coins
coins_of number word len seed =
    if len == 0 then coins_of_seed (unwrap_or seed number) else coins_of_bits word len

-- a node that was just powered on; its clock misses no turn
abbrev pub new_node : Attrs → ℕ → Bool → Bool → Timing → Coins → PortNode
new_node attrs ports force resets_gap timing coins = record {
  state = power_on_with resets_gap ports attrs force timing;
  coins = coins;
  clock = even;
}

abbrev pub with_node : Draft → List ℕ → PortNode → Draft
with_node draft name node =
    record draft { names = draft.names ++ name ∷ []; nodes = draft.nodes ++ node ∷ [] }

-- ---- a command

-- between two lines: no command came yet, or nodes were declared, or the bus runs
pub data Stage : Type 0 where
  fresh : Stage
  declaring : Draft → Stage
  running : Bus → Stage

abbrev pub StageAnswer : Type 0
StageAnswer = Result (Stage × List ℕ) Kind

-- what is declared at a stage at which declarations are taken
abbrev pub draft_of : Stage → Option Draft
draft_of fresh = Some first_draft
draft_of (declaring draft) = Some draft
draft_of (running bus) = None

-- the bus that runs from a stage on
abbrev pub bus_of : Stage → Bus
bus_of fresh = bus_of_nodes 4 (profile_times 4) [] []
bus_of (declaring draft) = bus_of_nodes draft.delay draft.times draft.names draft.nodes
bus_of (running bus) = bus

-- the ranges of the times of nodes at a stage
abbrev pub ranges_of : Stage → TimeRanges
ranges_of stage = (bus_of stage).notes.times.ranges

-- a node is declared, where no clock is slow yet, it isn't the 64th and its name is new
abbrev pub Declares : Option Draft → List ℕ → (TimeRanges → ℕ → PortNode) → StageAnswer → Type 0
Declares None name node answer = answer ≡ Err Late
Declares (Some draft) name node answer =
    answer ≡ (if draft.slowed then Err Late
    else if nat_lt 62 (length draft.names) then Err TooManyNodes
    else if is_declared draft.names name then Err Twice
    else Ok (declaring (with_node draft name (node draft.times.ranges (length draft.names))), []))

-- the delay is said, where no command came yet
abbrev pub Delays : Stage → ℕ → StageAnswer → Type 0
Delays fresh delay answer = answer ≡ Ok (declaring (draft_with delay), [])
Delays (declaring draft) delay answer = answer ≡ Err Late
Delays (running bus) delay answer = answer ≡ Err Late

-- no node is declared, and nothing was said of the times of nodes
abbrev pub takes_times : Draft → Bool
takes_times draft = (length draft.names == 0) && not (is_some draft.times.nanoseconds)

-- the nodes that come have these times
abbrev pub with_times : Draft → Result ScriptTimes Kind → StageAnswer
with_times draft (Ok times) = Ok (declaring (record draft { times = times }), [])
with_times draft (Err kind) = Err kind

-- a standard's times are said, where no command but `delay` came yet
abbrev pub SaysTimes : Option Draft → Standard → ℕ → StageAnswer → Type 0
SaysTimes None standard nanoseconds answer = answer ≡ Err Late
SaysTimes (Some draft) standard nanoseconds answer =
    answer ≡ (if takes_times draft then
    with_times draft (standard_times standard draft.delay nanoseconds) else Err Late)

-- the clock of a node is this one, where the ranges of times then are these
abbrev pub with_clock :
    Draft → NodeNumber → PortNode → Clock → Result TimeRanges TooSlow → StageAnswer
with_clock draft number x clock (Ok ranges) = Ok (
  declaring (record draft {
    times = record draft.times { ranges = ranges };
    nodes = slice_set draft.nodes number (record x { clock = clock });
    slowed = true;
  }),
  [],
)
with_clock draft number x clock (Err reason) = Err Range

-- the clock of a node is so many parts per million slower, unless a line before said how slow it is
abbrev pub slows_node : Draft → ℕ → Option ℕ → NodeNumber → Option PortNode → StageAnswer
slows_node draft ppm first number None = Err NoNode
slows_node draft ppm first number (Some x) =
    if is_even x.clock then with_clock draft number x (clock_said ppm first)
    (slow_ranges draft.delay draft.times.ranges x.state.timing (gap_of ppm))
    else Err Twice

-- the same of the node that has a name, else `NoNode`
abbrev pub slows_named : Draft → ℕ → Option ℕ → Option NodeNumber → StageAnswer
slows_named draft ppm first None = Err NoNode
slows_named draft ppm first (Some number) =
    slows_node draft ppm first number (slice_get draft.nodes number)

-- the clock of the node with a name is slow, where the bus doesn't run yet
abbrev pub Slows : Option Draft → List ℕ → ℕ → Option ℕ → StageAnswer → Type 0
Slows None name ppm first answer = answer ≡ Err Late
Slows (Some draft) name ppm first answer =
    answer ≡ slows_named draft ppm first (node_named draft.names name)

-- the bus runs from now on
abbrev pub onwards : LineAnswer → StageAnswer
onwards (Ok (bus, text)) = Ok (running bus, text)
onwards (Err kind) = Err kind

abbrev pub DoesOnBus : Stage → Command → StageAnswer → Type 0
DoesOnBus stage command answer =
    (r : LineAnswer) × Does (bus_of stage) command r × (answer ≡ onwards r)

-- what a command comes to
abbrev pub DoesAtStage : Stage → Command → StageAnswer → Type 0
DoesAtStage stage
    (Node name ports speed link contender force power gap gap_reset hold short long word len seed packed)
    answer = Declares (draft_of stage) name (λ ranges number.
    new_node
    (record {
      link = link;
      gap = gap;
      speed = speed;
      delay = 0;
      contender = contender;
      power = power;
      initiated = false;
    })
    ports force gap_reset (times_of ranges hold short long) (coins_of number word len seed)) answer
DoesAtStage stage (Delay delay) answer = Delays stage delay answer
DoesAtStage stage (Times standard nanoseconds) answer =
    SaysTimes (draft_of stage) standard nanoseconds answer
DoesAtStage stage (command.Clock name ppm first) answer =
    Slows (draft_of stage) name ppm first answer
DoesAtStage stage command answer = DoesOnBus stage command answer

-- ---- faults

-- the text of a script, or its fault
abbrev pub ScriptResult : Type 0
ScriptResult = Result (List ℕ) ScriptFault

abbrev pub fault_at : ℕ → Kind → ScriptFault
fault_at line kind = record { line = line; kind = kind }
