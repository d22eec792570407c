-- The moments of a dump: a turn, or an act between two turns.
use Rattle.std.specs.Prelude.{ℕ, ◌+◌, ◌*◌, ◌/◌, ◌==◌, Option, None, Some, List, [], ◌∷◌, ◌++◌, codes, length, cond}
use Rattle.port_state.specs.Machine.{PortNode}
use Rattle.cable_world.specs.World.{CableWorld, NodeNumber}
use Rattle.script_text.specs.ReportText.{numbered}
use Rattle.script_trace.specs.Event.{Seen}
use Rattle.script_trace.specs.Voice.{Voice}
use Rattle.script_trace.specs.waves.Change.{node_changes}

-- the nodes from a number on, which showed this before
abbrev pub all_changes : CableWorld → NodeNumber → List Seen → List PortNode → List ℕ
all_changes w k (s ∷ seen) (x ∷ nodes) =
    node_changes w k s x.state.view ++ all_changes w (k + 1) seen nodes
all_changes w k seen nodes = []

-- `#T` and these changes, where there are any
abbrev pub at_time : ℕ → List ℕ → List ℕ
at_time time changes =
    cond (length changes == 0) [] (numbered (codes "#") time ++ (codes "\n" ++ changes))

-- The time after so many turns: their number, or in picoseconds where d turns are so many
-- nanoseconds.
abbrev pub time_of : Option ℕ → ℕ → ℕ → ℕ
time_of None d turns = turns
time_of (Some nanoseconds) d turns = turns * nanoseconds * 1000 / d

-- what is other in a world since its nodes showed that
abbrev pub waves_since : Option ℕ → List Seen → CableWorld → List ℕ
waves_since nanoseconds seen w =
    at_time (time_of nanoseconds w.delay w.turns) (all_changes w 0 seen w.nodes)

-- No line of a command stands in a dump.
abbrev pub waves_voice : Voice
waves_voice = record {
  command = λ turn command. [];
  since = λ legend. waves_since legend.nanoseconds;
}
