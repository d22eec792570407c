-- The list of a node's tree at the end of a script.
use Rattle.std.specs.Prelude.{◌≡◌, ℕ, ◌+◌, List, length, Result, Ok, Err}
use Rattle.script_lines.specs.declared.kind.Kind.{Kind}
use Rattle.script_lines.specs.declared.kind.ScriptFault.{ScriptFault}
use Rattle.script_told.specs.Bus.{Bus}
use Rattle.script_told.specs.Script.{fault_at, script_lines}
use Rattle.script_told.specs.Run.{ScriptRun, IsRun}
use Rattle.script_bus.specs.Listed.{list_of}

-- the list, or the fault of a line with this number
abbrev pub at_line : ℕ → Result (List ℕ) Kind → Result (List ℕ) ScriptFault
at_line number (Ok list) = Ok list
at_line number (Err kind) = Err (fault_at number kind)

-- the list of the node with a name on the bus at the end of a run, or the run's fault
abbrev pub listed_at : ℕ → List ℕ → Result Bus ScriptFault → Result (List ℕ) ScriptFault
listed_at number name (Ok bus) = at_line number (list_of bus name)
listed_at number name (Err fault) = Err fault

-- What a script lists of the node with a name: when the `settle` behind its last line is done, the list
-- of the node's tree. Where there is none, that is refused under the number of lines and 1.
abbrev pub IsListed : List ℕ → List ℕ → Result (List ℕ) ScriptFault → Type 0
IsListed bytes name answer =
    (run : ScriptRun) × IsRun bytes run
    × (answer ≡ listed_at (length (script_lines bytes) + 1) name run.end)
