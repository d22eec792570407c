-- The numbers of each command that a line says are in their ranges.
use Rattle.std.specs.Prelude.{ℕ, List, Some, Ok}
use Rattle.port_state.specs.declared.ranges.TimeRanges.{TimeRanges}
use Rattle.script_lines.specs.declared.command.Command.{Command}
use Rattle.script_lines.specs.Line.{ReadsLine}
use Rattle.script_lines.specs.Range.{IsInRange}

abbrev pub CommandsAreInRange : Type 0
CommandsAreInRange =
    (times : TimeRanges) (line : List ℕ) (command : Command) →
    ReadsLine times line (Ok (Some command)) → IsInRange times command
