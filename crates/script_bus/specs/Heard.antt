-- What a listener writes down of a command.
use Rattle.std.specs.Prelude.{◌≡◌, ℕ, List, [], ◌++◌}
use Rattle.script_lines.specs.declared.command.Command.{Command}
use Rattle.script_told.specs.Bus.{Bus}
use Rattle.script_trace.specs.Voice.{Voice}
use Rattle.script_trace.specs.Trace.{Traces}

-- nothing is told
abbrev pub silence : Voice
silence = record {
  command = λ turn command. [];
  since = λ legend seen w. [];
}

-- a command led from a bus to the next, and a listener added what its voice tells of that to its text
pub record Hears (voice : Voice) (bus : Bus) (command : Command) (after : Bus) (out new : List ℕ) :
    Type 0 where
  pub lines : List ℕ
  pub traces : Traces voice bus command after lines
  pub written : new ≡ out ++ lines
