-- Commands that declare, and those that don't.
use Rattle.std.proofs.Common.{◌⊎◌, inl, inr, ℕ, List}
use Rattle.std.specs.Prelude.{Ok}
use Rattle.script_lines.specs.declared.command.Command.{Command}
use Rattle.script_lines.specs.declared.command.Command.TheVariants.{Node, Delay, Times, Clock}
use Rattle.script_told.specs.Bus.{Bus}
use Rattle.script_told.specs.Script.{Stage, running, DoesAtStage}
use Rattle.script_told.specs.ScriptEvents.{Declares}

pub declares-or-not : (c : Command) → Declares c ⊎ (Declares c → ⊥)
declares-or-not (Node name ports speed link contender force power gap gap_reset hold short long word len seed packed) = inl tt
declares-or-not (Delay delay) = inl tt
declares-or-not (Times standard nanoseconds) = inl tt
declares-or-not (Clock name ppm first) = inl tt
declares-or-not c = inr (λ h. h)

-- a command of a bus that runs declares nothing
pub late : (bus : Bus) (c : Command) (next : Stage) (text : List ℕ) → Declares c → DoesAtStage (running bus) c (Ok (next, text)) → ⊥
late bus (Node name ports speed link contender force power gap gap_reset hold short long word len seed packed) next text d does = absurd cc
late bus (Delay delay) next text d does = absurd cc
late bus (Times standard nanoseconds) next text d does = absurd cc
late bus (Clock name ppm first) next text d does = absurd cc
late bus c next text d does = d
