use Rattle.std.proofs.Common.{◌≡◌, Ok, Err, Option, Result}
use Rattle.script_lines.specs.declared.kind.Kind.{Kind}
use Rattle.script_lines.specs.declared.command.Command.{Command}
use Rattle.script_words.proofs.sentence.fault_of.Goals as goal

apart : (kind : Kind) (command : Option Command) →
    ◌≡◌ {A = Result (Option Command) Kind} (Err kind) (Ok command) → ⊥
apart kind command e = cc

pub returns-in-Ok : goal.returns-in-Ok
returns-in-Ok c = λ kind bad. apart kind c.in-Ok._command (c.in-Ok.ensures.only (Err kind) bad)
