use Rattle.std.proofs.Common.{◌∙◌, sym}
use Rattle.std.proofs.lemmas.Bool.{false≢true}
use Rattle.log_line.specs.Marks.{begins_loss}
use Rattle.log_line.proofs.Lemmas.{no_mark, nothing_shown}
use Rattle.reset_log.proofs.log.LogReader.is_idle.Goals as goal
use Rattle.reset_log.proofs.log.LogReader.is_idle.Goals.{then-quiet, else-quiet}

pub returns-then-is_whole-clause-none : goal.returns-then-is_whole-clause-none
returns-then-is_whole-clause-none c = λ yes. elim c.if-quiet.branch [
  | then-quiet w ↦
      let few = w.is_whole.ensures.few (sym w.value-is ∙ c.if-is_whole.true) in
      let unmarked = c.requires.unmarked w.if-quiet.true in
      nothing_shown c.args.bytes.now few unmarked
      (no_mark (begins_loss c.args.bytes.now) c.begins_loss.result c.begins_loss.ensures yes)
  | else-quiet w ↦ absurd (false≢true (sym w.if-quiet.false ∙ sym w.value-is ∙ c.if-is_whole.true))
]
