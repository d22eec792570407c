use Rattle.std.proofs.Common.{[], inr, sym}
use Rattle.std.proofs.lemmas.List.{append-nil}
use Rattle.std.proofs.lemmas.Result.{err_from_is_err_and}
use Rattle.script_lines.specs.declared.command.Command.TheVariants as command
use Rattle.script_told.specs.Script.{ranges_of}
use Rattle.script_run.proofs.Going.{done-fails}
use Rattle.script_run.proofs.stage.Stage.take.Goals as goal

pub returns-in_err-pass-in-Some-clause-stop : goal.returns-in_err-pass-in-Some-clause-stop
returns-in_err-pass-in-Some-clause-stop g c =
    let p = err_from_is_err_and c.from_residual.result c.from_residual.ensures.1 in
    rw (p.1, p.2) (done-fails c.args.self.now c.args.line.now (command.Turn c.in-Some.count) c.in_err-pass-in-Some.field-0.0
    (c.in-Some.ensures.reads (ranges_of c.args.self.now)) c.in_err-pass-in-Some.ensures.stop)

pub returns-in_ok-pass-in-Some-clause-done : goal.returns-in_ok-pass-in-Some-clause-done
returns-in_ok-pass-in-Some-clause-done g c =
    inr (
      command.Turn c.in-Some.count,
      c.in-Some.ensures.reads (ranges_of c.args.self.now),
      record {
        text = [];
        does = c.in_ok-pass-in-Some.ensures.done;
        written = record { added = []; is = g.met.R.Writes.Writer.nothing _; after_is = sym (append-nil c.args.out.now.items) };
        heard = c.in_ok-pass-in-Some.ensures.heard;
      },
    )
