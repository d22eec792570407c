use Rattle.std.proofs.Common.{◌∙◌, ℕ, List, ◌++◌, refl, sym, ap}
use Rattle.script_run.proofs.Told.{report-written}
use Rattle.script_run.proofs.readings.TextsWriter.write.Goals as goal

pub returns-then-not-prints : goal.returns-then-not-prints
returns-then-not-prints c = λ text says. record {
  added = text;
  is = refl;
  after_is = c.in_ok-put_text.ensures ∙ ap (λ (l : List ℕ). c.args.out.now.items ++ l) (sym (rw c.if-not-prints.true at says));
}

pub returns : goal.returns
returns c = λ text says. record {
  added = text;
  is = refl;
  after_is = report-written c.reports_have_one_text.ensures c.args.stage.now c.args.words.items c.in_ok-report.report.items text _ _ _ c.in_ok-put_text.ensures
      c.in_ok-put_text-2.ensures c.in_ok-report.ensures (rw c.if-not-prints.false at says);
}
