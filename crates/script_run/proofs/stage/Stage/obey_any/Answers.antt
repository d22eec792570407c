use Rattle.script_run.proofs.stage.Stage.obey_any.Goals as goal

pub returns-clause-done : goal.returns-clause-done
returns-clause-done g c =
    let told = c.in_ok-words.ensures.done in
    let prints = c.prints_report-prints.ensures in
    record {
      text = told.0;
      does = told.2;
      written = rw prints at (c.in_ok-write.ensures told.0 (rw prints told.1));
      heard = c.in_ok-words.ensures.heard;
    }
