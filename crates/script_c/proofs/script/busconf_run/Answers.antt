use Rattle.script_told.specs.Run.{IsResult}
use Rattle.script_run.specs.Answer.{PrintsRun}
use Rattle.script_c.proofs.Stopped.{tells_read, tells_only}
use Rattle.script_c.proofs.script.busconf_run.Goals as goal

pub returns-clause-answer : goal.returns-clause-answer
returns-clause-answer c = λ few.
    tells_read c.run_script.result _ _ _ _ _ _ _ c.tell_text.ensures.text c.tell_text.ensures.stop
    (PrintsRun c.args.bytes.now) (IsResult c.args.bytes.now) c.run_script.ensures.printed c.run_script.ensures.refused

pub returns-clause-only : goal.returns-clause-only
returns-clause-only c = λ few told is there.
    tells_only c.run_script.result _ _ _ _ _ _ _ c.tell_text.ensures.text c.tell_text.ensures.stop
    (IsResult c.args.bytes.now) c.run_script.ensures.only c.run_script.ensures.exact told is there
