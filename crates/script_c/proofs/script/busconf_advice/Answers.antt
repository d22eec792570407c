use Rattle.script_advice.specs.Advice.{IsAdvice, EndsWithoutLoop}
use Rattle.script_c.proofs.Stopped.{tells_read, tells_only}
use Rattle.script_c.proofs.script.busconf_advice.Goals as goal

pub returns-clause-answer : goal.returns-clause-answer
returns-clause-answer c = λ few.
    tells_read c.advise_script.result _ _ _ _ _ _ _ c.tell_text.ensures.text c.tell_text.ensures.stop
    (EndsWithoutLoop c.args.bytes.now) (IsAdvice c.args.bytes.now) c.advise_script.ensures.no_loop c.advise_script.ensures.refused

pub returns-clause-only : goal.returns-clause-only
returns-clause-only c = λ few told is there.
    tells_only c.advise_script.result _ _ _ _ _ _ _ c.tell_text.ensures.text c.tell_text.ensures.stop
    (IsAdvice c.args.bytes.now) c.advise_script.ensures.only c.advise_script.ensures.exact told is there
