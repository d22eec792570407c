use Rattle.std.specs.Prelude.{Ok}
use Rattle.script_told.specs.Run.{IsResult}
use Rattle.script_trace.specs.Trace.{IsTrace}
use Rattle.script_c.proofs.Stopped.{tells_read, tells_only}
use Rattle.script_c.proofs.script.busconf_trace.Goals as goal

pub returns-clause-answer : goal.returns-clause-answer
returns-clause-answer c = λ few.
    tells_read c.trace_script.result _ _ _ _ _ _ _ c.tell_text.ensures.text c.tell_text.ensures.stop
    (λ lines. IsTrace c.args.bytes.now (Ok lines)) (IsResult c.args.bytes.now) c.trace_script.ensures.traced c.trace_script.ensures.refused

pub returns-clause-only : goal.returns-clause-only
returns-clause-only c = λ few told is there.
    tells_only c.trace_script.result _ _ _ _ _ _ _ c.tell_text.ensures.text c.tell_text.ensures.stop
    (IsTrace c.args.bytes.now) c.trace_script.ensures.only c.trace_script.ensures.exact told is there
