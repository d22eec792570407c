use Rattle.std.specs.Prelude.{Ok}
use Rattle.script_told.specs.Run.{IsResult}
use Rattle.script_trace.specs.waves.Waves.{IsWaves}
use Rattle.script_c.proofs.Stopped.{tells_read, tells_only}
use Rattle.script_c.proofs.script.busconf_waves.Goals as goal

pub returns-clause-answer : goal.returns-clause-answer
returns-clause-answer c = λ few.
    tells_read c.dump_script.result _ _ _ _ _ _ _ c.tell_text.ensures.text c.tell_text.ensures.stop
    (λ dump. IsWaves c.args.bytes.now (Ok dump)) (IsResult c.args.bytes.now) c.dump_script.ensures.dumped c.dump_script.ensures.refused

pub returns-clause-only : goal.returns-clause-only
returns-clause-only c = λ few told is there.
    tells_only c.dump_script.result _ _ _ _ _ _ _ c.tell_text.ensures.text c.tell_text.ensures.stop
    (IsWaves c.args.bytes.now) c.dump_script.ensures.only c.dump_script.ensures.exact told is there
