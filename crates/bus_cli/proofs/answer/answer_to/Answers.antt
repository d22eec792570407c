use Rattle.std.proofs.Common.{Result, subst}
use Rattle.topology_stack.specs.Tree.{Tree}
use Rattle.capture_reading.specs.declared.fault.CaptureStop.{CaptureStop}
use Rattle.bus_cli.specs.Form.{standard_of}
use Rattle.bus_cli.specs.codings.Reading.{IsReadAs}
use Rattle.bus_cli.proofs.Ends.{shown, stopped}
use Rattle.bus_cli.proofs.answer.answer_to.Goals as goal

pub returns-in_ok-shown_text-in-Ok-clause-answer : goal.returns-in_ok-shown_text-in-Ok-clause-answer
returns-in_ok-shown_text-in-Ok-clause-answer c = λ bytes reads.
    shown c.args.form bytes c.in-Ok.tree _
    (subst (λ (r : Result Tree CaptureStop). IsReadAs (standard_of c.args.form) bytes r) c.in-Ok.is reads)
    c.in_ok-shown_text-in-Ok.ensures

pub returns-in-Err-clause-answer : goal.returns-in-Err-clause-answer
returns-in-Err-clause-answer c = stopped c.args.form c.args.reading c.in-Err.stop c.answer_to_stop.result c.in-Err.is c.answer_to_stop.ensures.answer
