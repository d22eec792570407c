use Rattle.std.proofs.Common.{ℕ, List, subst}
use Rattle.std.specs.Prelude.{Err}
use Rattle.script_run.specs.Listed.{IsListed}
use Rattle.script_c.specs.Answers.{TellsScript, HasCapture}
use Rattle.script_c.proofs.captured.busconf_capture.Goals as goal

pub returns-clause-answer : goal.returns-clause-answer
returns-clause-answer c = λ few named. subst (λ (name : List ℕ). TellsScript (HasCapture c.args.bytes.now name) (λ f. IsListed c.args.bytes.now name (Err f)) c.args.place.now c.tell_list.new.place c.args.needed.now c.tell_list.new.needed c.args.fault.now c.tell_list.new.fault c.tell_list.result) c.in-Some.ensures.value c.tell_list.ensures
