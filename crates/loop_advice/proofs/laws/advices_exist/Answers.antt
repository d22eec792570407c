use Rattle.loop_advice.proofs.SomeAdvice.{some_advice}
use Rattle.loop_advice.proofs.laws.advices_exist.Goals as goal

pub returns : goal.returns
returns c = some_advice
