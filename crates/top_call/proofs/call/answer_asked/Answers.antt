use Rattle.top_call.proofs.Answering.{whole_written}
use Rattle.top_call.proofs.call.answer_asked.Goals as goal

pub returns-in-Ok-write_whole-clause-complete : goal.returns-in-Ok-write_whole-clause-complete
returns-in-Ok-write_whole-clause-complete g c = λ reads writes.
    let told = c.in-Ok.ensures.answer in
    let whole = rw c.text.ensures at c.in-Ok-write_whole.ensures.ok in
    rw c.status.ensures (whole_written (g.A.Asked.answers c.args.asked) c.requires.one _ _ _ _ _ _ told.1 told.2 whole)

pub returns-in-Ok-write_whole-clause-tells : goal.returns-in-Ok-write_whole-clause-tells
returns-in-Ok-write_whole-clause-tells g c = λ which.
    let told = c.in-Ok.ensures.answer in
    let whole = rw c.text.ensures at c.in-Ok-write_whole.ensures.ok in
    rw c.status.ensures (told.0, told.1, _, told.3, whole)
