use Rattle.bus_cli.specs.declared.form.Form.TheVariants.{Rom, Advice, Make, OfItself}
use Rattle.bus_cli.specs.codings.Reading.{status_with, text_with}
use Rattle.top_call.proofs.Lemmas.{some_left}
use Rattle.bus_cli.proofs.Ends.{of_known}
use Rattle.bus_cli.proofs.asked.FormAsked.read.Goals as goal

pub returns-in_ok-answer_to_make-in-Make-clause-answer : goal.returns-in_ok-answer_to_make-in-Make-clause-answer
returns-in_ok-answer_to_make-in-Make-clause-answer g c =
    let left = some_left (g.S.Source.left c.args.source.now) in
    let answer = c.in_ok-answer_to_make-in-Make.field-0 in
    let make = Make c.in-Make.nodes c.in-Make.seed in
    let is = of_known c.args.self make c.in-Make.is left.0 (status_with answer) (text_with answer) c.in_ok-answer_to_make-in-Make.ensures in
    (left.0, left.1, is, tt)

pub returns-in_ok-answer_of_itself-in-OfItself-clause-answer :
    goal.returns-in_ok-answer_of_itself-in-OfItself-clause-answer
returns-in_ok-answer_of_itself-in-OfItself-clause-answer g c =
    let left = some_left (g.S.Source.left c.args.source.now) in
    let answer = c.in_ok-answer_of_itself-in-OfItself.field-0 in
    let is = of_known c.args.self (OfItself c.in-OfItself.about) c.in-OfItself.is left.0 (status_with answer) (text_with answer) c.in_ok-answer_of_itself-in-OfItself.ensures in
    (left.0, left.1, is, tt)

pub returns-in_ok-answer_to_rom-in-Rom-clause-answer : goal.returns-in_ok-answer_to_rom-in-Rom-clause-answer
returns-in_ok-answer_to_rom-in-Rom-clause-answer g c =
    let bytes = c.in_ok-rom-in-Rom.rom.items in
    let answer = c.in_ok-answer_to_rom-in-Rom.field-0 in
    let answers = rw c.deref.ensures.value at c.in_ok-answer_to_rom-in-Rom.ensures in
    let is = of_known c.args.self Rom c.in-Rom.is bytes (status_with answer) (text_with answer) answers in
    (bytes, c.in_ok-rom-in-Rom.ensures.all, is, tt)

pub returns-in_ok-answer_to_advice-in-Advice-clause-answer : goal.returns-in_ok-answer_to_advice-in-Advice-clause-answer
returns-in_ok-answer_to_advice-in-Advice-clause-answer g c =
    let bytes = c.in_ok-bytes-in-Advice.bytes.items in
    let answer = c.in_ok-answer_to_advice-in-Advice.field-0 in
    let answers = rw c.deref-in-Advice.ensures.value at c.in_ok-answer_to_advice-in-Advice.ensures in
    let is = of_known c.args.self Advice c.in-Advice.is bytes (status_with answer) (text_with answer) answers in
    (bytes, c.in_ok-bytes-in-Advice.ensures.all, is, tt)
