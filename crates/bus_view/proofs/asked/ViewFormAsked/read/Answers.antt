use Rattle.bus_view.specs.declared.form.ViewForm.TheVariants.{Script, OfItself}
use Rattle.bus_view.proofs.Ends.{of_known}
use Rattle.bus_view.proofs.ReadBack.{told_of}
use Rattle.bus_view.proofs.asked.ViewFormAsked.read.Goals as goal
use Rattle.top_call.proofs.Lemmas.{some_left}

pub returns-in_ok-view_script-in-Script-clause-answer :
    goal.returns-in_ok-view_script-in-Script-clause-answer
returns-in_ok-view_script-in-Script-clause-answer g c =
    let left = some_left (g.S.Source.left c.args.source.now) in
    let view = c.in_ok-view_script-in-Script.field-0 in
    let script = Script c.in-Script.nodes c.in-Script.seed in
    let is = of_known c.args.self script c.in-Script.is left.0 view.status view.text.items c.in_ok-view_script-in-Script.ensures in
    let told = told_of c.args.self script c.in-Script.is left.0 view.status view.text.items tt in
    (left.0, left.1, is, told)

pub returns-in_ok-view_of_itself-in-OfItself-clause-answer :
    goal.returns-in_ok-view_of_itself-in-OfItself-clause-answer
returns-in_ok-view_of_itself-in-OfItself-clause-answer g c =
    let left = some_left (g.S.Source.left c.args.source.now) in
    let view = c.in_ok-view_of_itself-in-OfItself.field-0 in
    let is = of_known c.args.self (OfItself c.in-OfItself.about) c.in-OfItself.is left.0 view.status view.text.items c.in_ok-view_of_itself-in-OfItself.ensures in
    let told = told_of c.args.self (OfItself c.in-OfItself.about) c.in-OfItself.is left.0 view.status view.text.items tt in
    (left.0, left.1, is, told)
