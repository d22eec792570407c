use Rattle.bus_cli.specs.declared.form.Form.TheVariants.{Capture, Rom, Run, Advice, Make, OfItself}
use Rattle.bus_cli.specs.declared.form.CaptureForm.TheVariants.{Read, Read95, Maps}
use Rattle.std.proofs.Common.{[], refl}
use Rattle.top_call.proofs.Lemmas.{unread_written}
use Rattle.bus_cli.proofs.Forms.{few_nodes}
use Rattle.bus_cli.proofs.Ends.{form_written, of_form}
use Rattle.self_id.specs.declared.standard.Standard.TheVariants.{Ieee1995}
use Rattle.bus_cli.proofs.Cables.{cabled, accepted}
use Rattle.bus_cli.proofs.CablesBy.{cabled_by, accepted_by}
use Rattle.bus_cli.proofs.top.bus_main.Goals as goal

pub answer-requires-clause-held : goal.answer-requires-clause-held
answer-requires-clause-held g c = few_nodes c.args.words.now

pub answer-requires-clause-some : goal.answer-requires-clause-some
answer-requires-clause-some g c = c.one_answer.ensures.some c.args.words.now

pub answer-requires-clause-one : goal.answer-requires-clause-one
answer-requires-clause-one g c = c.one_answer.ensures.one c.args.words.now

pub returns-clause-read : goal.returns-clause-read
returns-clause-read g c = λ asks. form_written c.args.words.now (Capture Read) asks _ _ _ _ c.answer.ensures.streams.answer

pub returns-clause-read95 : goal.returns-clause-read95
returns-clause-read95 g c = λ asks. form_written c.args.words.now (Capture Read95) asks _ _ _ _ c.answer.ensures.streams.answer

pub returns-clause-cabling : goal.returns-clause-cabling
returns-clause-cabling g c = λ asks.
    cabled c.bus_trees_are_cabled.ensures.each c.bus_trees_are_cabled.ensures.only c.one_reading.ensures.tree
    c.texts_tell_trees.ensures.trees
    c.answer.result (g.S.Source.left c.args.source.now) _ _
    (form_written c.args.words.now (Capture Read) asks _ _ _ _ c.answer.ensures.streams.answer)

pub returns-clause-accepts : goal.returns-clause-accepts
returns-clause-accepts g c = λ asks.
    accepted c.bus_trees_are_cabled.ensures.only c.args.words.now asks c.answer.result (g.S.Source.left c.args.source.now)
    c.answer.ensures.streams.exact

pub returns-clause-cabling95 : goal.returns-clause-cabling95
returns-clause-cabling95 g c = λ asks.
    cabled_by c.cablings_show_the_bus_trees.ensures c.one_reading.ensures.tree c.texts_tell_trees.ensures.trees
    Ieee1995 c.answer.result (g.S.Source.left c.args.source.now) _ _
    (form_written c.args.words.now (Capture Read95) asks _ _ _ _ c.answer.ensures.streams.answer)

pub returns-clause-accepts95 : goal.returns-clause-accepts95
returns-clause-accepts95 g c = λ asks.
    accepted_by c.cablings_show_the_bus_trees.ensures c.args.words.now asks c.answer.result (g.S.Source.left c.args.source.now)
    c.answer.ensures.streams.exact

pub returns-clause-maps : goal.returns-clause-maps
returns-clause-maps g c = λ asks. form_written c.args.words.now (Capture Maps) asks _ _ _ _ c.answer.ensures.streams.answer

pub returns-clause-rom : goal.returns-clause-rom
returns-clause-rom g c = λ asks. form_written c.args.words.now Rom asks _ _ _ _ c.answer.ensures.streams.answer

pub returns-clause-run : goal.returns-clause-run
returns-clause-run g c = λ asks. form_written c.args.words.now Run asks _ _ _ _ c.answer.ensures.streams.answer

pub returns-clause-advice : goal.returns-clause-advice
returns-clause-advice g c = λ asks. form_written c.args.words.now Advice asks _ _ _ _ c.answer.ensures.streams.answer

pub returns-clause-make : goal.returns-clause-make
returns-clause-make g c = λ nodes seed asks zero.
    let w = unread_written _ _ _ _ _ _ _ _ _ _ _ _ c.answer.ensures.streams (Make nodes seed, asks, tt) zero in
    (w.0, of_form c.args.words.now (Make nodes seed) asks [] 0 w.0 w.1, w.2)

pub returns-clause-itself : goal.returns-clause-itself
returns-clause-itself g c = λ about asks zero.
    let w = unread_written _ _ _ _ _ _ _ _ _ _ _ _ c.answer.ensures.streams (OfItself about, asks, tt) zero in
    (w.0, of_form c.args.words.now (OfItself about) asks [] 0 w.0 w.1, w.2)

pub returns-clause-memory : goal.returns-clause-memory
returns-clause-memory g c = λ five asks. c.answer.ensures.memory five (Capture Read) asks refl
