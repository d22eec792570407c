use Rattle.std.proofs.Common.{◌∙◌, All, List, get_or, sym, ap, subst}
use Rattle.cable_world.proofs.Lemmas.{lawful-now}
use Rattle.script_text.specs.ReportText.{Names}
use Rattle.script_advice.specs.declared.advice.LoopAdvice.{LoopAdvice}
use Rattle.script_advice.specs.Advice.{advice_text}
use Rattle.script_advice.specs.Advising.{IsNamedAdvice}
use Rattle.script_advice.proofs.Lemmas.{named-now, pullable-now}
use Rattle.script_bus.proofs.bus.Bus.told_advices.Goals as goal

pub advice_text-requires : goal.advice_text-requires
advice_text-requires c = λ i d within.
    let w = c.args.self.now.world in
    let names = c.args.self.now.notes.names in
    let named = named-now w names c.args.self.now.notes.report c.in_ok-advices.advices.items c.buses_are_sound.ensures.report c.requires c.in_ok-advices.ensures in
    let all = subst (λ (advices : List LoopAdvice). All (IsNamedAdvice names) advices) (sym c.deref.ensures.value) named in
    subst (λ (ns : Names). IsNamedAdvice ns (get_or c.deref.result.now i d)) (sym c.names.ensures) (all i d within)

pub returns-clause-text : goal.returns-clause-text
returns-clause-text c =
    c.in_ok-text.ensures ∙ ap (λ (ns : Names). advice_text ns c.deref.result.now) c.names.ensures
    ∙ ap (advice_text c.args.self.now.notes.names) c.deref.ensures.value

pub returns-clause-pulls : goal.returns-clause-pulls
returns-clause-pulls c =
    let w = c.args.self.now.world in
    let lawful = lawful-now w c.buses_are_sound.ensures.reached in
    pullable-now w c.args.self.now.notes.report c.in_ok-advices.advices.items lawful.well_formed.cabling c.requires c.in_ok-advices.ensures
