use Rattle.std.proofs.Common.{◌∙◌, ◌-◌, refl, sym, arith}
use Rattle.std.proofs.lemmas.List.{length-map}
use Rattle.world_agenda.proofs.Turns.{some-left, one-done, none-left}
use Rattle.world_agenda.proofs.agenda.AgendaWorldWorldRun.run_turns.Goals as goal

pub loop-left-init : goal.loop-left-init
loop-left-init g c = record {
  sound = c.pass_over.ensures.sound;
  nodes = c.pass_over.ensures.nodes;
  turns = omega (arith, c.pass_over.ensures.turns, c.pass_over.ensures.most);
  leads = some-left c.pass_over.result (c.args.count - c.pass_over.result) c.args.count _ _ c.pass_over.ensures.most refl c.pass_over.ensures.done;
}

pub loop-left-preserved : goal.loop-left-preserved
loop-left-preserved g c =
    let before = c.loop-left.invariant in
    let turn = c.in_ok-turn.ensures in
    let pass = c.pass_over-left.ensures in
    let left = c.loop-left.left in
    let p = c.pass_over-left.result in
    record {
      sound = pass.sound;
      nodes = pass.nodes ∙ sym (length-map c.turn.new.self.nodes.items _) ∙ turn.passed.nodes ∙ length-map c.loop-left.self.nodes.items _ ∙ before.nodes;
      turns = omega (arith, c.loop-left-test.true, turn.passed.turns, pass.turns, pass.most, before.turns);
      leads = some-left p (left - 1 - p) (left - 1) _ _ pass.most refl pass.done ∙ one-done left _ _ c.loop-left-test.true turn.done ∙ before.leads;
    }

pub returns-clause-done : goal.returns-clause-done
returns-clause-done g c = none-left c.loop-left.left _ _ c.loop-left-test.false c.loop-left.invariant.leads
