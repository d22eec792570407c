use Rattle.std.proofs.Common.{◌+◌, ◌-◌, ◌∙◌, refl, ap, sym, arith}
use Rattle.cable_world.specs.Turn.{turn, turns_after}
use Rattle.script_trace.proofs.Walked.{all-told}
use Rattle.script_trace.proofs.Turns.{next-turn, no-turn-left, none-passed}
use Rattle.script_trace.proofs.steps.hear_each.Goals as goal

pub loop-done-init : goal.loop-done-init
loop-done-init g c =
    let w = g.W.WorldRun.world c.args.world.now in
    let voice = g.L.Listener.voice in
    let legend = c.args.legend.now in
    let pass = c.in_ok-done.ensures in
    let k = c.in_ok-done.done in
    record {
      few = pass.most;
      is = pass.done;
      heard = none-passed voice legend c.args.count k (c.args.count - k) w _ (g.L.Listener.written c.args.listener.now) _ (omega (arith, pass.most)) pass.done
          (pass.heard voice legend c.news.ensures) refl;
      passed = pass.passed;
      fine = pass.fine;
    }

pub loop-done-preserved : goal.loop-done-preserved
loop-done-preserved g c =
    let w = g.W.WorldRun.world c.args.world.now in
    let v = g.W.WorldRun.world c.loop-done.world in
    let voice = g.L.Listener.voice in
    let legend = c.args.legend.now in
    let one = c.in_ok-turn_heard.ensures in
    let pass = c.in_ok-done-2.ensures in
    let so = c.loop-done.invariant in
    let done = c.loop-done.done in
    let k = c.in_ok-done-2.field-0 in
    record {
      few = omega (arith, pass.most, c.loop-done-test.true);
      is = pass.done ∙ ap (turns_after k) (one.done ∙ ap turn so.is ∙ sym (c.turns_add_up.ensures.more done w))
          ∙ sym (c.turns_add_up.ensures.add (done + 1) k w);
      heard = none-passed voice legend (c.args.count - (done + 1)) k (c.args.count - (done + 1 + k)) _ _ _ _ (omega (arith, pass.most)) pass.done
          (pass.heard voice legend c.news.ensures)
          (next-turn voice legend c.args.count done v _ (g.L.Listener.written c.loop-done.listener) _ _ c.loop-done-test.true one.done one.heard so.heard);
      passed = record { nodes = pass.passed.nodes ∙ one.passed.nodes ∙ so.passed.nodes; turns = omega (arith, pass.passed.turns, one.passed.turns, so.passed.turns) };
      fine = pass.fine;
    }

pub returns-clause-heard : goal.returns-clause-heard
returns-clause-heard g c =
    all-told (g.L.Listener.written c.loop-done.listener) _ _
    (no-turn-left g.L.Listener.voice c.args.legend.now c.args.count c.loop-done.done (g.W.WorldRun.world c.loop-done.world) c.loop-done-test.false)
    c.loop-done.invariant.heard
