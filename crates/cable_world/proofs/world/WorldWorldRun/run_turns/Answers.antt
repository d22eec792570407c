use Rattle.std.proofs.Common.{◌∙◌, refl, sym, ap, arith}
use Rattle.std.proofs.lemmas.Bool.{false_from_ne_true, false≢true}
use Rattle.cable_world.specs.Turn.{turn}
use Rattle.cable_world.proofs.turns.ByNumber.{no-turns, one-more}
use Rattle.cable_world.proofs.world.WorldWorldRun.run_turns.Goals as goal

pub turn-requires : goal.turn-requires
turn-requires g c = omega (arith, c.requires, c.loop-test.true, c.loop.invariant.passed.turns)

pub loop-init : goal.loop-init
loop-init g c = record {
  good = c.if-self.false;
  reached = sym (no-turns _);
  passed = record { nodes = refl; turns = omega arith };
}

pub loop-preserved : goal.loop-preserved
loop-preserved g c =
    let step = c.in_ok-turn.ensures in
    let before = c.loop.invariant in
    record {
      good = false_from_ne_true c.turn.new.self.spent (λ spent. false≢true (step.spent.1 spent));
      reached = step.done ∙ ap turn before.reached ∙ sym (one-more c.loop.counter _);
      passed = record {
        nodes = step.passed.nodes ∙ before.passed.nodes;
        turns = omega (arith, step.passed.turns, before.passed.turns);
      };
    }
