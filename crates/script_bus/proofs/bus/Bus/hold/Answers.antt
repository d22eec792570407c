use Rattle.std.proofs.Common.{sym, ◌∙◌, arith}
use Rattle.script_bus.proofs.Standing.{hold-stands}
use Rattle.script_bus.proofs.bus.Bus.hold.Goals as goal

pub invariant_of-result : goal.invariant_of-result
invariant_of-result c =
    let old = c.self.invariant.bus in
    let passed = c.in_ok-hold_boxed.ensures.passed in
    record {
      bus = record {
        reached = c.in_ok-hold_boxed.ensures.reached;
        names = old.names ∙ sym passed.nodes;
        banks = old.banks ∙ sym passed.nodes;
        looks = old.looks ∙ sym passed.nodes;
        few = omega (arith, old.few, passed.nodes);
        turns = omega (arith, passed.turns, old.turns);
        reports = omega (arith, passed.turns, old.reports);
        maps = old.maps;
        report = old.report;
        stands = hold-stands c.args.end c.args.turns _ _ c.self.inside.notes.value.report c.in_ok-hold_boxed.ensures.accepted c.in_ok-hold_boxed.ensures.done old.stands;
      };
      fine = c.in_ok-hold_boxed.ensures.fine;
    }
