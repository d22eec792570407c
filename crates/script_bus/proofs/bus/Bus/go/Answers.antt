use Rattle.std.proofs.Common.{sym, ◌∙◌, ap, arith}
use Rattle.script_told.specs.Bus.{Bus}
use Rattle.script_bus.proofs.Standing.{turns-stand}
use Rattle.script_bus.proofs.bus.Bus.go.Goals as goal

pub invariant_of-result : goal.invariant_of-result
invariant_of-result g c =
    let old = c.self.invariant.bus in
    let passed = c.in_ok-turns_heard.ensures.passed in
    record {
      bus = record {
        reached = c.in_ok-turns_heard.ensures.reached;
        names = old.names ∙ sym passed.nodes;
        banks = old.banks ∙ sym passed.nodes;
        looks = old.looks ∙ sym passed.nodes;
        few = omega (arith, old.few, passed.nodes);
        turns = omega (arith, passed.turns, c.requires, ap (λ (b : Bus). b.world.turns) c.self.view_is);
        reports = omega (arith, passed.turns, old.reports);
        maps = old.maps;
        report = old.report;
        stands = turns-stand c.args.count _ _ c.self.inside.notes.value.report c.in_ok-turns_heard.ensures.done old.stands;
      };
      fine = c.in_ok-turns_heard.ensures.fine;
    }
