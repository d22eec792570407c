use Rattle.std.proofs.Common.{rules, arith}
use Rattle.cable_world.specs.Run.{still}
use Rattle.script_bus.proofs.bus.Bus.report.Goals as goal

pub invariant_of-self : goal.invariant_of-self
invariant_of-self c =
    let old = c.self.invariant.bus in
    record {
      bus = record {
        reached = old.reached;
        names = search rules;
        banks = search rules;
        looks = search rules;
        few = old.few;
        turns = old.turns;
        reports = search rules;
        maps = search rules;
        report = search rules;
        stands = record { before = _; reached = old.reached; is = search rules; turns = 0; rests = still };
      };
      fine = c.self.invariant.fine;
    }
