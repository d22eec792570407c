use Rattle.script_bus.specs.Running.{reported}
use Rattle.script_bus.proofs.bus.Bus.ready.Goals as goal

pub returns-clause-is : goal.returns-clause-is
returns-clause-is c =
    let asked = c.in_ok-asked.asked in
    record {
      id = asked.id;
      manager = asked.manager;
      asked = c.in_ok-asked.ensures.is;
      is_manager = c.in_ok-check_bus_manager.ensures.is;
      within = c.in_ok-check_quiet_turns.ensures.within;
      tree = reported c.in_ok-tree.tree;
      settled = c.in_ok-tree.ensures.found;
      planned = c.in_ok-planned.ensures.is;
      suits = c.in_ok-planned.ensures.suits;
    }
