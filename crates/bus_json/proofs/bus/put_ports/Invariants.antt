use Rattle.std.proofs.Common.{◌≡◌, ◌++◌, drop}
use Rattle.json.specs.Tree.{items_tokens}
use Rattle.bus_json.specs.Bus.{port_items}
use Rattle.bus_json.proofs.bus.put_ports.Given as goal

-- what is written so far, and then the ports that are left, are all ports
abbrev pub invariant-loop-slot : goal.invariant-loop-slot
invariant-loop-slot l =
    l.out ++ items_tokens (port_items l.tree l.id l.slot (drop l.slot l.ports))
    ≡ l.initial.out ++ items_tokens (port_items l.tree l.id 0 l.ports)
