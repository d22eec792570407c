use Rattle.std.proofs.Common.{◌≡◌, ◌++◌, drop}
use Rattle.topology_stack.specs.Stored.{ends_of}
use Rattle.topology_stack.specs.Text.{signs}
use Rattle.topology_stack.proofs.text.put_signs.Given as goal

abbrev pub invariant-loop-port : goal.invariant-loop-port
invariant-loop-port l = l.out.items ++ signs (drop l.port-index l.ports) (ends_of l.parent l.children (drop l.port-index l.ports)) ≡ l.initial.out.items ++ signs l.ports (ends_of l.parent l.initial.children l.ports)
