use Rattle.std.proofs.Common.{◌≡◌, take}
use Rattle.self_id.proofs.node.SelfId.new.Given as goal

abbrev pub invariant-loop-port : goal.invariant-loop-port
invariant-loop-port l = l.list ≡ take l.port-index l.ports
