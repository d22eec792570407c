use Rattle.self_id.proofs.Summed.{Summed}
use Rattle.self_id.proofs.writing.fields.Given as goal

abbrev pub invariant-loop-port : goal.invariant-loop-port
invariant-loop-port l = Summed l.ports l.port-index l.value
