use Rattle.std.proofs.Common.{◌≡◌, ◌∙◌, ◌<◌, true, is_some, length, ap, sym, arith}
use Rattle.cabling.specs.Wiring.{far, ports_of}
use Rattle.cable_world.proofs.running.Whole.{may-hold}
use Rattle.cable_world.proofs.acting.hold_fault.Goals as goal

pub returns-clause-accepted : goal.returns-clause-accepted
returns-clause-accepted c =
    let cabling = c.args.cabling.now in
    let end = c.args.end in
    let there : is_some (far cabling end) ≡ true = ap is_some (sym c.far.ensures) ∙ c.if-is_none.ensures in
    let port : end.port < length (ports_of cabling end.node) = omega (arith, c.if-end-ports.false, c.ports.ensures.value) in
    may-hold cabling end (omega (arith, c.if-end-nodes.false, c.nodes.ensures.value)) port there
