use Rattle.std.proofs.Common.{◌≡◌, ◌∙◌, [], replicate, ap, arith}
use Rattle.cable_world.specs.running.Rows.{wires_from}
use Rattle.cable_world.proofs.running.Rows.{new-wires}
use Rattle.cable_world.proofs.rows.WireRow.new.Goals as goal

pub returns : goal.returns
returns c =
    let end : c.loop-port.port ≡ c.args.ports = omega arith in
    ap (λ sent. wires_from 0 sent c.loop-port.held.items) c.new.ensures.items
    ∙ ap (wires_from 0 []) (c.loop-port.invariant.held ∙ ap (λ n. replicate n 0) end) ∙ new-wires c.args.ports 0
