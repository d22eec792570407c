use Rattle.std.proofs.Common.{◌<◌, ◌∙◌, length, slice_set, slice_index_or, ap, arith}
use Rattle.cable_world.specs.Wire.{empty_wire}
use Rattle.cable_world.proofs.running.Rows.{wires-length, held-is}
use Rattle.cable_world.proofs.rows.WireRow.hold.Goals as goal

pub index_mut-requires : goal.index_mut-requires
index_mut-requires c =
    let row = c.self.inside in
    omega (arith, c.requires, ap length c.self.view_is, wires-length 0 row.sent.items row.held.items, row.held.ok.0)

pub returns : goal.returns
returns c =
    let row = c.self.inside in
    let inside : c.args.port < length row.held.items = omega (arith, c.requires, ap length c.self.view_is, wires-length 0 row.sent.items row.held.items) in
    held-is row.sent.items row.held.items c.args.port c.args.turns inside
    ∙ ap (λ r. slice_set r c.args.port (record (slice_index_or r c.args.port empty_wire) { held = c.args.turns })) c.self.view_is
