use Rattle.std.proofs.Common.{◌≡◌, ◌<◌, ◌==◌, ◌∙◌, length, slice_set, ap, arith}
use Rattle.std.proofs.lemmas.List.{with_items_is}
use Rattle.cable_world.specs.Wire.{empty_wire}
use Rattle.cable_world.specs.running.Rows.{wires_from}
use Rattle.cable_world.proofs.running.Rows.{wires-length, cleared-is, places-whole, none-cleared}
use Rattle.cable_world.proofs.rows.WireRow.clear.Goals as goal

pub index_mut-requires : goal.index_mut-requires
index_mut-requires c =
    let row = c.self.inside in
    omega (arith, c.requires, c.from-at.ensures, ap length c.self.view_is, wires-length 0 row.sent.items row.held.items, row.held.ok.0)

pub returns-then-at-lt16 : goal.returns-then-at-lt16
returns-then-at-lt16 c =
    let row = c.self.inside in
    let port = c.args.port in
    let held = row.held.items in
    let inside : port < length held = omega (arith, c.requires, ap length c.self.view_is, wires-length 0 row.sent.items held) in
    let new = c.clear_port.new.sent in
    let long : length new ≡ length row.sent.items = c.clear_port.auto.sent ∙ ap length c.deref_mut.ensures.value in
    let places = rw c.deref_mut.ensures.value at c.clear_port.ensures in
    ap (λ sent. wires_from 0 sent (slice_set held c.from-at.result 0)) (with_items_is row.sent new (c.clear_port.auto.sent ∙ c.deref_mut.ensures.len))
    ∙ ap (λ at. wires_from 0 new (slice_set held at 0)) c.from-at.ensures
    ∙ cleared-is row.sent.items new held port inside (λ p. places-whole p new row.sent.items (p == port) long (places p))
    ∙ ap (λ r. slice_set r port empty_wire) c.self.view_is

pub returns-else-at-lt16 : goal.returns-else-at-lt16
returns-else-at-lt16 c =
    let row = c.self.inside in
    let port = c.args.port in
    let held = row.held.items in
    let far = c.if-at-lt16.false in
    let inside : port < length held = omega (arith, c.requires, ap length c.self.view_is, wires-length 0 row.sent.items held) in
    ap (λ at. wires_from 0 row.sent.items (slice_set held at 0)) c.from-at.ensures
    ∙ cleared-is row.sent.items row.sent.items held port inside (λ p. none-cleared p port row.sent.items (omega (arith, c.from-at.ensures)))
    ∙ ap (λ r. slice_set r port empty_wire) c.self.view_is
