use Rattle.std.proofs.Common.{◌∙◌, [], slice_index_or, ap, sym}
use Rattle.cable_world.specs.running.Rows.{signals_on}
use Rattle.cable_world.proofs.running.Rows.{arrival-is, arrival-past}
use Rattle.cable_world.proofs.rows.ArrivalRow.at.Goals as goal

pub returns-then-port-self : goal.returns-then-port-self
returns-then-port-self c =
    let row = c.self.inside in
    sym (ap (λ r. slice_index_or r c.args.port []) (sym c.self.view_is) ∙ arrival-past row.ports row.sent.items c.args.port c.if-port-self.true)

pub returns : goal.returns
returns c =
    let row = c.self.inside in
    ap (signals_on c.args.port) c.as_slice.ensures.value ∙ sym (arrival-is row.ports row.sent.items c.args.port [] c.if-port-self.false)
    ∙ ap (λ r. slice_index_or r c.args.port []) c.self.view_is
