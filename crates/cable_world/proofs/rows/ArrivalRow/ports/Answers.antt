use Rattle.std.proofs.Common.{◌∙◌, [], slice_index_or, ap, sym}
use Rattle.cable_world.specs.running.Rows.{on_port}
use Rattle.cable_world.proofs.running.Rows.{no-arrival}
use Rattle.cable_world.proofs.rows.ArrivalRow.ports.Goals as goal

pub returns : goal.returns
returns c = λ p none.
    let row = c.self.inside in
    ap (λ r. slice_index_or r p []) (sym c.self.view_is)
    ∙ no-arrival row.ports row.sent.items p (ap (on_port p) (sym c.deref.ensures.value) ∙ (c.ports_of.ensures p).0 none)
