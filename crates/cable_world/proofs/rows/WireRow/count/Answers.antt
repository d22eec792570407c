use Rattle.std.proofs.Common.{◌<◌, ◌≤◌, ◌∙◌, length, slice_index_or, ap, sym, arith}
use Rattle.cable_world.specs.Wire.{Wire, empty_wire}
use Rattle.cable_world.specs.running.Rows.{on_port}
use Rattle.cable_world.proofs.running.Rows.{wire-is, wire-past}
use Rattle.cable_world.proofs.rows.WireRow.count.Goals as goal

pub returns-then-from-len : goal.returns-then-from-len
returns-then-from-len c =
    let row = c.self.inside in
    let port = c.args.port in
    let past : length row.held.items ≤ port = omega (arith, c.if-from-len.true, c.from.ensures, c.len.ensures, row.held.ok.0) in
    sym (ap (λ r. length (slice_index_or r port empty_wire).signals) (sym c.self.view_is)
    ∙ ap (λ (w : Wire). length w.signals) (wire-past row.sent.items row.held.items port past))

pub returns : goal.returns
returns c =
    let row = c.self.inside in
    let port = c.args.port in
    let inside : port < length row.held.items = omega (arith, c.if-from-len.false, c.from.ensures, c.len.ensures, row.held.ok.0) in
    c.count.ensures ∙ ap (λ sent. length (on_port port sent)) c.deref.ensures.value
    ∙ sym (ap (λ (w : Wire). length w.signals) (wire-is row.sent.items row.held.items port empty_wire inside))
    ∙ ap (λ r. length (slice_index_or r port empty_wire).signals) c.self.view_is
