use Rattle.std.proofs.Common.{◌<◌, ◌≤◌, ◌∙◌, length, drop, slice_index_or, ap, sym, arith}
use Rattle.std.proofs.Math.Seq.{drop-nil}
use Rattle.cable_world.specs.Wire.{Wire, empty_wire}
use Rattle.cable_world.specs.running.Rows.{on_port}
use Rattle.cable_world.proofs.running.Rows.{wire-is, wire-past}
use Rattle.cable_world.proofs.rows.WireRow.under_way.Goals as goal

pub returns-then-from-len : goal.returns-then-from-len
returns-then-from-len c =
    let row = c.self.inside in
    let port = c.args.port in
    let far : length row.held.items ≤ port = omega (arith, c.if-from-len.true, c.from.ensures, c.len.ensures, row.held.ok.0) in
    c.none.ensures
    ∙ sym (ap (λ r. drop c.args.past (slice_index_or r port empty_wire).signals) (sym c.self.view_is)
    ∙ ap (λ (w : Wire). drop c.args.past w.signals) (wire-past row.sent.items row.held.items port far) ∙ drop-nil c.args.past)

pub returns : goal.returns
returns c =
    let row = c.self.inside in
    let port = c.args.port in
    let inside : port < length row.held.items = omega (arith, c.if-from-len.false, c.from.ensures, c.len.ensures, row.held.ok.0) in
    c.signals.ensures ∙ ap (λ sent. drop c.args.past (on_port port sent)) c.deref.ensures.value
    ∙ sym (ap (λ (w : Wire). drop c.args.past w.signals) (wire-is row.sent.items row.held.items port empty_wire inside))
    ∙ ap (λ r. drop c.args.past (slice_index_or r port empty_wire).signals) c.self.view_is
