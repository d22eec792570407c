use Rattle.std.proofs.Common.{◌≡◌, ◌∙◌, ap, ℕ, ◌+◌, ◌<◌, Option, Some, None, List, ◌++◌, length, get_or, drop, append_assoc, arith}
use Rattle.std.specs.Prelude.{slice_get}
use Rattle.std.proofs.lemmas.Option.{slice_get-get_or}
use Rattle.cabling.specs.declared.cable.End.{End}
use Rattle.cabling.specs.Wiring.{ports_of}
use Rattle.quad_lanes.proofs.Lemmas.{at_drop}
use Rattle.report_views.specs.PlainGraph.{edge_at, edges_at}
use Rattle.report_views.proofs.plain.put_edges_at.Goals as goal

step : (node port : ℕ) (ends : List (Option End)) (far : Option End) (old new whole : List ℕ) →
    slice_get ends port ≡ Some far → new ≡ old ++ edge_at node port far →
    old ++ edges_at node port (drop port ends) ≡ whole →
    new ++ edges_at node (port + 1) (drop (port + 1) ends) ≡ whole
step node port ends far old new whole at e h =
    let more = edges_at node (port + 1) (drop (port + 1) ends) in
    let k : old ++ (edge_at node port far ++ more) ≡ whole = rw (at_drop ends port far at) at h in
    rw (e, append_assoc old (edge_at node port far) more) k

pub loop-port-preserved : goal.loop-port-preserved
loop-port-preserved c =
    let ends = ports_of c.args.cabling.now c.args.node in
    let within : c.loop-port.port < length ends = omega (arith, c.loop-port-test.true, c.ports-port-end.ensures.value) in
    step c.args.node c.loop-port.port ends (get_or ends c.loop-port.port None) c.loop-port.out.items c.put_edge_at.new.out.items _
    (slice_get-get_or ends c.loop-port.port None within)
    (c.in_ok-put_edge_at.ensures ∙ ap (λ (far : Option End). c.loop-port.out.items ++ edge_at c.args.node c.loop-port.port far) c.far-far.ensures)
    c.loop-port.invariant
