use Rattle.std.proofs.Common.{◌<◌, ◌∙◌, Some, ap, length, sym, arith}
use Rattle.std.proofs.lemmas.List.{drop_all}
use Rattle.std.proofs.lemmas.Option.{slice_get-get_or}
use Rattle.settle.specs.declared.report.Part.{Part}
use Rattle.quad_lanes.proofs.Lemmas.{at_drop}
use Rattle.report_views.proofs.Graphs.{none-yet, one-more, all-there}
use Rattle.report_views.proofs.report.put_part_graphs.Goals as goal

pub loop-part-init : goal.loop-part-init
loop-part-init c = none-yet c.args.names.now c.args.cabling.now c.args.parts.now c.args.out.now.items

pub loop-part-preserved : goal.loop-part-preserved
loop-part-preserved c =
    let parts = c.args.parts.now in
    let k = c.loop-part.part-index in
    let part : Part = c.part-item.result in
    let within : k < length parts = omega (arith, c.loop-part-test.true) in
    one-more c.args.names.now c.args.cabling.now parts k part c.args.out.now.items c.loop-part.out.items c.put_outcome_graph.new.out.items
    (at_drop parts k part (slice_get-get_or parts k part within ∙ ap Some (sym c.part-item.is)))
    c.loop-part.invariant c.in_ok-put_outcome_graph.ensures

pub returns : goal.returns
returns c =
    all-there c.args.names.now c.args.cabling.now c.args.parts.now c.loop-part.part-index c.args.out.now.items c.loop-part.out.items
    (drop_all c.loop-part.part-index c.args.parts.now c.loop-part-test.false) c.loop-part.invariant
