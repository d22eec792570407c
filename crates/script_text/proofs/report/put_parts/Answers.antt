use Rattle.std.proofs.Common.{◌<◌, length, arith}
use Rattle.script_text.proofs.ReportParts.{no-parts, part-more}
use Rattle.script_text.proofs.report.put_parts.Goals as goal

pub loop-part-init : goal.loop-part-init
loop-part-init c = no-parts c.args.names.now c.args.out.now.items

pub loop-part-preserved : goal.loop-part-preserved
loop-part-preserved c =
    let within : c.loop-part.part-index < length c.args.parts.now =
    omega (arith, c.loop-part-test.true, c.loop-part.auto.part-index-end) in
    part-more c.args.names.now c.args.parts.now c.loop-part.part-index c.part-item.result
    c.args.out.now.items c.loop-part.out.items c.put_part.new.out.items within c.part-item.is
    c.loop-part.invariant c.in_ok-put_part.ensures
