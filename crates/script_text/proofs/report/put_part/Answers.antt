use Rattle.script_text.proofs.ReportParts.{part-told}
use Rattle.script_text.proofs.report.put_part.Goals as goal

pub returns : goal.returns
returns c =
    part-told c.args.names.now c.args.part.now c.args.out.now.items c.put_component_line.new.out.items _
    c.in_ok-put_component_line.ensures c.in_ok-put_outcome.ensures
