use Rattle.cabling.specs.Existence.{HasComponent}
use Rattle.cable_world.specs.Lawful.{IsLawful}
use Rattle.cable_world.proofs.Lemmas.{lawful-now}
use Rattle.settle.proofs.Suited.{not-refused, has-id}
use Rattle.settle.proofs.Carried.{nodes-stay, tree-from, gap-of}
use Rattle.settle.proofs.suiting.plans_come_out.Goals as goal

pub returns : goal.returns
returns c w from reached there plan v report suits after is =
    let l : IsLawful w = lawful-now w reached in
    let whole : HasComponent w.cabling from = c.components_exist.ensures w.cabling from l.well_formed.cabling there in
    let laws = c.forced_roots_settle.ensures in
    let accepted = not-refused w l from plan suits in
    let one = has-id w l from plan suits whole.set whole.is whole.small in
    let nodes = nodes-stay laws.names laws.config laws.gaps w after.sent v reached l from plan suits whole.set whole.is whole.small accepted after.act after.quiet in (
      λ root h. tree-from laws.names laws.config laws.gaps w after.sent v reached l from plan suits whole.set whole.is whole.small accepted after.act after.quiet root h report.parts is.parts,
      gap-of laws.names laws.config laws.gaps w after.sent v reached l from plan suits whole.set whole.is whole.small accepted after.act after.quiet one.0 one.1 nodes,
    )
