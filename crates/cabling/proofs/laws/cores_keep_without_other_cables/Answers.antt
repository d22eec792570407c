use Rattle.cabling.proofs.Pulling.{same-core}
use Rattle.cabling.proofs.laws.cores_keep_without_other_cables.Goals as goal

pub returns : goal.returns
returns c = λ a b node before after t off x y. same-core c.args.old.now c.args.new.now a b node before after c.cables_are_two_ended.ensures t off x y
