use Rattle.std.proofs.Common.{refl, subst}
use Rattle.cabling.specs.declared.cable.End.{End}
use Rattle.cable_world.specs.declared.act.Act.TheVariants as act
use Rattle.script_told.specs.Step.{Acts, end_of}
use Rattle.script_bus.proofs.Doing.{named}
use Rattle.script_bus.proofs.bus.Bus.pull.Goals as goal

pub returns-clause-is : goal.returns-clause-is
returns-clause-is c =
    let bus = c.args.self.now in
    record {
      is = tt;
      comes = λ r h. named bus c.args.name.now c.in_ok-node.node (λ node. Acts bus (act.Pull (end_of node c.args.port))) r c.in_ok-node.ensures.value
          (subst (λ (e : End). Acts bus (act.Pull e) r) c.end_of.ensures h);
      told = λ voice after. refl;
    }
