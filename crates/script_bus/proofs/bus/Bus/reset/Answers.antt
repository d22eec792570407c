use Rattle.std.proofs.Common.{refl}
use Rattle.cable_world.specs.declared.act.Act.TheVariants as act
use Rattle.script_told.specs.Step.{Acts}
use Rattle.script_bus.proofs.Doing.{named}
use Rattle.script_bus.proofs.bus.Bus.reset.Goals as goal

pub returns-clause-is : goal.returns-clause-is
returns-clause-is c =
    let bus = c.args.self.now in
    record {
      is = tt;
      comes = λ r h. named bus c.args.name.now c.in_ok-node.node (λ node. Acts bus (act.Reset node)) r c.in_ok-node.ensures.value h;
      told = λ voice after. refl;
    }
