use Rattle.std.proofs.Common.{refl, sym, subst}
use Rattle.cable_world.specs.Act.{IsAct}
use Rattle.cable_world.specs.declared.act.Act.{Act}
use Rattle.script_told.specs.Step.{Acts, Settled, config_of}
use Rattle.script_bus.proofs.Doing.{named, settled, config-fits}
use Rattle.script_bus.proofs.bus.Bus.config.Goals as goal

pub returns-clause-is : goal.returns-clause-is
returns-clause-is c =
    let bus = c.args.self.now in
    let from = c.in_ok-from.from in
    let root_id = c.args.root_id in
    let gap = c.args.gap in
    record {
      is = subst IsAct (sym c.config_of.ensures) (config-fits root_id gap c.requires.root c.requires.gap c.requires.some);
      comes = λ r h. named bus c.args.name.now from (λ node. Settled bus node (λ tree. Acts bus (config_of node root_id gap))) r c.in_ok-from.ensures.value
          (settled bus from _ (λ tree. Acts bus (config_of from root_id gap)) r c.in_ok-tree.ensures.found
          (subst (λ (a : Act). Acts bus a r) c.config_of.ensures h));
      told = λ voice after. refl;
    }
