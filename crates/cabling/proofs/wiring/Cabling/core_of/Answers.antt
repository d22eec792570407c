use Rattle.cabling.proofs.Small.{loopless, small_tree}
use Rattle.cabling.proofs.wiring.Cabling.core_of.Goals as goal

pub core-requires : goal.core-requires
core-requires c = c.component-component.ensures.exist

pub returns-clause-core : goal.returns-clause-core
returns-clause-core c = record { component = c.component-component.result; of_node = c.component-component.ensures.component; is = c.core.ensures }

pub returns-clause-small_trees : goal.returns-clause-small_trees
returns-clause-small_trees c = λ empty label.
    small_tree c.args.self.now label c.args.node c.component-component.result
    (loopless c.args.self.now c.args.node c.component-component.result c.core.result c.cables_are_two_ended.ensures c.requires c.component-component.ensures.component c.component-component.ensures.small c.core.ensures empty)
