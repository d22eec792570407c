use Rattle.world_laws.proofs.Touched.{touched-reset, stands, component-stays, tree-stays}
use Rattle.world_laws.proofs.laws.acts_touch_their_component.Goals as goal

pub returns-clause-resets : goal.returns-clause-resets
returns-clause-resets c = touched-reset

pub returns-clause-others : goal.returns-clause-others
returns-clause-others c = stands

pub returns-clause-component : goal.returns-clause-component
returns-clause-component c = component-stays

pub returns-clause-trees : goal.returns-clause-trees
returns-clause-trees c = tree-stays
