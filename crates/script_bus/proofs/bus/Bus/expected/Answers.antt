use Rattle.std.proofs.Common.{◌<◌, All, length, sym, subst, ◌∙◌}
use Rattle.std.proofs.lemmas.Bool.{false≢true}
use Rattle.cabling.specs.Wiring.{Wiring}
use Rattle.cabling.specs.Looped.{IsCoreOf}
use Rattle.cabling.specs.Walk.{IsWalk}
use Rattle.cable_world.proofs.Lemmas.{lawful-now}
use Rattle.script_told.specs.Step.{node_with}
use Rattle.script_bus.specs.Running.{reported}
use Rattle.script_bus.proofs.Planning.{all-there, its-core, walk-there}
use Rattle.script_bus.proofs.bus.Bus.expected.Goals as goal

pub expect-requires-clause-exist : goal.expect-requires-clause-exist
expect-requires-clause-exist c =
    let w = c.args.self.now.world in
    let lawful = lawful-now w c.buses_are_sound.ensures.reached in
    subst (λ (d : Wiring). All (λ k. k < length d) c.args.tree.order.now) (sym c.cabling.ensures)
    (all-there w lawful c.args.node (reported c.args.tree) c.requires.stands)

pub unreachable-requires : goal.unreachable-requires
unreachable-requires c =
    let w = c.args.self.now.world in
    let lawful = lawful-now w c.buses_are_sound.ensures.reached in
    let s = c.requires.stands in
    let root = node_with (reported c.args.tree) c.args.plan.now.root_id in
    let core = subst (λ (d : Wiring). IsCoreOf d root s.stands.is.no_loop.core) (sym c.cabling.ensures)
    (its-core w lawful c.args.node (reported c.args.tree) s c.args.plan.now.root_id c.requires.place) in
    let whole = (c.in-Err.ensures.cyclic s.stands.is.no_loop.core core).1 s.stands.is.no_loop.empty in
    false≢true whole

pub returns-clause-nodes : goal.returns-clause-nodes
returns-clause-nodes c =
    let w = c.args.self.now.world in
    let lawful = lawful-now w c.buses_are_sound.ensures.reached in
    let root = node_with (reported c.args.tree) c.args.plan.now.root_id in
    walk-there w lawful c.args.node (reported c.args.tree) c.requires.stands c.args.plan.now.root_id c.requires.place c.in-Ok.walk
    (length c.args.self.now.notes.names) (c.buses_are_sound.ensures.names ∙ lawful.well_formed.count)
    (subst (λ (d : Wiring). IsWalk d root c.in-Ok.walk) c.cabling.ensures c.in-Ok.ensures.walk)
