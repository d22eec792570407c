use Rattle.std.proofs.Common.{arith, refl}
use Rattle.topology_stack.proofs.Lemmas.{has_end, has_room, pushed}
use Rattle.heapless_c.proofs.links.ChildLists.push.Goals as goal

pub adopt-requires : goal.adopt-requires
adopt-requires c = has_room c.self.inside.ids.items c.self.inside.ends.items c.args.children.now c.args.self.now c.self.view_is c.self.invariant.1 c.requires.room

pub push-requires : goal.push-requires
push-requires c = (omega arith, has_end c.self.inside.ids.items c.self.inside.ends.items c.args.self.now c.self.view_is c.requires.nodes)

pub invariant_of-self : goal.invariant_of-self
invariant_of-self c =
    let p = pushed c.self.inside.ids.items c.self.inside.ends.items c.args.children.now c.adopt.new.ids.items c.push.new.self.items c.args.self.now c.self.view_is c.self.invariant.1 c.requires.room c.adopt.ensures.ids (rw (c.push.ensures.items, c.len.ensures.value) refl) in
    (p.few, p.rises)

pub returns-clause-lists : goal.returns-clause-lists
returns-clause-lists c = (pushed c.self.inside.ids.items c.self.inside.ends.items c.args.children.now c.adopt.new.ids.items c.push.new.self.items c.args.self.now c.self.view_is c.self.invariant.1 c.requires.room c.adopt.ensures.ids (rw (c.push.ensures.items, c.len.ensures.value) refl)).is
