use Rattle.std.proofs.Common.{◌≡◌, ◌++◌, drop, take}
use Rattle.topology_stack.specs.Links.{set_all}
use Rattle.topology_stack.proofs.links.adopt.Given as goal

-- the rest of the children have yet to get their parent, and the others stand behind the IDs
abbrev pub invariant-loop-child : goal.invariant-loop-child
invariant-loop-child l =
    (set_all (drop l.child-index l.children) l.id l.parents ≡ set_all l.children l.id l.initial.parents)
    × (l.ids.items ≡ l.initial.ids.items ++ take l.child-index l.children)
