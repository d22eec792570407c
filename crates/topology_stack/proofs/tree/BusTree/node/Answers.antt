use Rattle.std.proofs.Common.{◌≡◌, refl, ap, sym, length, arith}
use Rattle.std.proofs.lemmas.Option.{slice_get_read}
use Rattle.topology_stack.specs.Tree.{walk}
use Rattle.topology_stack.proofs.tree.BusTree.node.Goals as goal

pub index-requires : goal.index-requires
index-requires c =
    let e : length (walk c.args.self.now) ≡ length c.self.inside.nodes.items = rw (← c.self.view_is) (ap length (sym c.self.invariant.walk_is)) in
    omega (arith, c.requires, e)

pub returns : goal.returns
returns c =
    let e : length (walk c.args.self.now) ≡ length c.self.inside.nodes.items = rw (← c.self.view_is) (ap length (sym c.self.invariant.walk_is)) in
    rw (← c.self.view_is, ← c.self.invariant.walk_is) (slice_get_read c.self.inside.nodes.items (length c.self.inside.nodes.items) c.args.id c.index.result.now refl (omega (arith, c.requires, e)) c.index.ensures)
