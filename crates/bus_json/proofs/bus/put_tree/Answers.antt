use Rattle.std.proofs.Common.{◌≡◌, ◌-◌, length, append_assoc, arith}
use Rattle.topology_stack.specs.Tree.{walk}
use Rattle.bus_json.proofs.bus.put_tree.Goals as goal

pub returns : goal.returns
returns c =
    let root : c.root.result ≡ length (walk c.args.tree.now) - 1 = omega (arith, c.root.ensures) in
    simp (c.in_ok-close_object.ensures, c.in_ok-put_manager.ensures, c.in_ok-key-2.ensures, c.in_ok-number_member.ensures, c.in_ok-put_nodes.ensures, c.in_ok-open_list.ensures, c.in_ok-key.ensures, c.from.ensures, root, c.elect.ensures.value, append_assoc)
