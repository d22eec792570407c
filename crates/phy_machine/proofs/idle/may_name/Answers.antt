use Rattle.std.proofs.Common.{◌≡◌, true, length, ap, ◌∙◌, refl, arith}
use Rattle.std.specs.Prelude.{nat_le}
use Rattle.std.proofs.lemmas.Bool.{le-leb}
use Rattle.self_id.specs.Group.{node_count}
use Rattle.port_state.specs.Group.{own_group}
use Rattle.phy_machine.specs.codings.IdleTime.{packet_count}
use Rattle.phy_machine.proofs.PacketCount.{length-own_group}
use Rattle.phy_machine.proofs.idle.may_name.Goals as goal

pub returns-then-node_count-le62 : goal.returns-then-node_count-le62
returns-then-node_count-le62 c =
    let x = c.args.s.now in
    let nodes : c.node_count.result ≡ node_count c.args.s.now.list.items = c.node_count.ensures.value ∙ ap node_count c.as_slice.ensures.value in
    let few : nat_le (node_count c.args.s.now.list.items) 62 ≡ true = le-leb (node_count c.args.s.now.list.items) 62 (omega (arith, nodes)) in
    let size : length (own_group x (node_count c.args.s.now.list.items)) ≡ packet_count c.args.s.now.ports = length-own_group x (node_count c.args.s.now.list.items) c.requires in
    rw (few, size, c.len.ensures.value, c.packet_count.ensures) refl
