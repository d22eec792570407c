-- How many packets a node has, by the number of its ports.
use Rattle.std.proofs.Common.{◌≡◌, ℕ, ◌-◌, ◌≤◌, Bool, true, false, length, replicate, refl, ap, arith, length-append, if◌then◌else◌}
use Rattle.std.specs.Prelude.{nat_le}
use Rattle.std.proofs.lemmas.Bool.{leb-true}
use Rattle.std.proofs.lemmas.List.{length-replicate}
use Rattle.self_id.specs.declared.node.PortStatus.TheVariants.{Absent}
use Rattle.self_id.proofs.Lemmas.{group3, group11, group16}
use Rattle.port_state.specs.declared.states.NodeState.{NodeState}
use Rattle.self_id.specs.Slots.{slot_count}
use Rattle.port_state.specs.Group.{statuses_from, shown_node, own_group}
use Rattle.port_state.specs.Valid.{IsBounded}
use Rattle.port_state.proofs.Lemmas.{length-statuses_from}
use Rattle.phy_machine.specs.codings.IdleTime.{packet_count}

slots :
    (x : NodeState) → IsBounded x → x.ports ≤ slot_count x.ports →
    length (shown_node x).ports ≡ slot_count x.ports
slots x b few =
    omega (
      arith,
      length-append (statuses_from 0 x.view.parent x.view.ports) (replicate (slot_count x.ports - x.ports) Absent),
      length-statuses_from 0 x.view.parent x.view.ports,
      length-replicate (slot_count x.ports - x.ports) Absent,
      b.views,
    )

pub length-own_group :
    (x : NodeState) (id : ℕ) → IsBounded x → length (own_group x id) ≡ packet_count x.ports
length-own_group x id b = go (nat_le x.ports 3) refl (nat_le x.ports 11) refl (slots x b)
  where
    go :
        (s : Bool) → nat_le x.ports 3 ≡ s → (t : Bool) → nat_le x.ports 11 ≡ t →
        (x.ports ≤ (if s then 3 else (if t then 11 else 16)) → length (shown_node x).ports ≡ (if s then 3 else (if t then 11 else 16))) →
        length (own_group x id) ≡ (if s then 1 else (if t then 2 else 3))
    go true e t f count = ap length (group3 (shown_node x) id (count (leb-true x.ports 3 e)))
    go false e true f count = ap length (group11 (shown_node x) id (count (leb-true x.ports 11 f)))
    go false e false f count = ap length (group16 (shown_node x) id (count b.few_ports))
