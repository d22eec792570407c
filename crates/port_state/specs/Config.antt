-- A PHY configuration packet, which takes effect at the next reset.
use Rattle.std.specs.Prelude.{ℕ, ◌≤◌, Bool, Option, Some, None, if◌then◌else◌}
use Rattle.std.specs.Option.{ForSome}
use Rattle.port_state.specs.declared.states.NodeState.{NodeState}
use Rattle.port_state.specs.Ports.{is_port}

-- What the packet says. With `force` (R set) the node of this ID is to be root, and no other. With
-- a gap count (T set) every node is to have it.
pub record ConfigPacket : Type 0 where
  pub root_id : ℕ
  pub force : Bool
  pub gap : Option ℕ

abbrev pub config_packet : ℕ → Bool → Option ℕ → ConfigPacket
config_packet root_id force gap = record { root_id = root_id; force = force; gap = gap }

-- a root ID and a gap count have 6 bits
pub record HasSixBits (packet : ConfigPacket) : Type 0 where
  pub root_bits : packet.root_id ≤ 63
  pub gap_bits : ForSome packet.gap (λ g. g ≤ 63)

-- the gap count that a packet gives, or else the one that stood
abbrev pub gap_or : Option ℕ → ℕ → ℕ
gap_or None old = old
gap_or (Some gap) old = gap

-- the gap count of the reset after next, if no packet sets it by then: a node that resets its gap count
-- has 63 there, and any other what it has at the next
abbrev pub gap_after : Bool → ℕ → ℕ
gap_after resets_gap next = if resets_gap then 63 else next

-- with R set the node is to be root from the next reset on if it has this ID, and else not; with T
-- set it has this gap count from the next reset on
abbrev pub set_config : ConfigPacket → NodeState → NodeState
set_config packet x = record x {
  view = record x.view {
    next_force = if packet.force then is_port x.view.id packet.root_id else x.view.next_force;
    next_gap = gap_or packet.gap x.view.next_gap;
  };
}
