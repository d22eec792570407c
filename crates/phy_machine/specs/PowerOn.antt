-- A node as its specification says, at power-on.
use Rattle.std.specs.Prelude.{◌≡◌, ◌≤◌}
use Rattle.self_id.specs.Node.{FitBits}
use Rattle.port_state.specs.PowerOn.{power_on, resetting_gap}
use Rattle.port_state.specs.Clock.{even}
use Rattle.port_state.specs.Machine.{PortNode}
use Rattle.phy_machine.specs.declared.spec.NodeSpec.{NodeSpec}

-- a specification of a node that can be
pub record IsSpec (s : NodeSpec) : Type 0 where
  pub some_port : 1 ≤ s.ports
  pub few_ports : s.ports ≤ 16
  pub attrs : FitBits s.attrs
  pub no_delay : s.attrs.delay ≡ 0

-- the node at power-on, with a clock that misses no turn
abbrev pub node_of_spec : NodeSpec → PortNode
node_of_spec s = record {
  state = power_on s.ports s.attrs s.force s.timing;
  coins = s.coins;
  clock = even;
}

-- a node that was just powered on, made one that resets its gap count
abbrev pub with_gap_reset : PortNode → PortNode
with_gap_reset x = record x { state = resetting_gap x.state }
