-- Where cables are coupled, each child port leads to a parent port.
use Rattle.std.proofs.Common.{◌≡◌, ℕ, true, Option, Some, None, ap}
use Rattle.std.proofs.lemmas.Bool.{eqb-true}
use Rattle.port_state.specs.Ports.{is_port}
use Rattle.cable_world.specs.World.{CableWorld}
use Rattle.cable_world.specs.Agreement.{RolesAgree}
use Rattle.cable_world.specs.Coupling.{IsCoupled}

pub port-is : (parent : Option ℕ) (port : ℕ) → is_port parent port ≡ true → parent ≡ Some port
port-is None port h = absurd (cc)
port-is (Some p) port h = ap Some (eqb-true p port h)

pub coupled-roles : (w : CableWorld) → IsCoupled w → RolesAgree w
coupled-roles w coupled a b x y e at_x at_y child none =
    port-is y.state.view.parent b.port ((coupled.cables a b x y e at_x at_y).child child none).0
