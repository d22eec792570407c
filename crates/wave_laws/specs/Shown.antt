-- What a dump shows of a world.
use Rattle.std.specs.Prelude.{◌≡◌, ℕ, List, codes, Some, slice_get}
use Rattle.port_state.specs.declared.ports.PortView.{PortView}
use Rattle.port_state.specs.declared.view.View.{View}
use Rattle.port_state.specs.Ports.{PortNumber}
use Rattle.port_state.specs.Machine.{PortNode}
use Rattle.cable_world.specs.World.{CableWorld, NodeNumber}
use Rattle.script_trace.specs.Event.{state_number}
use Rattle.script_trace.specs.waves.Value.{node_code, port_code, number, flag, state_value, id_value, is_root, level_value, level_number, role, role_value}
use Rattle.wave_laws.specs.Reading.{last_value}

-- The last values of a node's variables are what it shows: its state, as a word and as a number, its
-- ID, its timeout, and whether it is the root.
pub record ShowsNode (text : List ℕ) (k : NodeNumber) (v : View) : Type 0 where
  pub state_word : last_value (node_code k (codes "s")) text ≡ Some (state_value v.phase)
  pub state_code :
      last_value (node_code k (codes "c")) text ≡ Some (number 3 (state_number v.phase))
  pub id : last_value (node_code k (codes "i")) text ≡ Some (id_value v.id)
  pub timeout : last_value (node_code k (codes "t")) text ≡ Some (number 1 (flag v.timed_out))
  pub root : last_value (node_code k (codes "r")) text ≡ Some (number 1 (flag (is_root v)))

-- Those of a port's are its role and the level that it shows, each as a word and as a number.
pub record ShowsPort (text : List ℕ) (k : NodeNumber) (j : PortNumber) (v : View) (p : PortView) :
    Type 0 where
  pub role_word :
      last_value (port_code k j (codes "r")) text ≡ Some (role_value (role v.parent j p))
  pub role_code :
      last_value (port_code k j (codes "a")) text ≡ Some (number 2 (role v.parent j p))
  pub level_word : last_value (port_code k j (codes "h")) text ≡ Some (level_value p.shown)
  pub level_code :
      last_value (port_code k j (codes "b")) text ≡ Some (number 2 (level_number p.shown))

-- so it is for each node of a world, and for each of its ports
pub record ShowsWorld (text : List ℕ) (w : CableWorld) : Type 0 where
  pub nodes :
      (k : NodeNumber) (x : PortNode) → slice_get w.nodes k ≡ Some x → ShowsNode text k x.state.view
  pub ports :
      (k : NodeNumber) (x : PortNode) (j : PortNumber) (p : PortView) →
      slice_get w.nodes k ≡ Some x → slice_get x.state.view.ports j ≡ Some p →
      ShowsPort text k j x.state.view p
