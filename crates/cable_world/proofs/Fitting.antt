-- The attributes that the nodes of a well-formed world show fit their bits.
use Rattle.std.proofs.Common.{All, get_or, arith}
use Rattle.std.proofs.lemmas.List.Elements.{All-map}
use Rattle.std.proofs.lemmas.Option.{slice_get-get_or}
use Rattle.self_id.specs.Node.{FitBits}
use Rattle.port_state.specs.declared.states.NodeState.{NodeState}
use Rattle.port_state.specs.Group.{shown_attrs}
use Rattle.port_state.specs.Machine.{PortNode}
use Rattle.port_state.specs.Valid.{IsBounded}
use Rattle.cable_world.specs.World.{CableWorld}
use Rattle.cable_world.specs.Lawful.{IsWellFormed}
use Rattle.cable_world.specs.Outcome.{attrs_now}

pub shown-fit : (x : NodeState) → IsBounded x → FitBits (shown_attrs x)
shown-fit x b = record {
  gap = omega (arith, b.gap);
  speed = b.attrs.speed;
  delay = b.attrs.delay;
  power = b.attrs.power;
}

pub attrs-fit : (w : CableWorld) → IsWellFormed w → All FitBits (attrs_now w)
attrs-fit w f =
    All-map FitBits (λ (x : PortNode). shown_attrs x.state) w.nodes
    (λ k d inside. shown-fit (get_or w.nodes k d).state
    (f.nodes k (get_or w.nodes k d) (slice_get-get_or w.nodes k d inside)).valid.bounded)
