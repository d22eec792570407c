use Rattle.std.proofs.Common.{◌≡◌, map, take}
use Rattle.port_state.specs.Group.{shown_attrs}
use Rattle.port_state.specs.Machine.{PortNode}
use Rattle.settle.proofs.part.attrs_of.Given as goal

abbrev pub invariant-loop-node : goal.invariant-loop-node
invariant-loop-node g l =
    l.attrs.items ≡ map (λ (x : PortNode). shown_attrs x.state) (take l.node (g.W.WorldRun.world l.world).nodes)
