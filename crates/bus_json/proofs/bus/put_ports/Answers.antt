use Rattle.std.proofs.Common.{◌≡◌, ℕ, ◌+◌, Option, Some, List, ◌++◌, get_or, drop, append_assoc, arith}
use Rattle.std.specs.Prelude.{slice_get}
use Rattle.self_id.specs.declared.node.PortStatus.{PortStatus}
use Rattle.self_id.specs.declared.node.PortStatus.TheVariants.{Absent}
use Rattle.topology_stack.specs.Tree.{Tree}
use Rattle.topology_stack.specs.Far.{Far}
use Rattle.json.specs.Token.{Token}
use Rattle.json.specs.Tree.{json_tokens, items_tokens}
use Rattle.bus_json.specs.Bus.{port_value, port_items}
use Rattle.quad_lanes.proofs.Lemmas.{at_drop}
use Rattle.std.proofs.lemmas.Option.{slice_get-get_or}
use Rattle.bus_json.proofs.Slots.{far_is}
use Rattle.bus_json.proofs.bus.put_ports.Goals as goal

step : (t : Tree) (id slot : ℕ) (ps : List PortStatus) (p : PortStatus) (far : Option ℕ) (old new whole : List Token) →
    slice_get ps slot ≡ Some p → Far t id slot far → new ≡ old ++ json_tokens (port_value p far) →
    old ++ items_tokens (port_items t id slot (drop slot ps)) ≡ whole →
    new ++ items_tokens (port_items t id (slot + 1) (drop (slot + 1) ps)) ≡ whole
step t id slot ps p far old new whole a f e h =
    let rest = items_tokens (port_items t id (slot + 1) (drop (slot + 1) ps)) in
    let k : old ++ (json_tokens (port_value p far) ++ rest) ≡ whole =
    rw (at_drop ps slot p a, far_is t id slot far f) at h in
    rw (e, append_assoc old (json_tokens (port_value p far)) rest) k

pub loop-slot-preserved : goal.loop-slot-preserved
loop-slot-preserved c =
    let ps = c.as_slice-ports.result.now in
    step c.args.tree.now c.args.id c.loop-slot.slot ps (get_or ps c.loop-slot.slot Absent) c.far.result c.loop-slot.out c.put_port.new.out _
    (slice_get-get_or ps c.loop-slot.slot Absent (omega (arith, c.loop-slot-test.true))) c.far.ensures.end c.in_ok-put_port.ensures c.loop-slot.invariant
