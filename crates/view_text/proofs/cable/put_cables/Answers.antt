use Rattle.std.proofs.Common.{◌≡◌, ℕ, ◌+◌, Option, Some, List, ◌++◌, get_or, drop, append_assoc, arith}
use Rattle.std.specs.Prelude.{slice_get}
use Rattle.self_id.specs.declared.node.PortStatus.{PortStatus}
use Rattle.self_id.specs.declared.node.PortStatus.TheVariants.{Absent}
use Rattle.topology_stack.specs.Tree.{Tree}
use Rattle.view_text.specs.declared.cable.Cable.{Cable}
use Rattle.view_text.specs.Cable.{cable_at, cables_of}
use Rattle.quad_lanes.proofs.Lemmas.{at_drop}
use Rattle.std.proofs.lemmas.Option.{slice_get-get_or}
use Rattle.view_text.proofs.cable.put_cables.Goals as goal

step : (t : Tree) (id slot : ℕ) (ps : List PortStatus) (p : PortStatus) (es : List (Option ℕ)) (far : Option ℕ) (old new whole : List Cable) →
    slice_get ps slot ≡ Some p → slice_get es slot ≡ Some far →
    new ≡ old ++ cable_at t id slot p far →
    old ++ cables_of t id slot (drop slot ps) (drop slot es) ≡ whole → new ++ cables_of t id (slot + 1) (drop (slot + 1) ps) (drop (slot + 1) es) ≡ whole
step t id slot ps p es far old new whole a b e h =
    let k : old ++ (cable_at t id slot p far ++ cables_of t id (slot + 1) (drop (slot + 1) ps) (drop (slot + 1) es)) ≡ whole = rw (at_drop ps slot p a, at_drop es slot far b) at h in
    rw (e, append_assoc old (cable_at t id slot p far) (cables_of t id (slot + 1) (drop (slot + 1) ps) (drop (slot + 1) es))) k

pub loop-slot-preserved : goal.loop-slot-preserved
loop-slot-preserved c = λ es is.
    let ps = c.as_slice-ports.result.now in
    let end = c.far-far.ensures.end in
    let node : Some end.of_node ≡ Some es = cc (end.node, is) in
    let same : end.of_node ≡ es = cc in
    let there : slice_get es c.loop-slot.slot ≡ Some c.far-far.result = rw same at end.slot_end in
    step c.args.tree.now c.args.id c.loop-slot.slot ps (get_or ps c.loop-slot.slot Absent) es c.far-far.result c.loop-slot.list.items c.put_cable.new.list.items _
    (slice_get-get_or ps c.loop-slot.slot Absent (omega (arith, c.loop-slot-test.true))) there c.in_ok-put_cable.ensures (c.loop-slot.invariant es is)
