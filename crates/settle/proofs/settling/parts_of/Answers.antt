use Rattle.std.proofs.Common.{◌≡◌, ◌∙◌, ◌+◌, length, sym, ap, subst, arith, true, false}
use Rattle.cabling.specs.Wiring.{Wiring}
use Rattle.cabling.specs.NodeSet.{Holds}
use Rattle.cabling.specs.Component.{IsComponent, SharesComponents}
use Rattle.cable_world.specs.World.{NodeSet}
use Rattle.settle.specs.declared.report.Part.{Part}
use Rattle.settle.specs.codings.Reading.{IsLeast, is_in}
use Rattle.settle.proofs.PartsSoFar.{PartsBefore, no-parts, part-added, part-goes-on, least-of-new, all-parts}
use Rattle.settle.proofs.settling.parts_of.Goals as goal
use Rattle.settle.proofs.settling.parts_of.Goals.{then-not-is_in+in_ok-part_of+in_ok-push, else-not-is_in}

pub loop-node-init : goal.loop-node-init
loop-node-init g c = rw c.new-parts.ensures (no-parts (g.W.WorldRun.world c.args.world.now))

pub loop-node-preserved : goal.loop-node-preserved
loop-node-preserved g c =
    let w = g.W.WorldRun.world c.args.world.now in
    let k = c.loop-node.node in
    let asked : c.is_in.result ≡ is_in c.loop-node.parts k =
    c.is_in.ensures ∙ ap (λ parts. is_in parts k) c.as_slice.ensures in
    elim c.if-not-is_in.branch [
      | then-not-is_in+in_ok-part_of+in_ok-push t ↦
          let nodes = t.component-nodes.result in
          let is : IsComponent w.cabling k nodes = subst (λ (d : Wiring). IsComponent d k nodes) c.cabling-cabling.ensures t.component-nodes.ensures.component in
          let shared : SharesComponents w.cabling = subst SharesComponents c.cabling-cabling.ensures c.components_are_whole.ensures.shared in
          let part : Part = t.in_ok-part_of.field-0 in
          let its : part.nodes ≡ nodes = t.in_ok-part_of.ensures.nodes in
          let new : is_in c.loop-node.parts k ≡ false = sym asked ∙ t.if-not-is_in.true in
          let least : IsLeast nodes k = least-of-new w k nodes c.loop-node.parts shared c.loop-node.invariant is new in
          subst (PartsBefore w (k + 1)) (sym (t.parts-is ∙ t.in_ok-push.ensures.ok))
          (part-added w k c.loop-node.parts part c.loop-node.invariant t.in_ok-part_of.ensures.part
          (subst (λ (set : NodeSet). Holds set k) (sym its) is.holds)
          (subst (λ (set : NodeSet). IsLeast set k) (sym its) least))
      | else-not-is_in t ↦
          let seen : is_in c.loop-node.parts k ≡ true = sym asked ∙ t.if-not-is_in.false in
          subst (PartsBefore w (k + 1)) (sym t.parts-is)
          (part-goes-on w k c.loop-node.parts c.loop-node.invariant seen)
    ]

pub returns : goal.returns
returns g c =
    all-parts (g.W.WorldRun.world c.args.world.now) c.loop-node.node c.loop-node.parts c.loop-node.invariant
    (omega (arith, c.loop-node-test.false, c.loop-node.auto.node-end, c.nodes-node-end.ensures.value, ap length c.cabling-cabling.ensures))
