use Rattle.std.proofs.Common.{◌≡◌, ◌∙◌, ℕ, false, Some, length, map, slice_get, ap, sym, subst, inl, inr, arith}
use Rattle.std.proofs.lemmas.Bool.{cases_eq}
use Rattle.cabling.specs.NodeSet.{Holds}
use Rattle.port_state.specs.Clock.{misses}
use Rattle.port_state.specs.Machine.{PortNode}
use Rattle.world_agenda.specs.declared.node.AgendaNode.{AgendaNode}
use Rattle.world_agenda.specs.Clock.{caught_up}
use Rattle.world_agenda.proofs.Blend.{less-within}
use Rattle.world_agenda.proofs.SlowNodes.{even-misses, made-of, not-noted, still-out}
use Rattle.world_agenda.proofs.clocks.missing.Goals as goal

pub loop-node-init : goal.loop-node-init
loop-node-init g c = record {
  left = λ k has. has;
  ticks = λ k x at out none. even-misses x.clock (c.requires.slow.evens k x at out);
}

pub loop-node-preserved : goal.loop-node-preserved
loop-node-preserved g c =
    let f : AgendaNode g.row.M.Denot g.M.PortMachine → PortNode = λ n. caught_up c.args.turns n.clock (g.M.PortMachine.record_of n.machine) in
    let inv = c.loop-node.invariant in
    let take = c.in-Some.ensures in
    let left = c.loop-node.left in
    let less = c.take_least.new.self in
    let node = c.in-Some.node in
    let m = c.index-nodes-node.result in
    let noted = c.note.ensures in
    record {
      left = λ k has. inv.left k (less-within left less node take.others take.gone k has);
      ticks = λ k x at out none. elim (cases_eq k node) [
        | inl e ↦
            let is : f m ≡ x = made-of f c.args.nodes.now node x m (subst (λ i. slice_get (map f c.args.nodes.now) i ≡ Some x) e at) c.index-nodes-node.is in
            let off : Holds c.note.new.set node → ⊥ = λ has. none (subst (Holds c.note.new.set) (sym e) has) in
            ap (λ (y : PortNode). misses y.clock) (sym is) ∙ sym c.misses_at.ensures ∙ not-noted c.misses_at.result (Holds c.note.new.set node) noted.held off
        | inr ne ↦
            inv.ticks k x at (still-out left less node k take.others take.gone out ne) (λ has. none ((noted.others k ne).1 has))
      ];
    }
