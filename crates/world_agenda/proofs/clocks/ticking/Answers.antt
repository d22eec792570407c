use Rattle.std.proofs.Common.{◌≡◌, ◌≤◌, ℕ, Some, length, map, slice_get, sym, subst, inl, inr, arith}
use Rattle.std.proofs.lemmas.Bool.{cases_eq}
use Rattle.cabling.specs.NodeSet.{Holds}
use Rattle.port_state.specs.Clock.{TicksFor}
use Rattle.port_state.specs.Machine.{PortNode}
use Rattle.port_state.proofs.Lemmas.{ticks-fewer}
use Rattle.world_agenda.specs.declared.node.AgendaNode.{AgendaNode}
use Rattle.world_agenda.specs.Clock.{caught_up}
use Rattle.world_agenda.proofs.Blend.{less-within}
use Rattle.world_agenda.proofs.SlowNodes.{even-ticks, each-of, made-of, still-out}
use Rattle.world_agenda.proofs.clocks.ticking.Goals as goal

pub loop-node-init : goal.loop-node-init
loop-node-init g c = record {
  left = λ k has. has;
  most = omega arith;
  ticks = λ k x at out. even-ticks c.args.most x.clock (c.requires.slow.evens k x at out);
}

pub loop-node-preserved : goal.loop-node-preserved
loop-node-preserved g c =
    let f : AgendaNode g.row.M.Denot g.M.PortMachine → PortNode = λ n. caught_up c.args.turns n.clock (g.M.PortMachine.record_of n.machine) in
    let inv = c.loop-node.invariant in
    let take = c.in-Some.ensures in
    let left = c.loop-node.left in
    let less = c.take_least.new.self in
    let node = c.in-Some.node in
    let m = c.index-nodes-node.result in
    record {
      left = λ k has. inv.left k (less-within left less node take.others take.gone k has);
      most = omega (arith, c.min-ticks.ensures, inv.most);
      ticks = λ k x at out. elim (cases_eq k node) [
        | inl e ↦
            let is : f m ≡ x = made-of f c.args.nodes.now node x m (subst (λ i. slice_get (map f c.args.nodes.now) i ≡ Some x) e at) c.index-nodes-node.is in
            ticks-fewer c.min-ticks.result c.ticks_at.result x.clock (omega (arith, c.min-ticks.ensures))
            (subst (λ (y : PortNode). TicksFor c.ticks_at.result y.clock) is c.ticks_at.ensures.ticks)
        | inr ne ↦
            ticks-fewer c.min-ticks.result c.loop-node.ticks x.clock (omega (arith, c.min-ticks.ensures))
            (inv.ticks k x at (still-out left less node k take.others take.gone out ne))
      ];
    }

pub returns-clause-ticks : goal.returns-clause-ticks
returns-clause-ticks g c =
    let f : AgendaNode g.row.M.Denot g.M.PortMachine → PortNode = λ n. caught_up c.args.turns n.clock (g.M.PortMachine.record_of n.machine) in
    each-of (λ x. TicksFor c.loop-node.ticks x.clock) (map f c.args.nodes.now)
    (λ k x at. c.loop-node.invariant.ticks k x at (c.in_default.ensures.none k))
