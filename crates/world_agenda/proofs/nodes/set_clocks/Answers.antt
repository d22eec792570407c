use Rattle.std.proofs.Common.{◌≡◌, ◌∙◌, ◌<◌, ℕ, length, map, refl, sym, subst, arith}
use Rattle.std.proofs.lemmas.List.{length-map, map-set}
use Rattle.std.proofs.Math.Seq.{map-set_same}
use Rattle.cabling.specs.NodeSet.{Holds}
use Rattle.port_state.specs.Machine.{PortNode}
use Rattle.world_agenda.specs.declared.node.AgendaNode.{AgendaNode}
use Rattle.world_agenda.specs.Agenda.{AreAtBut}
use Rattle.world_agenda.proofs.Blend.{less-within}
use Rattle.world_agenda.proofs.Touched.{at-less, at-all}
use Rattle.world_agenda.proofs.nodes.set_clocks.Goals as goal
use Rattle.cable_world.proofs.Lemmas.{kept-set, kept-then}

pub bounds-nodes-node : goal.bounds-nodes-node
bounds-nodes-node g c =
    let within : c.in-Some.node < length c.args.nodes.now = c.requires.near c.in-Some.node (c.loop-node.invariant.left c.in-Some.node c.in-Some.ensures.held) in
    omega (arith, within, c.loop-node.auto.nodes)

pub loop-node-preserved : goal.loop-node-preserved
loop-node-preserved g c =
    let f : AgendaNode g.row.M.Denot g.M.PortMachine → PortNode = λ n. g.M.PortMachine.record_of n.machine in
    let clock : AgendaNode g.row.M.Denot g.M.PortMachine → ℕ = λ n. n.clock in
    let ms = c.loop-node.nodes in
    let k = c.in-Some.node in
    let inv = c.loop-node.invariant in
    let take = c.in-Some.ensures in
    let left = c.loop-node.left in
    let less = c.take_least.new.self in
    let m = c.index-nodes-node.result in
    let within : k < length c.args.nodes.now = c.requires.near k (inv.left k take.held) in
    let inside : k < length ms = omega (arith, within, c.loop-node.auto.nodes) in
    record {
      left = λ j has. inv.left j (less-within left less k take.others take.gone j has);
      others = subst (AreAtBut less c.args.turns) (sym (map-set clock ms k _))
          (at-less left less k c.args.turns (map clock ms) take.others (omega (arith, inside, length-map ms clock)) inv.others);
      nodes = map-set_same f ms k _ m refl ∙ inv.nodes;
      same = kept-then (Holds c.args.set) (λ j. j ≡ k) (Holds c.args.set) c.args.nodes.now ms _ (λ j has. has)
          (λ j e. subst (λ (i : ℕ). Holds c.args.set i) (sym e) (inv.left k take.held)) inv.same (kept-set k ms _);
    }

pub returns-clause-clocks : goal.returns-clause-clocks
returns-clause-clocks g c =
    at-all (λ n. n.clock) c.loop-node.left c.args.turns c.loop-node.nodes c.in_default.ensures.none c.loop-node.invariant.others
