use Rattle.std.proofs.Common.{◌∙◌, ◌≡◌, ◌+◌, ◌<◌, ◌≤◌, length, map, slice_index_or, ap, sym, arith}
use Rattle.std.proofs.lemmas.List.{length-map, map-set, get_or_default}
use Rattle.std.proofs.Math.ListN.{get_or-map}
use Rattle.std.proofs.Math.Seq.{map-set_same}
use Rattle.port_state.specs.Machine.{PortNode}
use Rattle.world_agenda.specs.declared.node.AgendaNode.{AgendaNode}
use Rattle.world_agenda.specs.Clock.{caught_up}
use Rattle.world_agenda.proofs.Places.{same-here, same-past, all-at, all-more}
use Rattle.world_agenda.proofs.Late.{all-now}
use Rattle.world_agenda.proofs.nodes.catch_up.Goals as goal
use Rattle.cable_world.proofs.Lemmas.{all-taken, mixed-set}

pub catch_up-requires : goal.catch_up-requires
catch_up-requires g c =
    let ms = c.loop-at.nodes in
    let first = c.args.nodes.now in
    let k = c.loop-at.at in
    let m = slice_index_or ms k c.index-nodes-at.result in
    let inside : k < length ms = omega (arith, c.loop-at.auto.nodes, c.loop-at-test.true) in
    let was = same-here k ms first m c.loop-at.auto.nodes c.loop-at.invariant.past (get_or_default ms k c.index-nodes-at.result m inside) in
    all-at (λ n. c.args.turns ≤ n.clock + n.idle) k first m c.loop-at-test.true was c.requires.idle

pub loop-at-preserved : goal.loop-at-preserved
loop-at-preserved g c =
    let f : AgendaNode g.row.M.Denot g.M.PortMachine → PortNode = λ n. g.M.PortMachine.record_of n.machine in
    let h : AgendaNode g.row.M.Denot g.M.PortMachine → PortNode = λ n. caught_up c.args.turns n.clock (g.M.PortMachine.record_of n.machine) in
    let ms = c.loop-at.nodes in
    let first = c.args.nodes.now in
    let k = c.loop-at.at in
    let m = slice_index_or ms k c.index-nodes-at.result in
    let inside : k < length ms = omega (arith, c.loop-at.auto.nodes, c.loop-at-test.true) in
    let was = same-here k ms first m c.loop-at.auto.nodes c.loop-at.invariant.past (get_or_default ms k c.index-nodes-at.result m inside) in
    record {
      nodes =
          map-set f ms k c.catch_up.new.self
          ∙ mixed-set k (map h first) (map f first) (map f ms) (f c.catch_up.new.self) (h m) (length-map first h ∙ sym (length-map first f))
          (omega (arith, length-map first f, c.loop-at-test.true)) c.loop-at.invariant.nodes
          (c.catch_up.ensures.machine ∙ ap h was ∙ sym (get_or-map h first k m));
      past = same-past k ms first c.catch_up.new.self c.loop-at.auto.nodes c.loop-at.invariant.past;
      clocks = all-more (λ n. n.clock ≡ c.args.turns) k ms c.catch_up.new.self
          (c.catch_up.ensures.clock (all-at (λ n. n.clock ≤ c.args.turns) k first m c.loop-at-test.true was c.requires.behind)) c.loop-at.invariant.clocks;
      ends = map-set_same (λ n. n.clock + n.idle) ms k c.catch_up.new.self c.index-nodes-at.result c.catch_up.ensures.end ∙ c.loop-at.invariant.ends;
    }

pub returns-then-level-turns-clause-nodes : goal.returns-then-level-turns-clause-nodes
returns-then-level-turns-clause-nodes g c =
    let f : AgendaNode g.row.M.Denot g.M.PortMachine → PortNode = λ n. g.M.PortMachine.record_of n.machine in
    sym (all-now f (λ n. n.clock) c.args.turns c.args.nodes.now (c.requires.level c.if-level-turns.true))

pub returns-clause-clocks : goal.returns-clause-clocks
returns-clause-clocks g c =
    all-taken (λ n. n.clock ≡ c.args.turns) c.loop-at.at c.loop-at.nodes (omega (arith, c.loop-at.auto.nodes, c.loop-at-test.false)) c.loop-at.invariant.clocks
