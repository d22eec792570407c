use Rattle.std.proofs.Common.{◌∙◌, ◌==◌, length, ap, sym, if◌then◌else◌}
use Rattle.cabling.specs.Wiring.{ports_of}
use Rattle.port_state.specs.Machine.{PortNode}
use Rattle.cable_world.specs.Turn.{same_list}
use Rattle.cable_world.specs.running.Hearing.{inbox_of}
use Rattle.cable_world.proofs.running.Lists.{turn-seen}
use Rattle.cable_world.proofs.all_nodes.turn_one.Goals as goal

pub returns-clause-changed : goal.returns-clause-changed
returns-clause-changed g c =
    let n = g.M.PortMachine.record_of c.args.machine.now in
    let node = c.in_ok-turn_node.ensures.node in
    let before = c.list-before.ensures in
    let after = c.list.ensures ∙ ap (λ (z : PortNode). z.state.list.items) node in
    c.last_change.ensures
    ∙ ap (λ b. if b then c.args.last else c.args.turns) (
    ap (λ l. length l == length c.list.result.now) before
    ∙ ap (λ l. length n.state.list.items == length l) after
    ∙ sym (turn-seen (inbox_of c.args.arrivals.now 0 (ports_of c.args.cabling.now c.args.node)) n)
    ∙ sym (ap (same_list n) node))
