use Rattle.std.proofs.Common.{◌≡◌, ◌∙◌, ◌+◌, ◌≤◌, [], length, map, get_or, replicate, ap, sym, subst, arith}
use Rattle.std.proofs.lemmas.List.{length-map, length-replicate}
use Rattle.std.proofs.lemmas.List.Elements.{All-weaker}
use Rattle.cabling.specs.Wiring.{ArePortCounts}
use Rattle.port_state.specs.Clock.{IsRegular}
use Rattle.port_state.specs.Machine.{PortNode}
use Rattle.cable_world.specs.Wire.{empty_wire}
use Rattle.cable_world.specs.Times.{CanBeForced, KeepsTime}
use Rattle.cable_world.specs.World.{IsPowered, slack_of, world_with_times}
use Rattle.cable_world.specs.Parts.{world_record}
use Rattle.cable_world.specs.Run.{IsReached}
use Rattle.world_agenda.specs.declared.node.AgendaNode.{AgendaNode}
use Rattle.world_agenda.specs.Clock.{caught_up}
use Rattle.world_agenda.specs.Slow.{HasSlow}
use Rattle.world_agenda.proofs.Known.{known-nothing}
use Rattle.world_agenda.proofs.Late.{all-now}
use Rattle.world_agenda.proofs.LiveRows.{all-live, all-give}
use Rattle.world_agenda.proofs.agenda.AgendaWorld.with_times.Goals as goal
use Rattle.cable_world.proofs.Lemmas.{are-counts, as-long, each-node, power-on, start-is}

pub new-requires-clause-counts : goal.new-requires-clause-counts
new-requires-clause-counts g c =
    let f = g.M.PortMachine.record_of in
    let nodes = map f c.args.machines.items in
    let is = c.as_slice-ports.ensures.value ∙ c.port_counts-counts.ensures ∙ ap (λ ms. map (λ x. x.state.ports) (map f ms)) c.deref.ensures.value in
    subst ArePortCounts (sym is) (are-counts nodes (λ k x e.
    (each-node (λ (y : PortNode). IsPowered c.args.delay c.args.longest y.state) f c.args.machines.items c.requires.power_on k x e).valid))

pub invariant_of-result : goal.invariant_of-result
invariant_of-result g c =
    let f = g.M.PortMachine.record_of in
    let d = c.args.delay in
    let longest = c.args.longest in
    let nodes = map f c.args.machines.items in
    let agenda = c.in_ok-agenda_nodes.field-0.items in
    let r : AgendaNode g.row.M.Denot g.M.PortMachine → PortNode = λ n. f n.machine in
    let same : map (λ n. caught_up 0 n.clock (r n)) agenda ≡ nodes = all-now r (λ n. n.clock) 0 agenda c.in_ok-agenda_nodes.ensures.clocks ∙ c.in_ok-agenda_nodes.ensures.nodes in
    let counts = c.as_slice-ports.result.now in
    let is = c.as_slice-ports.ensures.value ∙ c.port_counts-counts.ensures ∙ ap (λ ms. map (λ x. x.state.ports) (map f ms)) c.deref.ensures.value in
    let long = length-map c.args.machines.items f in
    let start = ap (λ xs. world_record d longest c.in_ok-new.field-0 xs c.in_ok-wire_rows.field-0.items c.in_ok-no_changes.field-0.items 0) same
    ∙ start-is d longest c.len-2.result nodes counts c.in_ok-new.field-0 c.in_ok-wire_rows.field-0.items c.in_ok-no_changes.field-0.items
    is c.in_ok-new.ensures c.in_ok-wire_rows.ensures c.in_ok-no_changes.ensures (omega (arith, c.len-2.ensures, long, c.args.machines.ok.0)) in
    let h = each-node (λ (x : PortNode). IsPowered d longest x.state) f c.args.machines.items c.requires.power_on in
    let forced = each-node (λ (x : PortNode). CanBeForced (d + slack_of nodes) longest x.state.timing) f c.args.machines.items c.requires.forced in
    let regular = each-node (λ (x : PortNode). IsRegular x.clock) f c.args.machines.items (λ k m inside. g.met.M.PortMachine.regular (get_or c.args.machines.items k m)) in
    let paced = each-node (λ (x : PortNode). KeepsTime longest x.state.timing x.clock) f c.args.machines.items c.requires.clocks in
    let few : length nodes ≤ 63 = omega (arith, long, c.requires.few) in
    let many : length agenda ≡ length c.args.machines.items = sym (length-map agenda r) ∙ ap length c.in_ok-agenda_nodes.ensures.nodes ∙ long in
    record {
      reached = λ fine. subst (λ w. ∥ IsReached w ∥₁) (sym start)
          ∣ c.worlds_stay_reached.ensures.power_on (world_with_times d longest nodes) (power-on d longest nodes c.requires.some_delay few h paced) (record { short_delay = c.requires.short_delay; forced = forced; regular = regular }) ∣₁;
      early = omega arith;
      abreast = λ fine e. c.in_ok-agenda_nodes.ensures.clocks;
      behind = λ fine. All-weaker (λ n. n.clock ≡ 0) (λ n. n.clock ≤ 0) (λ n e. omega (arith, e)) agenda c.in_ok-agenda_nodes.ensures.clocks;
      idle = λ k e inside. omega arith;
      marks = ap length c.in_ok-no_changes.ensures ∙ length-replicate c.len-2.result 0 ∙ omega (arith, c.len-2.ensures, c.args.machines.ok.0) ∙ sym many;
      slows = λ fine. subst (HasSlow c.slow_nodes.result) (ap (map f) c.deref-2.ensures.value ∙ sym same) c.slow_nodes.ensures;
      knows = λ fine. known-nothing c.unknown.result.soon c.unknown.result.next _ c.unknown.ensures.soon c.unknown.ensures.next;
      lives = λ fine.
          let made : length counts ≡ c.len.result = ap length is ∙ length-map nodes (λ (x : PortNode). x.state.ports) ∙ long ∙ omega (arith, c.len.ensures, c.args.machines.ok.0) in
          all-live c.first.result c.len.result c.in_ok-wire_rows.field-0.items c.first.ensures
          (ap length c.in_ok-wire_rows.ensures ∙ length-map counts (λ count. replicate count empty_wire) ∙ made);
      gives = λ fine.
          let made : length counts ≡ c.len-3.result = ap length is ∙ length-map nodes (λ (x : PortNode). x.state.ports) ∙ long ∙ omega (arith, c.len-3.ensures, c.args.machines.ok.0) in
          all-give c.first-2.result c.len-3.result c.in_ok-arrival_rows.field-0.items c.first-2.ensures
          (ap length c.in_ok-arrival_rows.ensures ∙ length-map counts (λ count. replicate count []) ∙ made);
      same = λ fine. ap (λ rows. map length rows) c.in_ok-arrival_rows.ensures ∙ as-long [] empty_wire counts ∙ sym (ap (λ rows. map length rows) c.in_ok-wire_rows.ensures);
    }

pub returns-clause-world : goal.returns-clause-world
returns-clause-world g c =
    let f = g.M.PortMachine.record_of in
    let nodes = map f c.args.machines.items in
    let agenda = c.in_ok-agenda_nodes.field-0.items in
    let r : AgendaNode g.row.M.Denot g.M.PortMachine → PortNode = λ n. f n.machine in
    let same : map (λ n. caught_up 0 n.clock (r n)) agenda ≡ nodes = all-now r (λ n. n.clock) 0 agenda c.in_ok-agenda_nodes.ensures.clocks ∙ c.in_ok-agenda_nodes.ensures.nodes in
    let counts = c.as_slice-ports.ensures.value ∙ c.port_counts-counts.ensures ∙ ap (λ ms. map (λ x. x.state.ports) (map f ms)) c.deref.ensures.value in
    ap (λ xs. world_record c.args.delay c.args.longest c.in_ok-new.field-0 xs c.in_ok-wire_rows.field-0.items c.in_ok-no_changes.field-0.items 0) same
    ∙ start-is c.args.delay c.args.longest c.len-2.result nodes c.as_slice-ports.result.now c.in_ok-new.field-0 c.in_ok-wire_rows.field-0.items c.in_ok-no_changes.field-0.items
    counts c.in_ok-new.ensures c.in_ok-wire_rows.ensures c.in_ok-no_changes.ensures
    (omega (arith, c.len-2.ensures, length-map c.args.machines.items f, c.args.machines.ok.0))
