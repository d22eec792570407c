use Rattle.std.proofs.Common.{◌≡◌, ◌∙◌, ◌+◌, ◌≤◌, [], length, map, get_or, ap, sym, subst, arith}
use Rattle.std.proofs.lemmas.List.{length-map, length-replicate}
use Rattle.cabling.specs.Wiring.{ArePortCounts}
use Rattle.cable_world.specs.Wire.{empty_wire}
use Rattle.port_state.specs.Machine.{PortNode}
use Rattle.port_state.specs.Clock.{IsRegular}
use Rattle.cable_world.specs.Times.{CanBeForced, KeepsTime}
use Rattle.cable_world.specs.World.{IsPowered, slack_of, world_with_times}
use Rattle.cable_world.specs.Run.{IsReached}
use Rattle.cable_world.proofs.StaysReached.{power-on-reached}
use Rattle.cable_world.proofs.running.Start.{each-node, are-counts, as-long, start-is, power-on}
use Rattle.cable_world.proofs.world.World.with_times.Goals as goal

pub new-requires-clause-counts : goal.new-requires-clause-counts
new-requires-clause-counts g c =
    let f = g.M.PortMachine.record_of in
    let nodes = map f c.args.machines.items in
    let is = c.as_slice-ports.ensures.value ∙ c.port_counts-counts.ensures ∙ ap (λ ms. map (λ x. x.state.ports) (map f ms)) c.deref.ensures.value in
    subst ArePortCounts (sym is) (are-counts nodes (λ k x e.
    (each-node (λ (y : PortNode). IsPowered c.args.delay c.args.longest y.state) f c.args.machines.items c.requires.power_on k x e).valid))

pub invariant_of-result : goal.invariant_of-result
invariant_of-result g c =
    let f = g.M.PortMachine.record_of in
    let d = c.args.delay in
    let longest = c.args.longest in
    let nodes = map f c.args.machines.items in
    let counts = c.as_slice-ports.result.now in
    let is = c.as_slice-ports.ensures.value ∙ c.port_counts-counts.ensures ∙ ap (λ ms. map (λ x. x.state.ports) (map f ms)) c.deref.ensures.value in
    let long = length-map c.args.machines.items f in
    let start = start-is d longest c.len.result nodes counts c.in_ok-new.field-0 c.in_ok-wire_rows.field-0.items c.in_ok-no_changes.field-0.items
    is c.in_ok-new.ensures c.in_ok-wire_rows.ensures c.in_ok-no_changes.ensures (omega (arith, c.len.ensures, long, c.args.machines.ok.0)) in
    let h = each-node (λ (x : PortNode). IsPowered d longest x.state) f c.args.machines.items c.requires.power_on in
    let forced = each-node (λ (x : PortNode). CanBeForced (d + slack_of nodes) longest x.state.timing) f c.args.machines.items c.requires.forced in
    let regular = each-node (λ (x : PortNode). IsRegular x.clock) f c.args.machines.items (λ k m inside. g.met.M.PortMachine.regular (get_or c.args.machines.items k m)) in
    let paced = each-node (λ (x : PortNode). KeepsTime longest x.state.timing x.clock) f c.args.machines.items c.requires.clocks in
    let few : length nodes ≤ 63 = omega (arith, long, c.requires.few) in
    record {
      reached = λ fine. subst (λ w. ∥ IsReached w ∥₁) (sym start) ∣ power-on-reached (world_with_times d longest nodes) (power-on d longest nodes c.requires.some_delay few h paced) (record { short_delay = c.requires.short_delay; forced = forced; regular = regular }) ∣₁;
      marks = ap length c.in_ok-no_changes.ensures ∙ length-replicate c.len.result 0 ∙ omega (arith, c.len.ensures, c.args.machines.ok.0);
      same = λ fine. ap (λ rows. map length rows) c.in_ok-arrival_rows.ensures ∙ as-long [] empty_wire counts ∙ sym (ap (λ rows. map length rows) c.in_ok-wire_rows.ensures);
    }

pub returns-clause-world : goal.returns-clause-world
returns-clause-world g c =
    let f = g.M.PortMachine.record_of in
    let nodes = map f c.args.machines.items in
    let counts = c.as_slice-ports.ensures.value ∙ c.port_counts-counts.ensures ∙ ap (λ ms. map (λ x. x.state.ports) (map f ms)) c.deref.ensures.value in
    start-is c.args.delay c.args.longest c.len.result nodes c.as_slice-ports.result.now c.in_ok-new.field-0 c.in_ok-wire_rows.field-0.items c.in_ok-no_changes.field-0.items
    counts c.in_ok-new.ensures c.in_ok-wire_rows.ensures c.in_ok-no_changes.ensures
    (omega (arith, c.len.ensures, length-map c.args.machines.items f, c.args.machines.ok.0))
