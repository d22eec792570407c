use Rattle.std.proofs.Common.{◌≡◌, ◌∙◌, ◌+◌, ◌<◌, ◌≤◌, List, length, map, ap, sym, subst, arith}
use Rattle.std.specs.Vec.{with_items}
use Rattle.std.proofs.lemmas.List.{with_items_is}
use Rattle.std.proofs.lemmas.List.Elements.{All-weaker}
use Rattle.std.proofs.Math.Logic.{∥∥₁_map}
use Rattle.port_state.specs.Idle.{after_ticks}
use Rattle.port_state.specs.Machine.{PortNode}
use Rattle.cable_world.specs.Wire.{Wire}
use Rattle.cable_world.specs.World.{CableWorld}
use Rattle.cable_world.specs.Parts.{world_record}
use Rattle.world_agenda.specs.declared.node.AgendaNode.{AgendaNode}
use Rattle.world_agenda.specs.Clock.{caught_up}
use Rattle.cable_world.specs.Still.{hold_less}
use Rattle.cable_world.specs.Run.{IsReached}
use Rattle.world_agenda.specs.Slow.{HasSlow}
use Rattle.world_agenda.proofs.SlowNodes.{slow-passed}
use Rattle.world_agenda.proofs.Late.{all-later}
use Rattle.world_agenda.proofs.Ahead.{still-for}
use Rattle.world_agenda.proofs.LiveRows.{live-passes}
use Rattle.world_agenda.proofs.Turns.{no-turns}
use Rattle.world_agenda.proofs.Whole.{lawful-now}
use Rattle.world_agenda.proofs.agenda.AgendaWorld.pass_over.Goals as goal
use Rattle.cable_world.proofs.Lemmas.{rows-long}

pub returns-then-rest-eq0-clause-done : goal.returns-then-rest-eq0-clause-done
returns-then-rest-eq0-clause-done g c = sym (no-turns _)

pub invariant_of-self : goal.invariant_of-self
invariant_of-self g c =
    let self = c.args.self.now in
    let f : AgendaNode g.row.M.Denot g.M.PortMachine → PortNode = λ n. caught_up self.turns n.clock (g.M.PortMachine.record_of n.machine) in
    let w : CableWorld = world_record self.delay self.longest self.cabling (map f self.nodes.items) self.wires.items self.changed.items self.turns in
    let k = c.rest-rest.result in
    let behind = self.behind c.requires.sound in
    let some : 0 < k = omega (arith, c.if-rest-eq0.false) in
    let ws = with_items_is self.wires c.pass_live.new.wires (c.pass_live.auto.wires ∙ c.deref_mut.ensures.len) in
    let h : AgendaNode g.row.M.Denot g.M.PortMachine → PortNode = λ n. caught_up (self.turns + k) n.clock (g.M.PortMachine.record_of n.machine) in
    let r : AgendaNode g.row.M.Denot g.M.PortMachine → PortNode = λ n. g.M.PortMachine.record_of n.machine in
    let still = still-for r (λ n. n.clock) (λ n. n.idle) (λ n. n.rests) self.turns k self.nodes.items self.delay self.longest self.cabling self.wires.items self.changed.items
    c.rest-rest.ensures.silent (λ s. behind) c.rest-rest.ensures.idle in
    let nodes : map h self.nodes.items ≡ map (after_ticks k) (map f self.nodes.items) = all-later r (λ n. n.clock) k self.turns self.nodes.items behind in
    let rows = ws ∙ c.pass_live.ensures ∙ ap (map (map (hold_less k))) c.deref_mut.ensures.value in
    let done =
    ap (λ xs. world_record self.delay self.longest self.cabling xs (with_items self.wires c.pass_live.new.wires).items self.changed.items (self.turns + k)) nodes
    ∙ ap (λ ys. world_record self.delay self.longest self.cabling (map (after_ticks k) (map f self.nodes.items)) ys self.changed.items (self.turns + k)) rows
    ∙ sym (c.still_turns_pass.ensures k w (lawful-now w c.worlds_stay_lawful.ensures.reached (self.reached c.requires.sound)).well_formed.count still) in
    record {
      reached = λ fine. subst (λ v. ∥ IsReached v ∥₁) (sym done) (∥∥₁_map (self.reached c.requires.sound) (c.worlds_stay_reached.ensures.turns k w));
      early = omega (arith, self.early);
      abreast = λ fine e. absurd (omega (arith, e, some, self.early));
      behind = λ fine. All-weaker (λ n. n.clock ≤ self.turns) (λ n. n.clock ≤ self.turns + k) (λ n few. omega (arith, few)) self.nodes.items behind;
      idle = c.rest-rest.ensures.idle some;
      marks = self.marks;
      knows = self.knows;
      slows = λ fine. subst (HasSlow self.slow) (sym nodes) (slow-passed self.slow k (map f self.nodes.items) (self.slows c.requires.sound));
      lives = λ fine. live-passes k self.live self.wires.items (with_items self.wires c.pass_live.new.wires).items rows (self.lives c.requires.sound);
      gives = self.gives;
      same = λ fine. self.same c.requires.sound
          ∙ sym (ap (λ (l : List (List Wire)). map length l) (ws ∙ c.pass_live.ensures) ∙ rows-long (hold_less k) c.deref_mut.result.now
          ∙ ap (λ (l : List (List Wire)). map length l) c.deref_mut.ensures.value);
    }

pub returns-clause-done : goal.returns-clause-done
returns-clause-done g c =
    let self = c.args.self.now in
    let f : AgendaNode g.row.M.Denot g.M.PortMachine → PortNode = λ n. caught_up self.turns n.clock (g.M.PortMachine.record_of n.machine) in
    let w : CableWorld = world_record self.delay self.longest self.cabling (map f self.nodes.items) self.wires.items self.changed.items self.turns in
    let k = c.rest-rest.result in
    let behind = self.behind c.requires.sound in
    let ws = with_items_is self.wires c.pass_live.new.wires (c.pass_live.auto.wires ∙ c.deref_mut.ensures.len) in
    let h : AgendaNode g.row.M.Denot g.M.PortMachine → PortNode = λ n. caught_up (self.turns + k) n.clock (g.M.PortMachine.record_of n.machine) in
    let r : AgendaNode g.row.M.Denot g.M.PortMachine → PortNode = λ n. g.M.PortMachine.record_of n.machine in
    let still = still-for r (λ n. n.clock) (λ n. n.idle) (λ n. n.rests) self.turns k self.nodes.items self.delay self.longest self.cabling self.wires.items self.changed.items
    c.rest-rest.ensures.silent (λ s. behind) c.rest-rest.ensures.idle in
    let nodes : map h self.nodes.items ≡ map (after_ticks k) (map f self.nodes.items) = all-later r (λ n. n.clock) k self.turns self.nodes.items behind in
    let rows = ws ∙ c.pass_live.ensures ∙ ap (map (map (hold_less k))) c.deref_mut.ensures.value in
    ap (λ xs. world_record self.delay self.longest self.cabling xs (with_items self.wires c.pass_live.new.wires).items self.changed.items (self.turns + k)) nodes
    ∙ ap (λ ys. world_record self.delay self.longest self.cabling (map (after_ticks k) (map f self.nodes.items)) ys self.changed.items (self.turns + k)) rows
    ∙ sym (c.still_turns_pass.ensures k w (lawful-now w c.worlds_stay_lawful.ensures.reached (self.reached c.requires.sound)).well_formed.count still)
