use Rattle.std.proofs.Common.{◌≡◌, ◌∙◌, ◌+◌, ◌≤◌, All, List, length, map, ap, sym, subst, arith}
use Rattle.std.proofs.lemmas.List.{with_items_is}
use Rattle.std.proofs.Math.Logic.{∥∥₁_map}
use Rattle.port_state.specs.Machine.{PortNode}
use Rattle.cable_world.specs.Wire.{Wire}
use Rattle.cable_world.specs.World.{CableWorld}
use Rattle.cable_world.specs.Parts.{world_record}
use Rattle.world_agenda.specs.declared.node.AgendaNode.{AgendaNode}
use Rattle.world_agenda.specs.Clock.{caught_up}
use Rattle.cable_world.specs.Turn.{turn}
use Rattle.cable_world.specs.Run.{IsReached}
use Rattle.world_agenda.specs.Slow.{HasSlow}
use Rattle.world_agenda.proofs.SlowNodes.{slow-turn}
use Rattle.world_agenda.proofs.Turns.{one-turn}
use Rattle.world_agenda.proofs.Whole.{lawful-now}
use Rattle.world_agenda.proofs.agenda.AgendaWorldWorldRun.turn.Goals as goal
use Rattle.cable_world.proofs.Lemmas.{short-now, vectors-related}

pub turn_agenda-requires-clause-lawful : goal.turn_agenda-requires-clause-lawful
turn_agenda-requires-clause-lawful g c =
    let self = c.args.self.now in
    let f : AgendaNode g.row.M.Denot g.M.PortMachine → PortNode = λ n. caught_up self.turns n.clock (g.M.PortMachine.record_of n.machine) in
    let w : CableWorld = world_record self.delay self.longest self.cabling (map f self.nodes.items) self.wires.items self.changed.items self.turns in
    (self.longest, rw (c.deref_mut.ensures.value, c.deref_mut-2.ensures.value, c.deref_mut-3.ensures.value) (lawful-now w c.worlds_stay_lawful.ensures.reached (self.reached c.if-self.false)))

pub turn_agenda-requires-clause-short : goal.turn_agenda-requires-clause-short
turn_agenda-requires-clause-short g c =
    let self = c.args.self.now in
    let f : AgendaNode g.row.M.Denot g.M.PortMachine → PortNode = λ n. caught_up self.turns n.clock (g.M.PortMachine.record_of n.machine) in
    short-now (world_record self.delay self.longest self.cabling (map f self.nodes.items) self.wires.items self.changed.items self.turns) (self.reached c.if-self.false)

pub turn_agenda-requires-clause-same : goal.turn_agenda-requires-clause-same
turn_agenda-requires-clause-same g c = rw (c.deref_mut-4.ensures.value, c.deref_mut-2.ensures.value) (c.args.self.now.same c.if-self.false)

pub turn_agenda-requires-clause-behind : goal.turn_agenda-requires-clause-behind
turn_agenda-requires-clause-behind g c = rw c.deref_mut.ensures.value (c.args.self.now.behind c.if-self.false)

pub turn_agenda-requires-clause-idle : goal.turn_agenda-requires-clause-idle
turn_agenda-requires-clause-idle g c = rw c.deref_mut.ensures.value c.args.self.now.idle

pub turn_agenda-requires-clause-knows : goal.turn_agenda-requires-clause-knows
turn_agenda-requires-clause-knows g c =
    rw c.deref_mut.ensures.value (c.args.self.now.knows c.if-self.false)

pub turn_agenda-requires-clause-live : goal.turn_agenda-requires-clause-live
turn_agenda-requires-clause-live g c =
    rw c.deref_mut-2.ensures.value (c.args.self.now.lives c.if-self.false)

pub turn_agenda-requires-clause-givers : goal.turn_agenda-requires-clause-givers
turn_agenda-requires-clause-givers g c =
    rw c.deref_mut-4.ensures.value (c.args.self.now.gives c.if-self.false)

-- want of memory leaves no node past its idle ticks
pub invariant_of-self : goal.invariant_of-self
invariant_of-self g c =
    let self = c.args.self.now in
    let f : AgendaNode g.row.M.Denot g.M.PortMachine → PortNode = λ n. caught_up self.turns n.clock (g.M.PortMachine.record_of n.machine) in
    let w : CableWorld = world_record self.delay self.longest self.cabling (map f self.nodes.items) self.wires.items self.changed.items self.turns in
    let new = c.turn_agenda.new in
    let auto = c.turn_agenda.auto in
    let ns = with_items_is self.nodes new.nodes (auto.nodes ∙ c.deref_mut.ensures.len) in
    let ws = with_items_is self.wires new.wires (auto.wires ∙ c.deref_mut-2.ensures.len) in
    let cs = with_items_is self.changed new.changed (auto.changed ∙ c.deref_mut-3.ensures.len) in
    record {
      reached = λ fine. absurd cc;
      early = self.early;
      abreast = λ fine. absurd cc;
      behind = λ fine. absurd cc;
      idle = subst (λ xs. All (λ n. self.turns ≤ n.clock + n.idle) xs) (sym ns) c.turn_agenda.ensures.idle;
      knows = λ fine. absurd cc;
      lives = λ fine. absurd cc;
      gives = λ fine. absurd cc;
      slows = λ fine. absurd cc;
      marks = ap length cs ∙ auto.changed ∙ ap length c.deref_mut-3.ensures.value ∙ self.marks ∙ sym (ap length ns ∙ auto.nodes ∙ ap length c.deref_mut.ensures.value);
      same = λ fine. absurd cc;
    }

pub invariant_of-self-2 : goal.invariant_of-self-2
invariant_of-self-2 g c =
    let self = c.args.self.now in
    let f : AgendaNode g.row.M.Denot g.M.PortMachine → PortNode = λ n. caught_up self.turns n.clock (g.M.PortMachine.record_of n.machine) in
    let w : CableWorld = world_record self.delay self.longest self.cabling (map f self.nodes.items) self.wires.items self.changed.items self.turns in
    let h : AgendaNode g.row.M.Denot g.M.PortMachine → PortNode = λ n. caught_up (self.turns + 1) n.clock (g.M.PortMachine.record_of n.machine) in
    let new = c.turn_agenda.new in
    let auto = c.turn_agenda.auto in
    let ns = with_items_is self.nodes new.nodes (auto.nodes ∙ c.deref_mut.ensures.len) in
    let ws = with_items_is self.wires new.wires (auto.wires ∙ c.deref_mut-2.ensures.len) in
    let cs = with_items_is self.changed new.changed (auto.changed ∙ c.deref_mut-3.ensures.len) in
    let arr = with_items_is self.arrivals new.arrivals (auto.arrivals ∙ c.deref_mut-4.ensures.len) in
    let done = vectors-related (λ u v. v ≡ turn u) f h self.delay self.longest self.cabling self.cabling self.turns (self.turns + 1) self.nodes self.wires self.changed
    c.deref_mut.result.now new.nodes c.deref_mut-2.result.now new.wires c.deref_mut-3.result.now new.changed
    (c.deref_mut.ensures.value, c.deref_mut.ensures.len, auto.nodes)
    (c.deref_mut-2.ensures.value, c.deref_mut-2.ensures.len, auto.wires)
    (c.deref_mut-3.ensures.value, c.deref_mut-3.ensures.len, auto.changed) (c.in_ok-turn_agenda.ensures.done self.longest) in
    record {
      reached = λ fine. subst (λ v. ∥ IsReached v ∥₁) (sym (one-turn w _ done)) (∥∥₁_map (self.reached c.if-self.false) (c.worlds_stay_reached.ensures.turns 1 w));
      early = omega (arith, self.early);
      abreast = λ fine e. absurd (omega (arith, e, self.early));
      behind = λ fine. subst (λ xs. All (λ n. n.clock ≤ self.turns + 1) xs) (sym ns) c.in_ok-turn_agenda.ensures.behind;
      idle = subst (λ xs. All (λ n. self.turns + 1 ≤ n.clock + n.idle) xs) (sym ns) c.in_ok-turn_agenda.ensures.ahead;
      knows = λ fine. rw ns c.in_ok-turn_agenda.ensures.knows;
      lives = λ fine. rw ws c.in_ok-turn_agenda.ensures.live;
      gives = λ fine. rw arr c.in_ok-turn_agenda.ensures.givers;
      slows = λ fine. subst (λ (v : CableWorld). HasSlow self.slow v.nodes) (sym done)
          (slow-turn self.slow w (lawful-now w c.worlds_stay_lawful.ensures.reached (self.reached c.if-self.false)).well_formed (self.slows c.if-self.false));
      marks = ap length cs ∙ auto.changed ∙ ap length c.deref_mut-3.ensures.value ∙ self.marks ∙ sym (ap length ns ∙ auto.nodes ∙ ap length c.deref_mut.ensures.value);
      same = λ fine. ap (λ (l : List (List _)). map length l) arr ∙ c.in_ok-turn_agenda.ensures.same ∙ ap (λ (l : List (List Wire)). map length l) (sym ws);
    }

pub returns-clause-done : goal.returns-clause-done
returns-clause-done g c =
    let self = c.args.self.now in
    let f : AgendaNode g.row.M.Denot g.M.PortMachine → PortNode = λ n. caught_up self.turns n.clock (g.M.PortMachine.record_of n.machine) in
    let w : CableWorld = world_record self.delay self.longest self.cabling (map f self.nodes.items) self.wires.items self.changed.items self.turns in
    let h : AgendaNode g.row.M.Denot g.M.PortMachine → PortNode = λ n. caught_up (self.turns + 1) n.clock (g.M.PortMachine.record_of n.machine) in
    let new = c.turn_agenda.new in
    let auto = c.turn_agenda.auto in
    vectors-related (λ u v. v ≡ turn u) f h self.delay self.longest self.cabling self.cabling self.turns (self.turns + 1) self.nodes self.wires self.changed
    c.deref_mut.result.now new.nodes c.deref_mut-2.result.now new.wires c.deref_mut-3.result.now new.changed
    (c.deref_mut.ensures.value, c.deref_mut.ensures.len, auto.nodes)
    (c.deref_mut-2.ensures.value, c.deref_mut-2.ensures.len, auto.wires)
    (c.deref_mut-3.ensures.value, c.deref_mut-3.ensures.len, auto.changed) (c.in_ok-turn_agenda.ensures.done self.longest)
