use Rattle.std.proofs.Common.{◌≡◌, ◌∙◌, ◌+◌, ◌≤◌, All, List, None, Some, length, map, ap, sym, subst, arith, true≢false}
use Rattle.std.specs.Prelude.{IsFalse}
use Rattle.std.proofs.lemmas.Result.{on_ok_weaker}
use Rattle.std.proofs.lemmas.List.{with_items_is}
use Rattle.std.proofs.lemmas.List.Elements.{All-weaker}
use Rattle.std.proofs.Math.Logic.{∥∥₁_map}
use Rattle.port_state.specs.Machine.{PortNode}
use Rattle.cable_world.specs.Wire.{Wire}
use Rattle.cable_world.specs.World.{CableWorld}
use Rattle.cable_world.specs.Parts.{world_record}
use Rattle.world_agenda.specs.declared.node.AgendaNode.{AgendaNode}
use Rattle.world_agenda.specs.Clock.{caught_up}
use Rattle.cable_world.specs.Act.{ActLeads, act_fault}
use Rattle.cable_world.specs.Answer.{IsMemory}
use Rattle.cable_world.specs.Run.{IsReached}
use Rattle.world_agenda.specs.Agenda.{Knows}
use Rattle.world_agenda.specs.Live.{HasLive}
use Rattle.world_agenda.specs.Slow.{HasSlow}
use Rattle.world_agenda.proofs.SlowNodes.{slow-act}
use Rattle.world_agenda.proofs.Whole.{lawful-now, parts-same, IfFault-weaker}
use Rattle.world_agenda.proofs.agenda.AgendaWorldWorldRun.act.Goals as goal
use Rattle.cable_world.proofs.Lemmas.{settled, vectors-related}

pub act_agenda-done-requires-clause-idle : goal.act_agenda-done-requires-clause-idle
act_agenda-done-requires-clause-idle g c = rw c.deref_mut.ensures.value c.args.self.now.idle

pub act_agenda-done-requires-clause-behind : goal.act_agenda-done-requires-clause-behind
act_agenda-done-requires-clause-behind g c = rw c.deref_mut.ensures.value (c.args.self.now.behind c.if-self.false)

pub act_agenda-done-requires-clause-level : goal.act_agenda-done-requires-clause-level
act_agenda-done-requires-clause-level g c = rw c.deref_mut.ensures.value (c.args.self.now.abreast c.if-self.false)

pub act_agenda-done-requires-clause-knows : goal.act_agenda-done-requires-clause-knows
act_agenda-done-requires-clause-knows g c = rw c.deref_mut.ensures.value (c.args.self.now.knows c.if-self.false)

pub act_agenda-done-requires-clause-lawful : goal.act_agenda-done-requires-clause-lawful
act_agenda-done-requires-clause-lawful g c =
    let self = c.args.self.now in
    let f : AgendaNode g.row.M.Denot g.M.PortMachine → PortNode = λ n. caught_up self.turns n.clock (g.M.PortMachine.record_of n.machine) in
    let w : CableWorld = world_record self.delay self.longest self.cabling (map f self.nodes.items) self.wires.items self.changed.items self.turns in
    let now = lawful-now w c.worlds_stay_lawful.ensures.reached (self.reached c.if-self.false) in
    (self.delay, self.longest, rw (c.deref_mut.ensures.value, c.deref_mut-2.ensures.value, c.deref_mut-3.ensures.value) now)

pub invariant_of-self : goal.invariant_of-self
invariant_of-self g c =
    let self = c.args.self.now in
    let f : AgendaNode g.row.M.Denot g.M.PortMachine → PortNode = λ n. caught_up self.turns n.clock (g.M.PortMachine.record_of n.machine) in
    let w : CableWorld = world_record self.delay self.longest self.cabling (map f self.nodes.items) self.wires.items self.changed.items self.turns in
    let act = c.args.act.now in
    let new = c.act_agenda-done.new in
    let auto = c.act_agenda-done.auto in
    let ns = with_items_is self.nodes new.nodes (auto.nodes ∙ c.deref_mut.ensures.len) in
    let ws = with_items_is self.wires new.wires (auto.wires ∙ c.deref_mut-2.ensures.len) in
    let cs = with_items_is self.changed new.changed (auto.changed ∙ c.deref_mut-3.ensures.len) in
    let said = c.act_agenda-done.ensures in
    let there : IsFalse c.is_memory-self.result → IsMemory c.act_agenda-done.result → ⊥ = λ fine none. true≢false (sym (c.is_memory-self.ensures.0 none) ∙ fine) in
    record {
      reached = λ fine. settled c.act_agenda-done.result c.is_memory-self.result c.is_memory-self.ensures fine said.done said.accepted said.rows said.same
          (λ done accepted rows.
          let led =
          vectors-related (λ u v. (act_fault act u ≡ None) × ActLeads act u v) f f self.delay self.longest self.cabling new.cabling self.turns self.turns self.nodes self.wires self.changed
          c.deref_mut.result.now new.nodes c.deref_mut-2.result.now new.wires c.deref_mut-3.result.now new.changed
          (c.deref_mut.ensures.value, c.deref_mut.ensures.len, auto.nodes)
          (c.deref_mut-2.ensures.value, c.deref_mut-2.ensures.len, auto.wires)
          (c.deref_mut-3.ensures.value, c.deref_mut-3.ensures.len, auto.changed) (accepted self.delay self.longest, done self.delay self.longest) in
          ∥∥₁_map (self.reached c.if-self.false) (c.worlds_stay_reached.ensures.act act w _ (c.requires, led.0, led.1)))
          (λ same. subst (λ v. ∥ IsReached v ∥₁) (sym (
          vectors-related (λ u v. v ≡ u) f f self.delay self.longest self.cabling new.cabling self.turns self.turns self.nodes self.wires self.changed
          c.deref_mut.result.now new.nodes c.deref_mut-2.result.now new.wires c.deref_mut-3.result.now new.changed
          (c.deref_mut.ensures.value, c.deref_mut.ensures.len, auto.nodes)
          (c.deref_mut-2.ensures.value, c.deref_mut-2.ensures.len, auto.wires)
          (c.deref_mut-3.ensures.value, c.deref_mut-3.ensures.len, auto.changed) (parts-same f self.delay self.longest self.cabling new.cabling self.turns c.deref_mut.result.now new.nodes c.deref_mut-2.result.now new.wires c.deref_mut-3.result.now new.changed same))) (self.reached c.if-self.false));
      slows = λ fine. settled c.act_agenda-done.result c.is_memory-self.result c.is_memory-self.ensures fine said.done said.accepted said.rows said.same
          (λ done accepted rows. slow-act self.slow act w _
          (vectors-related (ActLeads act) f f self.delay self.longest self.cabling new.cabling self.turns self.turns self.nodes self.wires self.changed
          c.deref_mut.result.now new.nodes c.deref_mut-2.result.now new.wires c.deref_mut-3.result.now new.changed
          (c.deref_mut.ensures.value, c.deref_mut.ensures.len, auto.nodes)
          (c.deref_mut-2.ensures.value, c.deref_mut-2.ensures.len, auto.wires)
          (c.deref_mut-3.ensures.value, c.deref_mut-3.ensures.len, auto.changed) (done self.delay self.longest)) (self.slows c.if-self.false))
          (λ same. subst (HasSlow self.slow) (sym (
          ap (map f) ns ∙ same.1 ∙ ap (map f) c.deref_mut.ensures.value)) (self.slows c.if-self.false));
      early = omega arith;
      abreast = λ fine e. subst (λ xs. All (λ n. n.clock ≡ self.turns) xs) (sym ns) said.clocks;
      behind = λ fine. subst (λ xs. All (λ n. n.clock ≤ self.turns) xs) (sym ns)
          (All-weaker (λ n. n.clock ≡ self.turns) (λ n. n.clock ≤ self.turns) (λ n e. omega (arith, e)) new.nodes said.clocks);
      idle = subst (λ xs. All (λ n. self.turns ≤ n.clock + n.idle) xs) (sym ns)
          (All-weaker (λ n. n.clock ≡ self.turns) (λ n. self.turns ≤ n.clock + n.idle) (λ n e. omega (arith, e)) new.nodes said.clocks);
      lives = λ fine. subst (HasLive new.live) (sym ws)
          (said.live (there fine) (subst (HasLive self.live) (sym c.deref_mut-2.ensures.value) (self.lives c.if-self.false)));
      gives = λ fine. self.gives c.if-self.false;
      knows = λ fine. subst (λ xs. Knows new.agenda.soon new.agenda.next (map (λ n. n.clock + n.idle) xs)) (sym ns)
          (said.knows (there fine));
      marks = ap length cs ∙ auto.changed ∙ ap length c.deref_mut-3.ensures.value ∙ self.marks ∙ sym (ap length ns ∙ auto.nodes ∙ ap length c.deref_mut.ensures.value);
      same = λ fine. self.same c.if-self.false ∙ sym (ap (λ (l : List (List Wire)). map length l) ws
          ∙ settled c.act_agenda-done.result c.is_memory-self.result c.is_memory-self.ensures fine said.done said.accepted said.rows said.same
          (λ done accepted rows. rows) (λ same. ap (λ (l : List (List Wire)). map length l) same.2) ∙ ap (λ (l : List (List Wire)). map length l) c.deref_mut-2.ensures.value);
    }

pub returns-clause-done : goal.returns-clause-done
returns-clause-done g c =
    let self = c.args.self.now in
    let f : AgendaNode g.row.M.Denot g.M.PortMachine → PortNode = λ n. caught_up self.turns n.clock (g.M.PortMachine.record_of n.machine) in
    let act = c.args.act.now in
    let new = c.act_agenda-done.new in
    let auto = c.act_agenda-done.auto in
    on_ok_weaker c.act_agenda-done.result (λ done.
    vectors-related (ActLeads act) f f self.delay self.longest self.cabling new.cabling self.turns self.turns self.nodes self.wires self.changed
    c.deref_mut.result.now new.nodes c.deref_mut-2.result.now new.wires c.deref_mut-3.result.now new.changed
    (c.deref_mut.ensures.value, c.deref_mut.ensures.len, auto.nodes)
    (c.deref_mut-2.ensures.value, c.deref_mut-2.ensures.len, auto.wires)
    (c.deref_mut-3.ensures.value, c.deref_mut-3.ensures.len, auto.changed) (done self.delay self.longest)) c.act_agenda-done.ensures.done

pub returns-clause-accepted : goal.returns-clause-accepted
returns-clause-accepted g c =
    let self = c.args.self.now in
    let f : AgendaNode g.row.M.Denot g.M.PortMachine → PortNode = λ n. caught_up self.turns n.clock (g.M.PortMachine.record_of n.machine) in
    let act = c.args.act.now in
    let new = c.act_agenda-done.new in
    let auto = c.act_agenda-done.auto in
    on_ok_weaker c.act_agenda-done.result (λ accepted.
    vectors-related (λ u v. act_fault act u ≡ None) f f self.delay self.longest self.cabling new.cabling self.turns self.turns self.nodes self.wires self.changed
    c.deref_mut.result.now new.nodes c.deref_mut-2.result.now new.wires c.deref_mut-3.result.now new.changed
    (c.deref_mut.ensures.value, c.deref_mut.ensures.len, auto.nodes)
    (c.deref_mut-2.ensures.value, c.deref_mut-2.ensures.len, auto.wires)
    (c.deref_mut-3.ensures.value, c.deref_mut-3.ensures.len, auto.changed) (accepted self.delay self.longest)) c.act_agenda-done.ensures.accepted

pub returns-clause-refused : goal.returns-clause-refused
returns-clause-refused g c =
    let self = c.args.self.now in
    let f : AgendaNode g.row.M.Denot g.M.PortMachine → PortNode = λ n. caught_up self.turns n.clock (g.M.PortMachine.record_of n.machine) in
    let act = c.args.act.now in
    let new = c.act_agenda-done.new in
    let auto = c.act_agenda-done.auto in
    IfFault-weaker c.act_agenda-done.result _ _ (λ fault refused.
    vectors-related (λ u v. act_fault act u ≡ Some fault) f f self.delay self.longest self.cabling new.cabling self.turns self.turns self.nodes self.wires self.changed
    c.deref_mut.result.now new.nodes c.deref_mut-2.result.now new.wires c.deref_mut-3.result.now new.changed
    (c.deref_mut.ensures.value, c.deref_mut.ensures.len, auto.nodes)
    (c.deref_mut-2.ensures.value, c.deref_mut-2.ensures.len, auto.wires)
    (c.deref_mut-3.ensures.value, c.deref_mut-3.ensures.len, auto.changed) (refused self.delay self.longest)) c.act_agenda-done.ensures.refused

pub returns-clause-same : goal.returns-clause-same
returns-clause-same g c =
    let self = c.args.self.now in
    let f : AgendaNode g.row.M.Denot g.M.PortMachine → PortNode = λ n. caught_up self.turns n.clock (g.M.PortMachine.record_of n.machine) in
    let act = c.args.act.now in
    let new = c.act_agenda-done.new in
    let auto = c.act_agenda-done.auto in
    IfFault-weaker c.act_agenda-done.result _ _ (λ fault same.
    vectors-related (λ u v. v ≡ u) f f self.delay self.longest self.cabling new.cabling self.turns self.turns self.nodes self.wires self.changed
    c.deref_mut.result.now new.nodes c.deref_mut-2.result.now new.wires c.deref_mut-3.result.now new.changed
    (c.deref_mut.ensures.value, c.deref_mut.ensures.len, auto.nodes)
    (c.deref_mut-2.ensures.value, c.deref_mut-2.ensures.len, auto.wires)
    (c.deref_mut-3.ensures.value, c.deref_mut-3.ensures.len, auto.changed) (parts-same f self.delay self.longest self.cabling new.cabling self.turns c.deref_mut.result.now new.nodes c.deref_mut-2.result.now new.wires c.deref_mut-3.result.now new.changed same)) c.act_agenda-done.ensures.same

pub returns-clause-memory : goal.returns-clause-memory
returns-clause-memory g c = λ is sound.
    let self = c.args.self.now in
    let f : AgendaNode g.row.M.Denot g.M.PortMachine → PortNode = λ n. caught_up self.turns n.clock (g.M.PortMachine.record_of n.machine) in
    let act = c.args.act.now in
    let new = c.act_agenda-done.new in
    let auto = c.act_agenda-done.auto in
    vectors-related (λ u v. act_fault act u ≡ None) f f self.delay self.longest self.cabling new.cabling self.turns self.turns self.nodes self.wires self.changed
    c.deref_mut.result.now new.nodes c.deref_mut-2.result.now new.wires c.deref_mut-3.result.now new.changed
    (c.deref_mut.ensures.value, c.deref_mut.ensures.len, auto.nodes)
    (c.deref_mut-2.ensures.value, c.deref_mut-2.ensures.len, auto.wires)
    (c.deref_mut-3.ensures.value, c.deref_mut-3.ensures.len, auto.changed) (c.act_agenda-done.ensures.memory is self.delay self.longest)
