use Rattle.std.proofs.Common.{◌≡◌, ◌∙◌, ◌-◌, ℕ, All, length, map, ap, sym, subst}
use Rattle.std.proofs.lemmas.List.{with_items_is}
use Rattle.cable_world.specs.Wire.{arrives, stays}
use Rattle.cable_world.specs.running.Ages.{AreYoung}
use Rattle.cable_world.specs.running.Rows.{wires_from, arrivals_from}
use Rattle.cable_world.proofs.running.Rows.{wires-length, arrivals-length, free-stays, free-gives, turn-stays, turn-gives}
use Rattle.cable_world.proofs.rows.WireRow.turn.Goals as goal

pub returns-then-not-self-clause-stays : goal.returns-then-not-self-clause-stays
returns-then-not-self-clause-stays c =
    let row = c.self.inside in
    ap (λ sent. wires_from 0 sent row.held.items) c.hand_over.ensures.none
    ∙ free-stays c.args.delay row.sent.items row.held.items (row.free c.if-not-self.true)
    ∙ ap (map (stays c.args.delay)) c.self.view_is

pub returns-then-not-self-clause-arrives : goal.returns-then-not-self-clause-arrives
returns-then-not-self-clause-arrives c =
    let row = c.self.inside in
    let n = c.arrivals.inside.ports in
    let many : n ≡ length row.held.items =
    sym (arrivals-length n 0 c.arrivals.inside.sent.items) ∙ ap length c.arrivals.view_is ∙ c.requires.same
    ∙ sym (ap length c.self.view_is) ∙ wires-length 0 row.sent.items row.held.items in
    ap (λ sent. arrivals_from n 0 sent) c.hand_over.ensures.arrives
    ∙ free-gives c.args.delay row.sent.items row.held.items n many (row.free c.if-not-self.true)
    ∙ ap (map (arrives c.args.delay)) c.self.view_is

pub returns-then-not-self-clause-ports : goal.returns-then-not-self-clause-ports
returns-then-not-self-clause-ports c =
    let row = c.self.inside in
    wires-length 0 c.hand_over.new.sent.items row.held.items
    ∙ sym (wires-length 0 row.sent.items row.held.items) ∙ ap length c.self.view_is

pub returns-then-not-self-clause-rows : goal.returns-then-not-self-clause-rows
returns-then-not-self-clause-rows c =
    let n = c.arrivals.inside.ports in
    arrivals-length n 0 c.hand_over.new.arrivals.items
    ∙ sym (arrivals-length n 0 c.arrivals.inside.sent.items) ∙ ap length c.arrivals.view_is

pub returns-in_err-part-clause-ports : goal.returns-in_err-part-clause-ports
returns-in_err-part-clause-ports c =
    let row = c.self.inside in
    wires-length 0 c.part.new.staying.items row.held.items ∙ sym (wires-length 0 row.sent.items row.held.items) ∙ ap length c.self.view_is

pub returns-in_err-part-clause-rows : goal.returns-in_err-part-clause-rows
returns-in_err-part-clause-rows c =
    let n = c.arrivals.inside.ports in
    arrivals-length n 0 _ ∙ sym (arrivals-length n 0 c.arrivals.inside.sent.items) ∙ ap length c.arrivals.view_is

pub returns-clause-stays : goal.returns-clause-stays
returns-clause-stays c =
    let row = c.self.inside in
    let d = c.args.delay in
    let y = c.hand_over.ensures.arrives in
    let is = rw (c.deref.ensures.value, c.deref-2.ensures.value, y) at c.keeping-kept.ensures in
    let stay = rw (c.deref_mut.ensures.value, y) at c.in_ok-part.ensures.stays in
    let held = with_items_is row.held c.count_down-self-inside.new.held (c.count_down-self-inside.auto.held ∙ c.deref_mut-2.ensures.len)
    ∙ c.count_down-self-inside.ensures.less ∙ ap (map (λ (h : ℕ). h - 1)) c.deref_mut-2.ensures.value in
    ap (wires_from 0 c.part.new.staying.items) held
    ∙ turn-stays d row.sent.items row.held.items c.keeping-kept.result is c.part.new.staying.items (subst (All AreYoung) (sym c.self.view_is) c.requires.young) stay
    ∙ ap (map (stays d)) c.self.view_is

pub returns-clause-arrives : goal.returns-clause-arrives
returns-clause-arrives c =
    let row = c.self.inside in
    let n = c.arrivals.inside.ports in
    let d = c.args.delay in
    let many : n ≡ length row.held.items =
    sym (arrivals-length n 0 c.arrivals.inside.sent.items) ∙ ap length c.arrivals.view_is ∙ c.requires.same
    ∙ sym (ap length c.self.view_is) ∙ wires-length 0 row.sent.items row.held.items in
    let y = c.hand_over.ensures.arrives in
    let is = rw (c.deref.ensures.value, c.deref-2.ensures.value, y) at c.keeping-kept.ensures in
    let arrive = rw (c.deref_mut.ensures.value, y) at c.in_ok-part.ensures.arrives in
    ap (arrivals_from n 0) (with_items_is c.hand_over.new.arrivals c.part.new.arriving
    (c.part.auto.arriving ∙ c.deref_mut.ensures.len))
    ∙ turn-gives d row.sent.items row.held.items c.keeping-kept.result is c.part.new.arriving n many arrive ∙ ap (map (arrives d)) c.self.view_is

pub returns-clause-ports : goal.returns-clause-ports
returns-clause-ports c =
    let row = c.self.inside in
    wires-length 0 c.part.new.staying.items _
    ∙ ap length (with_items_is row.held c.count_down-self-inside.new.held (c.count_down-self-inside.auto.held ∙ c.deref_mut-2.ensures.len))
    ∙ c.count_down-self-inside.auto.held ∙ ap length c.deref_mut-2.ensures.value
    ∙ sym (wires-length 0 row.sent.items row.held.items) ∙ ap length c.self.view_is

pub returns-clause-rows : goal.returns-clause-rows
returns-clause-rows c =
    let n = c.arrivals.inside.ports in
    arrivals-length n 0 _ ∙ sym (arrivals-length n 0 c.arrivals.inside.sent.items) ∙ ap length c.arrivals.view_is
