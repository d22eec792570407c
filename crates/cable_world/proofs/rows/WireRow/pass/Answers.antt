use Rattle.std.proofs.Common.{ℕ, ◌-◌, ◌∙◌, map, ap, refl, sym}
use Rattle.std.proofs.lemmas.List.{with_items_is}
use Rattle.cable_world.specs.Still.{hold_less}
use Rattle.cable_world.specs.running.Rows.{wires_from}
use Rattle.cable_world.proofs.running.Rows.{each-is, none-less}
use Rattle.cable_world.proofs.rows.WireRow.pass.Goals as goal

pub returns-then-self : goal.returns-then-self
returns-then-self c =
    let row = c.self.inside in
    let sent = row.sent.items in
    let held = row.held.items in
    let less = λ (h : ℕ). h - c.args.turns in
    let new = c.count_down-self-inside.new.held in
    ap (wires_from 0 sent)
    (with_items_is row.held new (c.count_down-self-inside.auto.held ∙ c.deref_mut.ensures.len)
    ∙ c.count_down-self-inside.ensures.less ∙ ap (map less) c.deref_mut.ensures.value)
    ∙ each-is (hold_less c.args.turns) less sent sent held (λ k inside. refl) ∙ ap (map (hold_less c.args.turns)) c.self.view_is

pub returns-else-self : goal.returns-else-self
returns-else-self c =
    let row = c.self.inside in
    let sent = row.sent.items in
    let held = row.held.items in
    sym c.self.view_is ∙ ap (wires_from 0 sent) (sym (none-less c.args.turns held (row.free c.if-self.false)))
    ∙ each-is (hold_less c.args.turns) (λ h. h - c.args.turns) sent sent held (λ k inside. refl)
    ∙ ap (map (hold_less c.args.turns)) c.self.view_is
