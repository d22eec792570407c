use Rattle.std.proofs.Common.{◌≡◌, ◌≤◌, ◌∙◌, ℕ, All, [], false, length, refl, sym, subst, rules}
use Rattle.std.specs.Prelude.{◌↔◌}
use Rattle.port_state.specs.PortSet.{has_port}
use Rattle.cable_world.specs.Still.{IsSilent}
use Rattle.cable_world.specs.running.Rows.{on_port}
use Rattle.cable_world.proofs.running.Rows.{all-silent, silent-if, silent-only_if}
use Rattle.cable_world.proofs.rows.WireRow.is_silent.Goals as goal

pub returns-then-is_empty : goal.returns-then-is_empty
returns-then-is_empty c =
    let row = c.self.inside in
    let none : length row.sent.items ≤ 0 = search rules in
    (λ yes. subst (All IsSilent) c.self.view_is (all-silent row.sent.items row.held.items none), λ all. refl)

pub returns : goal.returns
returns c =
    let row = c.self.inside in
    let set = c.ports_of.result in
    let is = subst (λ sent. (p : ℕ) → (has_port set p ≡ false) ↔ (on_port p sent ≡ [])) c.deref.ensures.value c.ports_of.ensures in (
      λ yes. subst (All IsSilent) c.self.view_is
          (silent-if row.sent.items row.held.items set row.ports is row.row (λ k. sym (c.both.ensures k) ∙ c.is_none.ensures.0 yes k)),
      λ all. c.is_none.ensures.1 (λ k. c.both.ensures k
          ∙ silent-only_if row.sent.items row.held.items set row.ports is row.row (subst (All IsSilent) (sym c.self.view_is) all) k),
    )
