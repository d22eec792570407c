use Rattle.std.proofs.Common.{◌<◌, length, rules, sym, ◌∙◌}
use Rattle.script_bus.proofs.Numbered.{guessed}
use Rattle.script_bus.proofs.table.NameTable.guess.Goals as goal

pub returns-then-eq-clause-value : goal.returns-then-eq-clause-value
returns-then-eq-clause-value c =
    let low : c.guessed-number.result < length c.as_slice-names.result.now = search rules in
    (guessed c.self.inside.by_number c.as_slice-names.result.now c.args.self.now c.args.name.now _ c.guessed-number.result c.self.invariant.1
    c.as_slice-names.ensures c.self.view_is low c.index-names-number.is (sym c.eq.ensures ∙ c.if-eq.true)).named

pub returns-then-eq-clause-declared : goal.returns-then-eq-clause-declared
returns-then-eq-clause-declared c =
    let low : c.guessed-number.result < length c.as_slice-names.result.now = search rules in
    (guessed c.self.inside.by_number c.as_slice-names.result.now c.args.self.now c.args.name.now _ c.guessed-number.result c.self.invariant.1
    c.as_slice-names.ensures c.self.view_is low c.index-names-number.is (sym c.eq.ensures ∙ c.if-eq.true)).declared
