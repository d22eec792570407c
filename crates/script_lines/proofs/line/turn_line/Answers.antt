use Rattle.std.proofs.Common.{◌≤◌, ◌∙◌, sym, arith}
use Rattle.std.proofs.lemmas.Grind.{common_steps}
use Rattle.std.specs.Str.Lines.{strip_carriage_return}
use Rattle.script_lines.proofs.TurnLine.{turn_reads}
use Rattle.script_lines.proofs.line.turn_line.Goals as goal

pub returns-then-contains-clause-reads : goal.returns-then-contains-clause-reads
returns-then-contains-clause-reads c =
    let h = c.if-contains.ensures in
    let least : 1 ≤ c.in_ok-count.count = grind (arith, common_steps, h) in
    let most : c.in_ok-count.count ≤ 2000000 = grind (arith, common_steps, h) in
    turn_reads (strip_carriage_return c.args.line.now) c.in_ok-behind_turn.field-0.now c.in_ok-count.count
    (sym c.without_return.ensures ∙ c.in_ok-behind_turn.ensures) (sym c.in_ok-count.ensures) least most
