use Rattle.std.proofs.Common.{sym, subst, arith}
use Rattle.std.proofs.lemmas.Grind.{common_steps}
use Rattle.bus_json.specs.Lines.{AreJsonLines, none}
use Rattle.bus_json.proofs.Lemmas.{one_line, all_lines}
use Rattle.reset_log.proofs.values.cut_off_lines.Goals as goal

pub loop-pending-init : goal.loop-pending-init
loop-pending-init c = (search, subst AreJsonLines (sym c.new-text.ensures.items) none)

pub loop-pending-preserved : goal.loop-pending-preserved
loop-pending-preserved c = (
  grind (arith, common_steps),
  subst AreJsonLines (sym c.in_ok-put_cut_off_line.ensures.line)
      (all_lines c.loop-pending.text.items _ c.loop-pending.invariant.1 (one_line _ c.in_ok-put_cut_off_line.ensures.json)),
)
