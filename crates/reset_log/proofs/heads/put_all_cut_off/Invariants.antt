use Rattle.std.proofs.Common.{◌≡◌, ◌++◌}
use Rattle.reset_log.specs.Texts.{all_cut_off}
use Rattle.reset_log.proofs.heads.put_all_cut_off.Given as goal

abbrev pub invariant-loop-pending : goal.invariant-loop-pending
invariant-loop-pending l = l.out.items ++ all_cut_off l.pending-iterator ≡ l.initial.out.items ++ all_cut_off l.fn.pending.entries
