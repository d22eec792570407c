use Rattle.std.proofs.Common.{◌≡◌, ◌+◌, ◌≤◌, ℕ, true, false, List, ◌++◌, length}
use Rattle.bus_json.specs.Lines.{GathersJsonLines}
use Rattle.reset_log.specs.codings.Going.{HasShown}
use Rattle.reset_log.specs.codings.InJson.{IfJson}
use Rattle.log_line.specs.Marks.{has_mark}
use Rattle.reset_log.proofs.log.LogReader.gather.Given as goal

abbrev pub invariant-loop-line : goal.invariant-loop-line
invariant-loop-line l =
    (took : List ℕ) × (l.bytes ≡ took ++ l.rest)
    × ((done text : List ℕ) → length done + length l.bytes ≤ 9223372036854775807 → HasShown l.initial.self done (text ++ l.initial.out.items) →
    HasShown l.self (done ++ took) (text ++ l.out.items))
    × (l.self.form ≡ l.initial.self.form)
    × IfJson l.initial.self.form (GathersJsonLines l.initial.out.items l.out.items)
    × (l.quiet ≡ true → has_mark l.rest ≡ false)

abbrev pub decreases-loop-line : goal.decreases-loop-line
decreases-loop-line l = length l.rest
