use Rattle.std.proofs.Common.{rules, ◌≡◌, ◌∙◌, ◌+◌, ◌≤◌, ℕ, sym, subst}
use Rattle.settle.specs.Report.{quiet_turns_of}
use Rattle.bus_tests.proofs.quiet.can_settle.Goals as goal

pub quiet_turns_for-quiet-requires : goal.quiet_turns_for-quiet-requires
quiet_turns_for-quiet-requires g c = g.met.W.WorldRun.reached c.args.world.now (sym c.spent.ensures ∙ c.if-spent.false)

pub returns : goal.returns
returns g c few fine =
    let w = g.W.WorldRun.world c.args.world.now in
    let small : w.turns + c.quiet_turns_for-quiet.result ≤ 4000000000 = search rules in
    subst (λ (n : ℕ). w.turns + n ≤ 4000000000) c.quiet_turns_for-quiet.ensures small
