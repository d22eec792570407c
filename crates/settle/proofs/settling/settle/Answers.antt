use Rattle.std.proofs.Math.Logic.{∥∥₁_map}
use Rattle.std.proofs.Common.{◌≡◌, ◌∙◌, ◌+◌, ◌≤◌, ℕ, length, ap, sym, subst, arith}
use Rattle.cable_world.specs.Turn.{turns_after}
use Rattle.cable_world.specs.Unchanged.{TurnsPass}
use Rattle.cable_world.proofs.Lemmas.{lawful-now, short-now}
use Rattle.settle.specs.Report.{quiet_turns_of}
use Rattle.settle.proofs.TurnsGiven.{on-err}
use Rattle.settle.proofs.LeftAlone.{settled-after}
use Rattle.settle.proofs.Settled.{done-by-then}
use Rattle.settle.proofs.ForcedRoots.{forced-nodes}
use Rattle.settle.proofs.settling.settle.Goals as goal

pub quiet_turns_for-quiet-requires : goal.quiet_turns_for-quiet-requires
quiet_turns_for-quiet-requires g c = g.met.W.WorldRun.reached c.args.world.now (sym c.spent.ensures ∙ c.if-spent.false)

pub run_turns-requires : goal.run_turns-requires
run_turns-requires g c =
    let w = g.W.WorldRun.world c.args.world.now in
    let reached = g.met.W.WorldRun.reached c.args.world.now (sym c.spent.ensures ∙ c.if-spent.false) in
    let q : c.quiet_turns_for-quiet.result ≡ quiet_turns_of w = c.quiet_turns_for-quiet.ensures in
    subst (λ (n : ℕ). w.turns + n ≤ 4000000000) (sym q) (c.requires (sym c.spent.ensures ∙ c.if-spent.false))

pub report_of-requires-clause-settled : goal.report_of-requires-clause-settled
report_of-requires-clause-settled g c =
    let w = g.W.WorldRun.world c.args.world.now in
    let reached = g.met.W.WorldRun.reached c.args.world.now (sym c.spent.ensures ∙ c.if-spent.false) in
    let q : c.quiet_turns_for-quiet.result ≡ quiet_turns_of w = c.quiet_turns_for-quiet.ensures in
    ∥∥₁_map (g.met.W.WorldRun.reached c.args.world.now (sym c.spent.ensures ∙ c.if-spent.false))
    (λ r. settled-after w (g.W.WorldRun.world c.run_turns.new.self) r (c.in_ok-run_turns.ensures.done ∙ ap (λ (n : ℕ). turns_after n w) q))

pub returns-in_err-report-clause-memory : goal.returns-in_err-report-clause-memory
returns-in_err-report-clause-memory g c =
    let w = g.W.WorldRun.world c.args.world.now in
    let reached = g.met.W.WorldRun.reached c.args.world.now (sym c.spent.ensures ∙ c.if-spent.false) in
    let q : c.quiet_turns_for-quiet.result ≡ quiet_turns_of w = c.quiet_turns_for-quiet.ensures in
    on-err c.from_residual-in_err-report.result _ (λ fine. c.in_ok-run_turns.ensures.done ∙ ap (λ (n : ℕ). turns_after n w) q)

pub returns-clause-quiet : goal.returns-clause-quiet
returns-clause-quiet g c =
    let w = g.W.WorldRun.world c.args.world.now in
    let reached = g.met.W.WorldRun.reached c.args.world.now (sym c.spent.ensures ∙ c.if-spent.false) in
    let q : c.quiet_turns_for-quiet.result ≡ quiet_turns_of w = c.quiet_turns_for-quiet.ensures in
    c.in_ok-run_turns.ensures.done ∙ ap (λ (n : ℕ). turns_after n w) q

pub returns-clause-passed : goal.returns-clause-passed
returns-clause-passed g c =
    let w = g.W.WorldRun.world c.args.world.now in
    let reached = g.met.W.WorldRun.reached c.args.world.now (sym c.spent.ensures ∙ c.if-spent.false) in
    let q : c.quiet_turns_for-quiet.result ≡ quiet_turns_of w = c.quiet_turns_for-quiet.ensures in
    subst (λ (n : ℕ). TurnsPass n w (g.W.WorldRun.world c.run_turns.new.self)) q c.in_ok-run_turns.ensures.passed

pub returns-clause-done : goal.returns-clause-done
returns-clause-done g c =
    let w = g.W.WorldRun.world c.args.world.now in
    let reached = g.met.W.WorldRun.reached c.args.world.now (sym c.spent.ensures ∙ c.if-spent.false) in
    let q : c.quiet_turns_for-quiet.result ≡ quiet_turns_of w = c.quiet_turns_for-quiet.ensures in
    done-by-then c.components_settle.ensures.done w (g.W.WorldRun.world c.run_turns.new.self) (c.in_ok-run_turns.ensures.done ∙ ap (λ (n : ℕ). turns_after n w) q)
    (g.met.W.WorldRun.reached c.args.world.now (sym c.spent.ensures ∙ c.if-spent.false))

pub returns-clause-forced : goal.returns-clause-forced
returns-clause-forced g c =
    let w = g.W.WorldRun.world c.args.world.now in
    let v = g.W.WorldRun.world c.run_turns.new.self in
    let reached = g.met.W.WorldRun.reached c.args.world.now (sym c.spent.ensures ∙ c.if-spent.false) in
    let q : c.quiet_turns_for-quiet.result ≡ quiet_turns_of w = c.quiet_turns_for-quiet.ensures in
    forced-nodes c.components_exist.ensures c.resets_spread.ensures.taken c.forced_roots_settle.ensures.forced w v
    (g.met.W.WorldRun.reached c.args.world.now (sym c.spent.ensures ∙ c.if-spent.false))
    (c.in_ok-run_turns.ensures.done ∙ ap (λ (n : ℕ). turns_after n w) q)
    _ c.in_ok-report.ensures
