use Rattle.std.proofs.Common.{◌≡◌, ◌≤◌, ◌+◌, ◌++◌, ◌∙◌, ℕ, ap, arith}
use Rattle.std.proofs.Math.Logic.{∥∥₁_map}
use Rattle.std.proofs.lemmas.Bool.{ltb-false}
use Rattle.cable_world.specs.Turn.{turns_after}
use Rattle.cable_world.proofs.Lemmas.{lawful-now}
use Rattle.settle.specs.Report.{quiet_turns_of}
use Rattle.script_told.specs.Bus.{Bus}
use Rattle.script_told.proofs.Lemmas.{some-quiet}
use Rattle.script_trace.specs.Voice.{legend_of, turns_told}
use Rattle.script_bus.proofs.Hearing.{reports-now}
use Rattle.script_bus.proofs.bus.Bus.pass.Goals as goal

pub go-requires : goal.go-requires
go-requires g c =
    let w = c.args.self.world in
    let few : w.turns + quiet_turns_of w ≤ 2000000 = ltb-false 2000000 (w.turns + quiet_turns_of w) c.requires in
    omega (arith, few, c.quiet_turns-quiet.ensures)

pub report-requires-clause-settled : goal.report-requires-clause-settled
report-requires-clause-settled g c =
    let w = c.args.self.world in
    let quiet : c.in_ok-bus.bus.world ≡ turns_after (quiet_turns_of w) w =
    ap (λ (b : Bus). b.world) c.in_ok-bus.ensures.done ∙ ap (λ (n : ℕ). turns_after n w) c.quiet_turns-quiet.ensures in
    ∥∥₁_map c.buses_are_sound.ensures.reached (λ r. c.quiet_turns_settle.ensures.plain w c.in_ok-bus.bus.world r quiet)

pub report-requires-clause-few : goal.report-requires-clause-few
report-requires-clause-few g c =
    let w = c.args.self.world in
    let lawful = lawful-now w c.buses_are_sound.ensures.reached in
    omega (arith, c.buses_are_sound.ensures.reports, ap (λ (b : Bus). b.notes.reports) c.in_ok-bus.ensures.done, c.in_ok-bus.ensures.passed.turns, c.quiet_turns-quiet.ensures, some-quiet w lawful.well_formed.some_delay)

pub returns-clause-reports : goal.returns-clause-reports
returns-clause-reports g c =
    let w = c.args.self.world in
    let done = c.in_ok-bus.ensures.done in
    let quiet : c.in_ok-bus.bus.world ≡ turns_after (quiet_turns_of w) w =
    ap (λ (b : Bus). b.world) done ∙ ap (λ (n : ℕ). turns_after n w) c.quiet_turns-quiet.ensures in
    reports-now c.reports_have_texts.ensures c.args.self c.in_ok-bus.bus _ quiet (ap (λ (b : Bus). b.notes) done) c.in_ok-report.ensures

pub returns-clause-heard : goal.returns-clause-heard
returns-clause-heard g c =
    let w = c.args.self.world in
    c.in_ok-bus.ensures.heard
    ∙ ap (λ (n : ℕ). g.L.Listener.written c.args.listener.now ++ turns_told g.L.Listener.voice (legend_of c.args.self.notes) n w) c.quiet_turns-quiet.ensures
