use Rattle.std.proofs.Common.{◌≡◌, true, Some, Err, sym, ◌∙◌, subst}
use Rattle.std.proofs.lemmas.Bool.{false_from_ne_true}
use Rattle.std.proofs.lemmas.Result.{on_ok_weaker}
use Rattle.cable_world.specs.declared.act.Act.TheVariants.{Config}
use Rattle.cable_world.specs.declared.act.ActStop.{ActStop}
use Rattle.cable_world.specs.Act.{act_fault}
use Rattle.cable_world.specs.Answer.{IfFault}
use Rattle.cable_world.proofs.Lemmas.{none-some, lawful-now}
use Rattle.settle.specs.Report.{IsReport, IsAfterQuiet, quiet_turns_of}
use Rattle.settle.specs.Hops.{HopsStay}
use Rattle.settle.proofs.Suited.{not-refused, packet-fits, has-id, its-small}
use Rattle.settle.proofs.Carried.{on-both, if-ok, gap-wanted, tree-from, gap-of}
use Rattle.settle.proofs.TurnsGiven.{same-quiet, still-few, passed-on}
use Rattle.settle.proofs.carrying.settle_plan.Goals as goal

pub act-requires : goal.act-requires
act-requires g c =
    let w = g.W.WorldRun.world c.args.world.now in
    let l = lawful-now w (g.met.W.WorldRun.reached c.args.world.now (sym c.spent.ensures ∙ c.if-spent.false)) in
    packet-fits w l c.args.from c.args.plan.now c.requires.suits c.requires.suits.set c.requires.suits.component (its-small w l c.args.from c.args.plan.now c.requires.suits)

pub unreachable-requires : goal.unreachable-requires
unreachable-requires g c =
    let w = g.W.WorldRun.world c.args.world.now in
    let l = lawful-now w (g.met.W.WorldRun.reached c.args.world.now (sym c.spent.ensures ∙ c.if-spent.false)) in
    let refused = subst (λ (e : ActStop). IfFault {A = Unit {0}} (Err e) (λ f. act_fault (Config c.args.from c.args.plan.now.root_id true (Some c.args.plan.now.gap)) w ≡ Some f)) c.in-Err-Fault.field-0-is c.in-Err-Fault.ensures.refused in
    none-some (act_fault (Config c.args.from c.args.plan.now.root_id true (Some c.args.plan.now.gap)) w) c.in-Err-Fault.field-0-0 (not-refused w l c.args.from c.args.plan.now c.requires.suits) refused

pub returns-in-Ok-clause-root : goal.returns-in-Ok-clause-root
returns-in-Ok-clause-root g c =
    let w = g.W.WorldRun.world c.args.world.now in
    let v = g.W.WorldRun.world c.settle.new.world in
    let reached = g.met.W.WorldRun.reached c.args.world.now (sym c.spent.ensures ∙ c.if-spent.false) in
    let l = lawful-now w reached in
    let laws = c.forced_roots_settle.ensures in
    if-ok c.settle.result (IsReport v) _ _ c.settle.ensures.report c.settle.ensures.quiet (λ report is quiet root h.
    tree-from laws.names laws.config laws.gaps w (g.W.WorldRun.world c.act.new.self) v reached l c.args.from c.args.plan.now c.requires.suits c.requires.suits.set c.requires.suits.component (its-small w l c.args.from c.args.plan.now c.requires.suits)
    c.in-Ok.ensures.accepted c.in-Ok.ensures.done quiet root h report.parts is.parts)

pub returns-in-Ok-clause-one : goal.returns-in-Ok-clause-one
returns-in-Ok-clause-one g c =
    let w = g.W.WorldRun.world c.args.world.now in
    let l = lawful-now w (g.met.W.WorldRun.reached c.args.world.now (sym c.spent.ensures ∙ c.if-spent.false)) in
    let set = c.requires.suits.set in
    let small = its-small w l c.args.from c.args.plan.now c.requires.suits in
    on_ok_weaker c.settle.result (λ quiet.
    has-id w l c.args.from c.args.plan.now c.requires.suits set c.requires.suits.component small)
    c.settle.ensures.quiet

pub returns-in-Ok-clause-gaps : goal.returns-in-Ok-clause-gaps
returns-in-Ok-clause-gaps g c =
    let w = g.W.WorldRun.world c.args.world.now in
    let sent = g.W.WorldRun.world c.act.new.self in
    let v = g.W.WorldRun.world c.settle.new.world in
    let reached = g.met.W.WorldRun.reached c.args.world.now (sym c.spent.ensures ∙ c.if-spent.false) in
    let l = lawful-now w reached in
    let laws = c.forced_roots_settle.ensures in
    let one = has-id w l c.args.from c.args.plan.now c.requires.suits c.requires.suits.set c.requires.suits.component (its-small w l c.args.from c.args.plan.now c.requires.suits) in
    if-ok c.settle.result (λ report. IsAfterQuiet sent v) _ _ c.settle.ensures.quiet c.settle.ensures.passed (λ report quiet passed.
    gap-of laws.names laws.config laws.gaps w sent v reached l c.args.from c.args.plan.now c.requires.suits c.requires.suits.set c.requires.suits.component (its-small w l c.args.from c.args.plan.now c.requires.suits)
    c.in-Ok.ensures.accepted c.in-Ok.ensures.done quiet one.0 one.1 (passed.nodes ∙ c.in-Ok.ensures.passed.nodes))

pub returns-in-Ok-clause-hops : goal.returns-in-Ok-clause-hops
returns-in-Ok-clause-hops g c =
    let w = g.W.WorldRun.world c.args.world.now in
    let v = g.W.WorldRun.world c.settle.new.world in
    let reached = g.met.W.WorldRun.reached c.args.world.now (sym c.spent.ensures ∙ c.if-spent.false) in
    let l = lawful-now w reached in
    let laws = c.forced_roots_settle.ensures in
    let one = has-id w l c.args.from c.args.plan.now c.requires.suits c.requires.suits.set c.requires.suits.component (its-small w l c.args.from c.args.plan.now c.requires.suits) in
    if-ok c.settle.result (IsReport v) _ _ c.settle.ensures.report (on-both c.settle.result _ _ c.settle.ensures.quiet c.settle.ensures.fine) (λ report is both.
    gap-wanted laws.names laws.config laws.gaps w (g.W.WorldRun.world c.act.new.self) v reached l c.args.from c.args.plan.now c.requires.suits c.requires.suits.set c.requires.suits.component (its-small w l c.args.from c.args.plan.now c.requires.suits)
    c.in-Ok.ensures.accepted c.in-Ok.ensures.done both.0 one.0 one.1 (subst HopsStay c.cabling.ensures c.hops_stay.ensures) (lawful-now v (g.met.W.WorldRun.reached c.settle.new.world both.1)).well_formed report.parts is.parts)

pub settle-requires : goal.settle-requires
settle-requires g c fine =
    let w = g.W.WorldRun.world c.args.world.now in
    let sent = g.W.WorldRun.world c.act.new.self in
    let whole = sym c.spent.ensures ∙ c.if-spent.false in
    still-few w.turns sent.turns (quiet_turns_of w) (quiet_turns_of sent) c.in-Ok.ensures.passed.turns
    (same-quiet (Config c.args.from c.args.plan.now.root_id true (Some c.args.plan.now.gap)) w sent (g.met.W.WorldRun.reached c.args.world.now whole) (g.met.W.WorldRun.reached c.act.new.self fine) c.in-Ok.ensures.done)
    (c.requires.few whole)

pub returns-in-Ok-clause-passed : goal.returns-in-Ok-clause-passed
returns-in-Ok-clause-passed g c =
    let w = g.W.WorldRun.world c.args.world.now in
    let sent = g.W.WorldRun.world c.act.new.self in
    let v = g.W.WorldRun.world c.settle.new.world in
    let whole = sym c.spent.ensures ∙ c.if-spent.false in
    let fine = false_from_ne_true _ (λ spent. c.in-Ok.ensures.spent.1 spent) in
    let same = same-quiet (Config c.args.from c.args.plan.now.root_id true (Some c.args.plan.now.gap)) w sent (g.met.W.WorldRun.reached c.args.world.now whole) (g.met.W.WorldRun.reached c.act.new.self fine) c.in-Ok.ensures.done in
    on_ok_weaker c.settle.result (λ passed. passed-on w sent v (quiet_turns_of sent) (quiet_turns_of w) c.in-Ok.ensures.passed same passed) c.settle.ensures.passed
