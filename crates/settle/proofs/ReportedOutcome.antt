-- What is reported of a component is what it came to.
use Rattle.std.proofs.Common.{ℕ, refl, sym, subst}
use Rattle.cabling.specs.Wiring.{IsCabling}
use Rattle.cable_world.specs.World.{CableWorld}
use Rattle.cable_world.specs.Outcome.{Ending, loop, tree, contention, IsOutcome}
use Rattle.settle.specs.declared.report.Outcome.{Outcome}
use Rattle.settle.specs.declared.report.Outcome.TheVariants as reported
use Rattle.settle.specs.Report.{AreThere}
use Rattle.settle.specs.Reported.{IsReported, ReportsLoop}
use Rattle.settle.specs.ReportedOutcome.{TellsEnding, ReportedIsOutcome}
use Rattle.settle.proofs.OneReport.{loop-is}

told-of :
    (w : CableWorld) (set : ℕ) (r : Outcome) → IsCabling w.cabling → AreThere w set → IsReported w set r →
    (o : Ending) × IsOutcome w set o × TellsEnding w r o
told-of w set (reported.Loop core) cabled there h = (loop core, loop-is w cabled set core there h, refl)
told-of w set (reported.Tree root list order) cabled there h = (tree root h.tree, h.is, (refl, h.emitted, h.walked))
told-of w set (reported.Contention a b) cabled there h = (contention a b, (h.is, h.no_tree, h.first), (refl, refl))

reported-where :
    (w : CableWorld) (set : ℕ) (r : Outcome) (o : Ending) → IsOutcome w set o → TellsEnding w r o → IsReported w set r
reported-where w set (reported.Loop nodes) (loop core) h e =
    let its : ReportsLoop w set core = record { is = h.is_core; some = λ empty. empty h.node h.in_core; timed_out = h.timed_out; unnamed = h.unnamed } in
    subst (λ (c : ℕ). ReportsLoop w set c) (sym e) its
reported-where w set (reported.Tree root list order) (tree top t) h e =
    let its : IsReported w set (reported.Tree top list order) = record { tree = t; is = h; emitted = e.1; walked = e.2 } in
    subst (λ (k : ℕ). IsReported w set (reported.Tree k list order)) (sym e.0) its
reported-where w set (reported.Contention a b) (contention low high) h e =
    let its : IsReported w set (reported.Contention low high) = record { is = h.0; first = h.2; no_tree = h.1 } in
    let first : IsReported w set (reported.Contention a high) = subst (λ (k : ℕ). IsReported w set (reported.Contention k high)) (sym e.0) its in
    subst (λ (k : ℕ). IsReported w set (reported.Contention a k)) (sym e.1) first
reported-where w set (reported.Loop nodes) (tree top t) h e = absurd e
reported-where w set (reported.Loop nodes) (contention low high) h e = absurd e
reported-where w set (reported.Tree root list order) (loop core) h e = absurd e
reported-where w set (reported.Tree root list order) (contention low high) h e = absurd e
reported-where w set (reported.Contention a b) (loop core) h e = absurd e
reported-where w set (reported.Contention a b) (tree top t) h e = absurd e

pub reported-is : ReportedIsOutcome
reported-is w set r cabled there = (told-of w set r cabled there, λ t. reported-where w set r t.0 t.1 t.2)
