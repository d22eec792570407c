-- What is advised on a bus that has settled.
use Rattle.std.proofs.Common.{Option, None, Some, List}
use Rattle.std.specs.Prelude.{All, IfSome, IsSomeAnd}
use Rattle.cable_world.specs.World.{CableWorld}
use Rattle.settle.specs.declared.report.Part.{Part}
use Rattle.settle.specs.declared.report.Report.{Report}
use Rattle.settle.specs.Report.{IsPart, IsReport}
use Rattle.script_advice.specs.declared.advice.LoopAdvice.{LoopAdvice}
use Rattle.script_text.specs.ReportText.{Names, IsNamedReport}
use Rattle.script_advice.specs.Advice.{AreAdvices, loops_of, all_pulls}
use Rattle.script_advice.specs.Advising.{IsPartOf, IsNamedAdvice, ArePullable}
use Rattle.script_advice.proofs.Advising.{named-advices, all-pullable}
use Rattle.script_told.proofs.Lemmas.{IsCabled}

-- there is an advice for each loop of a report
abbrev pub AreFor : CableWorld → List LoopAdvice → Report → Type 0
AreFor w advices report = AreAdvices w.cabling (loops_of report.parts) advices

pub named-now :
    (w : CableWorld) (names : Names) (o : Option Report) (advices : List LoopAdvice) →
    IfSome o (λ report. IsNamedReport names report) → IsSomeAnd o (IsReport w) →
    IfSome o (AreFor w advices) → All (IsNamedAdvice names) advices
named-now w names None advices named is are = absurd is
named-now w names (Some report) advices named is are =
    named-advices w.cabling names report.parts advices are (λ i d within. (named i d within).nodes)

part-of : (w : CableWorld) (part : Part) → IsPart w part → IsPartOf w.cabling part
part-of w part is = record { node = is.node; component = is.component; there = is.there }

pub reported-pullable :
    (w : CableWorld) (report : Report) (advices : List LoopAdvice) → IsCabled w →
    IsReport w report → AreFor w advices report → ArePullable w.cabling (all_pulls advices)
reported-pullable w report advices cabled is are =
    all-pullable w.cabling report.parts advices cabled
    (λ i d within. part-of w _ (is.parts.each i d within)) is.parts.rising are

pub pullable-now :
    (w : CableWorld) (o : Option Report) (advices : List LoopAdvice) → IsCabled w →
    IsSomeAnd o (IsReport w) → IfSome o (AreFor w advices) →
    ArePullable w.cabling (all_pulls advices)
pullable-now w None advices cabled is are = absurd is
pullable-now w (Some report) advices cabled is are =
    reported-pullable w report advices cabled is are
