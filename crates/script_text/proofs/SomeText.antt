-- A report has a text: of each part its line, and what it came to.
use Rattle.std.proofs.Common.{ℕ, List, [], ◌∷◌, ◌++◌, All, refl, subst, sym}
use Rattle.std.proofs.lemmas.List.{append_assoc, append-nil}
use Rattle.std.proofs.lemmas.List.Elements.{All-head, All-tail}
use Rattle.topology_stack.specs.Text.{tree_text}
use Rattle.settle.specs.declared.report.Outcome.{Outcome}
use Rattle.settle.specs.declared.report.Outcome.TheVariants as reported
use Rattle.settle.specs.declared.report.Part.{Part}
use Rattle.settle.specs.ReadBack.{ListsAreReadBack}
use Rattle.settle.specs.SomeReport.{ReportsExist}
use Rattle.settle.specs.QuietTurns.{SettledWorldsAreReached}
use Rattle.script_text.specs.ReportText.{Names, names_in, report_line, component_line, root_line, contention_line, loop_line, IsOutcomeText, IsPartText, ArePartTexts, none, more, IsNamedOutcome, IsNamedPart}
use Rattle.script_text.specs.SomeText.{HasText, NamedReportsHaveTexts, SettledWorldsHaveTexts}
use Rattle.script_text.proofs.NamedReports.{can-be-shown}

outcome-text : (names : Names) (o : Outcome) → IsNamedOutcome names o →
    (text : List ℕ) × IsOutcomeText names o text
outcome-text names (reported.Tree root list order) h = (
  root_line names root ++ tree_text h.tree (names_in names order),
  record { tree = h.tree; valid = h.valid; emitted = h.emitted; is = refl },
)
outcome-text names (reported.Contention a b) h = (contention_line names a b, refl)
outcome-text names (reported.Loop core) h = (loop_line names core, refl)

part-text : (names : Names) (part : Part) → IsNamedPart names part →
    (text : List ℕ) × IsPartText names part text
part-text names part h =
    let outcome = outcome-text names part.outcome h.outcome in
    (component_line names part ++ outcome.0, record { outcome = outcome.0; told = outcome.1; is = refl })

-- the parts that are left, behind those that are told
parts-text :
    (names : Names) (told left : List Part) (before : List ℕ) → ArePartTexts names told before → All (IsNamedPart names) left →
    (text : List ℕ) × ArePartTexts names (told ++ left) text
parts-text names told [] before so-far h = (before, subst (λ (parts : List Part). ArePartTexts names parts before) (sym (append-nil told)) so-far)
parts-text names told (part ∷ left) before so-far h =
    let one = part-text names part (All-head (IsNamedPart names) part left h) in
    let rest = parts-text names (told ++ part ∷ []) left (before ++ one.0) (more told before part one.0 so-far one.1) (All-tail (IsNamedPart names) part left h) in
    (rest.0, subst (λ (parts : List Part). ArePartTexts names parts rest.0) (append_assoc told (part ∷ []) left) rest.1)

pub some-text : NamedReportsHaveTexts
some-text names number report h =
    let parts = parts-text names [] report.parts [] none h in
    record { text = report_line number report.turn ++ parts.0; is = record { parts = parts.0; told = parts.1; is = refl } }

pub some-report-text :
    ListsAreReadBack → ReportsExist → SettledWorldsAreReached → SettledWorldsHaveTexts
some-report-text all-read exist reached w names number h enough =
    let r = exist w h in
    let t : HasText names number r.0 = some-text names number r.0 (can-be-shown all-read w ∣ reached w h ∣₁ r.0 names r.1 enough) in
    record { report = r.0; is = r.1; text = t.text; told = t.is }
