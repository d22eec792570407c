-- A script has one picture and one reporting, exactly where it has a text.
use Rattle.std.proofs.Common.{◌≡◌, ◌∙◌, ℕ, List, [], ◌∷◌, ◌++◌, refl, sym, ap, subst}
use Rattle.std.specs.Prelude.{Bool, true, false, All, IfOk, Result, Option, None, Some, Ok, Err}
use Rattle.std.proofs.lemmas.List.Elements.{All-head, All-tail}
use Rattle.topology_stack.specs.OneAnswer.{NoListHasTwoTrees}
use Rattle.cable_world.specs.Unchanged.{ActKeepsNodes}
use Rattle.settle.specs.ReadBack.{ListsAreReadBack}
use Rattle.script_lines.specs.declared.kind.ScriptFault.{ScriptFault}
use Rattle.script_lines.specs.declared.command.Command.{Command}
use Rattle.script_lines.specs.declared.command.Command.TheVariants.{Settle, Plan}
use Rattle.settle.specs.declared.report.Report.{Report}
use Rattle.report_views.specs.OneView.{ReportsHaveOneGraph, ReportsHaveOneLine, NamedReportsHaveGraphs, NamedReportsHaveLines}
use Rattle.script_told.specs.Bus.{Bus}
use Rattle.script_told.specs.Script.{Stage, ScriptResult, bus_of}
use Rattle.script_told.specs.Run.{Entry, ScriptRun, printed, unless_stopped}
use Rattle.script_told.specs.OneTold.{ScriptsHaveOneRun}
use Rattle.script_told.specs.EachReport.{DoesReport, IsReportedAt, ReportsAreSettled}
use Rattle.script_told.proofs.Lemmas.{IsDone, IsEnd, IsSound, each-done, not-both, same-end, same-fault}
use Rattle.script_bus.specs.Viewed.{IsGraphOf, IsLineOf}
use Rattle.script_run.specs.Viewed.{IsToldOf, IsTold, AllWritten, is_picture, IsLineAfter, are_lines, prints_report}
use Rattle.script_run.specs.OneViewed.{TellsOneThing, IsToldOfTexts, TellsTheFault, HasTold, ScriptsHaveOnePicture, RunsHavePictures, ScriptsHaveOneReporting, RunsHaveReportings}
use Rattle.script_run.proofs.NamedEnd.{named-end}

-- ---- the last report of a bus

abbrev with-report : Bus → Option Report → Bus
with-report bus report = record bus { notes = record bus.notes { report = report } }

one-graph : ReportsHaveOneGraph → (bus : Bus) (a b : List ℕ) → IsGraphOf bus a → IsGraphOf bus b → a ≡ b
one-graph one bus a b = by bus.notes.report
  where
    by : (o : Option Report) → IsGraphOf (with-report bus o) a → IsGraphOf (with-report bus o) b → a ≡ b
    by None x y = x ∙ sym y
    by (Some report) x y = one bus.notes.names bus.world.cabling report a b x y

one-line : ReportsHaveOneLine → (bus : Bus) (a b : List ℕ) → IsLineOf bus a → IsLineOf bus b → a ≡ b
one-line one bus a b = by bus.notes.report
  where
    by : (o : Option Report) → IsLineOf (with-report bus o) a → IsLineOf (with-report bus o) b → a ≡ b
    by None x y = x ∙ sym y
    by (Some report) x y = one bus.notes.names bus.notes.reports report a b x y

-- a bus that was just reported has them
some-graph : ListsAreReadBack → NamedReportsHaveGraphs → (bus : Bus) → IsEnd bus →
    (graph : List ℕ) × IsGraphOf bus graph
some-graph read graphs bus end =
    let has = graphs bus.notes.names bus.world.cabling end.report (named-end read bus end) in
    (has.text, subst (λ (o : Option Report). IsGraphOf (with-report bus o) has.text) (sym end.last) has.is)

some-line : ListsAreReadBack → NamedReportsHaveLines → (bus : Bus) → IsEnd bus →
    (line : List ℕ) × IsLineOf bus line
some-line read lines bus end =
    let has = lines bus.notes.names bus.notes.reports end.report (named-end read bus end) in
    (has.line, subst (λ (o : Option Report). IsLineOf (with-report bus o) has.line) (sym end.last) has.is)

-- ---- what is told of a run

module _ (Tells : ScriptRun → Bus → List ℕ → Type 0) where
  same-told : ((run : ScriptRun) (bus : Bus) (a b : List ℕ) → Tells run bus a → Tells run bus b → a ≡ b) →
      (run : ScriptRun) (one other : ScriptResult) → IsToldOf Tells run one → IsToldOf Tells run other → one ≡ other
  same-told once run (Ok a) (Ok b) x y =
      let bus = same-end y.0 x.0 (sym y.1 ∙ x.1) in
      ap Ok (once run x.0 a b x.2 (subst (λ (v : Bus). Tells run v b) bus y.2))
  same-told once run (Ok a) (Err g) x y = absurd (not-both x.0 g (sym x.1 ∙ y))
  same-told once run (Err f) (Ok b) x y = absurd (not-both y.0 f (sym y.1 ∙ x))
  same-told once run (Err f) (Err g) x y = ap Err (same-fault f g (sym x ∙ y))

  one-told : ScriptsHaveOneRun →
      ((run : ScriptRun) (bus : Bus) (a b : List ℕ) → Tells run bus a → Tells run bus b → a ≡ b) →
      TellsOneThing (IsTold Tells)
  one-told runs once bytes a b x y =
      let run = runs bytes y.0 x.0 y.1 x.1 in
      same-told once x.0 a b x.2 (subst (λ (r : ScriptRun). IsToldOf Tells r b) run y.2)

  pub told-texts : IsToldOfTexts (IsTold Tells)
  told-texts bytes told x =
      (printed x.0.entries, (x.0, x.1, sym (ap (unless_stopped (printed x.0.entries)) x.2.1)))

  pub told-fault : TellsTheFault (IsTold Tells)
  told-fault bytes fault x = (x.0, x.1, sym (ap (unless_stopped (printed x.0.entries)) x.2))

  has-told : (run : ScriptRun) → ((bus : Bus) → run.end ≡ Ok bus → (text : List ℕ) × Tells run bus text) →
      HasTold (IsToldOf Tells) run
  has-told run some = go run.end refl
    where
      go : (end : Result Bus ScriptFault) → run.end ≡ end → HasTold (IsToldOf Tells) run
      go (Ok bus) e = let told = some bus e in record { told = Ok told.0; is = (bus, e, told.1) }
      go (Err fault) e = record { told = Err fault; is = e }

-- ---- the picture

pub one-picture : ScriptsHaveOneRun → ReportsHaveOneGraph → ScriptsHaveOnePicture
one-picture runs one = one-told is_picture runs (λ run. one-graph one)

pub some-picture : NoListHasTwoTrees → ActKeepsNodes → ListsAreReadBack → NamedReportsHaveGraphs →
    RunsHavePictures
some-picture trees keeps read graphs bytes run is = has-told is_picture run (λ bus e.
    some-graph read graphs bus (subst (λ (r : Result Bus ScriptFault). IfOk r IsEnd) e (each-done trees keeps bytes run is).end))

-- ---- the line of each report

same-after : ReportsHaveOneLine → (prints : Bool) (after : Stage) (text a b : List ℕ) →
    IsLineAfter prints after text a → IsLineAfter prints after text b → a ≡ b
same-after one true after text a b x y = one-line one (bus_of after) a b x y
same-after one false after text a b x y = x ∙ sym y

same-lines : ReportsHaveOneLine → (entries : List Entry) (a b : List ℕ) → AllWritten IsLineAfter entries a →
    AllWritten IsLineAfter entries b → a ≡ b
same-lines one [] a b x y = x ∙ sym y
same-lines one (entry ∷ entries) a b x y =
    x.4
    ∙ ap (λ (text : List ℕ). text ++ x.1) (same-after one (prints_report entry.command) entry.after entry.text x.0 y.0 x.2 y.2)
    ∙ ap (λ (text : List ℕ). y.0 ++ text) (same-lines one entries x.1 y.1 x.3 y.3)
    ∙ sym y.4

-- the bus that a report left was just reported
left-end : (entry : Entry) → IsDone entry → IsReportedAt entry → IsEnd (bus_of entry.after)
left-end entry done at =
    subst (λ (s : Stage). IsSound s → IsEnd (bus_of s)) (sym at.after)
    (λ sound. record { reached = sound; report = at.of.report; last = at.of.kept; is = at.of.is })
    done.left

abbrev Says : Entry → Type 0
Says entry = DoesReport entry.command → IsReportedAt entry

module _ (read : ListsAreReadBack) (lines : NamedReportsHaveLines) where
  some-after : (command : Command) (after : Stage) (text : List ℕ) → (DoesReport command → IsEnd (bus_of after)) →
      (line : List ℕ) × IsLineAfter (prints_report command) after text line
  some-after Settle after text end = some-line read lines (bus_of after) (end tt)
  some-after (Plan name) after text end = some-line read lines (bus_of after) (end tt)
  some-after command after text end = ([], refl)

  some-lines : (entries : List Entry) → All IsDone entries → All Says entries →
      (text : List ℕ) × AllWritten IsLineAfter entries text
  some-lines [] done say = ([], refl)
  some-lines (entry ∷ entries) done say =
      let left = left-end entry (All-head IsDone entry entries done) in
      let one = some-after entry.command entry.after entry.text (λ does. left (All-head Says entry entries say does)) in
      let rest = some-lines entries (All-tail IsDone entry entries done) (All-tail Says entry entries say) in
      (one.0 ++ rest.0, (one.0, rest.0, one.1, rest.1, refl))

-- ---- the lines of the reports

pub one-reporting : ScriptsHaveOneRun → ReportsHaveOneLine → ScriptsHaveOneReporting
one-reporting runs one = one-told are_lines runs (λ run bus. same-lines one run.entries)

pub some-reporting : NoListHasTwoTrees → ActKeepsNodes → ListsAreReadBack → NamedReportsHaveLines →
    ReportsAreSettled → RunsHaveReportings
some-reporting trees keeps read lines settled bytes run is = has-told are_lines run (λ bus e.
    some-lines read lines run.entries (each-done trees keeps bytes run is).each (settled bytes run is))
