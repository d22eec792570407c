-- What is written for programs is read back.
use Rattle.std.proofs.Common.{◌≡◌, ℕ, Bool, true, false, Option, Some, None, Result, Ok, Err, List, [], ◌∷◌, sym, subst}
use Rattle.std.specs.Prelude.{MatchBool, IfSome, IfOk, OnOk}
use Rattle.std.specs.Io.KnownBytes.{Appends}
use Rattle.io_edges.specs.Told.{AreLeft}
use Rattle.bus_json.specs.Lines.{AreJsonLines, none}
use Rattle.bus_json.proofs.Lemmas.{one_line, all_lines}
use Rattle.self_id.specs.declared.standard.Standard.{Standard}
use Rattle.settle.specs.declared.report.Report.{Report}
use Rattle.report_views.specs.ReportJson.{report_value}
use Rattle.script_lines.specs.declared.command.Command.{Command}
use Rattle.script_told.specs.Bus.{Bus}
use Rattle.script_told.specs.Script.{Stage, bus_of}
use Rattle.script_told.specs.Run.{Entry}
use Rattle.script_bus.specs.Viewed.{IsReadLineOf}
use Rattle.script_run.specs.Viewed.{AllWritten, IsReadAfter, AreReadBack, prints_report}
use Rattle.bus_view.specs.declared.form.ViewForm.{ViewForm}
use Rattle.bus_view.specs.ReadBack.{AreReports, IsDotOf, ReadsBack}

-- ---- the reports of a script

no-lines : (text : List ℕ) → text ≡ [] → AreJsonLines text
no-lines text e = subst AreJsonLines (sym e) none

abbrev with-report : Bus → Option Report → Bus
with-report bus report = record bus { notes = record bus.notes { report = report } }

of-bus : (bus : Bus) (line : List ℕ) → IsReadLineOf bus line → AreJsonLines line
of-bus bus line = by bus.notes.report
  where
    by : (o : Option Report) → IsReadLineOf (with-report bus o) line → AreJsonLines line
    by None h = no-lines line h
    by (Some report) h =
        one_line line record {
          value = report_value bus.notes.reports report.turn h.line_is.components;
          text_is = h.line_is.is;
          read_back = h.read_back;
        }

of-command : (prints : Bool) (after : Stage) (text line : List ℕ) → IsReadAfter prints after text line → AreJsonLines line
of-command true after text line h = of-bus (bus_of after) line h
of-command false after text line h = no-lines line h

of-entries : (entries : List Entry) (text : List ℕ) → AllWritten IsReadAfter entries text → AreJsonLines text
of-entries [] text h = no-lines text h
of-entries (e ∷ entries) text h =
    subst AreJsonLines (sym h.4) (all_lines h.0 h.1 (of-command (prints_report e.command) e.after e.text h.0 h.2) (of-entries entries h.1 h.3))

-- lines that are read back as the values of reports are lines of JSON
pub report_lines : (bytes text : List ℕ) → AreReadBack bytes text → AreJsonLines text
report_lines bytes text h = of-entries h.run.entries text h.lines

-- ---- a form that is known

pub told_of : (form known : ViewForm) → form ≡ known → (bytes : List ℕ) (status : ℕ) (text : List ℕ) →
    ReadsBack known bytes status text → ReadsBack form bytes status text
told_of form known e bytes status text is =
    subst (λ (f : ViewForm). ReadsBack f bytes status text) (sym e) is

-- ---- what is written

-- the reports of the bytes that were told
pub read_reports : (left old new : Option (List ℕ)) (status : ℕ) (bytes text : List ℕ) → AreLeft left bytes →
    AreReports bytes status text → status ≡ 0 → Appends old new text →
    IfSome left (λ told. (text : List ℕ) × AreReadBack told text × Appends old new text)
read_reports None old new status bytes text all are zero wrote = tt
read_reports (Some told) old new status bytes text all are zero wrote =
    (text, subst (λ (b : List ℕ). AreReadBack b text) all (are.reports zero), wrote)

-- the graph of the bytes that were told
pub read_dot : (left old new : Option (List ℕ)) (standard : Standard) (bytes text : List ℕ) → AreLeft left bytes →
    IsDotOf standard bytes text → Appends old new text →
    IfSome left (λ told. (text : List ℕ) × IsDotOf standard told text × Appends old new text)
read_dot None old new standard bytes text all is wrote = tt
read_dot (Some told) old new standard bytes text all is wrote =
    (text, subst (λ (b : List ℕ). IsDotOf standard b text) all is, wrote)

pub shown_so : {A E : Type 0} (r : Result A E) (P : Type 0) → OnOk r P → IfOk r (λ x. P)
shown_so (Ok x) P h = h
shown_so (Err e) P h = tt
