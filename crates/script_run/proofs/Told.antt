-- What each reading tells of a script that it has read.
use Rattle.std.proofs.Common.{◌≡◌, ◌∙◌, inr, ℕ, ◌+◌, List, [], ◌∷◌, ◌++◌, length, refl, sym, ap, append_assoc}
use Rattle.std.specs.Prelude.{Bool, true, false, Option, None, Some, Ok, Err}
use Rattle.script_lines.specs.declared.kind.Kind.{Kind}
use Rattle.settle.specs.declared.report.Report.{Report}
use Rattle.script_text.specs.OneText.{ReportsHaveOneText}
use Rattle.script_told.specs.Bus.{Bus}
use Rattle.script_told.specs.Script.{Stage, ScriptResult, bus_of, fault_at, script_lines}
use Rattle.script_told.specs.Run.{Entry, ScriptRun, printed, unless_stopped, IsResult}
use Rattle.script_told.specs.OneTold.{ScriptsHaveOneRun}
use Rattle.script_advice.specs.Advice.{Advises, IsAdvice}
use Rattle.script_trace.specs.Voice.{Voice, legend_of}
use Rattle.script_trace.specs.Trace.{IsTrace, trace_voice}
use Rattle.script_trace.specs.waves.Moment.{waves_voice}
use Rattle.script_trace.specs.waves.Head.{head}
use Rattle.script_trace.specs.waves.Waves.{IsWaves}
use Rattle.script_bus.specs.Listed.{list_of}
use Rattle.script_bus.specs.Viewed.{IsTextOf, IsGraphOf, IsLineOf, IsReadLineOf}
use Rattle.script_run.specs.Listed.{at_line, listed_at, IsListed}
use Rattle.script_run.specs.Viewed.{Writing, AllWritten, IsPictured, IsLineAfter, AreReported, IsReadAfter, AreReadBack, prints_report}
use Rattle.script_run.specs.codings.Going.{Prints, IsRead}
use Rattle.script_bus.proofs.Lemmas.{one-text}

-- ---- the text of the commands

-- a report is written behind the words before it
pub report-written :
    ReportsHaveOneText → (next : Stage) (words made text before mid after : List ℕ) → mid ≡ before ++ words →
    after ≡ mid ++ made → IsTextOf (bus_of next) made → Prints true next words text → after ≡ before ++ text
report-written one next words made text before mid after first then is (report, also, whole) =
    then
    ∙ ap (λ (l : List ℕ). l ++ made) first
    ∙ append_assoc before words made
    ∙ ap (λ (l : List ℕ). before ++ (words ++ l)) (one-text one (bus_of next) made report is also)
    ∙ ap (λ (l : List ℕ). before ++ l) (sym whole)

printed-of : (entries : List Entry) (text : List ℕ) → AllWritten (λ prints after told added. added ≡ told) entries text →
    text ≡ printed entries
printed-of [] text h = h
printed-of (e ∷ entries) text h =
    h.4
    ∙ ap (λ (l : List ℕ). l ++ h.1) h.2
    ∙ ap (λ (l : List ℕ). e.text ++ l) (printed-of entries h.1 h.3)

pub tells-text :
    (voice : Voice) (bytes : List ℕ) (bus : Bus) (text heard : List ℕ) →
    IsRead voice (λ prints after told added. added ≡ told) bytes bus text heard → IsResult bytes (Ok text)
tells-text voice bytes bus text heard r = (
  r.run,
  r.is,
  ap Ok (printed-of r.run.entries text r.written) ∙ sym (ap (unless_stopped (printed r.run.entries)) r.ends),
)

-- ---- what was heard

module _ (Writes : Writing) (bytes : List ℕ) (bus : Bus) (text heard : List ℕ) where
  pub tells-trace : IsRead trace_voice Writes bytes bus text heard → IsTrace bytes (Ok heard)
  tells-trace r = (r.run, r.is, (bus, r.ends, r.told))

  pub tells-dump : (dump : List ℕ) → dump ≡ head (legend_of bus.notes) bus.world ++ heard →
      IsRead waves_voice Writes bytes bus text heard → IsWaves bytes (Ok dump)
  tells-dump dump is r = (r.run, r.is, (bus, r.ends, record { changes = heard; told = r.told; text_is = is }))

-- ---- the lines of the reports

abbrev with-report : Bus → Option Report → Bus
with-report bus report = record bus { notes = record bus.notes { report = report } }

line-of : (bus : Bus) (line : List ℕ) → IsReadLineOf bus line → IsLineOf bus line
line-of bus line = by bus.notes.report
  where
    by : (o : Option Report) → IsReadLineOf (with-report bus o) line → IsLineOf (with-report bus o) line
    by None h = h
    by (Some report) h = h.line_is

line-after : (prints : Bool) (after : Stage) (text line : List ℕ) → IsReadAfter prints after text line →
    IsLineAfter prints after text line
line-after true after text line h = line-of (bus_of after) line h
line-after false after text line h = h

are-lines : (entries : List Entry) (text : List ℕ) → AllWritten IsReadAfter entries text → AllWritten IsLineAfter entries text
are-lines [] text h = h
are-lines (e ∷ entries) text h =
    (h.0, h.1, line-after (prints_report e.command) e.after e.text h.0 h.2, are-lines entries h.1 h.3, h.4)

module _ (voice : Voice) (bytes : List ℕ) (bus : Bus) (text heard : List ℕ) where
  pub tells-lines : IsRead voice IsReadAfter bytes bus text heard → AreReadBack bytes text
  tells-lines r = record { run = r.run; is = r.is; bus = bus; end = r.ends; lines = r.written }

  pub tells-reports : IsRead voice IsReadAfter bytes bus text heard → AreReported bytes (Ok text)
  tells-reports r = (r.run, r.is, (bus, r.ends, are-lines r.run.entries text r.written))

-- ---- the bus at the end

module _ (voice : Voice) (Writes : Writing) (bytes : List ℕ) (bus : Bus) (text heard : List ℕ) where
  pub tells-picture : (graph : List ℕ) → IsGraphOf bus graph → IsRead voice Writes bytes bus text heard →
      IsPictured bytes (Ok graph)
  tells-picture graph is r = (r.run, r.is, (bus, r.ends, is))

  pub tells-list : (name list : List ℕ) → list_of bus name ≡ Ok list → IsRead voice Writes bytes bus text heard →
      IsListed bytes name (Ok list)
  tells-list name list is r =
      let count = length (script_lines bytes) + 1 in
      (r.run, r.is, sym (ap (listed_at count name) r.ends ∙ ap (at_line count) is))

  pub tells-no-list : (name : List ℕ) (kind : Kind) → Err kind ≡ list_of bus name →
      IsRead voice Writes bytes bus text heard →
      IsListed bytes name (Err (fault_at (length (script_lines bytes) + 1) kind))
  tells-no-list name kind is r =
      let count = length (script_lines bytes) + 1 in
      (r.run, r.is, ap (at_line count) is ∙ sym (ap (listed_at count name) r.ends))

  pub tells-advice : (after : Bus) (advice : List ℕ) → Advises bus (Ok (after, advice)) →
      IsRead voice Writes bytes bus text heard → IsAdvice bytes (Ok advice)
  tells-advice after advice advises r =
      inr (record { bus = bus; ran = (r.run, r.is, r.ends); answer = Ok (after, advice); advises = advises; is = refl })

  pub tells-no-advice : (kind : Kind) → Advises bus (Err kind) → IsRead voice Writes bytes bus text heard →
      IsAdvice bytes (Err (fault_at (length (script_lines bytes) + 1) kind))
  tells-no-advice kind advises r =
      inr (record { bus = bus; ran = (r.run, r.is, r.ends); answer = Err kind; advises = advises; is = refl })

-- a script lists one thing
pub one-listed : ScriptsHaveOneRun → (bytes name : List ℕ) (one other : ScriptResult) → IsListed bytes name one →
    IsListed bytes name other → one ≡ other
one-listed runs bytes name one other x y =
    x.2
    ∙ ap (λ (r : ScriptRun). listed_at (length (script_lines bytes) + 1) name r.end) (runs bytes x.0 y.0 x.1 y.1)
    ∙ sym y.2
