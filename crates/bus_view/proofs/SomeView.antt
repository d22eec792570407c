-- All words and bytes have an answer.
use Rattle.std.proofs.Common.{◌≡◌, ◌<◌, ◌+◌, inl, inr, ℕ, List, [], Ok, Err, length, refl, sym, ap}
use Rattle.std.specs.Prelude.{All, codes}
use Rattle.quad_lanes.specs.Pairs.{quads_of}
use Rattle.self_id.specs.declared.standard.Standard.{Standard}
use Rattle.capture_reading.specs.OneReading.{EachCaptureHasATreeOrAFault}
use Rattle.capture_reading.specs.Line.{fault_line}
use Rattle.script_lines.specs.declared.kind.ScriptFault.{ScriptFault}
use Rattle.script_run.specs.Line.{script_line}
use Rattle.script_made.specs.Made.{made_script}
use Rattle.script_told.specs.Script.{ScriptResult, script_lines}
use Rattle.script_told.specs.Run.{ScriptRun, IsRun, printed, unless_stopped, result_of}
use Rattle.script_run.specs.Listed.{listed_at}
use Rattle.script_run.specs.Viewed.{IsPictureOf, AreLinesOf}
use Rattle.script_run.specs.OneViewed.{RunsHavePictures, RunsHaveReportings}
use Rattle.quad_lanes.specs.Capture.{capture}
use Rattle.script_bus.specs.SomeRun.{EachScriptHasARun}
use Rattle.script_trace.specs.Trace.{IsTraceOf}
use Rattle.script_trace.specs.OneTrace.{RunsHaveTraces}
use Rattle.script_trace.specs.waves.Waves.{IsWavesOf}
use Rattle.script_trace.specs.waves.OneDump.{RunsHaveDumps}
use Rattle.view_text.specs.Pairs.{pairs_text}
use Rattle.view_text.specs.Graph.{graph}
use Rattle.bus_json.specs.Text.{json_line}
use Rattle.bus_json.specs.Bus.{bus_value}
use Rattle.bus_json.specs.Refusal.{fault_value}
use Rattle.bus_view.specs.declared.form.CaptureView.{CaptureView}
use Rattle.bus_view.specs.declared.form.CaptureView.TheVariants.{Packets, Tree as Drawn, Dot, Json}
use Rattle.bus_view.specs.declared.form.ExplainForm.{ExplainForm}
use Rattle.bus_view.specs.declared.form.ViewForm.{ViewForm}
use Rattle.bus_view.specs.declared.form.ViewForm.TheVariants.{Capture, Trace, Waves, DotRun, JsonRun, Script, ListOf, Explain, Resets, Nosy, OfItself}
use Rattle.about.specs.Told.{about_text}
use Rattle.reset_log.specs.OneText.{EachLogHasAText}
use Rattle.nosy_dump.specs.OneText.{EachDumpHasAText}
use Rattle.bus_view.specs.declared.help.TheConstants.{VIEW_HELP}
use Rattle.bus_view.specs.Form.{Asks}
use Rattle.bus_view.specs.Log.{status_if}
use Rattle.bus_view.specs.Sentence.{place, note}
use Rattle.bus_view.specs.Answer.{Reading, spelt, refused, IsReading, status_of, HasText, IsCaptureView, IsShown, shown, at_fault, json_refusal, IsListView, has_list, has_none, IsView, IsExplainView, has_text, has_fault}
use Rattle.script_words.specs.Before.{feed_lines}
use Rattle.bus_view.specs.Explained.{explanation, no_fault}
use Rattle.bus_view.specs.OneAnswer.{EachInputHasAView}
use Rattle.bus_view.proofs.Said.{some_explained}
use Rattle.top_call.proofs.Lemmas.{each_answered}
use Rattle.bus_view.proofs.Forms.{form_or_none}
use Rattle.bus_view.proofs.SomePacket.{packets-of-bytes}
use Rattle.view_text.proofs.Lemmas.{some-drawing}

abbrev HasSome : (ℕ → List ℕ → Type 0) → Type 0
HasSome Is = (s : ℕ) × (text : List ℕ) × Is s text

-- ---- captures

some-reading : EachCaptureHasATreeOrAFault → (standard : Standard) (bytes : List ℕ) →
    All (λ b. b < 256) bytes → (r : Reading) × IsReading standard bytes r
some-reading some standard bytes fit = elim (some standard bytes fit) [
  | inl t ↦ (spelt t.0, t.1)
  | inr f ↦ (refused f.0, f.1)
]

some-text : (view : CaptureView) (standard : Standard) (bytes : List ℕ) (r : Reading) →
    All (λ b. b < 256) bytes → (text : List ℕ) × HasText view standard bytes r text
some-text Packets standard bytes (spelt t) fit =
    let p = packets-of-bytes bytes fit in
    (pairs_text bytes p.0 0 [], record { packets = p.0; shown = p.1; text_is = refl })
some-text Packets standard bytes (refused f) fit =
    let p = packets-of-bytes bytes fit in
    (pairs_text bytes p.0 (place f) (note standard bytes (quads_of bytes) p.0 f), record { packets = p.0; shown = p.1; text_is = refl })
some-text Drawn standard bytes (spelt t) fit = some-drawing t
some-text Drawn standard bytes (refused f) fit = (fault_line f, refl)
some-text Dot standard bytes (spelt t) fit = (graph t, refl)
some-text Dot standard bytes (refused f) fit = (fault_line f, refl)
some-text Json standard bytes (spelt t) fit = (json_line (bus_value t), refl)
some-text Json standard bytes (refused f) fit = (json_line (fault_value f), refl)

-- what may be shown, what is said of scripts
pub record HasSomeReading : Type 0 where
  pub some : EachCaptureHasATreeOrAFault
  pub run : EachScriptHasARun
  pub traces : RunsHaveTraces
  pub dumps : RunsHaveDumps
  pub pictures : RunsHavePictures
  pub reportings : RunsHaveReportings
  pub logs : EachLogHasAText
  pub bus_dumps : EachDumpHasAText

module _ (have : HasSomeReading) where
  some-capture : (view : CaptureView) (standard : Standard) (bytes : List ℕ) →
      All (λ b. b < 256) bytes → HasSome (IsCaptureView view standard bytes)
  some-capture view standard bytes fit =
      let r = some-reading have.some standard bytes fit in
      let t = some-text view standard bytes r.0 fit in
      (status_of r.0, t.0, record { reading = r.0; reads = r.1; status_is = refl; text_is = t.1 })

  some-told : (Tells : ScriptRun → ScriptResult → Type 0) (said : ScriptFault → List ℕ) →
      ((bytes : List ℕ) (run : ScriptRun) → IsRun bytes run → (told : ScriptResult) × Tells run told) →
      ((run : ScriptRun) (fault : ScriptFault) → Tells run (Err fault) → run.end ≡ Err fault) → (bytes : List ℕ) →
      HasSome (IsShown (λ b told. (run : ScriptRun) × IsRun b run × Tells run told) said bytes)
  some-told Tells said some fails bytes =
      let r = have.run bytes in
      let t = some bytes r.run r.is in
      go r.run r.is t.0 t.1
    where
      go : (run : ScriptRun) → IsRun bytes run → (told : ScriptResult) → Tells run told →
          HasSome (IsShown (λ b told. (run : ScriptRun) × IsRun b run × Tells run told) said bytes)
      go run is (Ok text) tells = (0, text, shown refl (run, is, tells))
      go run is (Err f) tells =
          (1, said f, at_fault f refl (run, is, sym (ap (unless_stopped (printed run.entries)) (fails run f tells))) refl)

  some-explanation : (form : ExplainForm) (bytes : List ℕ) → HasSome (IsExplainView form bytes)
  some-explanation form bytes =
      let r = have.run bytes in
      go r.run r.is (result_of r.run) refl
    where
      go : (run : ScriptRun) → IsRun bytes run → (told : ScriptResult) → told ≡ result_of run →
          HasSome (IsExplainView form bytes)
      go run is (Ok text) e = (0, no_fault form, has_text text refl (run, is, e) refl)
      go run is (Err f) e =
          let x = some_explained form (feed_lines bytes) f in (1, x.0, has_fault f refl (run, is, e) x.1)

  some-list : (name bytes : List ℕ) → HasSome (IsListView name bytes)
  some-list name bytes =
      let r = have.run bytes in
      go r.run r.is (listed_at (length (script_lines bytes) + 1) name r.run.end) refl
    where
      go : (run : ScriptRun) → IsRun bytes run → (told : ScriptResult) →
          listed_at (length (script_lines bytes) + 1) name run.end ≡ told →
          HasSome (IsListView name bytes)
      go run is (Ok list) e = (0, capture list, has_list list refl (run, is, sym e) refl)
      go run is (Err f) e = (1, script_line f, has_none f refl (run, is, sym e) refl)

  some-view : (form : ViewForm) (bytes : List ℕ) → All (λ b. b < 256) bytes →
      HasSome (IsView form bytes)
  some-view (Capture view standard) bytes fit = some-capture view standard bytes fit
  some-view Trace bytes fit =
      some-told IsTraceOf (explanation bytes) (λ b run is. let t = have.traces b run is in (t.told, t.is)) (λ run fault e. e) bytes
  some-view Waves bytes fit =
      some-told IsWavesOf (explanation bytes) (λ b run is. let t = have.dumps b run is in (t.told, t.is)) (λ run fault e. e) bytes
  some-view DotRun bytes fit =
      some-told IsPictureOf (explanation bytes) (λ b run is. let t = have.pictures b run is in (t.told, t.is)) (λ run fault e. e) bytes
  some-view JsonRun bytes fit =
      some-told AreLinesOf json_refusal (λ b run is. let t = have.reportings b run is in (t.told, t.is)) (λ run fault e. e) bytes
  some-view (Explain form) bytes fit = some-explanation form bytes
  some-view (Script nodes seed) bytes fit = (0, made_script nodes seed, (refl, refl))
  some-view (ListOf name) bytes fit = some-list name bytes
  some-view (Resets form) bytes fit =
      let t = have.logs form bytes in (status_if t.1, t.0, (t.1, t.2, refl))
  some-view (Nosy form) bytes fit =
      let t = have.bus_dumps form bytes fit in (status_if t.1, t.0, (t.1, t.2, refl))
  some-view (OfItself about) bytes fit = (0, about_text about (codes "busview") VIEW_HELP.now, (refl, refl))

  pub some-answer : EachInputHasAView
  some-answer words = each_answered (Asks words) IsView (form_or_none words) (λ form asks. some-view form)
