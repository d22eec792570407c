-- Words and bytes have one answer.
use Rattle.std.proofs.Common.{◌≡◌, ◌∙◌, ℕ, ◌+◌, Bool, true, false, List, [], ◌∷◌, Ok, Err, length, refl, sym, ap, subst}
use Rattle.quad_lanes.specs.Capture.{capture}
use Rattle.quad_lanes.specs.Pairs.{firsts, quads_of}
use Rattle.phy_packet.specs.Packet.{IsQuadletOf}
use Rattle.phy_packet.specs.declared.packet.PhyPacket.{PhyPacket}
use Rattle.phy_packet.proofs.Lemmas.{packet_of, packet_of-quad_of}
use Rattle.self_id.specs.declared.standard.Standard.{Standard}
use Rattle.topology_stack.specs.Tree.{Tree}
use Rattle.capture_reading.specs.declared.fault.CaptureFault.{CaptureFault}
use Rattle.capture_reading.specs.OneReading.{NoCaptureHasTwoTrees, NoCaptureHasATreeAndAFault, NoCaptureHasTwoFaults}
use Rattle.script_run.specs.Line.{script_line}
use Rattle.script_lines.specs.declared.kind.ScriptFault.{ScriptFault}
use Rattle.script_words.specs.Before.{feed_lines}
use Rattle.script_told.specs.Script.{ScriptResult, script_lines}
use Rattle.script_told.specs.Run.{ScriptRun, IsResult}
use Rattle.script_run.specs.Listed.{listed_at, IsListed}
use Rattle.script_run.specs.Viewed.{IsPictured, AreReported}
use Rattle.script_run.specs.OneViewed.{TellsOneThing, IsToldOfTexts, ScriptsHaveOnePicture, PicturedScriptsAreTold, ScriptsHaveOneReporting, ReportedScriptsAreTold}
use Rattle.script_told.specs.OneTold.{ScriptsHaveOneRun, ScriptsTellOneThing}
use Rattle.script_told.proofs.Lemmas.{same-fault}
use Rattle.script_trace.specs.Trace.{IsTrace}
use Rattle.script_trace.specs.OneTrace.{ScriptsHaveOneTrace, TracedScriptsAreTold}
use Rattle.script_trace.specs.waves.Waves.{IsWaves}
use Rattle.script_trace.specs.waves.OneDump.{ScriptsHaveOneDump, DumpedScriptsAreTold}
use Rattle.view_text.specs.Pairs.{ArePacketsOf, pairs_text}
use Rattle.view_text.proofs.Lemmas.{same_drawing}
use Rattle.bus_view.specs.declared.form.CaptureView.{CaptureView}
use Rattle.bus_view.specs.declared.form.CaptureView.TheVariants.{Packets, Tree as Drawn, Dot, Json}
use Rattle.bus_view.specs.declared.form.ExplainForm.{ExplainForm}
use Rattle.bus_view.specs.declared.form.ViewForm.{ViewForm}
use Rattle.bus_view.specs.declared.form.ViewForm.TheVariants.{Capture, Trace, Waves, DotRun, JsonRun, Script, ListOf, Explain, Resets, Nosy, OfItself}
use Rattle.bus_view.specs.Answer.{Reading, spelt, refused, IsReading, status_of, ShowsPackets, HasText, IsCaptureView, IsShown, shown, at_fault, json_refusal, IsListView, has_list, has_none, IsView, IsExplainView, has_text, has_fault}
use Rattle.reset_log.specs.OneText.{NoLogHasTwoTexts}
use Rattle.nosy_dump.specs.OneText.{NoDumpHasTwoTexts}
use Rattle.bus_view.specs.Explained.{explanation, IsExplained}
use Rattle.bus_view.specs.Log.{status_if}
use Rattle.bus_view.specs.OneAnswer.{NoInputHasTwoViews}
use Rattle.bus_view.proofs.Said.{one_explained}
use Rattle.top_call.proofs.Lemmas.{none_twice}
use Rattle.bus_view.specs.Form.{Asks}
use Rattle.bus_view.proofs.Forms.{one_form}

-- ---- a capture has one reading

pub record HasOneReading : Type 0 where
  pub trees : NoCaptureHasTwoTrees
  pub apart : NoCaptureHasATreeAndAFault
  pub faults : NoCaptureHasTwoFaults
  pub runs : ScriptsHaveOneRun
  pub told : ScriptsTellOneThing
  pub traces : ScriptsHaveOneTrace
  pub texts : TracedScriptsAreTold
  pub dumps : ScriptsHaveOneDump
  pub dumped_texts : DumpedScriptsAreTold
  pub pictures : ScriptsHaveOnePicture
  pub pictured_texts : PicturedScriptsAreTold
  pub reports : ScriptsHaveOneReporting
  pub reported_texts : ReportedScriptsAreTold
  pub logs : NoLogHasTwoTexts
  pub bus_dumps : NoDumpHasTwoTexts

same_reading : HasOneReading → (standard : Standard) (bytes : List ℕ) (a b : Reading) →
    IsReading standard bytes a → IsReading standard bytes b → a ≡ b
same_reading one standard bytes (spelt t) (spelt u) x y = ap (λ (v : Tree). spelt v) (one.trees standard bytes t u x y)
same_reading one standard bytes (spelt t) (refused g) x y = absurd (one.apart standard bytes t g x y)
same_reading one standard bytes (refused f) (spelt u) x y = absurd (one.apart standard bytes u f y x)
same_reading one standard bytes (refused f) (refused g) x y = ap (λ (h : CaptureFault). refused h) (one.faults standard bytes f g x y)

-- ---- a reading has one text

-- a quadlet shows one packet
one_packet : (quad : ℕ) (p q : PhyPacket) → IsQuadletOf quad p → IsQuadletOf quad q → p ≡ q
one_packet quad p q x y =
    sym (packet_of-quad_of p x.valid) ∙ ap packet_of (x.quad_is ∙ sym y.quad_is) ∙ packet_of-quad_of q y.valid

same_packets : (quads : List ℕ) (ps qs : List PhyPacket) →
    ArePacketsOf quads ps → ArePacketsOf quads qs → ps ≡ qs
same_packets [] [] [] x y = refl
same_packets [] [] (q ∷ qs) x y = absurd y
same_packets [] (p ∷ ps) qs x y = absurd x
same_packets (a ∷ quads) [] qs x y = absurd x
same_packets (a ∷ quads) (p ∷ ps) [] x y = absurd y
same_packets (a ∷ quads) (p ∷ ps) (q ∷ qs) x y =
    let head : p ≡ q = one_packet a p q x.0 y.0 in
    rw (head, same_packets quads ps qs x.1 y.1) refl

same_shown : (bytes : List ℕ) (at : ℕ) (below : List PhyPacket → List ℕ) (a b : List ℕ) →
    ShowsPackets bytes at below a → ShowsPackets bytes at below b → a ≡ b
same_shown bytes at below a b x y =
    x.text_is ∙ ap (λ (ps : List PhyPacket). pairs_text bytes ps at (below ps)) (same_packets (firsts (quads_of bytes)) x.packets y.packets x.shown y.shown) ∙ sym y.text_is

same_text : (view : CaptureView) (standard : Standard) (bytes : List ℕ) (r : Reading) (a b : List ℕ) →
    HasText view standard bytes r a → HasText view standard bytes r b → a ≡ b
same_text Packets standard bytes (spelt t) a b x y = same_shown bytes _ _ a b x y
same_text Packets standard bytes (refused f) a b x y = same_shown bytes _ _ a b x y
same_text Drawn standard bytes (spelt t) a b x y = same_drawing t a b x y
same_text Drawn standard bytes (refused f) a b x y = x ∙ sym y
same_text Dot standard bytes (spelt t) a b x y = x ∙ sym y
same_text Dot standard bytes (refused f) a b x y = x ∙ sym y
same_text Json standard bytes (spelt t) a b x y = x ∙ sym y
same_text Json standard bytes (refused f) a b x y = x ∙ sym y

same_capture : HasOneReading →
    (view : CaptureView) (standard : Standard) (bytes : List ℕ) (s r : ℕ) (a b : List ℕ) →
    IsCaptureView view standard bytes s a → IsCaptureView view standard bytes r b →
    (s ≡ r) × (a ≡ b)
same_capture one view standard bytes s r a b x y =
    let same : x.reading ≡ y.reading = same_reading one standard bytes x.reading y.reading x.reads y.reads in
    (x.status_is ∙ ap status_of same ∙ sym y.status_is, same_text view standard bytes y.reading a b (subst (λ (v : Reading). HasText view standard bytes v a) same x.text_is) y.text_is)

-- ---- a script has one trace, one dump, one graph and one list of reports

trace-text : ScriptResult → List ℕ
trace-text (Ok text) = text
trace-text (Err fault) = []

is-ok : ScriptResult → Bool
is-ok (Ok text) = true
is-ok (Err fault) = false

-- a script with a text has no fault
no-fault : HasOneReading → (bytes text : List ℕ) (fault : ScriptFault) → IsResult bytes (Ok text) →
    IsResult bytes (Err fault) → ⊥
unfolding is-ok
no-fault one bytes text fault x y = let e = ap is-ok (one.told bytes (Ok text) (Err fault) x y) in cc

-- what is shown of a script in some way
same_told : HasOneReading →
    (Tells : List ℕ → ScriptResult → Type 0) (said : ScriptFault → List ℕ) → TellsOneThing Tells → IsToldOfTexts Tells →
    (bytes : List ℕ) (s r : ℕ) (a b : List ℕ) → IsShown Tells said bytes s a →
    IsShown Tells said bytes r b → (s ≡ r) × (a ≡ b)
unfolding trace-text
same_told one Tells said tells texts bytes s r a b (shown e x) (shown f y) =
    (e ∙ sym f, ap trace-text (tells bytes (Ok a) (Ok b) x y))
same_told one Tells said tells texts bytes s r a b (shown e x) (at_fault g f y t) =
    absurd (let text = texts bytes a x in no-fault one bytes text.0 g text.1 y)
same_told one Tells said tells texts bytes s r a b (at_fault g e x t) (shown f y) =
    absurd (let text = texts bytes b y in no-fault one bytes text.0 g text.1 x)
same_told one Tells said tells texts bytes s r a b (at_fault g e x t) (at_fault h f y u) =
    (e ∙ sym f, t ∙ ap said (same-fault g h (one.told bytes (Err g) (Err h) x y)) ∙ sym u)

-- ---- a script has one fault or none

listed-apart : (list : List ℕ) (fault : ScriptFault) → ◌≡◌ {A = ScriptResult} (Ok list)
    (Err fault) → ⊥
listed-apart list fault e = cc

same_explanation : HasOneReading → (form : ExplainForm) (bytes : List ℕ) (s r : ℕ) (a b : List ℕ) → IsExplainView form bytes s a →
    IsExplainView form bytes r b → (s ≡ r) × (a ≡ b)
same_explanation one form bytes s r a b (has_text p e x t) (has_text q f y u) = (e ∙ sym f, t ∙ sym u)
same_explanation one form bytes s r a b (has_text p e x t) (has_fault g f y u) =
    absurd (listed-apart p g (one.told bytes (Ok p) (Err g) x y))
same_explanation one form bytes s r a b (has_fault g e x t) (has_text p f y u) =
    absurd (listed-apart p g (one.told bytes (Ok p) (Err g) y x))
same_explanation one form bytes s r a b (has_fault g e x t) (has_fault h f y u) =
    let same : g ≡ h = same-fault g h (one.told bytes (Err g) (Err h) x y) in
    (e ∙ sym f, one_explained form (feed_lines bytes) h a b (subst (λ (k : ScriptFault). IsExplained form (feed_lines bytes) k a) same t) u)

-- ---- a script lists one thing of a node

one_listed : HasOneReading → (bytes name : List ℕ) (a b : ScriptResult) → IsListed bytes name a →
    IsListed bytes name b → a ≡ b
one_listed one bytes name a b (run, is, e) (other, too, f) =
    e ∙ ap (λ (r : ScriptRun). listed_at (length (script_lines bytes) + 1) name r.end) (one.runs bytes run other is too) ∙ sym f

same_list : HasOneReading → (name bytes : List ℕ) (s r : ℕ) (a b : List ℕ) → IsListView name bytes s a →
    IsListView name bytes r b → (s ≡ r) × (a ≡ b)
unfolding trace-text
same_list one name bytes s r a b (has_list l e x t) (has_list m f y u) = (
  e ∙ sym f,
  t ∙ ap (λ (told : ScriptResult). capture (trace-text told))
      (one_listed one bytes name (Ok l) (Ok m) x y) ∙ sym u,
)
same_list one name bytes s r a b (has_list l e x t) (has_none g f y u) =
    absurd (listed-apart l g (one_listed one bytes name (Ok l) (Err g) x y))
same_list one name bytes s r a b (has_none g e x t) (has_list l f y u) =
    absurd (listed-apart l g (one_listed one bytes name (Ok l) (Err g) y x))
same_list one name bytes s r a b (has_none g e x t) (has_none h f y u) = (
  e ∙ sym f,
  t ∙ ap script_line (same-fault g h (one_listed one bytes name (Err g) (Err h) x y)) ∙ sym u,
)

same_view : HasOneReading → (form : ViewForm) (bytes : List ℕ) (s r : ℕ) (a b : List ℕ) →
    IsView form bytes s a → IsView form bytes r b → (s ≡ r) × (a ≡ b)
same_view one Trace bytes s r a b x y =
    same_told one IsTrace (explanation bytes) one.traces one.texts bytes s r a b x y
same_view one Waves bytes s r a b x y =
    same_told one IsWaves (explanation bytes) one.dumps one.dumped_texts bytes s r a b x y
same_view one DotRun bytes s r a b x y =
    same_told one IsPictured (explanation bytes) one.pictures one.pictured_texts bytes s r a b x y
same_view one JsonRun bytes s r a b x y =
    same_told one AreReported json_refusal one.reports one.reported_texts bytes s r a b x y
same_view one (Explain form) bytes s r a b x y = same_explanation one form bytes s r a b x y
same_view one (Capture view standard) bytes s r a b x y =
    same_capture one view standard bytes s r a b x y
same_view one (Script nodes seed) bytes s r a b x y = (x.0 ∙ sym y.0, x.1 ∙ sym y.1)
same_view one (ListOf name) bytes s r a b x y = same_list one name bytes s r a b x y
same_view one (Resets form) bytes s r a b (p, x, e) (q, y, f) =
    let t = one.logs form bytes a b p q x y in (e ∙ ap status_if t.1 ∙ sym f, t.0)
same_view one (Nosy form) bytes s r a b (p, x, e) (q, y, f) =
    let t = one.bus_dumps form bytes a b p q x y in (e ∙ ap status_if t.1 ∙ sym f, t.0)
same_view one (OfItself about) bytes s r a b x y = (x.0 ∙ sym y.0, x.1 ∙ sym y.1)

-- ---- words and bytes have one answer

pub one_answer : HasOneReading → NoInputHasTwoViews
one_answer one words = none_twice (Asks words) IsView (one_form words) (same_view one)
