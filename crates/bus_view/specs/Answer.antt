-- What is answered to words and bytes.
use Rattle.std.specs.Prelude.{◌≡◌, ℕ, List, [], codes, Option, Some, None, Ok, Err, String}
use Rattle.std.specs.Global.{Global}
use Rattle.about.specs.declared.asked.About.{About}
use Rattle.about.specs.Told.{about_text}
use Rattle.quad_lanes.specs.Capture.{capture}
use Rattle.quad_lanes.specs.Pairs.{firsts, quads_of}
use Rattle.phy_packet.specs.declared.packet.PhyPacket.{PhyPacket}
use Rattle.self_id.specs.declared.standard.Standard.{Standard}
use Rattle.topology_stack.specs.Tree.{Tree}
use Rattle.capture_reading.specs.declared.fault.CaptureFault.{CaptureFault}
use Rattle.capture_reading.specs.Capture.{Spells, CaptureRefused}
use Rattle.capture_reading.specs.Line.{fault_line}
use Rattle.script_run.specs.Line.{kind_word, script_line}
use Rattle.script_lines.specs.declared.kind.ScriptFault.{ScriptFault}
use Rattle.script_words.specs.Before.{feed_lines}
use Rattle.script_made.specs.Made.{made_script}
use Rattle.script_told.specs.Script.{ScriptResult}
use Rattle.script_told.specs.Run.{IsResult}
use Rattle.script_run.specs.Listed.{IsListed}
use Rattle.script_run.specs.Viewed.{IsPictured, AreReported}
use Rattle.script_trace.specs.Trace.{IsTrace}
use Rattle.script_trace.specs.waves.Waves.{IsWaves}
use Rattle.view_text.specs.Pairs.{ArePacketsOf, pairs_text}
use Rattle.view_text.specs.Drawing.{IsDrawing}
use Rattle.view_text.specs.Graph.{graph}
use Rattle.bus_json.specs.Text.{json_line}
use Rattle.bus_json.specs.Bus.{bus_value}
use Rattle.bus_json.specs.Refusal.{fault_value, line_refusal_value}
use Rattle.bus_view.specs.declared.form.CaptureView.{CaptureView}
use Rattle.bus_view.specs.declared.form.CaptureView.TheVariants.{Packets, Tree as Drawn, Dot, Json}
use Rattle.bus_view.specs.declared.form.ViewForm.{ViewForm}
use Rattle.bus_view.specs.declared.form.ViewForm.TheVariants.{Capture, Trace, Waves, DotRun, JsonRun, Script, ListOf, Explain, Resets, Nosy, OfItself}
use Rattle.bus_view.specs.declared.help.TheConstants.{VIEW_HELP}
use Rattle.top_call.specs.Asked.{AnswersAsked}
use Rattle.bus_view.specs.Form.{Asks}
use Rattle.bus_view.specs.Sentence.{place, note}
use Rattle.bus_view.specs.declared.form.ExplainForm.{ExplainForm}
use Rattle.bus_view.specs.Explained.{explanation, no_fault, IsExplained}
use Rattle.bus_view.specs.Log.{IsLogView, IsDumpView}

-- what a capture is read as by a standard: the tree that it spells, or its fault, as `busconf read`
-- and `read95` have both
pub data Reading : Type 0 where
  spelt : Tree → Reading
  refused : CaptureFault → Reading

abbrev pub IsReading : Standard → List ℕ → Reading → Type 0
IsReading standard bytes (spelt t) = Spells standard bytes t
IsReading standard bytes (refused f) = CaptureRefused standard bytes f

-- a fault that the bytes have, or none where they spell a tree
abbrev pub IsFault : Standard → List ℕ → Option CaptureFault → Type 0
IsFault standard bytes None = (t : Tree) × Spells standard bytes t
IsFault standard bytes (Some f) = CaptureRefused standard bytes f

abbrev pub status_of : Reading → ℕ
status_of (spelt t) = 0
status_of (refused f) = 1

-- the text of the pairs of bytes, with the packets that their first quadlets show
pub record ShowsPackets (bytes : List ℕ) (at : ℕ) (below : List PhyPacket → List ℕ)
    (text : List ℕ) : Type 0 where
  pub packets : List PhyPacket
  pub shown : ArePacketsOf (firsts (quads_of bytes)) packets
  pub text_is : text ≡ pairs_text bytes packets at (below packets)

-- the text of what is read by a standard
abbrev pub HasText : CaptureView → Standard → List ℕ → Reading → List ℕ → Type 0
HasText Packets standard bytes (spelt t) text = ShowsPackets bytes 0 (λ packets. []) text
HasText Packets standard bytes (refused f) text =
    ShowsPackets bytes (place f) (λ packets. note standard bytes (quads_of bytes) packets f) text
HasText Drawn standard bytes (spelt t) text = IsDrawing t text
HasText Drawn standard bytes (refused f) text = text ≡ fault_line f
HasText Dot standard bytes (spelt t) text = text ≡ graph t
HasText Dot standard bytes (refused f) text = text ≡ fault_line f
HasText Json standard bytes (spelt t) text = text ≡ json_line (bus_value t)
HasText Json standard bytes (refused f) text = text ≡ json_line (fault_value f)

-- the status and the text of a capture
pub record IsCaptureView (view : CaptureView) (standard : Standard) (bytes : List ℕ) (status : ℕ)
    (text : List ℕ) : Type 0 where
  pub reading : Reading
  pub reads : IsReading standard bytes reading
  pub status_is : status ≡ status_of reading
  pub text_is : HasText view standard bytes reading text

-- What is told of a script in some way is shown. One at fault is refused as `busconf run` refuses it, and
-- this is said of the fault.
pub data IsShown (Tells : List ℕ → ScriptResult → Type 0) (said : ScriptFault → List ℕ)
    (bytes : List ℕ) (status : ℕ) (text : List ℕ) : Type 0 where
  shown : status ≡ 0 → Tells bytes (Ok text) → IsShown Tells said bytes status text
  at_fault : (fault : ScriptFault) → status ≡ 1 → IsResult bytes (Err fault) → text ≡ said fault →
      IsShown Tells said bytes status text

-- so is the trace of a script
abbrev pub IsTraceView : List ℕ → ℕ → List ℕ → Type 0
IsTraceView bytes = IsShown IsTrace (explanation bytes) bytes

-- and its dump
abbrev pub IsWavesView : List ℕ → ℕ → List ℕ → Type 0
IsWavesView bytes = IsShown IsWaves (explanation bytes) bytes

-- and the graph of its last report
abbrev pub IsGraphView : List ℕ → ℕ → List ℕ → Type 0
IsGraphView bytes = IsShown IsPictured (explanation bytes) bytes

-- the fault of a script as a line of JSON
abbrev pub json_refusal : ScriptFault → List ℕ
json_refusal fault = json_line (line_refusal_value fault.line (kind_word fault.kind))

-- the lines of the reports of a script, with the fault as a line of JSON
abbrev pub IsReportsView : List ℕ → ℕ → List ℕ → Type 0
IsReportsView = IsShown AreReported json_refusal

-- a script has no fault, or the one for which `busconf run` refuses it and those that are told behind it
pub data IsExplainView (form : ExplainForm) (bytes : List ℕ) (status : ℕ) (text : List ℕ) :
    Type 0 where
  has_text : (printed : List ℕ) → status ≡ 0 → IsResult bytes (Ok printed) →
      text ≡ no_fault form → IsExplainView form bytes status text
  has_fault : (fault : ScriptFault) → status ≡ 1 → IsResult bytes (Err fault) →
      IsExplained form (feed_lines bytes) fault text → IsExplainView form bytes status text

-- the script that is made, whatever the bytes
abbrev pub IsScriptView : ℕ → ℕ → ℕ → List ℕ → Type 0
IsScriptView nodes seed status text = (status ≡ 0) × (text ≡ made_script nodes seed)

-- the capture of the list of a script's node; a script at fault, or without such a list, is refused
pub data IsListView (name bytes : List ℕ) (status : ℕ) (text : List ℕ) : Type 0 where
  has_list : (list : List ℕ) → status ≡ 0 → IsListed bytes name (Ok list) → text ≡ capture list →
      IsListView name bytes status text
  has_none : (fault : ScriptFault) → status ≡ 1 → IsListed bytes name (Err fault) →
      text ≡ script_line fault → IsListView name bytes status text

-- what the program says of itself: the help, or the version
abbrev pub IsViewOfItself : About → ℕ → List ℕ → Type 0
IsViewOfItself about status text =
    (status ≡ 0) × (text ≡ about_text about (codes "busview") VIEW_HELP.now)

-- the status and the text of bytes in a form
abbrev pub IsView : ViewForm → List ℕ → ℕ → List ℕ → Type 0
IsView (Capture view standard) bytes status text = IsCaptureView view standard bytes status text
IsView Trace bytes status text = IsTraceView bytes status text
IsView Waves bytes status text = IsWavesView bytes status text
IsView DotRun bytes status text = IsGraphView bytes status text
IsView JsonRun bytes status text = IsReportsView bytes status text
IsView (Explain form) bytes status text = IsExplainView form bytes status text
IsView (Script nodes seed) bytes status text = IsScriptView nodes seed status text
IsView (ListOf name) bytes status text = IsListView name bytes status text
IsView (Resets form) bytes status text = IsLogView form bytes status text
IsView (Nosy form) bytes status text = IsDumpView form bytes status text
IsView (OfItself about) bytes status text = IsViewOfItself about status text

-- what the words ask for is shown, and words that are no form are answered by 2 and nothing
abbrev pub Answers : List (String Global) → List ℕ → ℕ → List ℕ → Type 0
Answers words = AnswersAsked (Asks words) IsView
