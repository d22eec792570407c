-- The list of a script's node is that of a tree in its last report.
use Rattle.std.proofs.Common.{◌≡◌, ◌∙◌, inl, inr, ℕ, ◌+◌, ◌++◌, List, [], Option, Some, None, Result, Ok, Err, length, refl, sym, ap, subst}
use Rattle.std.specs.Prelude.{IfOk}
use Rattle.quad_lanes.specs.Capture.{capture}
use Rattle.self_id.specs.declared.standard.Standard.TheVariants.{Ieee2000}
use Rattle.topology_stack.specs.Tree.{Tree, emits}
use Rattle.topology_stack.specs.Text.{tree_text}
use Rattle.topology_stack.specs.OneAnswer.{NoListHasTwoTrees}
use Rattle.cable_world.specs.World.{NodeNumber}
use Rattle.cable_world.specs.Unchanged.{ActKeepsNodes}
use Rattle.script_lines.specs.declared.kind.ScriptFault.{ScriptFault}
use Rattle.script_text.specs.ReportText.{root_line, names_in}
use Rattle.script_told.specs.Bus.{Bus, ReportedTree, node_named, tree_with}
use Rattle.script_told.specs.Script.{ScriptResult, script_lines}
use Rattle.script_told.specs.Run.{ScriptRun, IsRun}
use Rattle.script_told.specs.SomeManager.{IsManaged, ReportedTreesAreManaged}
use Rattle.script_told.specs.EachReport.{ReportsAreSettled}
use Rattle.script_told.proofs.Lemmas.{IsEnd, each-done}
use Rattle.script_bus.specs.Listed.{list_in, list_at}
use Rattle.script_run.specs.Listed.{at_line, listed_at}
use Rattle.capture_reading.specs.Capture.{Spells}
use Rattle.capture_reading.specs.Answer.{AnswersRead}
use Rattle.capture_reading.specs.OneReading.{NoCaptureHasTwoTrees, NoCaptureHasATreeAndAFault}
use Rattle.bus_view.specs.Captured.{ListsFit, IsShownByTheReport, CapturesAreOfReports}
use Rattle.bus_view.proofs.Printed.{has-last, last-prints}

-- what is said of captures and of reports
pub record IsKnown : Type 0 where
  pub trees : NoCaptureHasTwoTrees
  pub apart : NoCaptureHasATreeAndAFault
  pub one : NoListHasTwoTrees
  pub keeps : ActKeepsNodes
  pub managed : ReportedTreesAreManaged
  pub reports : ReportsAreSettled
  pub fit : ListsFit

module _ (known : IsKnown) where
  -- what `read` answers to the capture of a tree
  reads : (bytes : List ℕ) (t : Tree) → Spells Ieee2000 bytes t → (status : ℕ) (text : List ℕ) →
      AnswersRead Ieee2000 bytes status text → (status ≡ 0) × (text ≡ tree_text t [])
  reads bytes t spelt status text (inl is) =
      (is.0, is.1.2 ∙ ap (λ (u : Tree). tree_text u []) (known.trees Ieee2000 bytes is.1.0 t is.1.1 spelt))
  reads bytes t spelt status text (inr is) = absurd (known.apart Ieee2000 bytes t is.1.0 spelt is.1.1)

  of-tree : (bytes name list : List ℕ) (run : ScriptRun) (bus : Bus) (node : NodeNumber)
      (part : ReportedTree) →
      IsRun bytes run → run.end ≡ Ok bus → node_named bus.notes.names name ≡ Some node →
      tree_with node bus.notes ≡ Some part → list ≡ part.list → IsShownByTheReport bytes name list
  of-tree bytes name list run bus node part is ends named settled listed =
      let end : IsEnd bus = subst (λ (r : Result Bus ScriptFault). IfOk r IsEnd) ends (each-done known.one known.keeps bytes run is).end in
      let m : IsManaged part = known.managed bus.world end.report bus.notes node part ∣ end.reached.reached ∣₁ end.is end.last settled in
      let t = m.shown in
      let last = has-last bytes run is bus ends in
      let emitted : emits t ≡ list = m.is.emitted ∙ sym listed in
      let spelt : Spells Ieee2000 (capture list) t = record {
        bus = m.is.bus;
        captured = record { fit = known.fit t m.is.bus; bytes_are = ap capture (sym emitted) };
      } in
      record {
        run = run;
        is = is;
        bus = bus;
        ends = ends;
        node = node;
        named = named;
        part = part;
        settled = settled;
        listed = listed;
        tree = t;
        spelt = spelt;
        read = reads (capture list) t spelt;
        reported = λ text told.
            let same : told.tree ≡ t = known.one Ieee2000 told.tree t told.valid m.is.bus (told.emitted ∙ sym m.is.emitted) in
            told.is ∙ ap (λ (u : Tree). root_line bus.notes.names part.root ++ tree_text u (names_in bus.notes.names part.order)) same;
        last = last.0;
        is_last = last.1;
        printed = last-prints known.one run bus last.0 node part t (known.reports bytes run is) last.1 settled m.is.bus m.is.emitted;
      }

  -- each way to a list
  by-tree : (bytes name list : List ℕ) (run : ScriptRun) (bus : Bus) (node : NodeNumber)
      (found : Option ReportedTree) →
      IsRun bytes run → run.end ≡ Ok bus → node_named bus.notes.names name ≡ Some node → tree_with node bus.notes ≡ found →
      ◌≡◌ {A = ScriptResult} (Ok list) (at_line (length (script_lines bytes) + 1)
      (list_in found)) → IsShownByTheReport bytes name list
  by-tree bytes name list run bus node None is ends named e x = absurd cc
  by-tree bytes name list run bus node (Some part) is ends named e x =
      of-tree bytes name list run bus node part is ends named e cc

  by-node : (bytes name list : List ℕ) (run : ScriptRun) (bus : Bus) (found : Option NodeNumber) →
      IsRun bytes run → run.end ≡ Ok bus → node_named bus.notes.names name ≡ found →
      ◌≡◌ {A = ScriptResult} (Ok list) (at_line (length (script_lines bytes) + 1)
      (list_at bus found)) → IsShownByTheReport bytes name list
  by-node bytes name list run bus None is ends e x = absurd cc
  by-node bytes name list run bus (Some node) is ends e x =
      by-tree bytes name list run bus node (tree_with node bus.notes) is ends e refl x

  by-end : (bytes name list : List ℕ) (run : ScriptRun) (end : Result Bus ScriptFault) → IsRun bytes run →
      run.end ≡ end → ◌≡◌ {A = ScriptResult} (Ok list) (listed_at
      (length (script_lines bytes) + 1) name end) → IsShownByTheReport bytes name list
  by-end bytes name list run (Ok bus) is ends x = by-node bytes name list run bus (node_named bus.notes.names name) is ends refl x
  by-end bytes name list run (Err fault) is ends x = absurd cc

  pub of-reports : CapturesAreOfReports
  of-reports bytes name list (run, is, x) = by-end bytes name list run run.end is refl x
