-- The picture of a script is a graph in DOT.
use Rattle.std.proofs.Common.{subst}
use Rattle.std.specs.Prelude.{IfOk, Result, Option}
use Rattle.topology_stack.specs.OneAnswer.{NoListHasTwoTrees}
use Rattle.cable_world.specs.Unchanged.{ActKeepsNodes}
use Rattle.settle.specs.declared.report.Report.{Report}
use Rattle.settle.specs.ReadBack.{ListsAreReadBack}
use Rattle.script_lines.specs.declared.kind.ScriptFault.{ScriptFault}
use Rattle.script_lines.specs.Name.{NamesAreTested}
use Rattle.report_views.specs.Dots.{ReportGraphsAreDot}
use Rattle.script_told.specs.Bus.{Bus}
use Rattle.script_told.proofs.Lemmas.{IsEnd, each-done}
use Rattle.script_bus.specs.Viewed.{IsGraphOf}
use Rattle.trace_laws.proofs.Lemmas.{IsKnown, known-run}
use Rattle.picture_laws.specs.Dots.{PicturesAreDot}
use Rattle.script_run.proofs.Lemmas.{named-end}

abbrev with-report : Bus → Option Report → Bus
with-report bus report = record bus { notes = record bus.notes { report = report } }

module _ (trees : NoListHasTwoTrees) (keeps : ActKeepsNodes) (read : ListsAreReadBack) (tested : NamesAreTested) (graphs : ReportGraphsAreDot) where
  pub pictures-are-dot : PicturesAreDot
  pictures-are-dot bytes text (run, is, told) =
      let bus = told.0 in
      let end : IsEnd bus = subst (λ (r : Result Bus ScriptFault). IfOk r IsEnd) told.1 (each-done trees keeps bytes run is).end in
      let known : IsKnown bus = subst (λ (r : Result Bus ScriptFault). IfOk r IsKnown) told.1 (known-run tested trees keeps bytes run is).end in
      let graph = subst (λ (o : Option Report). IsGraphOf (with-report bus o) text) end.last told.2 in
      record {
        run = run;
        is = is;
        bus = bus;
        ends = told.1;
        report = end.report;
        last = end.last;
        reported = end.is;
        trees = read bus.world end.report ∣ end.reached.reached ∣₁ end.is;
        drawn = graphs bus.notes.names bus.world.cabling end.report text known.names (named-end read bus end) graph;
      }
