-- Each report of a script is one of a settled bus.
use Rattle.std.proofs.Common.{◌≡◌, ◌++◌, ◌==◌, ℕ, Bool, true, false, List, [], Option, None, Some, refl, sym, ◌∙◌, ap, subst}
use Rattle.std.specs.Prelude.{Ok, Err, MatchBool, nat_lt, ◌+◌}
use Rattle.std.proofs.lemmas.List.Elements.{All-get_or, All-weaker}
use Rattle.topology_stack.specs.OneAnswer.{NoListHasTwoTrees}
use Rattle.cabling.proofs.Lemmas.{shared}
use Rattle.cable_world.specs.World.{CableWorld, NodeNumber}
use Rattle.cable_world.specs.Run.{IsReached}
use Rattle.cable_world.specs.Unchanged.{ActKeepsNodes}
use Rattle.cable_world.specs.Outcome.{OneOutcomeAtMost}
use Rattle.cable_world.proofs.Lemmas.{reached-lawful}
use Rattle.settle.specs.declared.report.Part.{Part}
use Rattle.settle.specs.declared.report.Report.{Report}
use Rattle.settle.specs.Report.{IsPart, IsReport, quiet_turns_of}
use Rattle.settle.specs.ReadBack.{IfTree, IsReadBack, ListsAreReadBack}
use Rattle.settle.specs.ReportedOutcome.{ReportedIsOutcome}
use Rattle.script_lines.specs.declared.kind.Kind.{Kind}
use Rattle.script_lines.specs.declared.command.Command.{Command}
use Rattle.script_lines.specs.declared.command.Command.TheVariants.{Settle, Plan}
use Rattle.script_text.specs.ReportText.{IsReportText}
use Rattle.script_text.specs.PlanText.{plan_line}
use Rattle.script_told.specs.Bus.{Notes, Bus, ReportedTree, node_named, tree_with, values_at}
use Rattle.script_told.specs.Step.{LineAnswer, AtNamedNode, AtTree, AtManager, Settled, Within, Reports, DoesSettle, Plans, PlansAs, Does, id_of, node_with}
use Rattle.script_told.specs.Script.{Stage, running, StageAnswer, bus_of, onwards, DoesAtStage}
use Rattle.script_told.specs.Run.{Entry}
use Rattle.script_told.specs.EachReport.{EachComponentCameTo, DoesReport, IsBeforeReport, IsReportedAt, ReportsAreSettled}
use Rattle.script_told.proofs.told.Reached.{IsSound}
use Rattle.script_told.proofs.told.EachDone.{IsDone, each-done}

-- ---- a report

pub settled-so :
    ListsAreReadBack → ReportedIsOutcome → OneOutcomeAtMost → (w : CableWorld) (report : Report) → IsReached w → IsReport w report → EachComponentCameTo w report
settled-so read came one w report r is node there =
    let cables = (reached-lawful w r).well_formed.cabling in
    let a = is.parts.whole node there in
    let part : IsPart w a.1 = subst (IsPart w) a.3 (All-get_or (IsPart w) report.parts a.0 a.1 a.2 is.parts.each) in
    let tree : IfTree (IsReadBack w) a.1.outcome =
    subst (λ (p : Part). IfTree (IsReadBack w) p.outcome) a.3
    (All-get_or (λ (p : Part). IfTree (IsReadBack w) p.outcome) report.parts a.0 a.1 a.2 (read w report ∣ r ∣₁ is)) in
    let outcome = (came w a.1.nodes a.1.outcome cables part.there).0 part.outcome in (
      a.0,
      a.1,
      a.2,
      a.3,
      record {
        component = shared w.cabling part.node node a.1.nodes cables part.component a.4;
        outcome = outcome.0;
        came = outcome.1;
        only = λ other h. one w a.1.nodes other outcome.0 h outcome.1;
        told = outcome.2;
        read = tree;
      },
    )

-- ---- what an answer says, where a report stands behind it

-- the text is that of the report of the world, and this stands before it
pub record Says (Before : List ℕ → Type 0) (bus : Bus) (text : List ℕ) : Type 0 where
  pub report : Report
  pub kept : bus.notes.report ≡ Some report
  pub is : IsReport bus.world report
  pub before : List ℕ
  pub alone : Before before
  pub piece : List ℕ
  pub told : IsReportText bus.notes.names bus.notes.reports report piece
  pub printed : text ≡ before ++ piece

abbrev AnswerSays : (List ℕ → Type 0) → LineAnswer → Type 0
AnswerSays Before (Ok (after, text)) = Says Before after text
AnswerSays Before (Err kind) = Unit {0}

abbrev AllSay : (List ℕ → Type 0) → (LineAnswer → Type 0) → Type 0
AllSay Before Comes = (r : LineAnswer) → Comes r → AnswerSays Before r

module _ (Before : List ℕ → Type 0) where
  fault : (kind : Kind) → AllSay Before (λ r. r ≡ Err kind)
  fault kind r e = subst (AnswerSays Before) (sym e) tt

  at-node :
      (node : Option NodeNumber) (Comes : NodeNumber → LineAnswer → Type 0) →
      ((k : NodeNumber) → AllSay Before (Comes k)) → AllSay Before (AtNamedNode node Comes)
  at-node None Comes f r h = fault Kind.NoNode r h
  at-node (Some k) Comes f r h = f k r h

  at-tree :
      (tree : Option ReportedTree) (Comes : ReportedTree → LineAnswer → Type 0) →
      ((t : ReportedTree) → AllSay Before (Comes t)) → AllSay Before (AtTree tree Comes)
  at-tree None Comes f r h = fault Kind.NotSettled r h
  at-tree (Some t) Comes f r h = f t r h

  at-manager :
      (manager : Option NodeNumber) (Comes : NodeNumber → LineAnswer → Type 0) →
      ((k : NodeNumber) → AllSay Before (Comes k)) → AllSay Before (AtManager manager Comes)
  at-manager None Comes f r h = fault Kind.NoManager r h
  at-manager (Some k) Comes f r h = f k r h

  by-test :
      (b : Bool) (Left Right : LineAnswer → Type 0) → AllSay Before Left → AllSay Before Right →
      AllSay Before (λ r. MatchBool b (Left r) (Right r))
  by-test true Left Right f g r h = f r h
  by-test false Left Right f g r h = g r h

  within :
      (bus : Bus) (turns : ℕ) (Comes : LineAnswer → Type 0) → AllSay Before Comes →
      AllSay Before (Within bus turns Comes)
  within bus turns Comes f = by-test (nat_lt 2000000 (bus.world.turns + turns)) _ Comes (fault Kind.TooManyTurns) f

abbrev pub is-none : List ℕ → Type 0
is-none before = before ≡ []

abbrev pub is-any : List ℕ → Type 0
is-any before = Unit {0}

reports : (bus : Bus) → AllSay is-none (Reports bus)
reports bus (Ok (after, text)) h = record {
  report = h.0;
  kept = ap (λ (n : Notes). n.report) h.3;
  is = h.2;
  before = [];
  alone = refl;
  piece = text;
  told = subst (λ names. IsReportText names after.notes.reports h.0 text) (sym (ap (λ (n : Notes). n.names) h.3)) h.4;
  printed = refl;
}
reports bus (Err kind) h = absurd h

pub settles-say : (bus : Bus) → AllSay is-none (DoesSettle bus)
settles-say bus = within is-none bus (quiet_turns_of bus.world) (Reports bus) (reports bus)

plans : (bus : Bus) (name : List ℕ) (node : NodeNumber) (tree : ReportedTree) →
    AllSay is-any (Plans bus name node tree)
plans bus name node tree (Ok (after, text)) h =
    let s = reports h.sent (Ok (after, h.report)) h.reports in
    record {
      report = s.report;
      kept = s.kept;
      is = s.is;
      before = plan_line bus.notes.names name (node_with tree h.plan.root_id) h.plan h.expected;
      alone = tt;
      piece = h.report;
      told = subst (λ t. IsReportText after.notes.names after.notes.reports s.report t) (sym (s.printed ∙ ap (λ b. b ++ s.piece) s.alone)) s.told;
      printed = h.text_is;
    }
plans bus name node tree (Err kind) h = absurd h

plans-as :
    (bus : Bus) (name : List ℕ) (node : NodeNumber) (id : ℕ) (manager : NodeNumber) →
    AllSay is-any (PlansAs bus name node id manager)
plans-as bus name node id manager =
    by-test is-any ((values_at manager bus).bus_manager_id == id) _ _
    (within is-any bus (quiet_turns_of bus.world) (Settled bus node (Plans bus name node))
    (at-tree is-any (tree_with node bus.notes) (Plans bus name node) (plans bus name node)))
    (fault is-any Kind.NotManager)

plan-says : (bus : Bus) (name : List ℕ) → AllSay is-any (Does bus (Plan name))
plan-says bus name =
    at-node is-any (node_named bus.notes.names name) _ (λ node. at-tree is-any (tree_with node bus.notes) _ (λ tree r h.
    at-manager is-any h.0 (PlansAs bus name node (id_of tree node)) (plans-as bus name node (id_of tree node)) r h.2))

-- ---- the commands of a run

-- what a command left and printed
abbrev StageSays : (List ℕ → Type 0) → Stage → List ℕ → Type 0
StageSays Before next text = (bus : Bus) × (next ≡ running bus) × Says Before bus text

abbrev StageAnswerSays : (List ℕ → Type 0) → StageAnswer → Type 0
StageAnswerSays Before (Ok (next, text)) = StageSays Before next text
StageAnswerSays Before (Err kind) = Unit {0}

onwards-says : (Before : List ℕ → Type 0) (r : LineAnswer) → AnswerSays Before r →
    StageAnswerSays Before (onwards r)
onwards-says Before (Ok (bus, text)) h = (bus, refl, h)
onwards-says Before (Err kind) h = tt

reported-at :
    ListsAreReadBack → ReportedIsOutcome → OneOutcomeAtMost → (entry : Entry) → IsSound entry.after →
    StageSays (IsBeforeReport entry.command) entry.after entry.text → IsReportedAt entry
reported-at read came one entry sound h =
    let reached : IsReached h.0.world = (subst IsSound h.1 sound).reached in
    record {
      bus = h.0;
      after = h.1;
      before = h.2.before;
      alone = h.2.alone;
      text = h.2.piece;
      of = record {
        reached = reached;
        report = h.2.report;
        kept = h.2.kept;
        is = h.2.is;
        each = settled-so read came one h.0.world h.2.report reached h.2.is;
        told = h.2.told;
      };
      printed = h.2.printed;
    }

says :
    (stage : Stage) (command : Command) (next : Stage) (text : List ℕ) → DoesReport command →
    DoesAtStage stage command (Ok (next, text)) → StageSays (IsBeforeReport command) next text
says stage Settle next text does f =
    subst (StageAnswerSays is-none) (sym f.2) (onwards-says is-none f.0 (settles-say (bus_of stage) f.0 f.1))
says stage (Plan name) next text does f =
    subst (StageAnswerSays is-any) (sym f.2) (onwards-says is-any f.0 (plan-says (bus_of stage) name f.0 f.1))
says stage command next text does f = absurd does

reports-so : ListsAreReadBack → ReportedIsOutcome → OneOutcomeAtMost → (entry : Entry) → IsDone entry →
    DoesReport entry.command → IsReportedAt entry
reports-so read came one entry is does =
    reported-at read came one entry is.left (says entry.before entry.command entry.after entry.text does is.follows)

pub each-report : NoListHasTwoTrees → ActKeepsNodes → ListsAreReadBack → ReportedIsOutcome →
    OneOutcomeAtMost → ReportsAreSettled
each-report trees keeps read came one bytes run x =
    All-weaker IsDone (λ entry. DoesReport entry.command → IsReportedAt entry) (λ entry is. reports-so read came one entry is)
    run.entries (each-done trees keeps bytes run x).each
