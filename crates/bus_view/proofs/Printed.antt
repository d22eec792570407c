-- The last command of a run prints each tree of its report.
use Rattle.std.proofs.Common.{◌≡◌, ◌∙◌, ℕ, ◌+◌, ◌++◌, Bool, true, false, cond, List, [], ◌∷◌, Option, Some, None, Result, Ok, Err, length, refl, sym, ap, subst, append_assoc, append-nil, arith}
use Rattle.std.specs.Prelude.{All, find}
use Rattle.std.specs.Option.{option_and_then, option_or}
use Rattle.std.proofs.lemmas.List.{get_or_push, length-append}
use Rattle.std.proofs.lemmas.List.Elements.{All-get_or}
use Rattle.std.proofs.lemmas.List.Folds.{find-append}
use Rattle.self_id.specs.declared.standard.Standard.TheVariants.{Ieee2000}
use Rattle.topology_stack.specs.Tree.{Tree, IsBusTreeOf, emits}
use Rattle.topology_stack.specs.Text.{tree_text}
use Rattle.topology_stack.specs.OneAnswer.{NoListHasTwoTrees}
use Rattle.cable_world.specs.World.{NodeNumber}
use Rattle.script_lines.specs.declared.kind.Kind.{Kind}
use Rattle.script_lines.specs.declared.command.Command.{Command}
use Rattle.script_lines.specs.declared.command.Command.TheVariants.{Settle}
use Rattle.settle.specs.declared.report.Outcome.{Outcome}
use Rattle.settle.specs.declared.report.Outcome.TheVariants as reported
use Rattle.settle.specs.declared.report.Part.{Part}
use Rattle.settle.specs.declared.report.Report.{Report}
use Rattle.script_text.specs.ReportText.{Names, component_line, report_line, IsTreeText, IsOutcomeText, IsPartText, ArePartTexts, none, more, root_line, names_in}
use Rattle.script_told.specs.Bus.{Bus, ReportedTree, tree_of, part_with, tree_with}
use Rattle.script_told.specs.Step.{LineAnswer}
use Rattle.script_told.specs.EachReport.{DoesReport, IsReportOf, IsReportedAt, EachReportIsSettled}
use Rattle.script_told.specs.PrintedTree.{IsPieceOf}
use Rattle.script_told.specs.Script.{Stage, running, StageAnswer, script_lines, fresh}
use Rattle.script_told.specs.Run.{Entry, ScriptRun, done, stopped, last_run, Proceeds, TakesLine, RunsFrom, IsRun}
use Rattle.bus_view.specs.Captured.{IsLast}

-- ---- the last command

abbrev HasLast : ScriptRun → Type 0
HasLast run = (bus : Bus) → run.end ≡ Ok bus → (last : Entry) × IsLast run bus last

by-settle : (number : ℕ) (stage : Stage) (r : LineAnswer) → HasLast (last_run number stage r)
by-settle number stage (Ok (bus, text)) other e = (
  done number stage Settle (running bus) text,
  record { before = []; entries_are = refl; settles = refl; leaves = ap running (let same : bus ≡ other = cc in same) },
)
by-settle number stage (Err kind) other e = absurd cc

no-last : (number : ℕ) (kind : Kind) → HasLast (stopped number kind)
no-last number kind bus e = absurd cc

abbrev AllHaveLast : (Stage → ScriptRun → Type 0) → Type 0
AllHaveLast Rest = (stage : Stage) (run : ScriptRun) → Rest stage run → HasLast run

by-command :
    (number : ℕ) (Rest : Stage → ScriptRun → Type 0) (stage : Stage) (command : Command) (r : StageAnswer) (run : ScriptRun) →
    AllHaveLast Rest → Proceeds number Rest stage command r run → HasLast run
by-command number Rest stage command (Ok (next, text)) run rest x bus e =
    let first = done number stage command next text in
    let l = rest next x.0 x.1 bus (sym (ap (λ (v : ScriptRun). v.end) x.2) ∙ e) in (
      l.0,
      record {
        before = first ∷ l.1.before;
        entries_are = ap (λ (v : ScriptRun). v.entries) x.2 ∙ ap (λ (es : List Entry). first ∷ es) l.1.entries_are;
        settles = l.1.settles;
        leaves = l.1.leaves;
      },
    )
by-command number Rest stage command (Err kind) run rest x bus e =
    subst HasLast (sym x) (no-last number kind) bus e

by-reading :
    (number : ℕ) (Rest : Stage → ScriptRun → Type 0) (stage : Stage) (reading : Result (Option Command) Kind) (run : ScriptRun) →
    AllHaveLast Rest → TakesLine number Rest stage reading run → HasLast run
by-reading number Rest stage (Ok None) run rest x = rest stage run x
by-reading number Rest stage (Ok (Some command)) run rest x = by-command number Rest stage command x.0 run rest x.2
by-reading number Rest stage (Err kind) run rest x = subst HasLast (sym x) (no-last number kind)

by-lines : (number : ℕ) (lines : List (List ℕ)) → AllHaveLast (RunsFrom number lines)
by-lines number [] stage run x = subst HasLast (sym x.2) (by-settle number stage x.0)
by-lines number (line ∷ lines) stage run x =
    by-reading number (RunsFrom (number + 1) lines) stage x.0 run (by-lines (number + 1) lines) x.2

pub has-last : (bytes : List ℕ) (run : ScriptRun) → IsRun bytes run → HasLast run
has-last bytes run x = by-lines 1 (script_lines bytes) fresh run x

-- ---- pieces of a text

piece-of-piece : (a b c : List ℕ) → IsPieceOf a b → IsPieceOf b c → IsPieceOf a c
piece-of-piece a b c (u, v, p) (x, y, q) = (
  x ++ u,
  v ++ y,
  q ∙ ap (λ (t : List ℕ). x ++ (t ++ y)) p
      ∙ ap (λ (t : List ℕ). x ++ t) (append_assoc u (a ++ v) y)
      ∙ ap (λ (t : List ℕ). x ++ (u ++ t)) (append_assoc a v y)
      ∙ sym (append_assoc x u (a ++ (v ++ y))),
)

front-piece : (a b : List ℕ) → IsPieceOf a (a ++ b)
front-piece a b = ([], b, refl)

back-piece : (a b : List ℕ) → IsPieceOf b (a ++ b)
back-piece a b = (a, [], ap (λ (t : List ℕ). a ++ t) (sym (append-nil b)))

-- ---- a part of a report

same-part : (a b : Part) → ◌≡◌ {A = Option Part} (Some a) (Some b) → a ≡ b
same-part a b e = cc

the-one : (test : Bool) (one part : Part) → ◌≡◌ {A = Option Part} (cond test (Some one) None) (Some part) → one ≡ part
the-one true one part e = cc
the-one false one part e = absurd cc

abbrev IsPrinted : Names → Part → List ℕ → Type 0
IsPrinted names part text = (its : List ℕ) × IsPartText names part its × IsPieceOf its text

part-printed :
    (names : Names) (parts : List Part) (text : List ℕ) (test : Part → Bool) (part : Part) →
    ArePartTexts names parts text → find test parts ≡ Some part → IsPrinted names part text
part-printed names parts text test part none e = absurd cc
part-printed names parts text test part (more before so-far one its told is) e =
    elim (find test before) as (λ (found : Option Part). find test before ≡ found → IsPrinted names part (so-far ++ its)) [
      | Some p ↦ λ f.
          let same : p ≡ part = same-part p part (sym (ap (λ (o : Option Part). option_or o (find test (one ∷ []))) f) ∙ sym (find-append test before (one ∷ [])) ∙ e) in
          let w = part-printed names before so-far test part told (f ∙ ap (λ (v : Part). Some v) same) in
          (w.0, w.1, piece-of-piece w.0 so-far (so-far ++ its) w.2 (front-piece so-far its))
      | None ↦ λ f.
          let same : one ≡ part = the-one (test one) one part (sym (ap (λ (o : Option Part). option_or o (find test (one ∷ []))) f) ∙ sym (find-append test before (one ∷ [])) ∙ e) in
          (its, subst (λ (v : Part). IsPartText names v its) same is, back-piece so-far its)
    ] refl

-- the outcome of a part with a tree
outcome-is :
    (part : Part) (tree : ReportedTree) (o : Outcome) → tree_of
    (record part { outcome = o }) ≡ Some tree →
    o ≡ reported.Tree tree.root tree.list tree.order
outcome-is part tree (reported.Tree root list order) e =
    let same : ◌≡◌ {A = ReportedTree} (record { root = root; list = list; order = order }) tree =
    cc in
    ap (λ (t : ReportedTree). reported.Tree t.root t.list t.order) same
outcome-is part tree (reported.Contention a b) e = absurd cc
outcome-is part tree (reported.Loop core) e = absurd cc

-- the text of a part with a tree has the tree's
tree-piece :
    NoListHasTwoTrees → (names : Names) (part : Part) (tree : ReportedTree) (t : Tree)
    (its : List ℕ) →
    tree_of part ≡ Some tree → IsBusTreeOf Ieee2000 t → emits t ≡ tree.list → IsPartText names part its →
    IsPieceOf (root_line names tree.root ++ tree_text t (names_in names tree.order)) its
tree-piece one names part tree t its settled bus emitted is =
    let told : IsTreeText names tree.root tree.list tree.order is.outcome = subst (λ (o : Outcome). IsOutcomeText names o is.outcome) (outcome-is part tree part.outcome settled) is.told in
    let same : told.tree ≡ t = one Ieee2000 told.tree t told.valid bus (told.emitted ∙ sym emitted) in
    let text : is.outcome ≡ root_line names tree.root ++ tree_text t (names_in names tree.order) =
    told.is ∙ ap (λ (u : Tree). root_line names tree.root ++ tree_text u (names_in names tree.order)) same in
    subst (λ (x : List ℕ). IsPieceOf x its) text
    (subst (λ (x : List ℕ). IsPieceOf is.outcome x) (sym is.is) (back-piece (component_line names part) is.outcome))

-- ---- the last command prints it

same-bus : (stage : Stage) (a b : Bus) → stage ≡ running a → stage ≡ running b → a ≡ b
same-bus stage a b x y = cc

-- a test that may find nothing, and then what is found of it
and-then : {A B : Type 0} (f : A → Option B) (o : Option A) (b : B) → option_and_then f o ≡ Some b →
    (a : A) × (o ≡ Some a) × (f a ≡ Some b)
and-then f None b e = absurd cc
and-then f (Some a) b e = (a, refl, e)

reported-last : (run : ScriptRun) (bus : Bus) (last : Entry) → EachReportIsSettled run → IsLast run bus last →
    IsReportedAt last
reported-last run bus last settled l =
    let Says : Entry → Type 0 = λ entry. DoesReport entry.command → IsReportedAt entry in
    let all : All Says (l.before ++ last ∷ []) = subst (All Says) l.entries_are settled in
    let here = All-get_or Says (l.before ++ last ∷ []) (length l.before) last (omega (arith, length-append l.before (last ∷ []))) all in
    subst Says (get_or_push l.before last last (length l.before) refl) here (subst DoesReport (sym l.settles) tt)

pub last-prints :
    NoListHasTwoTrees → (run : ScriptRun) (bus : Bus) (last : Entry) (node : NodeNumber)
    (tree : ReportedTree) (t : Tree) →
    EachReportIsSettled run → IsLast run bus last → tree_with node bus.notes ≡ Some tree →
    IsBusTreeOf Ieee2000 t → emits t ≡ tree.list →
    IsPieceOf (root_line bus.notes.names tree.root ++ tree_text t (names_in bus.notes.names tree.order)) last.text
last-prints one run bus last node tree t settled l found valid emitted =
    let at = reported-last run bus last settled l in
    let of = subst (λ (b : Bus). IsReportOf b at.text) (same-bus last.after at.bus bus at.after l.leaves) at.of in
    let names = bus.notes.names in
    let p = and-then tree_of (option_and_then (part_with node) bus.notes.report) tree found in
    let q = and-then (part_with node) bus.notes.report p.0 p.1 in
    let same : q.0 ≡ of.report = same-report q.0 of.report (sym q.1 ∙ of.kept) in
    let there : part_with node of.report ≡ Some p.0 = subst (λ (r : Report). part_with node r ≡ Some p.0) same q.2 in
    let w = part-printed names of.report.parts of.told.parts _ p.0 of.told.told there in
    let in-part = tree-piece one names p.0 tree t w.0 p.2 valid emitted w.1 in
    let in-parts = piece-of-piece _ w.0 of.told.parts in-part w.2 in
    let in-report = piece-of-piece _ of.told.parts at.text in-parts (subst (IsPieceOf of.told.parts) (sym of.told.is) (back-piece (report_line bus.notes.reports of.report.turn) of.told.parts)) in
    piece-of-piece _ at.text last.text in-report (subst (IsPieceOf at.text) (sym at.printed) (back-piece at.before at.text))
  where
    same-report : (a b : Report) → ◌≡◌ {A = Option Report} (Some a) (Some b) → a ≡ b
    same-report a b e = cc
