-- Which cables of a script's bus are advised for pulling, and what the bus then settles on.
use Rattle.std.specs.Prelude.{◌≡◌, ◌⊎◌, ℕ, ◌+◌, ◌≤◌, List, [], ◌∷◌, ◌++◌, All, length, map, codes, Some, Ok, Err}
use Rattle.cabling.specs.declared.cable.End.{End}
use Rattle.cabling.specs.declared.cable.Cable.{Cable}
use Rattle.cabling.specs.Wiring.{Wiring, NodeNumber, IsCabling}
use Rattle.cabling.specs.NodeSet.{Nodes, IsEmpty}
use Rattle.cabling.specs.Component.{IsComponent}
use Rattle.cabling.specs.Looped.{IsCore}
use Rattle.cable_world.specs.declared.act.Act.TheVariants.{Pull}
use Rattle.loop_advice.specs.Advised.{AreAdvised}
use Rattle.loop_advice.specs.Certificate.{IsCertificate}
use Rattle.loop_advice.specs.Pulled.{ArePulled}
use Rattle.settle.specs.declared.report.Outcome.{Outcome}
use Rattle.settle.specs.declared.report.Outcome.TheVariants.{Loop}
use Rattle.settle.specs.declared.report.Part.{Part}
use Rattle.settle.specs.declared.report.Report.{Report}
use Rattle.script_lines.specs.declared.kind.ScriptFault.{ScriptFault}
use Rattle.script_advice.specs.declared.advice.LoopAdvice.{LoopAdvice}
use Rattle.script_text.specs.ReportText.{Names, spaced, all_spaced, numbered}
use Rattle.script_told.specs.Bus.{Bus}
use Rattle.script_told.specs.Step.{LineAnswer, Acts, DoesSettle}
use Rattle.script_told.specs.Script.{ScriptResult, fault_at, script_lines}
use Rattle.script_told.specs.Run.{ScriptRun, IsRun, IsResult}
use Rattle.script_told.specs.EachReport.{IsReportOf}

-- ---- the bus after the last settle

-- the run of the script, with the `settle` at its end, leads to this bus
abbrev pub RunsTo : List ℕ → Bus → Type 0
RunsTo bytes bus = (run : ScriptRun) × IsRun bytes run × (run.end ≡ Ok bus)

-- ---- what is advised

-- the nodes of a component that came to a loop, and else nothing
abbrev pub if_loop : Outcome → Nodes → List Nodes
if_loop (Loop core) nodes = nodes ∷ []
if_loop outcome nodes = []

-- the components that are reported as loops, in the order of the report
abbrev pub loops_of : List Part → List Nodes
loops_of [] = []
loops_of (part ∷ parts) = if_loop part.outcome part.nodes ++ loops_of parts

-- Whichever cables of the bus are pulled so that the component has no loop, they are at least as many
-- as these.
abbrev pub AreFewest : Wiring → Nodes → List Cable → Type 0
AreFewest c set pulls =
    (left : Wiring) (others : List Cable) (core : Nodes) → IsCabling left → ArePulled c left others →
    IsCore left set core → IsEmpty core → length pulls ≤ length others

-- the pulls are the advised cables of the component, they are a valid advice for it, and no fewer
-- cables do
pub record IsAdviceFor (c : Wiring) (a : LoopAdvice) : Type 0 where
  pub node : NodeNumber
  pub component : IsComponent c node a.nodes
  pub advised : AreAdvised c a.nodes a.advice.pulls a.advice.kept
  pub valid : IsCertificate c node a.advice.pulls a.advice.kept
  pub fewest : AreFewest c a.nodes a.advice.pulls

-- there is an advice for each of these components, and they stand in this order
pub record AreAdvices (c : Wiring) (components : List Nodes) (advices : List LoopAdvice) :
    Type 0 where
  pub each : All (IsAdviceFor c) advices
  pub are : map (λ (a : LoopAdvice). a.nodes) advices ≡ components

-- ---- pulls

abbrev pub all_pulls : List LoopAdvice → List Cable
all_pulls [] = []
all_pulls (a ∷ advices) = a.advice.pulls ++ all_pulls advices

-- cables are pulled one after the other, each at its lower end
abbrev pub PullsLead : Bus → List Cable → Bus → Type 0
PullsLead bus [] after = after ≡ bus
PullsLead bus (x ∷ cables) after =
    (next : Bus) × Acts bus (Pull x.a) (Ok (next, [])) × PullsLead next cables after

-- ---- the text

-- ` NAME PORT`
unfoldable pub spaced_end : Names → End → List ℕ
spaced_end names end = spaced names end.node ++ numbered (codes " ") end.port

-- `pull NAME PORT NAME PORT`
unfoldable pub pull_line : Names → Cable → List ℕ
pull_line names x =
    codes "pull" ++ (spaced_end names x.a ++ (spaced_end names x.b ++ codes "\n"))

abbrev pub pull_lines : Names → List Cable → List ℕ
pull_lines names [] = []
pull_lines names (x ∷ cables) = pull_line names x ++ pull_lines names cables

-- `advice NAME NAME`, with the nodes of the component
unfoldable pub advice_line : Names → Nodes → List ℕ
advice_line names nodes = codes "advice" ++ (all_spaced names nodes ++ codes "\n")

-- `left L`
unfoldable pub left_line : ℕ → List ℕ
left_line kept = numbered (codes "left ") kept ++ codes "\n"

-- the lines for a looped component
abbrev pub loop_advice_text : Names → LoopAdvice → List ℕ
loop_advice_text names a =
    advice_line names a.nodes
    ++ (pull_lines names a.advice.pulls ++ left_line (length a.advice.kept))

abbrev pub all_advice_texts : Names → List LoopAdvice → List ℕ
all_advice_texts names [] = []
all_advice_texts names (a ∷ advices) =
    loop_advice_text names a ++ all_advice_texts names advices

-- those for each looped component, or `advice none`
abbrev pub advice_text : Names → List LoopAdvice → List ℕ
advice_text names [] = codes "advice none\n"
advice_text names (a ∷ advices) = all_advice_texts names (a ∷ advices)

-- ---- the whole

-- what stands before the text of an answer
abbrev pub after_text : List ℕ → LineAnswer → LineAnswer
after_text before (Ok (bus, text)) = Ok (bus, before ++ text)
after_text before (Err kind) = Err kind

-- The bus has settled. The advised cables of each component that was reported as a loop are pulled,
-- and the bus settles once more.
pub record Advises (bus : Bus) (answer : LineAnswer) : Type 0 where
  pub report : Report
  pub last : bus.notes.report ≡ Some report
  pub advices : List LoopAdvice
  pub are : AreAdvices bus.world.cabling (loops_of report.parts) advices
  pub pulled : Bus
  pub pulls : PullsLead bus (all_pulls advices) pulled
  pub settled : LineAnswer
  pub settles : DoesSettle pulled settled
  pub answer_is : answer ≡ after_text (advice_text bus.notes.names advices) settled

-- a fault of the script is that of its advice
pub record HasScriptFault (bytes : List ℕ) (told : ScriptResult) : Type 0 where
  pub fault : ScriptFault
  pub told_so : IsResult bytes (Err fault)
  pub is : told ≡ Err fault

-- what an answer at the end of a script tells; its fault stands on the line behind the last
abbrev pub told_at_end : List ℕ → LineAnswer → ScriptResult
told_at_end bytes (Ok (bus, text)) = Ok text
told_at_end bytes (Err kind) = Err (fault_at (length (script_lines bytes) + 1) kind)

-- The script runs to its end, and what is advised then is told. A fault of the second settle has the
-- line of the first.
pub record AdvisesAtEnd (bytes : List ℕ) (told : ScriptResult) : Type 0 where
  pub bus : Bus
  pub ran : RunsTo bytes bus
  pub answer : LineAnswer
  pub advises : Advises bus answer
  pub is : told ≡ told_at_end bytes answer

-- the text of a script's advice, or the fault of the script or of the advice
abbrev pub IsAdvice : List ℕ → ScriptResult → Type 0
IsAdvice bytes told = HasScriptFault bytes told ⊎ AdvisesAtEnd bytes told

-- ---- the report

abbrev pub IsReportedLoop : Outcome → Type 0
IsReportedLoop (Loop core) = Unit {0}
IsReportedLoop outcome = ⊥

-- no component in a report came to a loop
abbrev pub ReportsNoLoop : Report → Type 0
ReportsNoLoop report = All (λ part. ¬ IsReportedLoop part.outcome) report.parts

-- The text is that of the script's advice. It ends with the report of the bus that is left, and no
-- component in that is a loop.
pub record EndsWithoutLoop (bytes text : List ℕ) : Type 0 where
  pub bus : Bus
  pub ran : RunsTo bytes bus
  pub after : Bus
  pub advises : Advises bus (Ok (after, text))
  pub last : List ℕ
  pub ends : text ≡ advice_text bus.notes.names advises.advices ++ last
  pub of : IsReportOf after last
  pub no_loop : ReportsNoLoop of.report
