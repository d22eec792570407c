-- What happens in a script's one run, act by act and turn by turn, as a voice tells it; and its trace, which
-- is one of them.
use Rattle.std.specs.Prelude.{◌≡◌, ℕ, List, [], ◌∷◌, ◌++◌, codes, Option, None, Some, Ok, Err}
use Rattle.cable_world.specs.World.{CableWorld, NodeNumber}
use Rattle.settle.specs.Report.{quiet_turns_of}
use Rattle.script_lines.specs.declared.command.Command.{Command}
use Rattle.script_lines.specs.declared.command.Command.TheVariants.{Plug, Pull, Reset, Turn, Hold, Settle, Config, Plan}
use Rattle.script_text.specs.ReportText.{numbered}
use Rattle.script_told.specs.Bus.{Bus, ReportedTree, node_named, tree_with}
use Rattle.script_told.specs.Step.{CarriesOut}
use Rattle.script_told.specs.Script.{Stage, running, bus_of, ScriptResult}
use Rattle.script_told.specs.Run.{Entry, ScriptRun, IsRun}
use Rattle.script_trace.specs.Step.{lines_since, seen_before_act}
use Rattle.script_trace.specs.Voice.{Legend, legend_of, Voice, turns_told}

-- ---- the line of a command

-- ` N`, or ` -` for none
abbrev pub choice : Option ℕ → List ℕ
choice None = codes " -"
choice (Some n) = numbered (codes " ") n

-- an act or a hold in a script's words
abbrev pub command_words : Command → List ℕ
command_words (Plug a a_port b b_port) =
    codes " plug " ++ (a ++ (numbered (codes " ") a_port
    ++ (codes " " ++ (b ++ numbered (codes " ") b_port))))
command_words (Pull name port) = codes " pull " ++ (name ++ numbered (codes " ") port)
command_words (Reset name) = codes " reset " ++ name
command_words (Hold name port turns) =
    codes " hold " ++ (name ++ (numbered (codes " ") port ++ numbered (codes " ") turns))
command_words (Config name root_id gap) =
    codes " config " ++ (name ++ (choice root_id ++ choice gap))
command_words command = []

-- `turn T` and these words
unfoldable pub command_line : ℕ → Command → List ℕ
command_line turn command = numbered (codes "turn ") turn ++ (command_words command ++ codes "\n")

-- ---- what happens at a command

-- the line of an act, and what it does
abbrev pub act_trace : Voice → Legend → Command → CableWorld → CableWorld → List ℕ
act_trace voice legend command before after =
    voice.command before.turns command
    ++ voice.since legend (seen_before_act before 0 before.nodes) after

-- what happens in the quiet turns
abbrev pub quiet_trace : Voice → Legend → CableWorld → List ℕ
quiet_trace voice legend w = turns_told voice legend (quiet_turns_of w) w

-- A plan is carried out: its packet is sent, as a `config` does it, and the quiet turns are done.
pub record TracesPlan (voice : Voice) (bus : Bus) (name : List ℕ) (after : Bus) (lines : List ℕ) :
    Type 0 where
  pub node : NodeNumber
  pub named : node_named bus.notes.names name ≡ Some node
  pub tree : ReportedTree
  pub settled : tree_with node bus.notes ≡ Some tree
  pub text : List ℕ
  pub carried : CarriesOut bus name node tree after text
  pub lines_are :
      lines
      ≡ act_trace voice (legend_of after.notes)
      (Config name (Some carried.plan.root_id) (Some carried.plan.gap)) bus.world carried.sent.world
      ++ quiet_trace voice (legend_of after.notes) carried.sent.world

-- what happens where a command leads from a bus to the next
abbrev pub Traces : Voice → Bus → Command → Bus → List ℕ → Type 0
Traces voice bus (Plug a a_port b b_port) after lines =
    lines
    ≡ act_trace voice (legend_of after.notes) (Plug a a_port b b_port) bus.world after.world
Traces voice bus (Pull name port) after lines =
    lines ≡ act_trace voice (legend_of after.notes) (Pull name port) bus.world after.world
Traces voice bus (Reset name) after lines =
    lines ≡ act_trace voice (legend_of after.notes) (Reset name) bus.world after.world
Traces voice bus (Config name root_id gap) after lines =
    lines
    ≡ act_trace voice (legend_of after.notes) (Config name root_id gap) bus.world after.world
Traces voice bus (Hold name port turns) after lines =
    lines ≡ voice.command bus.world.turns (Hold name port turns)
Traces voice bus (Turn count) after lines =
    lines ≡ turns_told voice (legend_of after.notes) count bus.world
Traces voice bus Settle after lines =
    lines ≡ quiet_trace voice (legend_of after.notes) bus.world
Traces voice bus (Plan name) after lines = TracesPlan voice bus name after lines
Traces voice bus command after lines = lines ≡ []

-- the same from stage to stage: nothing happens where a node is declared
abbrev pub TracesAt : Voice → Stage → Command → Stage → List ℕ → Type 0
TracesAt voice stage command (running after) lines = Traces voice (bus_of stage) command after lines
TracesAt voice stage command next lines = lines ≡ []

-- ---- the whole

-- what happens at commands, one after the other
abbrev pub AllTrace : Voice → List Entry → List ℕ → Type 0
AllTrace voice [] lines = lines ≡ []
AllTrace voice (entry ∷ entries) lines =
    (one : List ℕ) × (more : List ℕ) × TracesAt voice entry.before entry.command entry.after one
    × AllTrace voice entries more × (lines ≡ one ++ more)

-- ---- the trace

-- a line for each act, each hold and each thing that happens
abbrev pub trace_voice : Voice
trace_voice = record {
  command = command_line;
  since = λ legend. lines_since legend.names;
}

-- what happens in a run, or its fault
abbrev pub IsTraceOf : ScriptRun → ScriptResult → Type 0
IsTraceOf run (Ok lines) = (bus : Bus) × (run.end ≡ Ok bus) × AllTrace trace_voice run.entries lines
IsTraceOf run (Err fault) = run.end ≡ Err fault

-- The trace of a script, or the fault of its first bad line.
abbrev pub IsTrace : List ℕ → ScriptResult → Type 0
IsTrace bytes told = (run : ScriptRun) × IsRun bytes run × IsTraceOf run told
