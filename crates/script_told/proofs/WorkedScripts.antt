-- Scripts and what the definitions tell of them, worked out by the check.
use Rattle.std.proofs.Common.{◌≡◌, ◌++◌, ℕ, ◌+◌, Bool, true, false, List, [], ◌∷◌, Option, Some, None, codes, length, refl, sym, subst, ap, ◌∙◌, arith}
use Rattle.std.specs.Prelude.{Result, Ok, Err, MatchBool, nat_lt}
use Rattle.std.specs.Fmt.{digits}
use Rattle.std.specs.Str.Lines.{strip_carriage_return}
use Rattle.std.proofs.Math.Nat.{le-max_left}
use Rattle.std.proofs.lemmas.Bool.{lt-ltb}
use Rattle.self_id.specs.declared.standard.Standard.TheVariants.{Ieee1995, Ieee2000}
use Rattle.port_state.specs.TimeRanges.{profile_ranges}
use Rattle.port_state.specs.StandardTimes.{standard_ranges}
use Rattle.port_state.specs.Machine.{PortNode}
use Rattle.cable_world.specs.World.{CableWorld, world_of_nodes}
use Rattle.cable_world.specs.Turn.{turns_after}
use Rattle.cable_world.specs.Act.{note_changes, plug}
use Rattle.cable_world.specs.Run.{quiet_turns}
use Rattle.convergence.specs.Turns.{turns_to_settle}
use Rattle.settle.specs.declared.report.Report.{Report}
use Rattle.settle.specs.Report.{IsReport, quiet_turns_of}
use Rattle.script_lines.specs.declared.kind.Kind.{Kind}
use Rattle.script_lines.specs.declared.kind.Kind.TheVariants.{Word, Late, InUse, SameNode, Range, NotPlugged, NotSettled, TooManyTurns}
use Rattle.script_lines.specs.declared.command.Command.{Command}
use Rattle.script_lines.specs.declared.command.Command.TheVariants.{Node, Plug, Pull, Turn, CsrRead, Delay, Times}
use Rattle.script_lines.specs.Times.{profile_times}
use Rattle.line_words.specs.Words.{words_by}
use Rattle.script_lines.specs.Words.{words_of}
use Rattle.line_words.specs.Digits.{of_digits}
use Rattle.script_lines.specs.Number.{number_of}
use Rattle.script_lines.specs.Name.{is_name}
use Rattle.script_lines.specs.Line.{ReadsStripped, ReadsLine}
use Rattle.script_text.specs.ReportText.{report_line, numbered, none}
use Rattle.script_told.specs.Bus.{Bus, bus_of_nodes}
use Rattle.script_told.specs.Step.{LineAnswer, end_of, notes_after_act, notes_after_report, Reports, DoesSettle}
use Rattle.script_told.specs.Script.{script_lines, Stage, fresh, declaring, running, bus_of, ranges_of, first_draft, new_node, times_of, coins_of, DoesAtStage, fault_at}
use Rattle.script_told.specs.Run.{ScriptRun, done, stopped, behind, last_run, RunsFrom, IsResult}
use Rattle.script_lines.proofs.Lemmas.{read_line, reads}
use Rattle.script_told.proofs.Turns.{AfterTurns, after-turns}

-- ---- lines

no-lines : script_lines [] ≡ []
no-lines = refl

without-a-feed : script_lines (codes "turn 1") ≡ codes "turn 1" ∷ []
without-a-feed = refl

with-a-feed : script_lines (codes "turn 1\n") ≡ codes "turn 1" ∷ []
with-a-feed = refl

two-feeds : script_lines (codes "turn 1\n\n") ≡ codes "turn 1" ∷ [] ∷ []
two-feeds = refl

one-feed : script_lines (codes "\n") ≡ [] ∷ []
one-feed = refl

empty-line : script_lines (codes "reset a\n\nturn 1") ≡ codes "reset a" ∷ [] ∷ codes "turn 1" ∷ []
empty-line = refl

-- ---- one line, and the rest

module _ (number : ℕ) (line : List ℕ) (lines : List (List ℕ)) (stage : Stage) where
  -- what the line says
  abbrev said : Result (Option Command) Kind
  said = read_line (ranges_of stage) (strip_carriage_return line)

  line-is :
      (reading : Result (Option Command) Kind) → said ≡ reading →
      ReadsLine (ranges_of stage) line reading
  line-is reading e =
      let text : List ℕ = strip_carriage_return line in
      subst (ReadsStripped (ranges_of stage) text) e (reads (ranges_of stage) text)

  -- a command is done
  step :
      (command : Command) (next : Stage) (text : List ℕ) (more : ScriptRun) →
      said ≡ Ok (Some command) → DoesAtStage stage command (Ok (next, text)) →
      RunsFrom (number + 1) lines next more →
      RunsFrom number (line ∷ lines) stage (behind (done number stage command next text ∷ []) more)
  step command next text more e f rest =
      (Ok (Some command), line-is (Ok (Some command)) e, (Ok (next, text), f, (more, rest, refl)))

  -- a command is at fault
  refused :
      (command : Command) (kind : Kind) →
      said ≡ Ok (Some command) → DoesAtStage stage command (Err kind) →
      RunsFrom number (line ∷ lines) stage (stopped number kind)
  refused command kind e f = (Ok (Some command), line-is (Ok (Some command)) e, (Err kind, f, refl))

  -- a line says no command
  bad :
      (kind : Kind) → said ≡ Err kind →
      RunsFrom number (line ∷ lines) stage (stopped number kind)
  bad kind e = (Err kind, line-is (Err kind) e, refl)

  -- a line is skipped
  skipped :
      (run : ScriptRun) → said ≡ Ok None → RunsFrom (number + 1) lines stage run →
      RunsFrom number (line ∷ lines) stage run
  skipped run e rest = (Ok None, line-is (Ok None) e, rest)

-- ---- no nodes

abbrev nothing : CableWorld
nothing = world_of_nodes 4 []

abbrev no-parts : ℕ → Report
no-parts turn = record { turn = turn; parts = [] }

-- a world without nodes has a report without parts
empty-report : (k : ℕ) → IsReport (turns_after k nothing) (no-parts k)
empty-report k =
    let same = after-turns k nothing in
    let none-there : length (turns_after k nothing).cabling ≡ 0 = ap length same.cabling in
    record {
      turn = omega (arith, same.turns);
      parts = record {
        each = λ i d inside. absurd (omega (arith, inside));
        rising = λ i j d less inside. absurd (omega (arith, inside));
        whole = λ j inside. absurd (omega (arith, inside, none-there));
      };
    }

-- at its end the bus settles once
no-bytes : IsResult [] (Ok (codes "report 1 turn 8000\n"))
unfolding report_line numbered digits
no-bytes =
    let bus : Bus = bus_of_nodes 4 (profile_times 4) [] [] in
    let after : Bus = record {
      world = turns_after 8000 nothing;
      notes = notes_after_report bus.notes (no-parts 8000);
    } in
    let text : List ℕ = codes "report 1 turn 8000\n" in (
      last_run 1 fresh (Ok (after, text)),
      (
        Ok (after, text),
        (no-parts 8000, refl, empty-report 8000, refl, record { parts = []; told = none; is = refl }),
        refl,
      ),
      refl,
    )

-- the turns before a report don't fit behind so many turns
past :
    (w : CableWorld) → AfterTurns 2000000 nothing w →
    nat_lt 2000000 (w.turns + quiet_turns_of w) ≡ true
past w h =
    let delay : w.delay ≡ 4 = h.delay in
    let nodes : length w.cabling ≡ 0 = ap length h.cabling in
    let quiet : quiet_turns (length w.cabling) w.delay ≡ 8000 =
    ap (λ (n : ℕ). quiet_turns n w.delay) nodes ∙ ap (quiet_turns 0) delay in
    let more = le-max_left (quiet_turns (length w.cabling) w.delay) (turns_to_settle w) in
    lt-ltb 2000000 (w.turns + quiet_turns_of w) (omega (arith, h.turns, quiet, more))

too-many-turns : IsResult (codes "turn 2000000") (Err (fault_at 2 TooManyTurns))
unfolding words_by number_of of_digits is_name
too-many-turns =
    let bus : Bus = bus_of_nodes 4 (profile_times 4) [] [] in
    let after : Bus = record bus { world = turns_after 2000000 nothing } in
    let answer : LineAnswer = Err TooManyTurns in
    let full = past after.world (after-turns 2000000 nothing) in
    let ends : DoesSettle after answer =
    subst (λ (b : Bool). MatchBool b (answer ≡ Err TooManyTurns) (Reports after answer)) (sym full)
    refl in (
      behind (done 1 fresh (Turn 2000000) (running after) [] ∷ []) (stopped 2 TooManyTurns),
      step 1 (codes "turn 2000000") [] fresh (Turn 2000000) (running after) []
          (stopped 2 TooManyTurns) refl (Ok (after, []), refl, refl) (answer, ends, refl),
      refl,
    )

-- ---- three nodes, of which two are joined

abbrev node : ℕ → PortNode
node number =
    new_node
    (record {
      link = true;
      gap = 63;
      speed = 2;
      delay = 0;
      contender = false;
      power = 0;
      initiated = false;
    })
    3 false false (times_of (profile_ranges 4) None None None) (coins_of number 0 0 None)

abbrev declared : List (List ℕ) → List PortNode → Stage
declared names nodes = declaring (record {
  delay = 4;
  times = profile_times 4;
  names = names;
  nodes = nodes;
  slowed = false;
})

abbrev plain : List ℕ → Command
plain name = Node name 3 2 true false false 0 63 false None None None 0 0 None false

abbrev three : Stage
three = declared (codes "a" ∷ codes "b" ∷ codes "c" ∷ []) (node 0 ∷ node 1 ∷ node 2 ∷ [])

abbrev joined : Bus
joined =
    let bus : Bus = bus_of three in
    record {
      world = note_changes bus.world (plug (end_of 0 0) (end_of 1 0) bus.world);
      notes = notes_after_act bus.notes;
    }

-- the lines of three nodes and of a cable
abbrev desk : List ℕ
desk = codes "node a 3\nnode b 3\nnode c 3\nplug a 0 b 0\n"

abbrev from-fourth : List ℕ → List (List ℕ)
from-fourth line = codes "plug a 0 b 0" ∷ line ∷ []

abbrev from-second : List ℕ → List (List ℕ)
from-second line = codes "node b 3" ∷ codes "node c 3" ∷ from-fourth line

abbrev one : Stage
one = declared (codes "a" ∷ []) (node 0 ∷ [])

abbrev two : Stage
two = declared (codes "a" ∷ codes "b" ∷ []) (node 0 ∷ node 1 ∷ [])

-- the fault of a fifth line is the script's
fifth :
    (line : List ℕ) (kind : Kind) →
    script_lines (desk ++ line) ≡ codes "node a 3" ∷ from-second line →
    RunsFrom 5 (line ∷ []) (running joined) (stopped 5 kind) →
    IsResult (desk ++ line) (Err (fault_at 5 kind))
unfolding words_by number_of of_digits is_name
fifth line kind split rest =
    let end : ScriptRun = stopped 5 kind in
    let plugged : ScriptRun =
    behind (done 4 three (Plug (codes "a") 0 (codes "b") 0) (running joined) [] ∷ []) end in
    let third : ScriptRun = behind (done 3 two (plain (codes "c")) three [] ∷ []) plugged in
    let second : ScriptRun = behind (done 2 one (plain (codes "b")) two [] ∷ []) third in
    let whole : ScriptRun = behind (done 1 fresh (plain (codes "a")) one [] ∷ []) second in
    let fourth : RunsFrom 4 (from-fourth line) three plugged =
    step 4 (codes "plug a 0 b 0") (line ∷ []) three (Plug (codes "a") 0 (codes "b") 0)
    (running joined) [] end refl (Ok (joined, []), (refl, refl, refl, refl), refl) rest in
    let with-third : RunsFrom 3 (codes "node c 3" ∷ from-fourth line) two third =
    step 3 (codes "node c 3") (from-fourth line) two (plain (codes "c")) three [] plugged refl refl
    fourth in
    let with-second : RunsFrom 2 (from-second line) one second =
    step 2 (codes "node b 3") (codes "node c 3" ∷ from-fourth line) one (plain (codes "b")) two
    [] third refl refl with-third in
    let first : RunsFrom 1 (codes "node a 3" ∷ from-second line) fresh whole =
    step 1 (codes "node a 3") (from-second line) fresh (plain (codes "a")) one [] second refl refl
    with-second in (
      whole,
      subst (λ (lines : List (List ℕ)). RunsFrom 1 lines fresh whole) (sym split) first,
      refl,
    )

in-use : IsResult (desk ++ codes "plug a 0 c 0") (Err (fault_at 5 InUse))
unfolding words_by number_of of_digits is_name
in-use =
    fifth (codes "plug a 0 c 0") InUse refl
    (refused 5 (codes "plug a 0 c 0") [] (running joined) (Plug (codes "a") 0 (codes "c") 0) InUse
    refl (Err InUse, refl, refl))

same-node : IsResult (desk ++ codes "plug c 0 c 1") (Err (fault_at 5 SameNode))
unfolding words_by number_of of_digits is_name
same-node =
    fifth (codes "plug c 0 c 1") SameNode refl
    (refused 5 (codes "plug c 0 c 1") [] (running joined) (Plug (codes "c") 0 (codes "c") 1)
    SameNode refl (Err SameNode, refl, refl))

not-plugged : IsResult (desk ++ codes "pull c 0") (Err (fault_at 5 NotPlugged))
unfolding words_by number_of of_digits is_name
not-plugged =
    fifth (codes "pull c 0") NotPlugged refl
    (refused 5 (codes "pull c 0") [] (running joined) (Pull (codes "c") 0) NotPlugged
    refl (Err NotPlugged, refl, refl))

late : IsResult (desk ++ codes "node e 3") (Err (fault_at 5 Late))
unfolding words_by number_of of_digits is_name
late =
    fifth (codes "node e 3") Late refl
    (refused 5 (codes "node e 3") [] (running joined) (plain (codes "e")) Late refl refl)

not-settled : IsResult (desk ++ codes "csr a read 0x220") (Err (fault_at 5 NotSettled))
unfolding words_by number_of of_digits is_name
not-settled =
    fifth (codes "csr a read 0x220") NotSettled refl
    (refused 5 (codes "csr a read 0x220") [] (running joined) (CsrRead (codes "a") 0x220) NotSettled
    refl (Err NotSettled, refl, refl))

no-command : IsResult (desk ++ codes "plug a 0 b") (Err (fault_at 5 Word))
unfolding words_by number_of of_digits is_name
no-command =
    fifth (codes "plug a 0 b") Word refl
    (bad 5 (codes "plug a 0 b") [] (running joined) Word refl)

-- ---- lines that are skipped

skipped-lines : IsResult (codes "# none\n\n  \r\nplug a 0 b") (Err (fault_at 4 Word))
unfolding words_by number_of of_digits is_name
skipped-lines =
    let run : ScriptRun = stopped 4 Word in (
      run,
      skipped 1 (codes "# none") ([] ∷ codes "  \r" ∷ codes "plug a 0 b" ∷ []) fresh run refl
          (skipped 2 [] (codes "  \r" ∷ codes "plug a 0 b" ∷ []) fresh run refl
          (skipped 3 (codes "  \r") (codes "plug a 0 b" ∷ []) fresh run refl
          (bad 4 (codes "plug a 0 b") [] fresh Word refl))),
      refl,
    )

-- ---- a standard's times

-- 4 ticks are 170 nanoseconds
abbrev timed : Stage
timed = declaring (record first_draft {
  times = record { ranges = standard_ranges Ieee2000 4 170; nanoseconds = Some 170 };
})

abbrev said-times : List ℕ
said-times = codes "times 1394a 170"

-- a line behind it that is at fault
second-line :
    (line : List ℕ) (kind : Kind) → script_lines (codes "times 1394a 170\n" ++ line) ≡ said-times ∷ line ∷ [] →
    RunsFrom 2 (line ∷ []) timed (stopped 2 kind) →
    IsResult (codes "times 1394a 170\n" ++ line) (Err (fault_at 2 kind))
unfolding words_by number_of of_digits is_name
second-line line kind split rest =
    let end : ScriptRun = stopped 2 kind in
    let whole : ScriptRun = behind (done 1 fresh (Times Ieee2000 170) timed [] ∷ []) end in (
      whole,
      subst (λ (lines : List (List ℕ)). RunsFrom 1 lines fresh whole) (sym split)
          (step 1 said-times (line ∷ []) fresh (Times Ieee2000 170) timed [] end refl refl rest),
      refl,
    )

times-twice : IsResult (codes "times 1394a 170\n" ++ said-times) (Err (fault_at 2 Late))
unfolding words_by number_of of_digits is_name
times-twice =
    second-line said-times Late refl
    (refused 2 said-times [] timed (Times Ieee2000 170) Late refl refl)

delay-behind-times : IsResult (codes "times 1394a 170\n" ++ codes "delay 4") (Err (fault_at 2 Late))
unfolding words_by number_of of_digits is_name
delay-behind-times =
    second-line (codes "delay 4") Late refl
    (refused 2 (codes "delay 4") [] timed (Delay 4) Late refl refl)

-- a hold may be 3920 to 3923 ticks
hold-of-the-profile : IsResult (codes "times 1394a 170\n" ++ codes "node a 3 hold 3924")
    (Err (fault_at 2 Range))
unfolding words_by number_of of_digits is_name
hold-of-the-profile =
    second-line (codes "node a 3 hold 3924") Range refl
    (bad 2 (codes "node a 3 hold 3924") [] timed Range refl)

-- by 1394-1995 a short wait may be 5 ticks, which a signal takes over the cable and back
too-slow : IsResult (codes "times 1394-1995 170") (Err (fault_at 1 Range))
unfolding words_by number_of of_digits is_name
too-slow =
    let run : ScriptRun = stopped 1 Range in (
      run,
      refused 1 (codes "times 1394-1995 170") [] fresh (Times Ieee1995 170) Range refl refl,
      refl,
    )
