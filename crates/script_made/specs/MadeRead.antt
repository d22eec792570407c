-- What the lines of a made script say.
use Rattle.std.specs.Prelude.{◌≡◌, ℕ, suc, ◌+◌, ◌-◌, ◌%◌, ◌≤◌, ◌==◌, true, false, List, [], ◌∷◌, ◌++◌, Some, None, Ok, codes}
use Rattle.std.specs.List.{AllZip, slice_split}
use Rattle.rand_pcg.specs.Lcg.{Lcg}
use Rattle.port_state.specs.declared.ranges.TimeRanges.{TimeRanges}
use Rattle.script_made.specs.declared.made.End.{End}
use Rattle.script_lines.specs.declared.command.Command.{Command}
use Rattle.script_lines.specs.declared.command.Command.TheVariants.{Node, Plug, Pull, Turn, Settle}
use Rattle.script_text.specs.ReportText.{numbered}
use Rattle.script_lines.specs.Line.{ReadsLine}
use Rattle.script_made.specs.Made.{generator, word, end_of, for_each, made_lines, made_script}

-- the name of node number k
abbrev pub made_name : ℕ → List ℕ
made_name k = numbered (codes "n") k

-- a contender with 3 ports and a seed
abbrev pub declares : ℕ → ℕ → Command
declares seed k =
    Node (made_name k) 3 2 true true false 0 63 false None None None 0 0
    (Some ((seed + k) % 4294967296)) false

-- port 0 of node number k is plugged at an end
abbrev pub plugs : End → ℕ → Command
plugs at k = Plug (made_name at.node) at.port (made_name k) 0

abbrev pub pulls : ℕ → Command
pulls k = Pull (made_name k) 0

abbrev pub turns : ℕ → Command
turns w = Turn (w % 300 + 1)

-- the commands that pull each cable and plug it again some turns later
abbrev pub again_commands : Lcg → ℕ → List Command
again_commands g cables =
    for_each cables (λ k. pulls (suc k) ∷ turns (word g (cables + k)) ∷ plugs (end_of g k) (suc k) ∷ [])

-- the commands of a made script, a line a command
unfoldable pub made_commands : ℕ → ℕ → List Command
made_commands n seed =
    for_each n (λ k. declares seed k ∷ [])
    ++ (for_each (n - 1) (λ k. plugs (end_of (generator seed) k) (suc k) ∷ [])
    ++ (Settle ∷ again_commands (generator seed) (n - 1)))

-- each line is read as its command, whatever the ranges of the times of nodes are
abbrev pub MadeIsRead : Type 0
MadeIsRead =
    (times : TimeRanges) (n seed : ℕ) → n ≤ 63 →
    AllZip (λ line command. ReadsLine times line (Ok (Some command))) (made_lines n seed) (made_commands n seed)

-- the lines are what stands between line feeds, and behind the last one nothing stands
abbrev pub MadeIsSplit : Type 0
MadeIsSplit =
    (n seed : ℕ) → n ≤ 63 →
    slice_split (λ c. c == 10) (made_script n seed) ≡ made_lines n seed ++ [] ∷ []
