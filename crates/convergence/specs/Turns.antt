-- After how many quiet turns a milestone is reached, for n nodes whose cables delay by at
-- most d turns, and none of which takes longer, in turns, than the world names.
use Rattle.std.specs.Prelude.{ℕ, ◌+◌, ◌*◌, ◌≤◌, length, max}
use Rattle.cable_world.specs.World.{CableWorld}
use Rattle.cable_world.specs.Quiet.{HoldSchedule, quiet_after}
use Rattle.cable_world.specs.Run.{ComesOfPowerOn}
-- 0 where all clocks are even, and else 1; and how many turns it takes until a node has seen what was told
pub use Rattle.cable_world.specs.World.{slack_of, slack, seen_turns}

-- ---- from one milestone to the next

-- resets go round: n d turns
abbrev pub over_turns : CableWorld → ℕ
over_turns w = length w.nodes * w.delay

-- then every node holds, and leaves R0 and R1: as long as any node does
abbrev pub done_turns : CableWorld → ℕ
done_turns w = w.longest.hold + seen_turns w

-- then nodes wait to be forced, and take their roles one after the other
abbrev pub tree_turns : CableWorld → ℕ
tree_turns w = w.longest.force + length w.nodes * seen_turns w

-- meanwhile a loop times out
abbrev pub loop_turns : CableWorld → ℕ
loop_turns w = w.longest.timeout + 1 + slack w

-- a round of a contention: a wait, and two ways over the cable
abbrev pub round_turns : CableWorld → ℕ
round_turns w = w.longest.long + 2 * seen_turns w

-- then parents and children shake hands, and rivals contend for 33 rounds and one more wait
abbrev pub decision_turns : CableWorld → ℕ
decision_turns w =
    12 * (length w.nodes * seen_turns w) + 33 * round_turns w + (w.longest.long + round_turns w) + 1
    + slack w

-- ---- from the last act

abbrev pub turns_to_over : CableWorld → ℕ
turns_to_over w = over_turns w

abbrev pub turns_to_done : CableWorld → ℕ
turns_to_done w = turns_to_over w + done_turns w

abbrev pub turns_to_trees : CableWorld → ℕ
turns_to_trees w = turns_to_done w + tree_turns w

abbrev pub turns_to_loops : CableWorld → ℕ
turns_to_loops w = turns_to_done w + loop_turns w

abbrev pub turns_to_decision : CableWorld → ℕ
turns_to_decision w = turns_to_trees w + decision_turns w

-- Loops have timed out, and trees have come to rest: for each node five times what it takes until
-- something is seen, from where they are decided. For 63 nodes 315 times that is enough.
abbrev pub turns_to_settle : CableWorld → ℕ
turns_to_settle w = max (turns_to_loops w) (turns_to_decision w + 315 * seen_turns w)

-- This holds after so many quiet turns of a world that comes of power-on, and at each turn from
-- there, whatever holds are placed between them.
abbrev pub HoldsAfter : (CableWorld → ℕ) → (CableWorld → Type 0) → Type 0
HoldsAfter count P =
    (holds : HoldSchedule) (w : CableWorld) (k : ℕ) → ComesOfPowerOn w → count w ≤ k →
    P (quiet_after holds k w)
