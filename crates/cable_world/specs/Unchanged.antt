-- What turns and acts leave as it is, and how turns are counted.
use Rattle.std.specs.Prelude.{◌≡◌, ℕ, ◌+◌, length}
use Rattle.cable_world.specs.declared.act.Act.{Act}
use Rattle.cable_world.specs.World.{CableWorld}
use Rattle.cable_world.specs.Turn.{turn, turns_after}
use Rattle.cable_world.specs.Act.{ActLeads}

-- so many turns pass, and there are as many nodes as before
pub record TurnsPass (count : ℕ) (w v : CableWorld) : Type 0 where
  pub nodes : length v.nodes ≡ length w.nodes
  pub turns : v.turns ≡ w.turns + count

-- ---- a turn

abbrev pub TurnKeepsCables : Type 0
TurnKeepsCables = (w : CableWorld) → (turn w).cabling ≡ w.cabling

abbrev pub TurnKeepsDelay : Type 0
TurnKeepsDelay = (w : CableWorld) → (turn w).delay ≡ w.delay

abbrev pub TurnKeepsLongest : Type 0
TurnKeepsLongest = (w : CableWorld) → (turn w).longest ≡ w.longest

abbrev pub TurnIsCounted : Type 0
TurnIsCounted = (w : CableWorld) → (turn w).turns ≡ w.turns + 1

abbrev pub TurnKeepsNodes : Type 0
TurnKeepsNodes =
    (w : CableWorld) → length w.nodes ≡ length w.cabling → length (turn w).nodes ≡ length w.nodes

-- ---- turns, one after the other

abbrev pub NoTurnIsNone : Type 0
NoTurnIsNone = (w : CableWorld) → turns_after 0 w ≡ w

abbrev pub OneTurnMore : Type 0
OneTurnMore = (k : ℕ) (w : CableWorld) → turns_after (k + 1) w ≡ turn (turns_after k w)

abbrev pub TurnsAdd : Type 0
TurnsAdd = (j k : ℕ) (w : CableWorld) → turns_after (j + k) w ≡ turns_after k (turns_after j w)

-- ---- an act

abbrev pub ActKeepsNodes : Type 0
ActKeepsNodes = (a : Act) (w v : CableWorld) → ActLeads a w v → length v.nodes ≡ length w.nodes

abbrev pub ActKeepsTurns : Type 0
ActKeepsTurns = (a : Act) (w v : CableWorld) → ActLeads a w v → v.turns ≡ w.turns

abbrev pub ActKeepsDelay : Type 0
ActKeepsDelay = (a : Act) (w v : CableWorld) → ActLeads a w v → v.delay ≡ w.delay

abbrev pub ActKeepsLongest : Type 0
ActKeepsLongest = (a : Act) (w v : CableWorld) → ActLeads a w v → v.longest ≡ w.longest
