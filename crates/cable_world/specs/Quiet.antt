-- Quiet turns: turns without acts. Holds may be placed between them.
use Rattle.std.specs.Prelude.{◌≡◌, ◌≢◌, ℕ, zero, suc, ◌+◌, List, [], ◌∷◌, is_some, None, if◌then◌else◌}
use Rattle.cabling.specs.declared.cable.End.{End}
use Rattle.cable_world.specs.Wire.{Wire}
use Rattle.cable_world.specs.World.{CableWorld}
use Rattle.cable_world.specs.Act.{hold, hold_fault}
use Rattle.cable_world.specs.Turn.{turn, turns_after}

-- the wire that leaves this end is to be held for so many turns
pub record PlacedHold : Type 0 where
  pub end : End
  pub turns : ℕ

-- ---- holds between two turns

-- a hold that is refused changes nothing, and one that isn't changes a wire
abbrev pub with_hold : PlacedHold → CableWorld → CableWorld
with_hold h w = record w {
  wires = if is_some (hold_fault h.end w) then w.wires else (hold h.end h.turns w).wires;
}

-- the wires after these holds, the first first
abbrev pub wires_held : List PlacedHold → CableWorld → List (List Wire)
wires_held [] w = w.wires
wires_held (h ∷ holds) w = wires_held holds (with_hold h w)

abbrev pub with_holds : List PlacedHold → CableWorld → CableWorld
with_holds holds w = record w { wires = wires_held holds w }

-- ---- quiet turns

-- for each k the holds that are placed after k turns
abbrev pub HoldSchedule : Type 0
HoldSchedule = ℕ → List PlacedHold

abbrev pub no_holds : HoldSchedule
no_holds k = []

-- the holds that are placed after so many turns more
abbrev pub holds_after : ℕ → HoldSchedule → HoldSchedule
holds_after j holds zero = []
holds_after j holds (suc k) = holds (suc (j + k))

-- The world after so many quiet turns: some holds, a turn, some holds, a turn, and so on, and the
-- holds that come after the last turn.
unfoldable pub quiet_after : HoldSchedule → ℕ → CableWorld → CableWorld
quiet_after holds zero w = with_holds (holds zero) w
quiet_after holds (suc k) w = with_holds (holds (suc k)) (turn (quiet_after holds k w))

-- ---- laws

-- what is kept by turns and holds is kept by quiet turns
abbrev pub KeptByQuietTurns : (CableWorld → Type 0) → Type 0
KeptByQuietTurns P =
    (holds : HoldSchedule) (k : ℕ) (w : CableWorld) → P w → P (quiet_after holds k w)

-- one hold after the other, each as the call does it, or not
abbrev pub HoldsAreCalls : Type 0
HoldsAreCalls =
    (h : PlacedHold) (holds : List PlacedHold) (w : CableWorld) →
    (with_holds [] w ≡ w)
    × (with_holds (h ∷ holds) w ≡ with_holds holds (with_hold h w))
    × (hold_fault h.end w ≡ None → with_hold h w ≡ hold h.end h.turns w)
    × (hold_fault h.end w ≢ None → with_hold h w ≡ w)

-- turns without a hold between them are quiet
abbrev pub PlainTurnsAreQuiet : Type 0
PlainTurnsAreQuiet = (k : ℕ) (w : CableWorld) → quiet_after no_holds k w ≡ turns_after k w

abbrev pub NoQuietTurnIsHolds : Type 0
NoQuietTurnIsHolds =
    (holds : HoldSchedule) (w : CableWorld) → quiet_after holds 0 w ≡ with_holds (holds 0) w

abbrev pub OneQuietTurnMore : Type 0
OneQuietTurnMore =
    (holds : HoldSchedule) (k : ℕ) (w : CableWorld) →
    quiet_after holds (k + 1) w ≡ with_holds (holds (k + 1)) (turn (quiet_after holds k w))

abbrev pub QuietTurnsAdd : Type 0
QuietTurnsAdd =
    (holds : HoldSchedule) (j k : ℕ) (w : CableWorld) →
    quiet_after holds (j + k) w ≡ quiet_after (holds_after j holds) k (quiet_after holds j w)
