-- What may happen to a world, in lists.
use Rattle.std.specs.Prelude.{◌≡◌, ℕ, suc, List, [], ◌∷◌, None}
use Rattle.cabling.specs.declared.cable.End.{End}
use Rattle.cable_world.specs.declared.act.Act.{Act}
use Rattle.cable_world.specs.World.{CableWorld}
use Rattle.cable_world.specs.Act.{Acted, hold, hold_fault}
use Rattle.cable_world.specs.Turn.{turn}

pub data Event : Type 0 where
  acts : Act → Event
  holds : End → ℕ → Event
  turns : Event

-- an event that isn't refused turns the first world into the second
abbrev pub Happens : Event → CableWorld → CableWorld → Type 0
Happens (acts a) w v = Acted a w v
Happens (holds end k) w v = (hold_fault end w ≡ None) × (v ≡ hold end k w)
Happens turns w v = v ≡ turn w

-- so do events, one after the other
abbrev pub Runs : List Event → CableWorld → CableWorld → Type 0
Runs [] w v = v ≡ w
Runs (e ∷ events) w v = (u : CableWorld) × Happens e w u × Runs events u v

-- holds and turns, and no act
abbrev pub HasNoAct : List Event → Type 0
HasNoAct [] = Unit {0}
HasNoAct (acts a ∷ events) = ⊥
HasNoAct (holds end k ∷ events) = HasNoAct events
HasNoAct (turns ∷ events) = HasNoAct events

-- how many turns are among these events
abbrev pub turn_count : List Event → ℕ
turn_count [] = 0
turn_count (acts a ∷ events) = turn_count events
turn_count (holds end k ∷ events) = turn_count events
turn_count (turns ∷ events) = suc (turn_count events)
