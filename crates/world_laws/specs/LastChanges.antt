-- For each node, when its list last changed: after a turn or an act it is now, exactly where the list
-- isn't what it was.
use Rattle.std.specs.Prelude.{◌≡◌, ◌≢◌, ℕ, ◌+◌, Some, slice_get}
use Rattle.port_state.specs.Machine.{PortNode}
use Rattle.cable_world.specs.declared.act.Act.{Act}
use Rattle.cable_world.specs.World.{CableWorld, NodeNumber}
use Rattle.cable_world.specs.Turn.{turn}
use Rattle.cable_world.specs.Act.{ActLeads}

-- a node whose list changed before, or at the time now
pub record NotesChange (now : ℕ) (w v : CableWorld) (k : NodeNumber) (x y : PortNode) : Type 0 where
  pub same : x.state.list.items ≡ y.state.list.items → slice_get v.changed k ≡ slice_get w.changed k
  pub other : x.state.list.items ≢ y.state.list.items → slice_get v.changed k ≡ Some now

-- it is so of each node that both worlds have, where the first tells a time for it
abbrev pub NoteChanges : ℕ → CableWorld → CableWorld → Type 0
NoteChanges now w v =
    (k : NodeNumber) (x y : PortNode) (c : ℕ) → slice_get w.nodes k ≡ Some x →
    slice_get v.nodes k ≡ Some y → slice_get w.changed k ≡ Some c → NotesChange now w v k x y

-- ---- laws

-- the turns done, with this one
abbrev pub TurnsNoteChanges : Type 0
TurnsNoteChanges = (w : CableWorld) → NoteChanges (w.turns + 1) w (turn w)

-- the turns done
abbrev pub ActsNoteChanges : Type 0
ActsNoteChanges = (a : Act) (w v : CableWorld) → ActLeads a w v → NoteChanges w.turns w v
