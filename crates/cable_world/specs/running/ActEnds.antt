-- What comes of an act over the parts of a world.
use Rattle.std.specs.Prelude.{◌≡◌, ◌<◌, ℕ, List, Result, Ok, Err, None, Some, map, length, slice_index_or}
use Rattle.cabling.specs.NodeSet.{Nodes, Holds}
use Rattle.cable_world.specs.declared.act.Act.{Act}
use Rattle.cable_world.specs.declared.act.ActStop.{ActStop}
use Rattle.cable_world.specs.declared.act.ActStop.TheVariants.{Fault, Memory}
use Rattle.port_state.specs.declared.timing.Timing.{Timing}
use Rattle.cable_world.specs.World.{CableWorld}
use Rattle.cable_world.specs.Act.{ActLeads, act_fault}

-- an act that isn't refused was done, and each row of wires is as long as before
pub record IsDone (act : Act) (w v : CableWorld) : Type 0 where
  pub accepted : act_fault act w ≡ None
  pub leads : ActLeads act w v
  pub rows : map length v.wires ≡ map length w.wires

-- Whatever the delay and the longest times, the act is done, or it is refused and `same` says that
-- nothing changed, or it isn't refused and there is no memory for it.
abbrev pub ActEnds :
    {A : Type 0} → Act → (ℕ → Timing → CableWorld) → (ℕ → Timing → CableWorld) → Type 0 →
    Result A ActStop → Type 0
ActEnds act w v same (Ok x) = (d : ℕ) (t : Timing) → IsDone act (w d t) (v d t)
ActEnds act w v same (Err (Fault f)) =
    same × ((d : ℕ) (t : Timing) → act_fault act (w d t) ≡ Some f)
ActEnds act w v same (Err (Memory e)) = (d : ℕ) (t : Timing) → act_fault act (w d t) ≡ None

-- the entries of a list, but for those of a set, are as they were
abbrev pub AreSameBut : {A : Type 0} → (ℕ → Type 0) → List A → List A → Type 0
AreSameBut {A} set old new =
    (k : ℕ) (d : A) → (set k → ⊥) → slice_index_or new k d ≡ slice_index_or old k d

-- an act touches no nodes, and no wires from nodes, but those of a set
pub record TouchesOnly {A B : Type 0} (set : Nodes) (old new : List A) (old_wires new_wires : List B) :
    Type 0 where
  pub near : (k : ℕ) → Holds set k → k < length old
  pub nodes : AreSameBut (Holds set) old new
  pub wires : AreSameBut (Holds set) old_wires new_wires
