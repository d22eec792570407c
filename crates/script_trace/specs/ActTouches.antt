-- At which nodes something is new after an act.
use Rattle.std.specs.Prelude.{◌≡◌, ◌⊎◌, ◌<◌, IsSomeAnd, length}
use Rattle.cabling.specs.Wiring.{Wiring, far}
use Rattle.cabling.specs.NodeSet.{Nodes, Holds}
use Rattle.cable_world.specs.declared.act.Act.{Act}
use Rattle.cable_world.specs.declared.act.Act.TheVariants.{Plug, Pull, Reset, Config}
use Rattle.cable_world.specs.World.{CableWorld, NodeNumber}
use Rattle.cable_world.specs.Act.{Acted}
use Rattle.cable_world.specs.Lawful.{IsLawful}
use Rattle.script_trace.specs.News.{IsNewWithin}
use Rattle.script_trace.specs.Step.{seen_before_act}

-- where these are the cables, the act may do something at this node
abbrev pub MayTouch : Act → Wiring → NodeNumber → Type 0
MayTouch (Plug a b) c k = (k ≡ a.node) ⊎ (k ≡ b.node)
MayTouch (Pull a) c k = (k ≡ a.node) ⊎ IsSomeAnd (far c a) (λ b. k ≡ b.node)
MayTouch (Reset node) c k = k ≡ node
MayTouch (Config from root_id force gap) c k = Unit {0}

-- the set has each node at which it may
abbrev pub TakesTouched : Act → Wiring → Nodes → Type 0
TakesTouched a c set = (k : NodeNumber) → k < length c → MayTouch a c k → Holds set k

-- where these are the cables, and the act isn't refused: at nodes of the set alone
abbrev pub TouchesAtMost : Act → Wiring → Nodes → Type 0
TouchesAtMost a c set =
    (w v : CableWorld) → w.cabling ≡ c → Acted a w v → IsLawful w →
    IsNewWithin set (seen_before_act w 0 w.nodes) v
