-- What a node shows of itself that was come to by a port, or by none: how the seen tree is written
-- as self-ID packets. No public contract cites this file.
use Rattle.std.specs.Prelude.{ℕ, ◌+◌, ◌-◌, if◌then◌else◌, Option, Some, None, List, [], ◌∷◌, ◌++◌, length, replicate}
use Rattle.self_id.specs.declared.node.PortStatus.{PortStatus}
use Rattle.self_id.specs.declared.node.PortStatus.TheVariants.{Absent, Unplugged, Up, Down}
use Rattle.self_id.specs.Node.{Node}
use Rattle.topology_stack.specs.Tree.{Label}
use Rattle.cabling.specs.declared.cable.End.{End}
use Rattle.cabling.specs.declared.visits.Visit.{Visit}
use Rattle.cabling.specs.Wiring.{Wiring, ports_of}
use Rattle.self_id.specs.Slots.{slot_count}
use Rattle.cabling.specs.codings.Visits.{is_from}

-- what a port shows of a node that was, or was not, come to by it
abbrev pub status : Option ℕ → ℕ → Option End → PortStatus
status from p None = Unplugged
status from p (Some far) = if is_from from p then Up else Down

-- what the ports from a number on show
abbrev pub statuses_from : Option ℕ → ℕ → List (Option End) → List PortStatus
statuses_from from p [] = []
statuses_from from p (port ∷ ports) = status from p port ∷ statuses_from from (p + 1) ports

-- the slots that a node shows: those of its ports, and absent ones after them
abbrev pub slots_of : Wiring → Visit → List PortStatus
slots_of c v =
    statuses_from v.from 0 ports ++ replicate (slot_count (length ports) - length ports) Absent
  where
    ports : List (Option End)
    ports = ports_of c v.node

abbrev pub shown_node : Wiring → (ℕ → Label) → Visit → Node
shown_node c label v = record {
  attrs = (label v.node).attrs;
  ports = slots_of c v;
  kept_a = (label v.node).kept_a;
  kept_b = (label v.node).kept_b;
}
