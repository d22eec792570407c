-- A node of a bus that a seed makes, word by word: one for the number of its ports, one a slot, and one for
-- its attributes.
use Rattle.std.specs.Prelude.{ℕ, zero, suc, ◌+◌, ◌-◌, ◌/◌, ◌%◌, ◌==◌, ◌&&◌, not, nat_lt, nat_le, min, Bool, false, if◌then◌else◌, List, [], ◌∷◌, ◌++◌, length}
use Rattle.rand_pcg.specs.Lcg.{Lcg}
use Rattle.self_id.specs.declared.node.Attrs.{Attrs}
use Rattle.self_id.specs.declared.node.PortStatus.{PortStatus}
use Rattle.self_id.specs.declared.node.PortStatus.TheVariants.{Absent, Unplugged, Up, Down}
use Rattle.self_id.specs.declared.standard.Standard.{Standard}
use Rattle.self_id.specs.declared.standard.Standard.TheVariants.{Ieee1995, Ieee2000}
use Rattle.self_id.specs.Node.{is_width, node_with, ups}
use Rattle.self_id.specs.Group.{group}
use Rattle.self_id.specs.Slots.{slot_count}
use Rattle.flawed_capture.specs.declared.node.Links.{Links}
use Rattle.flawed_capture.specs.Draws.{word, behind}

-- ---- slots

-- The status of the next slot, where so many of the node's ports are left, this one among them. A word is
-- taken modulo their number: the lowest remainders are children, the next one is the parent.
unfoldable pub status : ℕ → Links → ℕ → PortStatus
status left links w =
    if left == 0 then Absent
    else if nat_lt (w % left) links.down then Down
    else if links.up && (w % left == links.down) then Up
    else Unplugged

-- the links that are left behind a slot
abbrev pub without : PortStatus → Links → Links
without Absent links = links
without Unplugged links = links
without Up links = record links { up = false }
without Down links = record links { down = links.down - 1 }

-- slots, the links that none of them shows, and the generator behind them
pub record Slots : Type 0 where
  pub slots : List PortStatus
  pub links : Links
  pub words : Lcg

unfoldable pub with_slot : ℕ → Slots → Slots
with_slot left made = record {
  slots = made.slots ++ status left made.links (word made.words) ∷ [];
  links = without (status left made.links (word made.words)) made.links;
  words = behind made.words;
}

-- the first slots of a node with so many ports
abbrev pub first_slots : ℕ → Links → Lcg → ℕ → Slots
first_slots ports links g zero = record { slots = []; links = links; words = g }
first_slots ports links g (suc n) = with_slot (ports - n) (first_slots ports links g n)

-- the most slots that a node shows, and how many it shows with so many ports
abbrev pub most_slots : Standard → ℕ
most_slots Ieee1995 = 27
most_slots Ieee2000 = 16

abbrev pub width : Standard → ℕ → ℕ
width Ieee2000 ports = slot_count ports
width Ieee1995 ports =
    if nat_le ports 11 then slot_count ports else if nat_le ports 19 then 19 else 27

-- up to three ports beside those with a cable
abbrev pub ports_of : Standard → ℕ → Bool → ℕ → ℕ
ports_of standard children is_root w =
    min (children + (if is_root then 0 else 1) + w % 4) (most_slots standard)

abbrev pub slots_by : Standard → ℕ → Bool → ℕ → Lcg → Slots
slots_by standard children is_root ports g =
    first_slots ports (record { up = not is_root; down = children }) g (width standard ports)

unfoldable pub slots_of : Standard → ℕ → Bool → Lcg → Slots
slots_of standard children is_root g =
    slots_by standard children is_root (ports_of standard children is_root (word g)) (behind g)

-- ---- packets

abbrev pub attrs_by : ℕ → ℕ → Attrs
attrs_by gap w = record {
  link = w % 2 == 1;
  gap = gap;
  speed = w / 2 % 4;
  delay = 0;
  contender = w / 8 % 2 == 1;
  power = w / 16 % 8;
  initiated = w / 128 % 2 == 1;
}

-- the packets of a node, none if it is none that packets show
unfoldable pub shown : Attrs → List PortStatus → ℕ → List ℕ
shown attrs slots id =
    if is_width (length slots) && nat_le (ups slots) 1 then group (node_with attrs slots 0 0) id
    else []

unfoldable pub group_by : ℕ → ℕ → Slots → List ℕ
group_by gap id made = shown (attrs_by gap (word made.words)) made.slots id
