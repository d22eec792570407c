-- What a node says of itself in its self-ID packets.
use Rattle.std.specs.Prelude.{◌≡◌, ℕ, zero, suc, ◌+◌, ◌%◌, ◌^◌, ◌<◌, ◌≤◌, Bool, false, ◌==◌, ◌||◌, if◌then◌else◌, IsTrue, List, [], ◌∷◌, length, refl}
use Rattle.self_id.specs.declared.node.Attrs.{Attrs}
use Rattle.self_id.specs.declared.node.PortStatus.{PortStatus}
use Rattle.self_id.specs.declared.node.PortStatus.TheVariants.{Absent, Unplugged, Up, Down}
use Rattle.self_id.specs.declared.standard.Standard.{Standard}
use Rattle.self_id.specs.declared.standard.Standard.TheVariants.{Ieee1995, Ieee2000}

-- attributes, the statuses of the slots by rising number, and the bits that its further packets
-- carry unread: kept_a those of packet n = 0, kept_b those of n = 1 and n = 2
pub record Node : Type 0 where
  pub attrs : Attrs
  pub ports : List PortStatus
  pub kept_a : ℕ
  pub kept_b : ℕ

abbrev pub node_with : Attrs → List PortStatus → ℕ → ℕ → Node
node_with attrs ports kept_a kept_b =
    record { attrs = attrs; ports = ports; kept_a = kept_a; kept_b = kept_b }

-- how many slots lead to the parent
abbrev pub ups : List PortStatus → ℕ
ups [] = 0
ups (Absent ∷ ps) = ups ps
ups (Unplugged ∷ ps) = ups ps
ups (Up ∷ ps) = ups ps + 1
ups (Down ∷ ps) = ups ps

-- how many slots lead to a child
abbrev pub downs : List PortStatus → ℕ
downs [] = 0
downs (Absent ∷ ps) = downs ps
downs (Unplugged ∷ ps) = downs ps
downs (Up ∷ ps) = downs ps
downs (Down ∷ ps) = downs ps + 1

-- attributes that fit their bits
pub record FitBits (a : Attrs) : Type 0 where
  pub gap : a.gap < 64
  pub speed : a.speed < 4
  pub delay : a.delay < 4
  pub power : a.power < 8

-- how many slots a node may show by a standard: in IEEE Std 1394-1995 packet zero has three, and up
-- to three further packets have eight each; in IEEE 1394a-2000 the second of two has five
abbrev pub is_width_of : Standard → ℕ → Bool
is_width_of Ieee1995 slots =
    (slots == 3) || ((slots == 11) || ((slots == 19) || (slots == 27)))
is_width_of Ieee2000 slots = (slots == 3) || ((slots == 11) || (slots == 16))

-- and by either
abbrev pub is_width : ℕ → Bool
is_width slots =
    (slots == 3) || ((slots == 11) || ((slots == 16) || ((slots == 19) || (slots == 27))))

-- how many bits are carried in kept_a and kept_b: none of a packet that isn't there
abbrev pub kept_a_bits : ℕ → ℕ
kept_a_bits slots = if slots == 3 then 0 else 3

abbrev pub kept_b_bits : ℕ → ℕ
kept_b_bits slots =
    if slots == 16 then 10 else (if (slots == 19) || (slots == 27) then 7 else 0)

-- how many of the last bits of kept_b are those of a packet n = 2 that isn't there
abbrev pub blank_b_bits : ℕ → ℕ
blank_b_bits slots = if slots == 19 then 4 else 0

-- a node that packets can show
pub record HasForm (n : Node) : Type 0 where
  pub attrs : FitBits n.attrs
  pub width : IsTrue (is_width (length n.ports))
  pub kept_a : n.kept_a < 2 ^ kept_a_bits (length n.ports)
  pub kept_b : n.kept_b < 2 ^ kept_b_bits (length n.ports)
  pub blank_b : n.kept_b % 2 ^ blank_b_bits (length n.ports) ≡ 0

-- three absent slots, and nothing else
abbrev pub blank : Node
blank = node_with
    (record { link = false; gap = 0; speed = 0; delay = 0; contender = false; power = 0; initiated = false })
    (Absent ∷ Absent ∷ Absent ∷ []) 0 0

-- and that has one parent at most
pub record IsNode (n : Node) : Type 0 where
  pub form : HasForm n
  pub one_parent : ups n.ports ≤ 1

-- its number of slots is one of this standard
abbrev pub IsOf : Standard → Node → Type 0
IsOf standard n = IsTrue (is_width_of standard (length n.ports))

-- the two bits of a port status
abbrev pub status_bits : PortStatus → ℕ
status_bits Absent = 0
status_bits Unplugged = 1
status_bits Up = 2
status_bits Down = 3

abbrev pub status_of : ℕ → PortStatus
status_of zero = Absent
status_of (suc zero) = Unplugged
status_of (suc (suc zero)) = Up
status_of (suc (suc (suc n))) = Down

pub status_of-status_bits : (p : PortStatus) → status_of (status_bits p) ≡ p
status_of-status_bits Absent = refl
status_of-status_bits Unplugged = refl
status_of-status_bits Up = refl
status_of-status_bits Down = refl
