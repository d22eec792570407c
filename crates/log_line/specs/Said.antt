-- What the kernel's FireWire drivers say of a reset themselves: `firewire_core 0000:05:00.0: topology build failed`.
use Rattle.std.specs.Prelude.{ℕ, ◌-◌, ◌&&◌, ◌||◌, Bool, List, [], ◌∷◌, length, drop, Option, Some, None, if◌then◌else◌, codes}
use Rattle.std.specs.Str.{bytes_eq}
use Rattle.log_line.specs.Lists.{spaced}

-- a driver's name behind what /dev/kmsg has before it
abbrev pub is_record : List ℕ → Bool
is_record word =
    bytes_eq (drop (length word - 14) word) (codes ";firewire_core")
    || bytes_eq (drop (length word - 14) word) (codes ";firewire_ohci")

-- a driver's name: alone, behind what /dev/kmsg has before it, or behind the name of a journal's field
abbrev pub is_driver : List ℕ → Bool
is_driver word =
    bytes_eq word (codes "firewire_core") || bytes_eq word (codes "firewire_ohci") || is_record word
    || bytes_eq word (codes "MESSAGE=firewire_core") || bytes_eq word (codes "MESSAGE=firewire_ohci")

abbrev pub are_words : List ℕ → List ℕ → List ℕ → List ℕ → Bool
are_words a b first second = bytes_eq a first && bytes_eq b second

-- the first two words of what is said of a topology
abbrev pub is_of_topology : List ℕ → List ℕ → Bool
is_of_topology a b =
    are_words a b (codes "topology") (codes "build")
    || are_words a b (codes "topology") (codes "stack")
    || are_words a b (codes "inconsistent") (codes "extended")
    || are_words a b (codes "PHY") (codes "ID")
    || are_words a b (codes "parent") (codes "port")

-- and of packets that came or are sent
abbrev pub is_of_packets : List ℕ → List ℕ → Bool
is_of_packets a b =
    are_words a b (codes "bad") (codes "self")
    || are_words a b (codes "self") (codes "ID")
    || are_words a b (codes "new") (codes "bus")
    || are_words a b (codes "phy") (codes "config:")

-- what is said behind the driver's name: the device's name, and words of either kind
abbrev pub said_behind : List (List ℕ) → Option (List ℕ)
said_behind (device ∷ a ∷ b ∷ words) =
    if is_of_topology a b || is_of_packets a b then Some (spaced device (a ∷ b ∷ words)) else None
said_behind _ = None
