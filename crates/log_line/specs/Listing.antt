-- The resets that the OHCI driver lists in its own log: `firewire_ohci 0000:05:00.0: 2 selfIDs, generation 3, local
-- node ID ffc1`, and then a line of each packet, `firewire_ohci 0000:05:00.0: selfID 0: 807f8094, phy 0 ..`.
use Rattle.std.specs.Prelude.{ℕ, ◌-◌, ◌&&◌, ◌||◌, Bool, List, [], ◌∷◌, length, take, drop, Option, Some, None, if◌then◌else◌, codes}
use Rattle.std.specs.Str.{bytes_eq}
use Rattle.log_line.specs.declared.line.LogLine.{LogLine}
use Rattle.log_line.specs.declared.line.LogLine.TheVariants.{Other, Begins, Packet}
use Rattle.line_words.specs.Digits.{of_digits}
use Rattle.log_line.specs.Device.{device_of}
use Rattle.log_line.specs.Local.{local_of}

-- what stands before a last comma
abbrev pub before_comma : List ℕ → Option (List ℕ)
before_comma text =
    if bytes_eq (drop (length text - 1) text) (codes ",") then Some (take (length text - 1) text)
    else None

abbrev pub digits_in : ℕ → ℕ → Option (List ℕ) → Option ℕ
digits_in base most None = None
digits_in base most (Some text) = of_digits base most text

-- `local node ID ffc1` behind the line of a reset, where it stands there
abbrev pub is_of_local : List ℕ → List ℕ → List ℕ → Bool
is_of_local a b c =
    bytes_eq a (codes "local") && (bytes_eq b (codes "node") && bytes_eq c (codes "ID"))

abbrev pub local_in : List (List ℕ) → Option ℕ
local_in (a ∷ b ∷ c ∷ d ∷ words) =
    if is_of_local a b c then local_of (of_digits 16 4 d) else None
local_in _ = None

abbrev pub begins : (time local card count generation : Option ℕ) → LogLine
begins time local (Some card) (Some count) (Some generation) =
    Begins (record { card = card; time = time; generation = generation; local = local; count = count })
begins time local _ _ _ = Other

abbrev pub packet : Option ℕ → Option ℕ → LogLine
packet (Some card) (Some quad) = Packet card quad
packet _ _ = Other

abbrev pub is_of_packet : List ℕ → List ℕ → Bool
is_of_packet a b = bytes_eq a (codes "selfID") && (bytes_eq b (codes "0:") || bytes_eq b (codes "n:"))

abbrev pub is_of_reset : List ℕ → List ℕ → Bool
is_of_reset b c = bytes_eq b (codes "selfIDs,") && bytes_eq c (codes "generation")

-- behind the driver's name: a device, and the line of a reset or of a packet
abbrev pub listed : Option ℕ → List (List ℕ) → LogLine
listed time (device ∷ a ∷ b ∷ c ∷ d ∷ words) =
    if is_of_packet a b then packet (device_of device) (digits_in 16 8 (before_comma c))
    else (if is_of_reset b c then
    begins time (local_in words) (device_of device) (of_digits 10 10 a) (digits_in 10 10 (before_comma d))
    else Other)
listed time _ = Other
