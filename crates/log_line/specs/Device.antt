-- A card as the drivers' own log names it: its device on the PCI bus, `0000:05:00.0`.
use Rattle.std.specs.Prelude.{ℕ, ◌+◌, ◌-◌, ◌*◌, ◌==◌, ◌&&◌, nat_le, List, length, take, drop, slice_index, Option, Some, None, if◌then◌else◌}
use Rattle.line_words.specs.Digits.{of_digits}

-- The number of a card is that of the events, below 2 ^ 32, or behind these the place of its device: domain,
-- bus, slot and function.
abbrev pub placed : Option ℕ → Option ℕ → Option ℕ → Option ℕ → Option ℕ
placed (Some domain) (Some bus) (Some slot) (Some function) =
    Some (4294967296 + (domain * 16777216 + (bus * 65536 + (slot * 256 + function))))
placed _ _ _ _ = None

-- a domain, and what stands behind it: `:05:00.0:`
abbrev pub placed_in : List ℕ → List ℕ → Option ℕ
placed_in domain place =
    if (slice_index place 0 == 58) && ((slice_index place 3 == 58) && ((slice_index place 6 == 46)
    && (slice_index place 8 == 58))) then
    placed (of_digits 16 8 domain) (of_digits 16 2 (take 2 (drop 1 place)))
    (of_digits 16 2 (take 2 (drop 4 place))) (of_digits 16 1 (take 1 (drop 7 place)))
    else None

-- `0000:05:00.0:`, with a domain of 4 to 8 digits
unfoldable pub device_of : List ℕ → Option ℕ
device_of word =
    if nat_le 13 (length word) && nat_le (length word) 17 then
    placed_in (take (length word - 9) word) (drop (length word - 9) word)
    else None
