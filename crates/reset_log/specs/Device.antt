-- The texts of a card: its number, or the name of its device, `0000:05:00.0`.
use Rattle.std.specs.Prelude.{ℕ, ◌-◌, ◌/◌, ◌%◌, nat_lt, List, ◌∷◌, ◌++◌, if◌then◌else◌}
use Rattle.topology_stack.specs.Hex.{hex}
use Rattle.view_text.specs.Packet.{field}

-- with how many digits a domain is written: 4 at least
abbrev pub domain_digits : ℕ → ℕ
domain_digits n =
    if nat_lt n 65536 then 4
    else (if nat_lt n 1048576 then 5
    else (if nat_lt n 16777216 then 6
    else (if nat_lt n 268435456 then 7 else 8)))

-- domain, bus, slot and function of a device
unfoldable pub device_text : ℕ → List ℕ
device_text n =
    let domain = n / 16777216 % 4294967296 in
    hex (domain_digits domain) domain
    ++ 58 ∷ (hex 2 (n / 65536 % 256) ++ 58 ∷ (hex 2 (n / 256 % 256) ++ 46 ∷ hex 1 (n % 256)))

-- a card behind a word
abbrev pub card_field : List ℕ → ℕ → List ℕ
card_field word card =
    if nat_lt card 4294967296 then field word card
    else word ++ device_text (card - 4294967296)
