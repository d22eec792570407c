-- A number in hexadecimal digits.
use Rattle.std.specs.Prelude.{ℕ, zero, suc, ◌+◌, ◌*◌, ◌/◌, ◌%◌, ◌^◌, nat_lt, if◌then◌else◌, List, [], ◌∷◌}

-- a hexadecimal digit in lower case
abbrev pub hex_digit : ℕ → ℕ
hex_digit d = if nat_lt d 10 then 48 + d else 87 + d

-- the lowest so many hexadecimal digits of a number
abbrev pub hex : ℕ → ℕ → List ℕ
hex zero n = []
hex (suc digits) n = hex_digit (n / 2 ^ (4 * digits) % 16) ∷ hex digits n
