-- Digits as the reader goes over them.
use Rattle.std.specs.Prelude.{ℕ, ◌+◌, ◌*◌, ◌^◌, nat_lt, List, [], ◌∷◌, Option, Some, None, if◌then◌else◌}
use Rattle.std.specs.Char.{digit_value}

-- the number of digits behind those that spell n, where it stays below 2 ^ 32
abbrev pub digits_from : ℕ → ℕ → List ℕ → Option ℕ
digits_from base n [] = Some n
digits_from base n (c ∷ cs) =
    if nat_lt (digit_value c) base then
    (if nat_lt (n * base + digit_value c) (2 ^ 32) then
    digits_from base (n * base + digit_value c) cs else None) else None
