-- The number that digits spell.
use Rattle.std.specs.Prelude.{ℕ, ◌+◌, ◌*◌, ◌^◌, ◌&&◌, nat_lt, nat_le, Bool, List, length, fold, Option, Some, None, if◌then◌else◌}
use Rattle.std.specs.List.{list_all}
use Rattle.std.specs.Char.{digit_value}

-- each character is a digit of the base, of either case
abbrev pub are_digits : ℕ → List ℕ → Bool
are_digits base digits = list_all (λ c. nat_lt (digit_value c) base) digits

-- what digits spell in a base: each one makes what stands before it base times as large
abbrev pub value : ℕ → List ℕ → ℕ
value base digits = fold (λ n c. n * base + digit_value c) 0 digits

-- at least one digit and at most so many, where their number is below 2 ^ 32
unfoldable pub of_digits : ℕ → ℕ → List ℕ → Option ℕ
of_digits base most digits =
    if nat_lt 0 (length digits) && nat_le (length digits) most
    && (are_digits base digits && nat_lt (value base digits) (2 ^ 32)) then
    Some (value base digits) else None
