-- A clock stored as numbers. No public contract cites this file.
use Rattle.std.specs.Prelude.{◌≡◌, ℕ, List, [], ◌∷◌, Option, Some, None, refl}
use Rattle.std.specs.Coded.{Coded, code_by, coded_ℕ, coded_list, coded_option, coded×}
use Rattle.port_state.specs.Clock.{Clock, even, slow, every}

-- how often it ticks before each turn that it misses; and then, where it misses turns again and again, the two
-- numbers of that
abbrev pub clock_parts : Clock → List ℕ × Option (ℕ × ℕ)
clock_parts even = ([], None)
clock_parts (slow k next) = (k ∷ (clock_parts next).0, (clock_parts next).1)
clock_parts (every gap k) = ([], Some (gap, k))

abbrev pub clock_from : List ℕ → Option (ℕ × ℕ) → Clock
clock_from [] None = even
clock_from [] (Some p) = every p.0 p.1
clock_from (k ∷ ks) last = slow k (clock_from ks last)

pub clock_from-parts : (c : Clock) → clock_from (clock_parts c).0 (clock_parts c).1 ≡ c
clock_from-parts even = refl
clock_from-parts (slow k next) = rw (clock_from-parts next) refl
clock_from-parts (every gap k) = refl

abbrev pub clock_code : Coded Clock
clock_code =
    code_by (List ℕ × Option (ℕ × ℕ))
    (coded× (coded_list coded_ℕ) (coded_option (coded× coded_ℕ coded_ℕ)))
    clock_parts (λ p. clock_from p.0 p.1) clock_from-parts
