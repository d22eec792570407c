-- Rows of bytes.
use Rattle.std.specs.Prelude.{ℕ, List, map, min}

-- each byte of the row, or the limit where that is less
abbrev pub capped : List ℕ → ℕ → List ℕ
capped row limit = map (λ x. min x limit) row
