-- For which list a reader stands that judges late. No public contract cites this file.
use Rattle.std.specs.Prelude.{◌≡◌, ℕ, List, Option, MatchOption}
use Rattle.topology_stack.specs.Reader.{Kept, StandsFor}

-- the quadlets, or what a reader of trees keeps of them once they are too many
pub record Late : Type 0 where
  pub quads : List ℕ
  pub longer : Option Kept

abbrev pub IsListOf : Late → List ℕ → Type 0
IsListOf late l = MatchOption late.longer (late.quads ≡ l) (λ reader. StandsFor reader l)
