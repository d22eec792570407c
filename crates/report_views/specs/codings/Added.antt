-- A text with more behind it. No public contract cites this file.
use Rattle.std.specs.Prelude.{◌≡◌, ℕ, List, ◌++◌}

-- what stands behind a text is one of these
pub record IsAppended (old : List ℕ) (Is : List ℕ → Type 0) (new : List ℕ) : Type 0 where
  pub added : List ℕ
  pub told : Is added
  pub is : new ≡ old ++ added
