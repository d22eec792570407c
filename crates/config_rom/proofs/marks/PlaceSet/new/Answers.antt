use Rattle.std.proofs.Common.{◌≡◌, ◌≤◌, inl, inr, false, get_or}
use Rattle.std.proofs.lemmas.Bool.{cases_lt}
use Rattle.std.proofs.lemmas.List.{get_or-replicate, length-replicate}
use Rattle.std.proofs.Math.ListN.{get_or-eq_default, replicate}
use Rattle.std.proofs.Common.{ℕ, length, arith}
use Rattle.config_rom.proofs.marks.PlaceSet.new.Goals as goal

none_marked : (at : ℕ) → get_or (replicate 256 false) at false ≡ false
none_marked at = elim (cases_lt at 256) [
  | inl less ↦ get_or-replicate 256 at false false less
  | inr more ↦ let past : length (replicate 256 false) ≤ at = omega (arith, more, length-replicate 256 false) in get_or-eq_default (replicate 256 false) false past
]

pub returns : goal.returns
returns c = none_marked
