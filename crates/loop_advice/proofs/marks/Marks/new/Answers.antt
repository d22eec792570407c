use Rattle.std.proofs.Common.{◌≡◌, ℕ, ◌≤◌, inl, inr, false, get_or, arith, length}
use Rattle.std.proofs.lemmas.Bool.{cases_lt}
use Rattle.std.proofs.lemmas.List.{get_or-replicate, length-replicate}
use Rattle.std.proofs.Math.ListN.{replicate, get_or-eq_default}
use Rattle.loop_advice.specs.codings.Marks.{place}
use Rattle.loop_advice.proofs.marks.Marks.new.Goals as goal

clear : (n k : ℕ) → get_or (replicate n false) k false ≡ false
clear n k = elim (cases_lt k n) [
  | inl less ↦ get_or-replicate n k false false less
  | inr more ↦ get_or-eq_default (replicate n false) false (let l : length (replicate n false) ≤ k = omega (arith, length-replicate n false) in l)
]

pub returns : goal.returns
returns c end h = let no : get_or (replicate 1008 false) (place end) false ≡ false = clear 1008 (place end) in absurd cc
