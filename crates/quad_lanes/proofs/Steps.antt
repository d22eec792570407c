-- How far a loop has come after one more block of n items.
use Rattle.std.proofs.Common.{◌≡◌, ℕ, ◌+◌, ◌-◌, ◌≤◌, List, ◌++◌, length, take, drop, ap, sym, ◌∙◌, append_assoc, refl}
use Rattle.std.proofs.Math.Seq.{take-add}
use Rattle.std.proofs.lemmas.List.{length-map, length-take-le, take_rest, take_at, map-append}
use Rattle.quad_lanes.specs.Rows.{capped}

-- two lists are the same up to the end of a block in which they are the same
pub same_step : {A : Type 0} (xs ys : List A) (at n : ℕ) → take at xs ≡ take at ys →
    take n (take (length xs - at) (drop at xs)) ≡ take n (take (length ys - at) (drop at ys)) →
    take (at + n) xs ≡ take (at + n) ys
same_step xs ys at n before block =
    let block' : take n (drop at xs) ≡ take n (drop at ys)
    = sym (ap (take n) (take_rest xs at)) ∙ block ∙ ap (take n) (take_rest ys at) in
    rw (take-add at n xs, take-add at n ys, before, block') refl

-- a row is written up to the end of a block that was written
pub capped_step : (to from block tail after : List ℕ) (at n limit : ℕ) → at + n ≤ length from →
    take at to ≡ capped (take at from) limit →
    block ≡ capped (take n (take (length from - at) (drop at from))) limit ++ tail →
    take (at + n) (take at to ++ (block ++ after)) ≡ capped (take (at + n) from) limit
capped_step to from block tail after at n limit room before written =
    let whole : capped (take (at + n) from) limit ≡ capped (take at from) limit ++ capped (take n (drop at from)) limit
    = ap (λ xs. capped xs limit) (take-add at n from) ∙ map-append _ (take at from) (take n (drop at from)) in
    let long : length (capped (take (at + n) from) limit) ≡ at + n = rw (length-map, length-take-le (at + n) from room) refl in
    let block' : block ≡ capped (take n (drop at from)) limit ++ tail = rw (take_rest from at) at written in
    let parts : take at to ++ (block ++ after) ≡ capped (take (at + n) from) limit ++ (tail ++ after)
    = rw (before, block', whole) (simp append_assoc refl) in
    rw parts (take_at _ _ (at + n) long)
