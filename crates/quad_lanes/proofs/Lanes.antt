-- What vectors of quadlets and of bytes say of the lists that they hold.
use Rattle.std.proofs.Common.{◌≡◌, ℕ, ◌-◌, ◌%◌, ◌^◌, ◌≤◌, Bool, not, cond, List, [], ◌∷◌, ◌++◌, length, take, drop, refl, ap, map, arith, w32, nat_eq, lit≤, ◌∙◌, replicate, nat_lt, zero, suc, ◌↔◌, IsTrue, ◌==◌, w8}
use Rattle.std.specs.Simd.Lanes.{zip2, pick_l, mask_l, top, sel_l, put_chunk}
use Rattle.std.proofs.lemmas.Simd.{tops_compared, mask_l-mod, zip2_splat, put_chunk_is, length-zip2}
use Rattle.std.proofs.lemmas.Bool.{eqb-true}
use Rattle.std.proofs.lemmas.List.{length-map, length-take-le}
use Rattle.quad_lanes.specs.Pairs.{pairs, is_bad, inverse}
use Rattle.quad_lanes.specs.Rows.{capped}

-- the lanes at even and at odd places of two vectors of 8
abbrev pub evens : List ℕ → List ℕ
evens xs = pick_l 0 (take 8 xs ++ take 8 (drop 8 xs)) (0 ∷ 2 ∷ 4 ∷ 6 ∷ 8 ∷ 10 ∷ 12 ∷ 14 ∷ [])

abbrev pub odds : List ℕ → List ℕ
odds xs = pick_l 0 (take 8 xs ++ take 8 (drop 8 xs)) (1 ∷ 3 ∷ 5 ∷ 7 ∷ 9 ∷ 11 ∷ 13 ∷ 15 ∷ [])

-- two lanes aren't equal
abbrev pub differ : ℕ → ℕ → Bool
differ a b = not (nat_eq a b)

-- an odd lane differs from the inverse of the even lane before it where that pair is bad
pub lanes_are_pairs : (xs : List ℕ) → 16 ≤ length xs →
    zip2 differ (odds xs) (map inverse (evens xs)) ≡ map is_bad (pairs (take 16 xs))
lanes_are_pairs (a ∷ b ∷ c ∷ d ∷ e ∷ f ∷ g ∷ h ∷ i ∷ j ∷ k ∷ l ∷ m ∷ n ∷ o ∷ p ∷ xs) room = refl
lanes_are_pairs _ room = absurd (omega (arith, room))

-- 16 quadlets are 8 pairs
pub length-pairs_16 : (xs : List ℕ) → 16 ≤ length xs → length (pairs (take 16 xs)) ≡ 8
length-pairs_16 (a ∷ b ∷ c ∷ d ∷ e ∷ f ∷ g ∷ h ∷ i ∷ j ∷ k ∷ l ∷ m ∷ n ∷ o ∷ p ∷ xs) room = refl
length-pairs_16 _ room = absurd (omega (arith, room))

-- so the mask of those comparisons shows the bad pairs
pub mask_of_pairs : (xs : List ℕ) → 16 ≤ length xs →
    mask_l (map (top 31) (zip2 (λ a b. cond (differ a b) (2 ^ 32 - 1) 0) (odds xs) (map inverse (evens xs)))) % 2 ^ 64 ≡ mask_l (map is_bad (pairs (take 16 xs)))
mask_of_pairs xs room =
    ap (λ ms. mask_l ms % 2 ^ 64) (tops_compared w32 differ (odds xs) (map inverse (evens xs)) ∙ lanes_are_pairs xs room)
    ∙ mask_l-mod _ 64 (rw (length-map, length-pairs_16) (lit≤ tt))

-- choosing each lane that is below the limit, and else the limit
chosen_below : (limit n : ℕ) (xs : List ℕ) → length xs ≡ n →
    sel_l (map (λ x. nat_lt x limit) xs) xs (replicate n limit) ≡ capped xs limit
chosen_below limit zero [] long = refl
chosen_below limit zero (x ∷ xs) long = absurd (omega (arith, long))
chosen_below limit (suc n) [] long = absurd (omega (arith, long))
chosen_below limit (suc n) (x ∷ xs) long =
    let rest : length xs ≡ n = omega (arith, long) in
    grind (arith, chosen_below limit n xs rest)

-- the lesser of each of 64 lanes and the limit, stored at the front
pub min_stored : (to from : List ℕ) (limit : ℕ) → 64 ≤ length to → 64 ≤ length from →
    put_chunk 0 to (sel_l (map (top 7) (zip2 (λ a b. cond (nat_lt a b) (2 ^ 8 - 1) 0) (take 64 from) (replicate 64 limit))) (take 64 from) (replicate 64 limit)) ≡ capped (take 64 from) limit ++ drop 64 to
min_stored to from limit room_to room_from =
    let lanes : length (take 64 from) ≡ 64 = length-take-le 64 from room_from in
    let chosen : sel_l (map (top 7) (zip2 (λ a b. cond (nat_lt a b) (2 ^ 8 - 1) 0) (take 64 from) (replicate 64 limit))) (take 64 from) (replicate 64 limit) ≡ capped (take 64 from) limit
    = ap (λ ms. sel_l ms (take 64 from) (replicate 64 limit)) (tops_compared w8 nat_lt (take 64 from) (replicate 64 limit) ∙ zip2_splat nat_lt (take 64 from) 64 limit lanes) ∙ chosen_below limit 64 (take 64 from) lanes in
    let wide : length (capped (take 64 from) limit) ≡ 64 = rw (length-map, lanes) refl in
    ap (put_chunk 0 to) chosen ∙ (put_chunk_is 0 to (capped (take 64 from) limit) (rw wide (omega (arith, room_to))) ∙ rw wide refl)

-- where no lane differs the vectors are the same
same_lanes : (xs ys : List ℕ) → length xs ≡ length ys → mask_l (zip2 differ xs ys) ≡ 0 → xs ≡ ys
same_lanes [] [] long none = refl
same_lanes [] (y ∷ ys) long none = absurd (omega (arith, long))
same_lanes (x ∷ xs) [] long none = absurd (omega (arith, long))
same_lanes (x ∷ xs) (y ∷ ys) long none =
    let rest : length xs ≡ length ys = omega (arith, long) in
    grind (arith, none, same_lanes xs ys rest)

-- no lane differs from itself
no_lanes : (xs : List ℕ) → mask_l (zip2 differ xs xs) ≡ 0
no_lanes [] = refl
no_lanes (x ∷ xs) = grind (arith, no_lanes xs)

-- the mask of the lanes that differ is empty exactly where the vectors are the same
pub same_mask : (a b : List ℕ) → 16 ≤ length a → 16 ≤ length b →
    IsTrue ((mask_l (map (top 31) (zip2 (λ a b. cond (differ a b) (2 ^ 32 - 1) 0) (take 16 a) (take 16 b))) % 2 ^ 64) == 0) ↔ (take 16 a ≡ take 16 b)
same_mask a b room_a room_b =
    let wide_a : length (take 16 a) ≡ 16 = length-take-le 16 a room_a in
    let wide_b : length (take 16 b) ≡ 16 = length-take-le 16 b room_b in
    let same : length (take 16 a) ≡ length (take 16 b) = omega (arith, wide_a, wide_b) in
    let few : length (zip2 differ (take 16 a) (take 16 b)) ≤ 64 = rw (length-zip2 differ (take 16 a) (take 16 b) same, wide_a) (lit≤ tt) in
    let mask : mask_l (map (top 31) (zip2 (λ a b. cond (differ a b) (2 ^ 32 - 1) 0) (take 16 a) (take 16 b))) % 2 ^ 64 ≡ mask_l (zip2 differ (take 16 a) (take 16 b))
    = ap (λ ms. mask_l ms % 2 ^ 64) (tops_compared w32 differ (take 16 a) (take 16 b)) ∙ mask_l-mod _ 64 few in
    let none : IsTrue (mask_l (zip2 differ (take 16 a) (take 16 b)) == 0) ↔ (take 16 a ≡ take 16 b)
    = (λ is. same_lanes _ _ same (eqb-true _ _ is), λ e. rw e (rw no_lanes refl)) in
    rw mask none
