-- What a row holds after a part of it was written.
use Rattle.std.proofs.Common.{◌≡◌, ◌≢◌, ℕ, ◌+◌, ◌-◌, ◌*◌, ◌<◌, ◌≤◌, List, ◌++◌, length, min, get_or, take, drop, ap, ◌∙◌, ⊎_elim, arith, length-drop}
use borrow.Rule.Slice.PartMut.{put_mid}
use Rattle.std.proofs.lemmas.Bool.{cases_lt}
use Rattle.std.proofs.lemmas.List.{get_or_append_left, get_or-append_right, get_or-take, get_or-drop, get_or-map, length-take-le, length-map}
use Rattle.quad_lanes.specs.Rows.{capped}
use Rattle.speed_map.specs.codings.Sweep.{Written}

-- ---- a list with a part replaced

mid_below : (a k : ℕ) (xs ys : List ℕ) (i : ℕ) → i < a → a ≤ length xs →
    get_or (put_mid a k xs ys) i 0 ≡ get_or xs i 0
mid_below a k xs ys i lt le =
    let long : length (take a xs) ≡ a = length-take-le a xs le in
    get_or_append_left (take a xs) (ys ++ drop k (drop a xs)) 0 i (omega (arith, long, lt)) ∙ get_or-take a xs i 0 lt

mid_in : (a k : ℕ) (xs ys : List ℕ) (i j : ℕ) → i ≡ a + j → j < length ys → a ≤ length xs →
    get_or (put_mid a k xs ys) i 0 ≡ get_or ys j 0
mid_in a k xs ys i j at lt le =
    let long : length (take a xs) ≡ a = length-take-le a xs le in
    let back : i - a ≡ j = omega (arith, at) in
    get_or-append_right (take a xs) (ys ++ drop k (drop a xs)) a i 0 long (omega (arith, at))
    ∙ ap (λ (n : ℕ). get_or (ys ++ drop k (drop a xs)) n 0) back ∙ get_or_append_left ys (drop k (drop a xs)) 0 j lt

mid_above : (a k : ℕ) (xs ys : List ℕ) (i : ℕ) → a + k ≤ i → a ≤ length xs → length ys ≡ k →
    get_or (put_mid a k xs ys) i 0 ≡ get_or xs i 0
mid_above a k xs ys i ge le long =
    let front : length (take a xs) ≡ a = length-take-le a xs le in
    let at : a + (k + (i - a - k)) ≡ i = omega (arith, ge) in
    get_or-append_right (take a xs) (ys ++ drop k (drop a xs)) a i 0 front (omega (arith, ge))
    ∙ get_or-append_right ys (drop k (drop a xs)) k (i - a) 0 long (omega (arith, ge))
    ∙ get_or-drop k (drop a xs) (i - a - k) 0 ∙ get_or-drop a xs (k + (i - a - k)) 0 ∙ ap (λ (n : ℕ). get_or xs n 0) at

-- ---- a part of a row, written from another row

pub written : (rows row part : List ℕ) (of to low high limit : ℕ) → 64 * of + 64 ≤ length rows →
    64 * to + 64 ≤ length rows → low ≤ high → high ≤ 64 →
    row ≡ capped (take (64 * of + 64 - 64 * of) (drop (64 * of) rows)) limit → part ≡ take (high - low) (drop low row) →
    Written rows (put_mid (64 * to + low) (64 * to + high - (64 * to + low)) rows part) of to low high limit
written rows row part of to low high limit room_of room_to order small row_is part_is =
    let a = 64 * to + low in
    let k = 64 * to + high - (64 * to + low) in
    let src = take (64 * of + 64 - 64 * of) (drop (64 * of) rows) in
    let inside : a ≤ length rows = omega (arith, room_to, order, small) in
    let wide : length src ≡ 64 = length-take-le (64 * of + 64 - 64 * of) (drop (64 * of) rows) (omega (arith, length-drop (64 * of) rows, room_of)) ∙ (omega arith) in
    let row_long : length row ≡ 64 = ap length row_is ∙ (simp length-map wide) in
    let long : length part ≡ high - low = ap length part_is ∙ length-take-le (high - low) (drop low row) (omega (arith, length-drop low row, row_long, small)) in
    let as_long : length part ≡ k = long ∙ (omega (arith, order)) in
    record {
      part = λ (m : ℕ) (ge : low ≤ m) (lt : m < high).
          let at : low + (m - low) ≡ m = omega (arith, ge) in
          mid_in a k rows part (64 * to + m) (m - low) (omega (arith, ge)) (omega (arith, long, ge, lt)) inside
          ∙ ap (λ (l : List ℕ). get_or l (m - low) 0) part_is ∙ get_or-take (high - low) (drop low row) (m - low) 0 (omega (arith, ge, lt))
          ∙ get_or-drop low row (m - low) 0 ∙ ap (λ (n : ℕ). get_or row n 0) at
          ∙ ap (λ (l : List ℕ). get_or l m 0) row_is ∙ get_or-map (λ (x : ℕ). min x limit) src m 0 0 (omega (arith, wide, lt, small))
          ∙ ap (λ (x : ℕ). min x limit) (get_or-take (64 * of + 64 - 64 * of) (drop (64 * of) rows) m 0 (omega (arith, lt, small)) ∙ get_or-drop (64 * of) rows m 0);
      before = λ (m : ℕ) (lt : m < low). mid_below a k rows part (64 * to + m) (omega (arith, lt)) inside;
      behind = λ (m : ℕ) (ge : high ≤ m) (lt : m < 64). mid_above a k rows part (64 * to + m) (omega (arith, ge, order)) inside as_long;
      others = λ (n m : ℕ) (ne : n ≢ to) (lt : m < 64). ⊎_elim
          (λ (below : n < to). mid_below a k rows part (64 * n + m) (omega (arith, below, lt)) inside)
          (λ (ge : to ≤ n). mid_above a k rows part (64 * n + m) (omega (arith, ge, ne, order, small)) inside as_long)
          (cases_lt n to);
    }
