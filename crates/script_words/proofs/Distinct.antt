-- The keys of pairs, one after the other.
use Rattle.std.proofs.Common.{◌≡◌, ℕ, suc, ◌+◌, ◌-◌, ◌<◌, ◌≤◌, Bool, true, false, List, [], ◌∷◌, ◌++◌, length, take, drop, get_or, refl, sym, arith, append_assoc, length-drop}
use Rattle.std.specs.Prelude.{◌||◌}
use Rattle.std.proofs.Math.Seq.{drop-cons, take-suc}
use Rattle.script_words.specs.Pairs.{has_key, rival_word, distinct}

two : (words : List (List ℕ)) (n : ℕ) (key : List ℕ) → n + 1 < length words → key ≡ get_or words n key →
    drop n words ≡ key ∷ get_or words (suc n) key ∷ drop (n + 2) words
two words n key lt is =
    let f : n + 2 ≡ suc (suc n) = omega arith in
    let a : drop n words ≡ get_or words n key ∷ drop (suc n) words = drop-cons words n key (omega (arith, lt)) in
    let b : drop (suc n) words ≡ get_or words (suc n) key ∷ drop (suc (suc n)) words =
    drop-cons words (suc n) key (omega (arith, lt)) in
    let k : get_or words n key ≡ key = sym is in
    rw (f, a, b, k) refl

taken : (words : List (List ℕ)) (n : ℕ) (key : List ℕ) → n + 1 < length words → key ≡ get_or words n key →
    take (n + 2) words ≡ take n words ++ key ∷ get_or words (suc n) key ∷ []
taken words n key lt is =
    let f : n + 2 ≡ suc (suc n) = omega arith in
    let a : take (suc n) words ≡ take n words ++ (get_or words n key ∷ []) = take-suc words n key (omega (arith, lt)) in
    let b : take (suc (suc n)) words ≡ take (suc n) words ++ (get_or words (suc n) key ∷ []) =
    take-suc words (suc n) key (omega (arith, lt)) in
    let k : get_or words n key ≡ key = sym is in
    rw (f, b, a, k, append_assoc) refl

pub distinct_more : (words : List (List ℕ)) (n : ℕ) (key : List ℕ) → n + 1 < length words →
    key ≡ get_or words n key →
    (has_key key (take n words) || has_key (rival_word key) (take n words)) ≡ false →
    distinct (take n words) (drop n words) ≡ 2 + distinct (take (n + 2) words) (drop (n + 2) words)
distinct_more words n key lt is e = rw (taken words n key lt is, two words n key lt is, e) refl

pub distinct_stop : (words : List (List ℕ)) (n : ℕ) (key : List ℕ) → n + 1 < length words →
    key ≡ get_or words n key →
    (has_key key (take n words) || has_key (rival_word key) (take n words)) ≡ true →
    distinct (take n words) (drop n words) ≡ 0
distinct_stop words n key lt is e = rw (two words n key lt is, e) refl

short : (before words : List (List ℕ)) → length words ≤ 1 → distinct before words ≡ 0
short before [] h = refl
short before (key ∷ []) h = refl
short before (key ∷ value ∷ words) h = absurd (omega (arith, h))

pub distinct_end : (before words : List (List ℕ)) (n : ℕ) → length words ≤ n + 1 →
    distinct before (drop n words) ≡ 0
distinct_end before words n h = short before (drop n words) (omega (arith, h, length-drop n words))
