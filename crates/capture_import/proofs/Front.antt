-- What words spell that stand before others.
use Rattle.std.proofs.Common.{◌≡◌, ℕ, List, [], ◌∷◌, ◌++◌, Bool, true, false, ◌&&◌, length, refl, ap, sym, ◌∙◌, append_assoc, arith}
use Rattle.std.specs.Prelude.{if◌then◌else◌, filter}
use Rattle.line_words.specs.Words.{is_some_text}
use Rattle.capture_import.specs.Words.{is_spelled, spelled, all_spelled, spelled_front}

-- each of the first words spells bytes
good : (xs ys : List (List ℕ)) → all_spelled xs ≡ true →
    spelled_front (xs ++ ys) ≡ spelled_front xs ++ spelled_front ys
good [] ys e = refl
good (x ∷ xs) ys e = go (is_spelled x) e (good xs ys)
  where
    go : (b : Bool) → (b && all_spelled xs) ≡ true
        → (all_spelled xs ≡ true → spelled_front (xs ++ ys) ≡ spelled_front xs ++ spelled_front ys)
        → (if b then spelled x ++ spelled_front (xs ++ ys) else [])
        ≡ (if b then spelled x ++ spelled_front xs else []) ++ spelled_front ys
    go true e rest = ap (λ (l : List ℕ). spelled x ++ l) (rest e) ∙ sym (append_assoc (spelled x) (spelled_front xs) (spelled_front ys))
    go false e rest = absurd cc

-- one of the first words spells none
bad : (xs ys : List (List ℕ)) → all_spelled xs ≡ false →
    spelled_front (xs ++ ys) ≡ spelled_front xs
bad [] ys e = absurd cc
bad (x ∷ xs) ys e = go (is_spelled x) e (bad xs ys)
  where
    go : (b : Bool) → (b && all_spelled xs) ≡ false
        → (all_spelled xs ≡ false → spelled_front (xs ++ ys) ≡ spelled_front xs)
        → (if b then spelled x ++ spelled_front (xs ++ ys) else [])
        ≡ (if b then spelled x ++ spelled_front xs else [])
    go true e rest = ap (λ (l : List ℕ). spelled x ++ l) (rest e)
    go false e rest = refl

both : (xs ys : List (List ℕ)) → all_spelled (xs ++ ys) ≡ (all_spelled xs && all_spelled ys)
both [] ys = refl
both (x ∷ xs) ys = go (is_spelled x) (both xs ys)
  where
    go : (b : Bool) → all_spelled (xs ++ ys) ≡ (all_spelled xs && all_spelled ys)
        → (b && all_spelled (xs ++ ys)) ≡ ((b && all_spelled xs) && all_spelled ys)
    go true rest = rest
    go false rest = refl

-- an empty part is no word
pub no_part : (part : List ℕ) → length part ≡ 0 → filter is_some_text (part ∷ []) ≡ []
no_part [] none = refl
no_part (c ∷ part) none = absurd (omega (arith, none))

-- a part was read, and more follow
pub went_on : (words first others : List (List ℕ)) (out new : List ℕ) → words ≡ first ++ others →
    all_spelled first ≡ true → new ≡ out ++ spelled_front first →
    new ++ spelled_front others ≡ out ++ spelled_front words
went_on words first others out new e fine more =
    rw (more, e, good first others fine) (append_assoc out (spelled_front first) (spelled_front others))

pub went_on_all : (words first others : List (List ℕ)) → words ≡ first ++ others →
    all_spelled first ≡ true → all_spelled others ≡ all_spelled words
went_on_all words first others e fine = rw (e, both first others, fine) refl

-- a part was the first that spells none
pub stopped : (words first others : List (List ℕ)) (out new : List ℕ) → words ≡ first ++ others →
    all_spelled first ≡ false → new ≡ out ++ spelled_front first → new ≡ out ++ spelled_front words
stopped words first others out new e fails more = rw (e, bad first others fails) more

pub stopped_all : (words first others : List (List ℕ)) → words ≡ first ++ others →
    all_spelled first ≡ false → all_spelled words ≡ false
stopped_all words first others e fails = rw (e, both first others, fails) refl
