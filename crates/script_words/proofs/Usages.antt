-- The usages, one after the other.
use Rattle.std.proofs.Common.{◌≡◌, ℕ, zero, suc, ◌+◌, ◌<◌, ◌≤◌, Bool, true, false, List, [], ◌∷◌, ◌++◌, length, drop, get_or, refl, add-one, arith, append_assoc}
use Rattle.std.specs.Prelude.{nat_lt, if◌then◌else◌, codes}
use Rattle.std.proofs.Math.Seq.{drop-cons}
use Rattle.std.proofs.lemmas.Bool.Decides.{nat_tests}
use Rattle.script_lines.specs.Words.{words_of}
use Rattle.script_words.specs.Usage.{usages}
use Rattle.script_words.specs.Fit.{reach, right, furthest, first_of, all_of}
use Rattle.script_words.specs.Near.{is_near, nearest_of}
use Rattle.script_lines.specs.Form.{word_at}

-- behind the last element there is nothing
pub past : {X : Type 0} (xs : List X) (k : ℕ) → length xs ≤ k → drop k xs ≡ []
past [] zero h = refl
past [] (suc k) h = refl
past (x ∷ xs) zero h = absurd (omega (arith, h))
past (x ∷ xs) (suc k) h = past xs k (omega (arith, h))

-- no words fit further
pub reach_none : (us words : List (List ℕ)) (n : ℕ) → length words ≤ n → reach us (drop n words) ≡ 0
reach_none us words n h = rw (past words n h) (none us)
  where
    none : (us : List (List ℕ)) → reach us [] ≡ 0
    none [] = refl
    none (u ∷ us) = refl

pub right_none : (us words : List (List ℕ)) (n : ℕ) → length words ≤ n → right us (drop n words) ≡ 0
right_none us words n h = rw (past words n h) (none us)
  where
    none : (us : List (List ℕ)) → right us [] ≡ 0
    none [] = refl
    none (u ∷ us) = refl

-- ---- the usages

count : length usages ≡ 24
unfolding usages
count = refl

next : (number : ℕ) → number < 24 → drop number usages ≡ get_or usages number [] ∷ drop (number + 1) usages
next number lt = rw add-one (drop-cons usages number [] (omega (arith, count, lt)))

done : (number : ℕ) → 24 ≤ number → drop number usages ≡ []
done number h = past usages number (omega (arith, count, h))

pub further : (most number n : ℕ) (words : List (List ℕ)) → number < 24 →
    n ≡ reach (words_of (get_or usages number [])) words →
    furthest most words (drop number usages)
    ≡ furthest (if nat_lt most n then n else most) words (drop (number + 1) usages)
further most number n words lt e = rw (next number lt, e) refl

pub furthest_done : (most number : ℕ) (words : List (List ℕ)) → 24 ≤ number →
    furthest most words (drop number usages) ≡ most
furthest_done most number words h = rw (done number h) refl

pub first_hit : (n number : ℕ) (words : List (List ℕ)) → number < 24 →
    n ≡ reach (words_of (get_or usages number [])) words →
    first_of n words (drop number usages) ≡ get_or usages number []
first_hit n number words lt e = rw (next number lt) (grind (arith, nat_tests))

pub first_miss : (n m number : ℕ) (words : List (List ℕ)) → number < 24 →
    m ≡ reach (words_of (get_or usages number [])) words → (m ≡ n → ⊥) →
    first_of n words (drop number usages) ≡ first_of n words (drop (number + 1) usages)
first_miss n m number words lt e ne = rw (next number lt) (grind (arith, nat_tests))

pub first_done : (n number : ℕ) (words : List (List ℕ)) → 24 ≤ number →
    first_of n words (drop number usages) ≡ []
first_done n number words h = rw (done number h) refl

pub all_hit : (some : Bool) (n number : ℕ) (words : List (List ℕ)) → number < 24 →
    n ≡ reach (words_of (get_or usages number [])) words →
    all_of some n words (drop number usages)
    ≡ ((if some then codes " or " else []) ++ get_or usages number []) ++ all_of true n words (drop (number + 1) usages)
all_hit true n number words lt e = rw (next number lt, append_assoc) (grind (arith, nat_tests))
all_hit false n number words lt e = rw (next number lt) (grind (arith, nat_tests))

pub all_miss : (some : Bool) (n m number : ℕ) (words : List (List ℕ)) → number < 24 →
    m ≡ reach (words_of (get_or usages number [])) words → (m ≡ n → ⊥) →
    all_of some n words (drop number usages) ≡ all_of some n words (drop (number + 1) usages)
all_miss some n m number words lt e ne = rw (next number lt) (grind (arith, nat_tests))

pub all_done : (some : Bool) (n number : ℕ) (words : List (List ℕ)) → 24 ≤ number →
    all_of some n words (drop number usages) ≡ []
all_done some n number words h = rw (done number h) refl

pub near_hit : (number : ℕ) (word verb : List ℕ) → number < 24 →
    verb ≡ word_at (words_of (get_or usages number [])) 0 → is_near word verb ≡ true →
    nearest_of word (drop number usages) ≡ verb
near_hit number word verb lt e is = rw (next number lt) (grind (arith, e, is))

pub near_miss : (number : ℕ) (word verb : List ℕ) → number < 24 →
    verb ≡ word_at (words_of (get_or usages number [])) 0 → is_near word verb ≡ false →
    nearest_of word (drop number usages) ≡ nearest_of word (drop (number + 1) usages)
near_miss number word verb lt e is = rw (next number lt) (grind (arith, e, is))

pub near_done : (number : ℕ) (word : List ℕ) → 24 ≤ number → nearest_of word (drop number usages) ≡ []
near_done number word h = rw (done number h) refl

-- a text goes on behind what was written
pub goes_on : (out x rest y w : List ℕ) → w ≡ out ++ x → y ≡ x ++ rest → w ++ rest ≡ out ++ y
goes_on out x rest y w e f = rw (e, f, append_assoc out x rest) refl
