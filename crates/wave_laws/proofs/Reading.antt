-- How a text is read line by line: what is told of a variable by texts that stand one behind the other.
use Rattle.std.proofs.Common.{◌≡◌, ℕ, zero, suc, ◌+◌, ◌/◌, ◌%◌, ◌<◌, ◌==◌, ◌&&◌, not, Bool, true, false, List, [], ◌∷◌, ◌++◌, length, Option, Some, None, cond, refl, sym, ◌∙◌, ap, subst, arith, append_assoc, append-nil}
use Rattle.std.specs.Prelude.{nat_lt, decimal}
use Rattle.std.specs.List.{slice_split, onto_first}
use Rattle.std.specs.Option.{option_or}
use Rattle.std.specs.Fmt.{digits, digits_onto, digit_glyph}
use Rattle.std.proofs.lemmas.List.Splits.{length-slice_split}
use Rattle.std.proofs.lemmas.Bool.Decides.{nat_tests}
use Rattle.wave_laws.specs.Reading.{last_told, last_in}

-- what a line tells, of a variable or of the time
abbrev pub Teller : Type 0
Teller = List ℕ → Option (List ℕ)

abbrev is_feed : ℕ → Bool
is_feed c = c == 10

-- ---- values, the later before the earlier

none-later : {A : Type 0} (o : Option A) → option_or o None ≡ o
none-later None = refl
none-later (Some x) = refl

later-later : {A : Type 0} (o p q : Option A) → option_or (option_or o p) q ≡ option_or o (option_or p q)
later-later None p q = refl
later-later (Some x) p q = refl

last-both : (c : Teller) (xs ys : List (List ℕ)) → last_told c (xs ++ ys) ≡ option_or (last_told c ys) (last_told c xs)
last-both c [] ys = sym (none-later (last_told c ys))
last-both c (x ∷ xs) ys =
    ap (λ o. option_or o (c x)) (last-both c xs ys) ∙ later-later (last_told c ys) (last_told c xs) (c x)

-- ---- lines

onto-both : (x : ℕ) (xs ys : List (List ℕ)) → 0 < length xs → onto_first x (xs ++ ys) ≡ onto_first x xs ++ ys
onto-both x [] ys h = absurd (omega arith)
onto-both x (part ∷ xs) ys h = refl

-- behind a line feed a new line begins
cut : (xs ys : List ℕ) → slice_split is_feed (xs ++ 10 ∷ ys) ≡ slice_split is_feed xs ++ slice_split is_feed ys
cut [] ys = refl
cut (x ∷ xs) ys =
    let some : 0 < length (slice_split is_feed xs) = omega (arith, length-slice_split is_feed xs) in
    go (is_feed x) (slice_split is_feed (xs ++ 10 ∷ ys)) (slice_split is_feed xs) (slice_split is_feed ys) some (cut xs ys)
  where
    go : (b : Bool) (all us vs : List (List ℕ)) → 0 < length us → all ≡ us ++ vs →
        cond b ([] ∷ all) (onto_first x all) ≡ cond b ([] ∷ us) (onto_first x us) ++ vs
    go true all us vs h e = ap (λ l. [] ∷ l) e
    go false all us vs h e = ap (onto_first x) e ∙ onto-both x us vs h

-- no line feed is in a text
abbrev pub is_flat : List ℕ → Bool
is_flat [] = true
is_flat (x ∷ xs) = not (x == 10) && is_flat xs

pub flat-both : (xs ys : List ℕ) → is_flat xs ≡ true → is_flat ys ≡ true → is_flat (xs ++ ys) ≡ true
flat-both [] ys h k = k
flat-both (x ∷ xs) ys h k = go (x == 10) (λ e. flat-both xs ys e k) h
  where
    go : (b : Bool) → (is_flat xs ≡ true → is_flat (xs ++ ys) ≡ true) → (not b && is_flat xs) ≡ true → (not b && is_flat (xs ++ ys)) ≡ true
    go true rest e = absurd cc
    go false rest e = rest e

one-line : (xs : List ℕ) → is_flat xs ≡ true → slice_split is_feed xs ≡ xs ∷ []
one-line [] h = refl
one-line (x ∷ xs) h = go (x == 10) (one-line xs) h
  where
    go : (b : Bool) → (is_flat xs ≡ true → slice_split is_feed xs ≡ xs ∷ []) → (not b && is_flat xs) ≡ true → cond b ([] ∷ slice_split is_feed xs) (onto_first x (slice_split is_feed xs)) ≡ (x ∷ xs) ∷ []
    go true rest e = absurd cc
    go false rest e = ap (onto_first x) (rest e)

-- ---- what a text tells

-- The text tells this, or nothing; what comes behind it, whatever it is, is later.
abbrev pub Tells : Teller → List ℕ → Option (List ℕ) → Type 0
Tells c text o = (more : List ℕ) → last_in c (text ++ more) ≡ option_or (last_in c more) o

-- an empty line tells nothing
pub told : (c : Teller) (text : List ℕ) (o : Option (List ℕ)) → c [] ≡ None → Tells c text o → last_in c text ≡ o
told c text o none h = sym (ap (last_in c) (append-nil text)) ∙ h [] ∙ ap (λ p. option_or p o) none

pub tells-nothing : (c : Teller) → Tells c [] None
tells-nothing c more = sym (none-later (last_in c more))

pub tells-both : (c : Teller) (s t : List ℕ) (o p : Option (List ℕ)) → Tells c s o → Tells c t p → Tells c (s ++ t) (option_or p o)
tells-both c s t o p x y more =
    ap (last_in c) (append_assoc s t more) ∙ x (t ++ more) ∙ ap (λ q. option_or q o) (y more) ∙ later-later (last_in c more) p o

pub tells-first : (c : Teller) (s t : List ℕ) (o : Option (List ℕ)) → Tells c s o → Tells c t None → Tells c (s ++ t) o
tells-first c s t o x y = tells-both c s t o None x y

pub tells-then : (c : Teller) (s t : List ℕ) (o : Option (List ℕ)) → Tells c s None → Tells c t o → Tells c (s ++ t) o
tells-then c s t o x y = subst (Tells c (s ++ t)) (none-later o) (tells-both c s t None o x y)

-- the last value stands, whatever was told before
pub tells-last : (c : Teller) (s t v : List ℕ) (o : Option (List ℕ)) → Tells c s o → Tells c t (Some v) → Tells c (s ++ t) (Some v)
tells-last c s t v o x y = tells-both c s t o (Some v) x y

-- any text that ends with a line feed tells something
pub tells-some : (c : Teller) (text : List ℕ) → Tells c (text ++ 10 ∷ []) (last_in c text)
tells-some c text more =
    ap (last_in c) (append_assoc text (10 ∷ []) more) ∙ ap (last_told c) (cut text more)
    ∙ last-both c (slice_split is_feed text) (slice_split is_feed more)

-- one line tells what it gives
pub tells-line : (c : Teller) (line : List ℕ) → is_flat line ≡ true → Tells c (line ++ 10 ∷ []) (c line)
tells-line c line h = subst (Tells c (line ++ 10 ∷ [])) (ap (last_told c) (one-line line h)) (tells-some c line)

-- ---- numbers

not-feed : (b d : ℕ) → (48 + d == 10) ≡ false
not-feed b d = grind (arith, nat_tests)

glyph-flat : (d : ℕ) → (digit_glyph false d == 10) ≡ false
glyph-flat d = go (nat_lt d 10)
  where
    go : (b : Bool) → (cond b (48 + d) (87 + d) == 10) ≡ false
    go true = grind (arith, nat_tests)
    go false = grind (arith, nat_tests)

onto-flat : (k n : ℕ) (acc : List ℕ) → is_flat acc ≡ true → is_flat (digits_onto k 10 false n acc) ≡ true
onto-flat zero n acc h = h
onto-flat (suc k) n acc h =
    let more : is_flat (digit_glyph false (n % 10) ∷ acc) ≡ true = rw (glyph-flat (n % 10)) h in
    go (n / 10 == 0) more (onto-flat k (n / 10) (digit_glyph false (n % 10) ∷ acc) more)
  where
    go : (b : Bool) → is_flat (digit_glyph false (n % 10) ∷ acc) ≡ true →
        is_flat (digits_onto k 10 false (n / 10) (digit_glyph false (n % 10) ∷ acc)) ≡ true →
        is_flat (cond b (digit_glyph false (n % 10) ∷ acc) (digits_onto k 10 false (n / 10) (digit_glyph false (n % 10) ∷ acc))) ≡ true
    go true x y = x
    go false x y = y

pub decimal-flat : (n : ℕ) → is_flat (decimal n) ≡ true
unfolding digits
decimal-flat n = onto-flat 64 n [] refl
