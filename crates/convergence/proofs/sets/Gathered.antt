-- The numbers below n that pass a test: the set of them, and how many there are.
use Rattle.std.proofs.Common.{◌≡◌, ◌⊎◌, inl, inr, ℕ, zero, suc, ◌+◌, ◌*◌, ◌%◌, ◌^◌, ◌<◌, ◌≤◌, Bool, true, false, cond, bit_or, refl, sym, ◌∙◌, ap, arith, true≢false}
use Rattle.std.proofs.lemmas.Bool.{cases_eq}
use Rattle.convergence.proofs.Common.{contrary}
use Rattle.cabling.proofs.Lemmas.{inserted-small}
use Rattle.convergence.proofs.sets.Closure.{IsPart, is-empty, part-without, part-with}

-- ---- a set

-- the set of them
pub record Gathered (member : ℕ → Bool) (n : ℕ) : Type 0 where
  pub set : ℕ
  pub small : set < 2 ^ 63
  pub is : IsPart (λ k. member k ≡ true) n set

pub gathered : (member : ℕ → Bool) (n : ℕ) → n ≤ 63 → Gathered member n
gathered member zero h = record { set = 0; small = omega arith; is = is-empty (λ k. member k ≡ true) }
gathered member (suc n) h = go (member n) refl (gathered member n (omega (arith, h)))
  where
    go : (b : Bool) → member n ≡ b → Gathered member n → Gathered member (suc n)
    go true e g = record {
      set = bit_or g.set (1 * 2 ^ n % 2 ^ 64);
      small = inserted-small g.set n g.small (omega (arith, h));
      is = part-with (λ k. member k ≡ true) n g.set (omega (arith, h)) g.is e;
    }
    go false e g = record {
      set = g.set;
      small = g.small;
      is = part-without (λ k. member k ≡ true) n g.set g.is (λ f. contrary f e);
    }

-- ---- how many

abbrev pub count : (ℕ → Bool) → ℕ → ℕ
count member zero = 0
count member (suc n) = count member n + cond (member n) 1 0

pub count-most : (member : ℕ → Bool) (n : ℕ) → count member n ≤ n
count-most member zero = omega arith
count-most member (suc n) = omega (arith, count-most member n, one (member n))
  where
    one : (b : Bool) → cond b 1 0 ≤ 1
    one b = grind arith

module _ (f g : ℕ → Bool) (follows : (k : ℕ) → f k ≡ true → g k ≡ true) where
  one-le : (b c : Bool) → (b ≡ true → c ≡ true) → cond b 1 0 ≤ cond c 1 0
  one-le b c h = grind arith

  pub count-le : (n : ℕ) → count f n ≤ count g n
  count-le zero = omega arith
  count-le (suc n) = omega (arith, count-le n, one-le (f n) (g n) (follows n))

  -- where one number passes the second test alone, fewer pass the first
  pub count-less : (n j : ℕ) → j < n → f j ≡ false → g j ≡ true → count f n + 1 ≤ count g n
  count-less zero j h out inside = absurd (omega (arith, h))
  count-less (suc n) j h out inside = go (count-less n j)
    where
      last : (b c : Bool) → b ≡ false → c ≡ true → cond b 1 0 + 1 ≤ cond c 1 0
      last b c e d = grind arith

      go :
          (j < n → f j ≡ false → g j ≡ true → count f n + 1 ≤ count g n) → count f n + cond (f n)
          1 0 + 1 ≤ count g n + cond (g n) 1 0
      go before = elim (cases_eq j n) [
        | inl same ↦ omega (arith, count-le n, last (f n) (g n) (ap f (sym same) ∙ out) (ap g (sym same) ∙ inside))
        | inr ne ↦ omega (arith, before (omega (arith, h, ne)) out inside, one-le (f n) (g n) (follows n))
      ]

-- where there is one, they aren't none
pub count-some : (member : ℕ → Bool) (n k : ℕ) → k < n → member k ≡ true → 1 ≤ count member n
count-some member n k h e = omega (arith, count-less (λ j. false) member (λ j f. absurd (true≢false (sym f))) n k h refl e)

-- they are none, or there is one
pub count-found : (member : ℕ → Bool) (n : ℕ) → (count member n ≡ 0) ⊎ ((k : ℕ) × (member k ≡ true))
count-found member zero = inl refl
count-found member (suc n) = go (member n) refl (count-found member n)
  where
    go :
        (b : Bool) → member n ≡ b → (count member n ≡ 0) ⊎ ((k : ℕ) × (member k ≡ true)) →
        (count member n + cond b 1 0 ≡ 0) ⊎ ((k : ℕ) × (member k ≡ true))
    go true e f = inr (n, e)
    go false e (inl none) = inl (omega (arith, none))
    go false e (inr f) = inr f
