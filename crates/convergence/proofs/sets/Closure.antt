-- What no cable leads out of holds the component of each of its nodes. It is so for sets of any
-- kind, but then a
-- member is found only where the goal can be refuted.
use Rattle.std.proofs.Common.{◌≡◌, inl, inr, ◌↔◌, ℕ, zero, suc, ◌*◌, ◌%◌, ◌^◌, ◌<◌, ◌≤◌, bit_or, length, Some, sym, subst, arith}
use Rattle.std.proofs.lemmas.Bool.{cases_eq, cases_lt}
use Rattle.convergence.proofs.Common.{End, Wiring, far, Holds, IsComponent}
use Rattle.cabling.specs.Wiring.{IsCabling}
use Rattle.cabling.proofs.Lemmas.{none_of_zero, inserted-holds, inserted-others, plugged}

-- a set has the members of P below a number
abbrev pub IsPart : (ℕ → Type 0) → ℕ → ℕ → Type 0
IsPart P n s = (k : ℕ) → Holds s k ↔ ((k < n) × P k)

pub is-empty : (P : ℕ → Type 0) → IsPart P 0 0
is-empty P k = ((λ h. absurd (none_of_zero k h)), (λ h. absurd (omega (arith, h.0))))

-- the next number isn't a member
pub part-without : (P : ℕ → Type 0) (n s : ℕ) → IsPart P n s → (P n → ⊥) → IsPart P (suc n) s
part-without P n s is not-in k = (to, from)
  where
    to : Holds s k → (k < suc n) × P k
    to h = (omega (arith, ((is k).0 h).0), ((is k).0 h).1)

    from : (k < suc n) × P k → Holds s k
    from h = elim (cases_lt k n) [
      | inl less ↦ (is k).1 (less, h.1)
      | inr more ↦ let same : k ≡ n = omega (arith, more, h.0) in absurd (not-in (subst P same h.1))
    ]

-- it is one
pub part-with :
    (P : ℕ → Type 0) (n s : ℕ) → n < 64 → IsPart P n s → P n → IsPart P (suc n)
    (bit_or s (1 * 2 ^ n % 2 ^ 64))
part-with P n s small is there k = (to, from)
  where
    to : Holds (bit_or s (1 * 2 ^ n % 2 ^ 64)) k → (k < suc n) × P k
    to h = elim (cases_eq k n) [
      | inl same ↦ (omega (arith, same), subst P (sym same) there)
      | inr ne ↦ let old = (is k).0 ((inserted-others s n small k ne).0 h) in (omega (arith, old.0), old.1)
    ]

    from : (k < suc n) × P k → Holds (bit_or s (1 * 2 ^ n % 2 ^ 64)) k
    from h = elim (cases_eq k n) [
      | inl same ↦ subst (λ (i : ℕ). Holds (bit_or s (1 * 2 ^ n % 2 ^ 64)) i) (sym same) (inserted-holds s n small)
      | inr ne ↦ (inserted-others s n small k ne).1 ((is k).1 (omega (arith, h.0, ne), h.1))
    ]

some-part : (P : ℕ → Type 0) (n : ℕ) → n ≤ 63 → ((s : ℕ) → IsPart P n s → ⊥) → ⊥
some-part P zero small none = none 0 (is-empty P)
some-part P (suc n) small none = some-part P n (omega (arith, small)) (λ s is.
    let not-in : P n → ⊥ = λ there. none (bit_or s (1 * 2 ^ n % 2 ^ 64)) (part-with P n s (omega (arith, small)) is there) in
    none s (part-without P n s is not-in))

pub in-component :
    (c : Wiring) (node set : ℕ) (P : ℕ → Type 0) → IsCabling c → IsComponent c node set →
    node < length c → P node → ((a b : End) → far c a ≡ Some b → P a.node → P b.node) → (k : ℕ) →
    Holds set k → (P k → ⊥) → ⊥
in-component c node set P is comp there start closed k h none = some-part P (length c) is.few_nodes (λ s part.
    let in-s : Holds s k = comp.least s ((part node).1 (there, start)) (λ a b e at. (part b.node).1 ((plugged c b a (is.both_ways a b e)).node, closed a b e ((part a.node).0 at).1)) k h in
    none ((part k).0 in-s).1)
