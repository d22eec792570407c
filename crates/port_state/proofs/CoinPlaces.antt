-- Which bit each of the given coins is.
use Rattle.std.proofs.Common.{◌≡◌, ℕ, zero, suc, ◌+◌, ◌<◌, ◌/◌, ◌%◌, ◌^◌, ◌==◌, Bool, true, false, refl, sym, ◌∙◌, ap, arith, if◌then◌else◌}
use Rattle.std.proofs.lemmas.Bool.{eqb-true, eqb-false}
use Rattle.std.proofs.Math.Nat.{add-mod_left, mod-eq_of_lt}
use Rattle.port_state.specs.Coins.{bits, coin_at, CoinsRepeat}

-- the bit at a place
abbrev bit_at : ℕ → ℕ → Bool
bit_at word place = word / 2 ^ place % 2 == 1

from :
    (word len k place : ℕ) → place < len →
    coin_at k (bits word len place) ≡ bit_at word ((place + k) % len)
from word len zero place h = let z : (place + 0) % len ≡ place = (let e : place + 0 ≡ place = omega arith in ap (λ n. n % len) e) ∙ mod-eq_of_lt h in ap (bit_at word) (sym z)
from word len (suc k) place h = go (place + 1 == len) refl (λ p l. from word len k p l)
  where
    go :
        (b : Bool) → (place + 1 == len) ≡ b →
        ((p : ℕ) → p < len → coin_at k (bits word len p) ≡ bit_at word ((p + k) % len)) →
        coin_at k (bits word len (if b then 0 else place + 1)) ≡ bit_at word ((place + suc k) % len)
    go true e rest =
        let whole : place + 1 ≡ len = eqb-true (place + 1) len e in
        let z : (place + suc k) % len ≡ (0 + k) % len =
        (let s : place + suc k ≡ len + k = omega arith in ap (λ n. n % len) s) ∙ add-mod_left len k ∙ (let s : k ≡ 0 + k = omega arith in ap (λ n. n % len) s) in
        rest 0 (omega arith) ∙ ap (bit_at word) (sym z)
    go false e rest =
        let z : (place + suc k) % len ≡ (place + 1 + k) % len = (let s : place + suc k ≡ place + 1 + k = omega arith in ap (λ n. n % len) s) in
        rest (place + 1) (let ne = eqb-false (place + 1) len e in omega (arith, ne)) ∙ ap (bit_at word) (sym z)

pub coin_at-given : CoinsRepeat
coin_at-given word len k h = from word len k 0 h ∙ (let s : 0 + k ≡ k = omega arith in ap (λ n. bit_at word (n % len)) s)
