-- The port that a node has for its parent, as a number and as a test.
use Rattle.std.proofs.Common.{◌≡◌, ◌≢◌, ℕ, true, false, Option, Some, None, ap, refl, sym, ◌∙◌, eq-eqb, true≢false}
use Rattle.std.proofs.lemmas.Bool.{eqb-true, false_from_ne_true}
use Rattle.convergence.proofs.Common.{is_port}
use Rattle.cable_world.proofs.Lemmas.{port-is}

pub is-port : (o : Option ℕ) (k : ℕ) → o ≡ Some k → is_port o k ≡ true
is-port o k e = ap (λ q. is_port q k) e ∙ eq-eqb k k refl

pub port-is-not : (o : Option ℕ) (k : ℕ) → o ≢ Some k → is_port o k ≡ false
port-is-not o k ne = false_from_ne_true _ (λ e. ne (port-is o k e))

-- the same port twice
pub same-port : (o : Option ℕ) (p q : ℕ) → is_port o p ≡ true → is_port o q ≡ true → p ≡ q
same-port None p q h g = absurd (true≢false (sym h))
same-port (Some j) p q h g = sym (eqb-true j p h) ∙ eqb-true j q g
