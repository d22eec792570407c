-- Facts of each port, where ports are changed.
use Rattle.std.proofs.Common.{◌≡◌, ℕ, zero, suc, ◌+◌, ◌<◌, Bool, true, false, List, [], ◌∷◌, length, drop, map, Option, Some, None, slice_get, slice_set, cond, refl, subst, sym, ◌∙◌, ap, arith, length-set}
use Rattle.std.specs.List.{position_from}
use Rattle.std.proofs.lemmas.List.{drop_more}
use Rattle.std.proofs.lemmas.Option.{slice_get_within, get_or_from_slice_get}
use Rattle.std.specs.Option.{ForSome}
use Rattle.port_state.specs.declared.ports.PortView.{PortView}
use Rattle.port_state.specs.Ports.{passes, port_is, change_port_at, change_port}
use Rattle.port_state.specs.Valid.{EachPort}

pub each-map :
    (P Q : ℕ → PortView → Type 0) (f : PortView → PortView) →
    ((k : ℕ) (p : PortView) → P k p → Q k (f p)) → (ports : List PortView) → EachPort P ports →
    EachPort Q (map f ports)
each-map P Q f h [] e k p at = absurd cc
each-map P Q f h (x ∷ xs) e zero p at = let same : f x ≡ p = cc in let R : PortView → Type 0 = λ r. Q zero r in subst R same (h zero x (e zero x refl))
each-map P Q f h (x ∷ xs) e (suc k) p at = each-map (λ j. P (suc j)) (λ j. Q (suc j)) f (λ j. h (suc j)) xs (λ j. e (suc j)) k p at

each-set :
    (P Q : ℕ → PortView → Type 0) (n : ℕ) (r : PortView) → Q n r →
    ((j : ℕ) (p : PortView) → (j ≡ n → ⊥) → P j p → Q j p) → (ports : List PortView) →
    EachPort P ports → EachPort Q (slice_set ports n r)
each-set P Q n r g h [] e k p at = absurd cc
each-set P Q zero r g h (x ∷ xs) e zero p at = let same : r ≡ p = cc in let R : PortView → Type 0 = λ q. Q zero q in subst R same g
each-set P Q zero r g h (x ∷ xs) e (suc k) p at = h (suc k) p (λ i. omega arith) (e (suc k) p at)
each-set P Q (suc n) r g h (x ∷ xs) e zero p at = h zero p (λ i. omega arith) (e zero p at)
each-set P Q (suc n) r g h (x ∷ xs) e (suc k) p at = each-set (λ j. P (suc j)) (λ j. Q (suc j)) n r g (λ j q ne. h (suc j) q (λ i. ne (omega arith))) xs (λ j. e (suc j)) k p at

pub each-changed :
    (P Q : ℕ → PortView → Type 0) (n : ℕ) (f : PortView → PortView) →
    ((p : PortView) → P n p → Q n (f p)) → ((j : ℕ) (p : PortView) → (j ≡ n → ⊥) → P j p → Q j p) →
    (ports : List PortView) → EachPort P ports → EachPort Q (change_port n f ports)
each-changed P Q n f g h ports e = go (slice_get ports n) refl
  where
    go : (o : Option PortView) → slice_get ports n ≡ o → EachPort Q (change_port_at o n f ports)
    go None none = λ j p at. h j p (λ i. let there : slice_get ports n ≡ Some p = subst (λ m. slice_get ports m ≡ Some p) i at in cc) (e j p at)
    go (Some q) is = each-set P Q n (f q) (g q (e n q is)) h ports e

pub each-at :
    (P : ℕ → PortView → Type 0) (ports : List PortView) (k : ℕ) → k < length ports →
    EachPort P ports → (p : PortView) × (slice_get ports k ≡ Some p) × P k p
each-at P [] k h e = absurd (omega arith)
each-at P (x ∷ xs) zero h e = (x, refl, e zero x refl)
each-at P (x ∷ xs) (suc k) h e = each-at (λ j. P (suc j)) xs k (omega arith) (λ j. e (suc j))

pub length-changed :
    (n : ℕ) (f : PortView → PortView) (ports : List PortView) →
    length (change_port n f ports) ≡ length ports
length-changed n f ports = go (slice_get ports n)
  where
    go : (o : Option PortView) → length (change_port_at o n f ports) ≡ length ports
    go None = refl
    go (Some q) = length-set ports n (f q)

-- the ports from one on
pub ports-from :
    (ports : List PortView) (at : ℕ) (p : PortView) → slice_get ports at ≡ Some p →
    drop at ports ≡ p ∷ drop (at + 1) ports
ports-from ports at p e =
    drop_more ports at p (slice_get_within ports at p e)
    ∙ ap (λ q. q ∷ drop (at + 1) ports) (get_or_from_slice_get ports at p p e)

-- ---- tests of a port by its number

passes-implies :
    (t u : PortView → Bool) → ((p : PortView) → t p ≡ true → u p ≡ true) → (o : Option PortView) →
    passes t o ≡ true → passes u o ≡ true
passes-implies t u h None e = cc
passes-implies t u h (Some p) e = h p e

pub port_is-implies :
    (t u : PortView → Bool) → ((p : PortView) → t p ≡ true → u p ≡ true) →
    (ports : List PortView) (k : ℕ) → port_is t ports k ≡ true → port_is u ports k ≡ true
port_is-implies t u h ports k e = passes-implies t u h (slice_get ports k) e

pub port_is-map :
    (t : PortView → Bool) (f : PortView → PortView) → ((p : PortView) → t (f p) ≡ t p) →
    (ports : List PortView) (k : ℕ) → port_is t (map f ports) k ≡ port_is t ports k
port_is-map t f h [] k = refl
port_is-map t f h (x ∷ xs) zero = h x
port_is-map t f h (x ∷ xs) (suc k) = port_is-map t f h xs k

port_is-set :
    (t : PortView → Bool) (n : ℕ) (q r : PortView) → t r ≡ t q → (ports : List PortView) →
    slice_get ports n ≡ Some q → (k : ℕ) → port_is t (slice_set ports n r) k ≡ port_is t ports k
port_is-set t n q r h [] e k = refl
port_is-set t zero q r h (x ∷ xs) e zero = let same : x ≡ q = cc in h ∙ ap t (sym same)
port_is-set t zero q r h (x ∷ xs) e (suc k) = refl
port_is-set t (suc n) q r h (x ∷ xs) e zero = refl
port_is-set t (suc n) q r h (x ∷ xs) e (suc k) = port_is-set t n q r h xs e k

pub port_is-changed :
    (t : PortView → Bool) (n : ℕ) (f : PortView → PortView) → ((p : PortView) → t (f p) ≡ t p) →
    (ports : List PortView) (k : ℕ) → port_is t (change_port n f ports) k ≡ port_is t ports k
port_is-changed t n f h ports k = go (slice_get ports n) refl
  where
    go :
        (o : Option PortView) → slice_get ports n ≡ o →
        port_is t (change_port_at o n f ports) k ≡ port_is t ports k
    go None e = refl
    go (Some q) e = port_is-set t n q (f q) (h q) ports e k

-- the lowest port that passes a test is a port that passes it
found :
    (b : Bool) (k : ℕ) (o : Option ℕ) (Q : ℕ → Type 0) → (b ≡ true → Q k) → ForSome o Q →
    ForSome (cond b (Some k) o) Q
found true k o Q h r = λ p e. let same : k ≡ p = cc in subst Q same (h refl)
found false k o Q h r = r

pub lowest-passes :
    (t : PortView → Bool) (Q : ℕ → Type 0) (k : ℕ) (ports : List PortView) →
    ((j : ℕ) → port_is t ports j ≡ true → Q (k + j)) → ForSome (position_from t k ports) Q
lowest-passes t Q k [] h = λ p e. absurd cc
lowest-passes t Q k (x ∷ xs) h =
    found (t x) k (position_from t (k + 1) xs) Q (λ e. let z : k + 0 ≡ k = omega arith in subst Q z (h zero e))
    (lowest-passes t Q (k + 1) xs (λ j e. let z : k + suc j ≡ k + 1 + j = omega arith in subst Q z (h (suc j) e)))
