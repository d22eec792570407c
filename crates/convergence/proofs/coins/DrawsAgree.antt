-- The draws of two ends that know of each other's coins.
use Rattle.std.proofs.Common.{List, ◌≡◌, ◌≢◌, inl, inr, ℕ, ◌+◌, ◌^◌, ◌<◌, ◌≤◌, Bool, true, false, bit_or, refl, sym, ◌∙◌, ap, arith, if◌then◌else◌}
use Rattle.std.specs.Prelude.{min, nat_lt}
use Rattle.std.specs.Int.{bit_at, w64}
use Rattle.std.proofs.lemmas.Nat.{one_shl}
use Rattle.std.proofs.lemmas.Nat.Bits.{bit_at_set_other}
use Rattle.port_state.specs.Clock.{Clock}
use Rattle.convergence.proofs.Common.{NodeState, draws_with, Travelling, last_coin, AddsDraw, DrewTogether, KnowsCoins, DrawsAgree, AreApart, AreRivals}
use Rattle.convergence.specs.Rivals.{HasWon}

-- one more coin leaves the draws before it alone
draws-with-before : (c : Bool) (n f j : ℕ) → j < n → bit_at (draws_with c n f) j ≡ bit_at f j
draws-with-before false n f j h = refl
draws-with-before true n f j h = go (nat_lt n 32) refl
  where
    go : (b : Bool) → nat_lt n 32 ≡ b → bit_at (if b then bit_or f (2 ^ n) else f) j ≡ bit_at f j
    go false e = refl
    go true e =
        let small : n < 64 = grind (arith, e) in
        let ne : j ≢ n = λ same. omega (arith, h, same) in
        ap (λ m. bit_at (bit_or f m) j) (sym (one_shl n 64 small)) ∙ bit_at_set_other w64 f n small j ne

min-under : (j n k : ℕ) → k ≡ min (n + 1) 65535 → j + 1 < k → j < n
min-under j n k e h = grind (arith, e, h)

pub together-agree : (x y : NodeState) → DrewTogether x y → DrawsAgree x y
together-agree x y t j small a b =
    ap (λ f. bit_at f j) t.here.coins
    ∙ draws-with-before (last_coin x) t.draws t.first j (min-under j t.draws x.view.draws t.here.count a)
    ∙ sym (draws-with-before (last_coin y) t.draws t.first j (min-under j t.draws y.view.draws t.there.count b))
    ∙ sym (ap (λ f. bit_at f j) t.there.coins)

pub ahead-agree :
    (x y : NodeState) → AddsDraw y.view.draws y.view.first_draws x → DrawsAgree x y
ahead-agree x y t j small a b = ap (λ f. bit_at f j) t.coins ∙ draws-with-before (last_coin x) y.view.draws y.view.first_draws j (min-under j y.view.draws x.view.draws t.count a)

pub agree-round : (x y : NodeState) → DrawsAgree x y → DrawsAgree y x
agree-round x y h j small a b = sym (h j small b a)

pub won-agree : (x y : NodeState) → HasWon x y → DrawsAgree x y
won-agree x y h = elim h.drew [ inl a ↦ ahead-agree x y a | inr t ↦ together-agree x y t ]

apart-agree :
    (d : ℕ) (x : NodeState) (p : ℕ) (y : NodeState) (back : List Travelling) →
    AreApart d x p y back → DrawsAgree x y
apart-agree d x p y back a = elim a.how [ inl h ↦ ahead-agree x y h.drew | inr h ↦ together-agree x y h.drew ]

pub stand-agree :
    (d : ℕ) (x : NodeState) (c : Clock) (p : ℕ) (there : List Travelling) (y : NodeState) (e : Clock)
    (q : ℕ) (back : List Travelling) → AreRivals d x c p there y e q back → DrawsAgree x y
stand-agree d x c p there y e q back (inl a) = λ j small m n. ap (λ f. bit_at f j) a.drew.first_draws
stand-agree d x c p there y e q back (inr (inl m)) = together-agree x y m.drew
stand-agree d x c p there y e q back (inr (inr (inl a))) = apart-agree d x p y back a
stand-agree d x c p there y e q back (inr (inr (inr a))) = agree-round y x (apart-agree d y q x there a)

-- the counts differ by one at most
apart-close :
    (d : ℕ) (x : NodeState) (p : ℕ) (y : NodeState) (back : List Travelling) → KnowsCoins y →
    AreApart d x p y back → (x.view.draws ≤ y.view.draws + 1) × (y.view.draws ≤ x.view.draws + 1)
apart-close d x p y back k a = elim a.how [
  | inl h ↦ (ahead x.view.draws y.view.draws h.drew.count k.counts)
  | inr h ↦ (omega (arith, h.drew.here.count, h.drew.there.count), omega (arith, h.drew.here.count, h.drew.there.count))
]
  where
    ahead : (m n : ℕ) → m ≡ min (n + 1) 65535 → n ≤ 65535 → (m ≤ n + 1) × (n ≤ m + 1)
    ahead m n e h = (grind (arith, e, h), grind (arith, e, h))

pub stand-close :
    (d : ℕ) (x : NodeState) (c : Clock) (p : ℕ) (there : List Travelling) (y : NodeState) (e : Clock)
    (q : ℕ) (back : List Travelling) → KnowsCoins x → KnowsCoins y → AreRivals d x c p there y e q back →
    (x.view.draws ≤ y.view.draws + 1) × (y.view.draws ≤ x.view.draws + 1)
stand-close d x c p there y e q back k l (inl a) = (omega (arith, a.drew.draws), omega (arith, a.drew.draws))
stand-close d x c p there y e q back k l (inr (inl m)) = (omega (arith, m.drew.here.count, m.drew.there.count), omega (arith, m.drew.here.count, m.drew.there.count))
stand-close d x c p there y e q back k l (inr (inr (inl a))) = apart-close d x p y back l a
stand-close d x c p there y e q back k l (inr (inr (inr a))) = let z = apart-close d y q x there k a in (z.1, z.0)
