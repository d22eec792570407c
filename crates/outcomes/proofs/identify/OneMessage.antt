-- How many Grants and Dones fit a port, the cable that one is on, and a search.
use Rattle.std.proofs.Common.{◌≡◌, ◌⊎◌, inl, inr, ℕ, zero, suc, ◌+◌, ◌<◌, ◌≤◌, Bool, true, false, not, ◌&&◌, List, [], ◌∷◌, Option, Some, None, is_some, refl, sym, ◌∙◌, ap, arith, true≢false, if◌then◌else◌}
use Rattle.std.proofs.lemmas.Bool.{cases_lt, and_parts}
use Rattle.outcomes.proofs.Common.{contrary, End, far, Signal, CableWorld, wire_of, signals_of, IsLawful, is_message, silent, Mode, allows, next, fits}
use Rattle.cable_world.specs.Wire.{Wire}
use Rattle.outcomes.specs.Holders.{how_many}
use Rattle.outcomes.proofs.identify.Messages.{IsKind, after-one}

-- ---- signals

module _
    {one : Signal} {test : Signal → Bool} {has : List Signal → Bool}
    (kind : IsKind one test has) where
  none-of : (ss : List Signal) → silent ss ≡ true → how_many test ss ≡ 0
  none-of [] h = refl
  none-of (s ∷ ss) h = go (test s) refl (none-of ss b.1)
    where
      b : (not (is_message s) ≡ true) × (silent ss ≡ true)
      b = and_parts (not (is_message s)) (silent ss) h

      go :
          (c : Bool) → test s ≡ c → how_many test ss ≡ 0 →
          (if c then how_many test ss + 1 else how_many test ss) ≡ 0
      go true e rest = contrary b.0 (ap not (kind.message s e))
      go false e rest = rest

  pub few-of : (m : Mode) (ss : List Signal) → fits m ss ≡ true → how_many test ss ≤ 1
  few-of m [] h = omega arith
  few-of m (s ∷ ss) h = go (test s) refl (few-of (next m s) ss b.1)
    where
      b : (allows m s ≡ true) × (fits (next m s) ss ≡ true)
      b = and_parts (allows m s) (fits (next m s) ss) h

      go :
          (c : Bool) → test s ≡ c → how_many test ss ≤ 1 →
          (if c then how_many test ss + 1 else how_many test ss) ≤ 1
      go true e rest = omega (arith, none-of ss (after-one kind m s ss e h))
      go false e rest = rest

  -- where one of it is under way there is a cable
  pub wired :
      (w : CableWorld) → IsLawful w → (a : End) → has (signals_of (wire_of w a).signals) ≡ true →
      (b : End) × (far w.cabling a ≡ Some b)
  wired w l a h = go (far w.cabling a) refl
    where
      go : (o : Option End) → far w.cabling a ≡ o → (b : End) × (far w.cabling a ≡ Some b)
      go (Some b) e = (b, e)
      go None e =
          let bare = ap (λ (u : Wire). has (signals_of u.signals)) (l.well_formed.unplugged a e) in
          contrary h (bare ∙ kind.empty)

-- ---- a search

pub found : (test : ℕ → Bool) (n : ℕ) →
    ((k : ℕ) → k < n → test k ≡ false) ⊎ ((k : ℕ) × (test k ≡ true))
found test zero = inl (λ k h. absurd (omega (arith, h)))
found test (suc n) = go (test n) refl (found test n)
  where
    go :
        (b : Bool) → test n ≡ b → ((k : ℕ) → k < n → test k ≡ false) ⊎ ((k : ℕ) × (test k ≡ true)) →
        ((k : ℕ) → k < suc n → test k ≡ false) ⊎ ((k : ℕ) × (test k ≡ true))
    go true e h = inr (n, e)
    go false e (inr h) = inr h
    go false e (inl h) = inl (λ k below. elim (cases_lt k n) [
      | inl less ↦ h k less
      | inr more ↦ let same : k ≡ n = omega (arith, below, more) in ap test same ∙ e
    ])

pub end-of : (o : Option End) → is_some o ≡ true → (b : End) × (o ≡ Some b)
end-of None h = absurd (true≢false (sym h))
end-of (Some b) h = (b, refl)

pub both-false : (a n : Bool) → (a ≡ true → ⊥) → (a && not n) ≡ false
both-false true n h = absurd (h refl)
both-false false n h = refl

pub two-parts : (a n : Bool) → (a && not n) ≡ true → (a ≡ true) × (n ≡ false)
two-parts true false h = (refl, refl)
two-parts true true h = absurd (true≢false (sym h))
two-parts false n h = absurd (true≢false (sym h))
