-- The slack of a world is told by its nodes, one by one.
use Rattle.std.proofs.Common.{◌≡◌, ℕ, zero, suc, ◌+◌, ◌<◌, ◌≤◌, Bool, true, false, List, [], ◌∷◌, Some, length, slice_get, refl, sym, ◌∙◌, ap, subst, inl, inr, arith, if◌then◌else◌}
use Rattle.std.proofs.lemmas.Bool.{cases_lt}
use Rattle.std.proofs.lemmas.Option.{slice_get_within}
use Rattle.port_state.specs.Clock.{is_even}
use Rattle.port_state.specs.Machine.{PortNode}
use Rattle.cable_world.specs.World.{slack_of}
use Rattle.cable_world.proofs.Lemmas.{even-slack, some-same}

-- the first nodes, so many of them, have even clocks
abbrev pub AreEven : List PortNode → ℕ → Type 0
AreEven nodes count =
    (k : ℕ) (x : PortNode) → k < count → slice_get nodes k ≡ Some x → is_even x.clock ≡ true

pub none-even : (nodes : List PortNode) → AreEven nodes 0
none-even nodes k x less at = absurd (omega (arith, less))

-- one more
pub one-even :
    (nodes : List PortNode) (count : ℕ) (y : PortNode) → slice_get nodes count ≡ Some y → is_even y.clock ≡ true →
    AreEven nodes count → AreEven nodes (count + 1)
one-even nodes count y there even h k x less at = elim (cases_lt k count) [
  | inl few ↦ h k x few at
  | inr more ↦
      let same : count ≡ k = omega (arith, less, more) in
      let is : y ≡ x = some-same y x (sym there ∙ ap (slice_get nodes) same ∙ at) in
      ap (λ (z : PortNode). is_even z.clock) (sym is) ∙ even
]

-- all of them
pub all-even : (nodes : List PortNode) (count : ℕ) → length nodes ≤ count → AreEven nodes count → slack_of nodes ≡ 0
all-even nodes count long h =
    even-slack nodes (λ k x at. h k x (omega (arith, slice_get_within nodes k x at, long)) at)

-- a node whose clock isn't even
pub one-slow :
    (nodes : List PortNode) (k : ℕ) (x : PortNode) → slice_get nodes k ≡ Some x → is_even x.clock ≡ false →
    slack_of nodes ≡ 1
one-slow [] k x at slow = absurd cc
one-slow (n ∷ ns) zero x at slow =
    ap (λ b. if b then slack_of ns else 1) (ap (λ (z : PortNode). is_even z.clock) (some-same n x at) ∙ slow)
one-slow (n ∷ ns) (suc k) x at slow = go (is_even n.clock) (one-slow ns k x at slow)
  where
    go : (b : Bool) → slack_of ns ≡ 1 → (if b then slack_of ns else 1) ≡ 1
    go true h = h
    go false h = refl
