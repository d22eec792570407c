-- How far a node is that identifies itself: whether it was asked, granted, is in A0 and was named;
-- and sums of that over nodes.
use Rattle.std.proofs.Common.{◌≡◌, ℕ, zero, suc, ◌+◌, ◌*◌, ◌≤◌, Bool, true, false, List, [], ◌∷◌, length, Option, Some, None, slice_get, refl, sym, ap, subst, arith}
use Rattle.phy_packet.specs.Layout.{bit}
use Rattle.std.proofs.lemmas.Bool.{false_from_ne_true}
use Rattle.outcomes.proofs.Common.{contrary, End, far, NodeState, PortNode, CableWorld, is_ready, is_asked, is_named, parent_now, end_at}

-- ---- counts

bit-le : (a b : Bool) → (a ≡ true → b ≡ true) → bit a ≤ bit b
bit-le false b h = omega arith
bit-le true b h = omega (arith, ap bit (h refl))

bit-less : (a b : Bool) → a ≡ false → b ≡ true → bit a + 1 ≤ bit b
bit-less a b e f = omega (arith, ap bit e, ap bit f)

bit-most : (a : Bool) → bit a ≤ 1
bit-most true = omega arith
bit-most false = omega arith

abbrev pub sum-over : (ℕ → ℕ) → List ℕ → ℕ
sum-over f [] = 0
sum-over f (k ∷ ks) = f k + sum-over f ks

pub sum-more :
    (f g : ℕ → ℕ) (ks : List ℕ) → ((i k : ℕ) → slice_get ks i ≡ Some k → f k ≤ g k) →
    sum-over f ks ≤ sum-over g ks
sum-more f g [] h = omega arith
sum-more f g (k ∷ ks) h = omega (arith, h zero k refl, sum-more f g ks (λ i j e. h (suc i) j e))

pub sum-strict :
    (f g : ℕ → ℕ) (ks : List ℕ) (i k : ℕ) → ((i k : ℕ) → slice_get ks i ≡ Some k → f k ≤ g k) →
    slice_get ks i ≡ Some k → f k + 1 ≤ g k → sum-over f ks + 1 ≤ sum-over g ks
sum-strict f g [] i k h e less = absurd cc
sum-strict f g (j ∷ ks) zero k h e less =
    let same : j ≡ k = cc in
    let here : f j + 1 ≤ g j = subst (λ (n : ℕ). f n + 1 ≤ g n) (sym same) less in
    omega (arith, here, sum-more f g ks (λ i n e. h (suc i) n e))
sum-strict f g (j ∷ ks) (suc i) k h e less =
    omega (arith, h zero j refl, sum-strict f g ks i k (λ i n e. h (suc i) n e) e less)

pub sum-most :
    (f : ℕ → ℕ) (most : ℕ) (ks : List ℕ) → ((k : ℕ) → f k ≤ most) → sum-over f ks ≤ most * length ks
sum-most f most [] h = omega arith
sum-most f most (k ∷ ks) h =
    let step : most * length (k ∷ ks) ≡ most + most * length ks = omega arith in
    omega (arith, h k, sum-most f most ks h, step)

-- ---- how far a node is

abbrev pub of-node : (NodeState → Bool) → Option PortNode → Bool
of-node f None = false
of-node f (Some x) = f x.state

-- the end to which a parent port leads
abbrev pub up-end : CableWorld → ℕ → Option ℕ → Option End
up-end w k None = None
up-end w k (Some p) = far w.cabling (end_at k p)

abbrev pub of-end : (NodeState → ℕ → Bool) → CableWorld → Option End → Bool
of-end f w None = false
of-end f w (Some e) = of-node (λ x. f x e.port) (slice_get w.nodes e.node)

abbrev pub was-granted : CableWorld → ℕ → Bool
was-granted w k = of-node (λ x. x.view.granted) (slice_get w.nodes k)

abbrev pub came-ready : CableWorld → ℕ → Bool
came-ready w k = of-node (λ x. is_ready x.view.phase) (slice_get w.nodes k)

abbrev pub was-asked : CableWorld → ℕ → Bool
was-asked w k = of-end is_asked w (up-end w k (parent_now w k))

abbrev pub was-named : CableWorld → ℕ → Bool
was-named w k = of-end is_named w (up-end w k (parent_now w k))

pub stage : CableWorld → ℕ → ℕ
stage w k =
    bit (was-granted w k) + (bit (came-ready w k) + (bit (was-asked w k) + bit (was-named w k)))

pub stage-most : (w : CableWorld) (k : ℕ) → stage w k ≤ 4
unfolding stage
stage-most w k =
    omega (
      arith,
      bit-most (was-granted w k),
      bit-most (came-ready w k),
      bit-most (was-asked w k),
      bit-most (was-named w k),
    )

-- it goes no way back
pub record Gains (w v : CableWorld) (k : ℕ) : Type 0 where
  pub granted : was-granted w k ≡ true → was-granted v k ≡ true
  pub ready : came-ready w k ≡ true → came-ready v k ≡ true
  pub asked : was-asked w k ≡ true → was-asked v k ≡ true
  pub named : was-named w k ≡ true → was-named v k ≡ true

pub gains-more : (u w v : CableWorld) (k : ℕ) → Gains u w k → Gains w v k → Gains u v k
gains-more u w v k g h = record {
  granted = λ e. h.granted (g.granted e);
  ready = λ e. h.ready (g.ready e);
  asked = λ e. h.asked (g.asked e);
  named = λ e. h.named (g.named e);
}

pub same-gains : (w : CableWorld) (k : ℕ) → Gains w w k
same-gains w k = record { granted = λ e. e; ready = λ e. e; asked = λ e. e; named = λ e. e }

pub stage-rises : (w v : CableWorld) (k : ℕ) → Gains w v k → stage w k ≤ stage v k
unfolding stage
stage-rises w v k g =
    omega (
      arith,
      bit-le (was-granted w k) (was-granted v k) g.granted,
      bit-le (came-ready w k) (came-ready v k) g.ready,
      bit-le (was-asked w k) (was-asked v k) g.asked,
      bit-le (was-named w k) (was-named v k) g.named,
    )

-- one of the four is new
pub data News (w v : CableWorld) (k : ℕ) : Type 0 where
  granting : was-granted w k ≡ false → was-granted v k ≡ true → News w v k
  coming : came-ready w k ≡ false → came-ready v k ≡ true → News w v k
  asking : was-asked w k ≡ false → was-asked v k ≡ true → News w v k
  naming : was-named w k ≡ false → was-named v k ≡ true → News w v k

pub stage-strict : (w v : CableWorld) (k : ℕ) → Gains w v k → News w v k → stage w k + 1 ≤ stage v k
unfolding stage
stage-strict w v k g (granting e f) =
    omega (
      arith,
      bit-less (was-granted w k) (was-granted v k) e f,
      bit-le (came-ready w k) (came-ready v k) g.ready,
      bit-le (was-asked w k) (was-asked v k) g.asked,
      bit-le (was-named w k) (was-named v k) g.named,
    )
stage-strict w v k g (coming e f) =
    omega (
      arith,
      bit-le (was-granted w k) (was-granted v k) g.granted,
      bit-less (came-ready w k) (came-ready v k) e f,
      bit-le (was-asked w k) (was-asked v k) g.asked,
      bit-le (was-named w k) (was-named v k) g.named,
    )
stage-strict w v k g (asking e f) =
    omega (
      arith,
      bit-le (was-granted w k) (was-granted v k) g.granted,
      bit-le (came-ready w k) (came-ready v k) g.ready,
      bit-less (was-asked w k) (was-asked v k) e f,
      bit-le (was-named w k) (was-named v k) g.named,
    )
stage-strict w v k g (naming e f) =
    omega (
      arith,
      bit-le (was-granted w k) (was-granted v k) g.granted,
      bit-le (came-ready w k) (came-ready v k) g.ready,
      bit-le (was-asked w k) (was-asked v k) g.asked,
      bit-less (was-named w k) (was-named v k) e f,
    )

-- what is new after a while is new from before
pub news-before : (u w v : CableWorld) (k : ℕ) → Gains u w k → News w v k → News u v k
news-before u w v k g (granting e f) = granting (false_from_ne_true _ (λ t. contrary (g.granted t) e)) f
news-before u w v k g (coming e f) = coming (false_from_ne_true _ (λ t. contrary (g.ready t) e)) f
news-before u w v k g (asking e f) = asking (false_from_ne_true _ (λ t. contrary (g.asked t) e)) f
news-before u w v k g (naming e f) = naming (false_from_ne_true _ (λ t. contrary (g.named t) e)) f
