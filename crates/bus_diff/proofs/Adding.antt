-- Lists of changes to which changes are added.
use Rattle.std.proofs.Common.{◌≡◌, ℕ, ◌+◌, ◌<◌, ◌≤◌, ◌⊎◌, inl, inr, ⊎_elim, List, [], ◌∷◌, ◌++◌, sym, subst, arith}
use Rattle.std.specs.Prelude.{Contains}
use Rattle.std.proofs.lemmas.Bool.{cases_lt}
use Rattle.std.proofs.lemmas.List.Elements.{Contains-append_left, Contains-append_right, Contains-append_cases, Contains-push, Contains-push_cases}
use Rattle.bus_diff.specs.declared.pair.Pair.{Pair}
use Rattle.bus_diff.specs.declared.change.Change.{Change}
use Rattle.bus_diff.specs.codings.Told.{Adds, Below, OfSome}

-- one change
pub adds_one : (xs : List Change) (x : Change) (P : Change → Type 0) → P x →
    ((c : Change) → P c → c ≡ x) → Adds xs (xs ++ x ∷ []) P
adds_one xs x P holds only = (
  λ c there. ⊎_elim (λ (a : Contains xs c). inl a) (λ (e : x ≡ c). inr (subst P e holds)) (Contains-push_cases xs x c there),
  λ c h. ⊎_elim (λ (a : Contains xs c). Contains-append_left xs (x ∷ []) c a) (λ (p : P c). subst (λ (y : Change). Contains (xs ++ x ∷ []) y) (sym (only c p)) (Contains-push xs x)) h,
)

-- none
pub adds_none : (xs : List Change) (P : Change → Type 0) → ((c : Change) → P c → ⊥) → Adds xs xs P
adds_none xs P none = (
  λ c there. inl there,
  λ c h. ⊎_elim (λ (a : Contains xs c). a) (λ (p : P c). absurd (none c p)) h,
)

-- the same in other words
pub adds_same : (xs ys : List Change) (P Q : Change → Type 0) → ((c : Change) → P c → Q c) →
    ((c : Change) → Q c → P c) → Adds xs ys P → Adds xs ys Q
adds_same xs ys P Q to back a = (
  λ c there. ⊎_elim (λ (k : Contains xs c). inl k) (λ (p : P c). inr (to c p)) (a.0 c there),
  λ c h. a.1 c (⊎_elim (λ (k : Contains xs c). inl k) (λ (q : Q c). inr (back c q)) h),
)

-- one behind the other
pub adds_then : (xs ys zs : List Change) (P Q : Change → Type 0) → Adds xs ys P → Adds ys zs Q →
    Adds xs zs (λ c. P c ⊎ Q c)
adds_then xs ys zs P Q a b = (
  λ c there. ⊎_elim
      (λ (h : Contains ys c). ⊎_elim (λ (k : Contains xs c). inl k) (λ (p : P c). inr (inl p)) (a.0 c h))
      (λ (q : Q c). inr (inr q))
      (b.0 c there),
  λ c h. ⊎_elim
      (λ (k : Contains xs c). b.1 c (inl (a.1 c (inl k))))
      (λ (pq : P c ⊎ Q c). ⊎_elim (λ (p : P c). b.1 c (inl (a.1 c (inr p)))) (λ (q : Q c). b.1 c (inr q)) pq)
      h,
)

-- ---- loops

pub below_none : (P : ℕ → Change → Type 0) (xs : List Change) → Adds xs xs (Below P 0)
below_none P xs = adds_none xs (Below P 0) (λ c b. let lt : b.0 < 0 = b.1 in absurd (omega (arith, lt)))

below_up : (P : ℕ → Change → Type 0) (n : ℕ) (c : Change) → Below P n c ⊎ P n c → Below P (n + 1) c
below_up P n c h = ⊎_elim
    (λ (b : Below P n c). let lt : b.0 < n = b.1 in (b.0, omega (arith, lt), b.2))
    (λ (p : P n c). (n, omega arith, p))
    h

below_down : (P : ℕ → Change → Type 0) (n : ℕ) (c : Change) → Below P (n + 1) c → Below P n c ⊎ P n c
below_down P n c b = ⊎_elim
    (λ (lt : b.0 < n). inl (b.0, lt, b.2))
    (λ (le : n ≤ b.0).
    let lt : b.0 < n + 1 = b.1 in
    let same : b.0 ≡ n = omega (arith, lt, le) in
    inr (subst (λ (k : ℕ). P k c) same b.2))
    (cases_lt b.0 n)

pub below_more : (P : ℕ → Change → Type 0) (n : ℕ) (xs ys zs : List Change) →
    Adds xs ys (Below P n) → Adds ys zs (P n) → Adds xs zs (Below P (n + 1))
below_more P n xs ys zs a b =
    adds_same xs zs (λ c. Below P n c ⊎ P n c) (Below P (n + 1)) (below_up P n) (below_down P n) (adds_then xs ys zs (Below P n) (P n) a b)

pub some_none : (P : Pair → Change → Type 0) (xs : List Change) → Adds xs xs (OfSome [] P)
some_none P xs = adds_none xs (OfSome [] P) (λ c s. let lt : s.1.0 < 0 = s.1.1 in absurd (omega (arith, lt)))

pub front_cases : (p : Pair) (ps : List Pair) (q : Pair) → Contains (p ∷ ps) q → (p ≡ q) ⊎ Contains ps q
front_cases p ps q there = ⊎_elim
    (λ (here : Contains (p ∷ []) q). ⊎_elim
    (λ (nil : Contains [] q). let lt : nil.0 < 0 = nil.1 in absurd (omega (arith, lt)))
    (λ (is : p ≡ q). inl is)
    (Contains-push_cases [] p q here))
    (λ (later : Contains ps q). inr later)
    (Contains-append_cases (p ∷ []) ps q there)

some_up : (P : Pair → Change → Type 0) (p : Pair) (ps : List Pair) (c : Change) →
    P p c ⊎ OfSome ps P c → OfSome (p ∷ ps) P c
some_up P p ps c h = ⊎_elim
    (λ (here : P p c). (p, Contains-append_left (p ∷ []) ps p (Contains-push [] p), here))
    (λ (s : OfSome ps P c). (s.0, Contains-append_right (p ∷ []) ps s.0 s.1, s.2))
    h

some_down : (P : Pair → Change → Type 0) (p : Pair) (ps : List Pair) (c : Change) →
    OfSome (p ∷ ps) P c → P p c ⊎ OfSome ps P c
some_down P p ps c s = ⊎_elim
    (λ (same : p ≡ s.0). inl (subst (λ (q : Pair). P q c) (sym same) s.2))
    (λ (there : Contains ps s.0). inr (s.0, there, s.2))
    (front_cases p ps s.0 s.1)

-- of the first of some pairs, and then of the others
pub some_front : (P : Pair → Change → Type 0) (p : Pair) (ps : List Pair) (xs ys zs : List Change) →
    Adds xs ys (P p) → Adds ys zs (OfSome ps P) → Adds xs zs (OfSome (p ∷ ps) P)
some_front P p ps xs ys zs a b =
    adds_same xs zs (λ c. P p c ⊎ OfSome ps P c) (OfSome (p ∷ ps) P) (some_up P p ps) (some_down P p ps) (adds_then xs ys zs (P p) (OfSome ps P) a b)
