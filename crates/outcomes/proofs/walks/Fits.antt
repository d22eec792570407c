-- A function gives the marks of a seen tree.
use Rattle.std.proofs.Common.{◌≡◌, ◌≢◌, ℕ, suc, ◌+◌, inl, inr, Bool, true, false, cond, eqb, Option, Some, None, List, [], ◌∷◌, ◌++◌, length, refl, sym, subst, ap, ◌∙◌, arith, eq-eqb}
use Rattle.std.proofs.lemmas.Bool.{ne_eqb}
use Rattle.std.specs.Prelude.{◌||◌}
use Rattle.outcomes.proofs.Common.{Label, Tree, branch, Slots, unplugged, up, down, End, Wiring, ports_of, Sees, SeesFrom, numbers, numbers_below, mark, In, Once, in_left, in_right}
use Rattle.outcomes.specs.WalkMarks.{is_in, before, mark_below}

abbrev mutual
  pub Fits : Wiring → (ℕ → ℕ → ℕ) → ℕ → Tree → ℕ → Type 0
  Fits c f x (branch a s) base = (f x 0 ≡ base) × FitsBelow c f x 0 (ports_of c x) s

  pub FitsBelow : Wiring → (ℕ → ℕ → ℕ) → ℕ → ℕ → List (Option End) → Slots → Type 0
  FitsBelow c f x p (None ∷ ports) (unplugged s) = (f x (p + 1) ≡ f x p) × FitsBelow c f x (p + 1) ports s
  FitsBelow c f x p (Some e ∷ ports) (up s) = (f x (p + 1) ≡ f x p) × FitsBelow c f x (p + 1) ports s
  FitsBelow c f x p (Some e ∷ ports) (down t s) = Fits c f e.node t (f x p) × (f x (p + 1) ≡ f x p + length (numbers c e.node t)) × FitsBelow c f x (p + 1) ports s
  FitsBelow c f x p ports s = Unit {0}

-- ---- only the values at the tree's nodes matter

mutual
  same-fits :
      (c : Wiring) (label : ℕ → Label) (f g : ℕ → ℕ → ℕ) (x : ℕ) (from : Option ℕ) (t : Tree)
      (base : ℕ) → Sees c label x from t →
      ((z : ℕ) → In z (numbers c x t) → (q : ℕ) → g z q ≡ f z q) → Fits c f x t base →
      Fits c g x t base
  same-fits c label f g x from (branch a s) base h same k =
      let own : (q : ℕ) → g x q ≡ f x q = same x (in_right x (numbers_below c (ports_of c x) s) (x ∷ []) (inl refl)) in (
        own 0 ∙ k.0,
        same-fits-below c label f g x from 0 (ports_of c x) s h.2 own (λ z i. same z (in_left z (numbers_below c (ports_of c x) s) (x ∷ []) i)) k.1,
      )

  same-fits-below :
      (c : Wiring) (label : ℕ → Label) (f g : ℕ → ℕ → ℕ) (x : ℕ) (from : Option ℕ) (p : ℕ)
      (row : List (Option End)) (s : Slots) → SeesFrom c label from p row s →
      ((q : ℕ) → g x q ≡ f x q) → ((z : ℕ) → In z (numbers_below c row s) → (q : ℕ) → g z q ≡ f z q)
      → FitsBelow c f x p row s → FitsBelow c g x p row s
  same-fits-below c label f g x from p [] s h own same k = tt
  same-fits-below c label f g x from p (None ∷ row) (unplugged s) h own same k = (own (p + 1) ∙ k.0 ∙ sym (own p), same-fits-below c label f g x from (p + 1) row s h own same k.1)
  same-fits-below c label f g x from p (Some e ∷ row) (up s) h own same k = (own (p + 1) ∙ k.0 ∙ sym (own p), same-fits-below c label f g x from (p + 1) row s h.1 own same k.1)
  same-fits-below c label f g x from p (Some e ∷ row) (down t s) h own same k = (
    subst (λ (n : ℕ). Fits c g e.node t n) (sym (own p)) (same-fits c label f g e.node (Some e.port) t (f x p) h.1 (λ z i. same z (in_left z (numbers c e.node t) (numbers_below c row s) i)) k.0),
    own (p + 1) ∙ k.1 ∙ ap (λ (n : ℕ). n + length (numbers c e.node t)) (sym (own p)),
    same-fits-below c label f g x from (p + 1) row s h.2 own (λ z i. same z (in_right z (numbers c e.node t) (numbers_below c row s) i)) k.2,
  )
  same-fits-below c label f g x from p row s h own same k = absurd h

-- ---- the marks fit

once-left : (xs ys : List ℕ) → Once (xs ++ ys) → Once xs
once-left [] ys o = tt
once-left (x ∷ xs) ys o = ((λ i. o.0 (in_left x xs ys i)), once-left xs ys o.1)

once-right : (xs ys : List ℕ) → Once (xs ++ ys) → Once ys
once-right [] ys o = o
once-right (x ∷ xs) ys o = once-right xs ys o.1

pub once-apart : (xs ys : List ℕ) (z : ℕ) → Once (xs ++ ys) → In z xs → In z ys → ⊥
once-apart [] ys z o i j = i
once-apart (x ∷ xs) ys z o (inl e) j = o.0 (in_right x xs ys (subst (λ (n : ℕ). In n ys) e j))
once-apart (x ∷ xs) ys z o (inr i) j = once-apart xs ys z o.1 i j

is_in-true : (z : ℕ) (xs : List ℕ) → In z xs → is_in z xs ≡ true
is_in-true z [] i = absurd i
is_in-true z (x ∷ xs) (inl e) = rw (eq-eqb z x e) refl
is_in-true z (x ∷ xs) (inr i) = go (eqb z x) (is_in-true z xs i)
  where
    go : (b : Bool) → is_in z xs ≡ true → (b || is_in z xs) ≡ true
    go true h = refl
    go false h = h

is_in-false : (z : ℕ) (xs : List ℕ) → (In z xs → ⊥) → is_in z xs ≡ false
is_in-false z [] out = refl
is_in-false z (x ∷ xs) out = rw (ne_eqb z x (λ e. out (inl e)), is_in-false z xs (λ i. out (inr i))) refl

if-true : (b : Bool) (m n : ℕ) → b ≡ true → cond b m n ≡ m
if-true true m n e = refl
if-true false m n e = absurd cc

if-false : (b : Bool) (m n : ℕ) → b ≡ false → cond b m n ≡ n
if-false true m n e = absurd cc
if-false false m n e = refl

mark-own :
    (c : Wiring) (x : ℕ) (a : Label) (s : Slots) (base q : ℕ) → mark c x (branch a s)
    base x q ≡ base + before c (ports_of c x) s q
mark-own c x a s base q = if-true (eqb x x) (base + before c (ports_of c x) s q) (mark_below c (ports_of c x) s base x q) (eq-eqb x x refl)

mark-other :
    (c : Wiring) (x : ℕ) (a : Label) (s : Slots) (base z q : ℕ) → z ≢ x → mark c x (branch a s)
    base z q ≡ mark_below c (ports_of c x) s base z q
mark-other c x a s base z q ne = if-false (eqb z x) (base + before c (ports_of c x) s q) (mark_below c (ports_of c x) s base z q) (ne_eqb z x ne)

start : (base : ℕ) → base + 0 ≡ base
start base = omega arith

mutual
  pub mark-fits :
      (c : Wiring) (label : ℕ → Label) (x : ℕ) (from : Option ℕ) (t : Tree) (base : ℕ) →
      Sees c label x from t → Once (numbers c x t) → Fits c (mark c x t base) x t base
  mark-fits c label x from (branch a s) base h once =
      let row = ports_of c x in (
        mark-own c x a s base 0 ∙ start base,
        mark-fits-below c label (mark c x (branch a s) base) x from 0 row s base h.2 (once-left (numbers_below c row s) (x ∷ []) once)
            (λ i q is. let same : q ≡ i = omega arith in mark-own c x a s base q ∙ ap (λ (n : ℕ). base + before c row s n) same)
            (λ z i q. mark-other c x a s base z q (λ same. once-apart (numbers_below c row s) (x ∷ []) z once i (inl same))),
      )

  mark-fits-below :
      (c : Wiring) (label : ℕ → Label) (g : ℕ → ℕ → ℕ) (x : ℕ) (from : Option ℕ) (p : ℕ)
      (row : List (Option End)) (s : Slots) (base : ℕ) → SeesFrom c label from p row s →
      Once (numbers_below c row s) → ((i q : ℕ) → q ≡ p + i → g x q ≡ base + before c row s i) →
      ((z : ℕ) → In z (numbers_below c row s) → (q : ℕ) → g z q ≡ mark_below c row s base z q) →
      FitsBelow c g x p row s
  mark-fits-below c label g x from p [] s base h once own below = tt
  mark-fits-below c label g x from p (None ∷ row) (unplugged s) base h once own below = (
    own 1 (p + 1) refl ∙ start base ∙ sym (own 0 p (omega arith) ∙ start base),
    mark-fits-below c label g x from (p + 1) row s base h once (λ i q is. own (suc i) q (omega arith)) below,
  )
  mark-fits-below c label g x from p (Some e ∷ row) (up s) base h once own below = (
    own 1 (p + 1) refl ∙ start base ∙ sym (own 0 p (omega arith) ∙ start base),
    mark-fits-below c label g x from (p + 1) row s base h.1 once (λ i q is. own (suc i) q (omega arith)) below,
  )
  mark-fits-below c label g x from p (Some e ∷ row) (down t s) base h once own below =
      let ns = numbers c e.node t in
      let rest = numbers_below c row s in
      let size : ℕ = length ns in
      let at : g x p ≡ base = own 0 p (omega arith) ∙ start base in (
        subst (λ (n : ℕ). Fits c g e.node t n) (sym at)
            (same-fits c label (mark c e.node t base) g e.node (Some e.port) t base h.1
            (λ z i q. below z (in_left z ns rest i) q ∙ if-true (is_in z ns) (mark c e.node t base z q) (mark_below c row s (base + size) z q) (is_in-true z ns i))
            (mark-fits c label e.node (Some e.port) t base h.1 (once-left ns rest once))),
        own 1 (p + 1) refl ∙ omega (arith, at, start size),
        mark-fits-below c label g x from (p + 1) row s (base + size) h.2 (once-right ns rest once)
            (λ i q is. own (suc i) q (omega arith) ∙ omega arith)
            (λ z i q. below z (in_right z ns rest i) q ∙ if-false (is_in z ns) (mark c e.node t base z q) (mark_below c row s (base + size) z q) (is_in-false z ns (λ j. once-apart ns rest z once j i))),
      )
  mark-fits-below c label g x from p row s base h once own below = absurd h
