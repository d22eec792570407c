-- What is told of items is one thing, and one item more is told.
use Rattle.std.proofs.Common.{◌≡◌, ◌∙◌, ℕ, suc, ◌+◌, Bool, true, false, ◌||◌, List, [], ◌∷◌, ◌++◌, length, refl, sym, ap, subst, append_assoc, append-nil, arith}
use Rattle.std.specs.List.{All}
use Rattle.std.proofs.lemmas.List.Elements.{All-head, All-tail}
use Rattle.reset_list.specs.InOrder.{AreTold}

pub one_more : {X S : Type 0} (IsTold : ℕ → S → X → List ℕ → Bool → S → Type 0) (n : ℕ) (s mid next : S) (xs : List X) (x : X) (text more : List ℕ) (bad here : Bool) →
    AreTold IsTold n s xs text bad mid → IsTold (n + length xs) mid x more here next →
    AreTold IsTold n s (xs ++ x ∷ []) (text ++ more) (bad || here) next
one_more {S = S} IsTold n s mid next [] x text more bad here told is = (
  more,
  [],
  here,
  false,
  next,
  subst (λ (k : S). IsTold n k x more here next) told.2 (subst (λ (m : ℕ). IsTold m mid x more here next) same is),
  (refl, refl, refl),
  texts text told.0,
  bads bad here told.1,
)
  where
    same : n + 0 ≡ n
    same = omega arith

    texts : (t : List ℕ) → t ≡ [] → t ++ more ≡ more ++ []
    texts t e = rw e (sym (append-nil more))

    bads : (b h : Bool) → b ≡ false → (b || h) ≡ (h || false)
    bads true h e = absurd cc
    bads false true e = refl
    bads false false e = refl
one_more IsTold n s mid next (y ∷ ys) x text more bad here told is = (
  told.0,
  told.1 ++ more,
  told.2,
  told.3 || here,
  told.4,
  told.5,
  one_more IsTold (n + 1) told.4 mid next ys x told.1 more told.3 here told.6 (subst (λ (m : ℕ). IsTold m mid x more here next) same is),
  ap (λ (t : List ℕ). t ++ more) told.7 ∙ append_assoc told.0 told.1 more,
  ap (λ (b : Bool). b || here) told.8 ∙ or_assoc told.2 told.3 here,
)
  where
    same : n + suc (length ys) ≡ n + 1 + length ys
    same = omega arith

    or_assoc : (a b c : Bool) → ((a || b) || c) ≡ (a || (b || c))
    or_assoc true b c = refl
    or_assoc false b c = refl

-- ---- one thing is told

-- the same text, the same fault, and the same is known
abbrev pub AreSame : {S : Type 0} → List ℕ → List ℕ → Bool → Bool → S → S → Type 0
AreSame a b c d s t = (a ≡ b) × (c ≡ d) × (s ≡ t)

pub told_once : {X S : Type 0} (IsTold : ℕ → S → X → List ℕ → Bool → S → Type 0) →
    ((n : ℕ) (s : S) (x : X) (a b : List ℕ) (c d : Bool) (p q : S) → IsTold n s x a c p → IsTold n s x b d q → AreSame a b c d p q) →
    (n : ℕ) (s : S) (xs : List X) (a b : List ℕ) (c d : Bool) (p q : S) →
    AreTold IsTold n s xs a c p → AreTold IsTold n s xs b d q → AreSame a b c d p q
told_once IsTold each n s [] a b c d p q x y = (x.0 ∙ sym y.0, x.1 ∙ sym y.1, x.2 ∙ sym y.2)
told_once {S = S} IsTold each n s (z ∷ zs) a b c d p q x y =
    let one = each n s z x.0 y.0 x.2 y.2 x.4 y.4 x.5 y.5 in
    let rest = told_once IsTold each (n + 1) y.4 zs x.1 y.1 x.3 y.3 p q (subst (λ (m : S). AreTold IsTold (n + 1) m zs x.1 x.3 p) one.2 x.6) y.6 in (
      x.7 ∙ ap (λ (l : List ℕ). l ++ x.1) one.0 ∙ ap (λ (l : List ℕ). y.0 ++ l) rest.0 ∙ sym y.7,
      x.8 ∙ ap (λ (v : Bool). v || x.3) one.1 ∙ ap (λ (v : Bool). y.2 || v) rest.1 ∙ sym y.8,
      rest.2,
    )

-- what is told of the first items stands in front
pub told_first : {X S : Type 0} (IsTold : ℕ → S → X → List ℕ → Bool → S → Type 0) (n : ℕ) (s next : S) (xs ys : List X) (text : List ℕ) (bad : Bool) →
    AreTold IsTold n s (xs ++ ys) text bad next →
    (a b : List ℕ) × (c : Bool) × (mid : S) × AreTold IsTold n s xs a c mid × (text ≡ a ++ b)
told_first IsTold n s next [] ys text bad told = ([], text, false, s, (refl, refl, refl), refl)
told_first IsTold n s next (x ∷ xs) ys text bad told =
    let h = told_first IsTold (n + 1) told.4 next xs ys told.1 told.3 told.6 in (
      told.0 ++ h.0,
      h.1,
      told.2 || h.2,
      h.3,
      (told.0, h.0, told.2, h.2, told.4, told.5, h.4, refl, refl),
      told.7 ∙ ap (λ (l : List ℕ). told.0 ++ l) h.5 ∙ sym (append_assoc told.0 h.0 h.1),
    )

-- ---- something is told

pub told_some : {X S : Type 0} (IsTold : ℕ → S → X → List ℕ → Bool → S → Type 0) (Good : X → Type 0) →
    ((n : ℕ) (s : S) (x : X) → Good x → (text : List ℕ) × (bad : Bool) × (next : S) × IsTold n s x text bad next) →
    (n : ℕ) (s : S) (xs : List X) → All Good xs →
    (text : List ℕ) × (bad : Bool) × (next : S) × AreTold IsTold n s xs text bad next
told_some IsTold Good each n s [] good = ([], false, s, (refl, refl, refl))
told_some IsTold Good each n s (x ∷ xs) good =
    let one = each n s x (All-head Good x xs good) in
    let rest = told_some IsTold Good each (n + 1) one.2 xs (All-tail Good x xs good) in (
      one.0 ++ rest.0,
      one.1 || rest.1,
      rest.2,
      (one.0, rest.0, one.1, rest.1, one.2, one.3, rest.3, refl, refl),
    )

-- the same where what is known stays of one kind
pub told_some_in : {X S : Type 0} (IsTold : ℕ → S → X → List ℕ → Bool → S → Type 0) (Fine : S → Type 0) →
    ((n : ℕ) (s : S) (x : X) → Fine s → (text : List ℕ) × (bad : Bool) × (next : S) × IsTold n s x text bad next × Fine next) →
    (n : ℕ) (s : S) (xs : List X) → Fine s →
    (text : List ℕ) × (bad : Bool) × (next : S) × AreTold IsTold n s xs text bad next
told_some_in IsTold Fine each n s [] fine = ([], false, s, (refl, refl, refl))
told_some_in IsTold Fine each n s (x ∷ xs) fine =
    let one = each n s x fine in
    let rest = told_some_in IsTold Fine each (n + 1) one.2 xs one.4 in (
      one.0 ++ rest.0,
      one.1 || rest.1,
      rest.2,
      (one.0, rest.0, one.1, rest.1, one.2, one.3, rest.3, refl, refl),
    )
