-- The marks of a seen tree, port by port.
use Rattle.std.proofs.Common.{◌≡◌, ◌≢◌, ◌⊎◌, ℕ, zero, suc, ◌+◌, ◌<◌, ◌≤◌, inl, inr, Option, Some, None, List, [], ◌∷◌, ◌++◌, length, get_or, refl, sym, subst, ap, ◌∙◌, arith, length-append, append_assoc, append-nil}
use Rattle.std.specs.Prelude.{slice_get}
use Rattle.std.proofs.Math.Seq.{get_or-append_seam}
use Rattle.std.proofs.lemmas.Option.{slice_get-get_or}
use Rattle.outcomes.proofs.Common.{Label, Tree, branch, Slots, unplugged, up, down, End, Wiring, ports_of, Holds, Sees, SeesFrom, numbers, numbers_below, ParentsAre, ParentsBelow, mark, place, Marked, In, Once, Loopless, tree_within, tree_once}
use Rattle.cabling.proofs.Lemmas.{in_append, tree_has}
use Rattle.outcomes.proofs.walks.Fits.{Fits, FitsBelow, mark-fits}

-- ---- how far marks go

fits-start :
    (c : Wiring) (f : ℕ → ℕ → ℕ) (x : ℕ) (t : Tree) (base : ℕ) → Fits c f x t base → f x 0 ≡ base
fits-start c f x (branch a s) base k = k.0

row-length :
    (c : Wiring) (label : ℕ → Label) (f : ℕ → ℕ → ℕ) (x : ℕ) (from : Option ℕ) (p : ℕ)
    (row : List (Option End)) (s : Slots) (q : ℕ) → SeesFrom c label from p row s →
    FitsBelow c f x p row s → q ≡ p + length row → f x q ≡ f x p + length (numbers_below c row s)
row-length c label f x from p [] s q h k e = let same : q ≡ p = omega arith in omega (arith, ap (f x) same)
row-length c label f x from p (None ∷ row) (unplugged s) q h k e = omega (arith, k.0, row-length c label f x from (p + 1) row s q h k.1 (omega arith))
row-length c label f x from p (Some y ∷ row) (up s) q h k e = omega (arith, k.0, row-length c label f x from (p + 1) row s q h.1 k.1 (omega arith))
row-length c label f x from p (Some y ∷ row) (down t s) q h k e = omega (arith, k.1, row-length c label f x from (p + 1) row s q h.2 k.2 (omega arith), length-append (numbers c y.node t) (numbers_below c row s))
row-length c label f x from p row s q h k e = absurd h

tree-length :
    (c : Wiring) (label : ℕ → Label) (f : ℕ → ℕ → ℕ) (x : ℕ) (from : Option ℕ) (t : Tree) (base : ℕ)
    → Sees c label x from t → Fits c f x t base → place c f x + 1 ≡ base + length (numbers c x t)
tree-length c label f x from (branch a s) base h k = omega (arith, k.0, row-length c label f x from 0 (ports_of c x) s (length (ports_of c x)) h.2 k.1 (omega arith), length-append (numbers_below c (ports_of c x) s) (x ∷ []))

-- ---- a node of the tree

pub record Spot
    (c : Wiring) (label : ℕ → Label) (parent : ℕ → Option ℕ) (f : ℕ → ℕ → ℕ) (order : List ℕ)
    (z : ℕ)
    : Type 0 where
  pub slots : Slots
  pub seen : SeesFrom c label (parent z) 0 (ports_of c z) slots
  pub fits : FitsBelow c f z 0 (ports_of c z) slots
  pub below : ParentsBelow c parent (ports_of c z) slots
  pub at : slice_get order (place c f z) ≡ Some z

seam :
    (order pre back : List ℕ) (x n : ℕ) → order ≡ pre ++ x ∷ back → n ≡ length pre →
    slice_get order n ≡ Some x
seam order pre back x n e l =
    let less : n < length order = omega (arith, l, ap length e, length-append pre (x ∷ back)) in
    let read : get_or order n 0 ≡ x = ap (λ (xs : List ℕ). get_or xs n 0) e ∙ ap (λ (i : ℕ). get_or (pre ++ x ∷ back) i 0) l ∙ get_or-append_seam pre x back 0 in
    slice_get-get_or order n 0 less ∙ ap (λ (y : ℕ). Some y) read

mutual
  spot :
      (c : Wiring) (label : ℕ → Label) (parent : ℕ → Option ℕ) (f : ℕ → ℕ → ℕ) (order : List ℕ)
      (x : ℕ) (from : Option ℕ) (t : Tree) (base : ℕ) (front back : List ℕ) (z : ℕ) →
      Sees c label x from t → Fits c f x t base → ParentsAre c parent x from t →
      order ≡ front ++ (numbers c x t ++ back) → length front ≡ base → In z (numbers c x t) →
      Spot c label parent f order z
  spot c label parent f order x from (branch a s) base front back z h k u split len i =
      let row = ports_of c x in
      let nb = numbers_below c row s in
      let parts : order ≡ front ++ (nb ++ x ∷ back) = split ∙ ap (λ (xs : List ℕ). front ++ xs) (append_assoc nb (x ∷ []) back) in
      let behind : place c f x ≡ length (front ++ nb) = omega (arith, k.0, len, row-length c label f x from 0 row s (length row) h.2 k.1 (omega arith), length-append front nb) in
      elim (in_append z nb (x ∷ []) i) [
        | inl below ↦ spots c label parent f order x from 0 row s front (x ∷ back) z h.2 k.1 u.1 parts (omega (arith, len, k.0)) below
        | inr itself ↦ elim itself [
          | inl e ↦ subst (λ (n : ℕ). Spot c label parent f order n) (sym e) (record {
            slots = s;
            seen = subst (λ (o : Option ℕ). SeesFrom c label o 0 row s) (sym u.0) h.2;
            fits = k.1;
            below = u.1;
            at = seam order (front ++ nb) back x (place c f x) (parts ∙ sym (append_assoc front nb (x ∷ back))) behind;
          })
          | inr none ↦ absurd none
        ]
      ]

  spots :
      (c : Wiring) (label : ℕ → Label) (parent : ℕ → Option ℕ) (f : ℕ → ℕ → ℕ) (order : List ℕ)
      (x : ℕ) (from : Option ℕ) (p : ℕ) (row : List (Option End)) (s : Slots) (front back : List ℕ)
      (z : ℕ) → SeesFrom c label from p row s → FitsBelow c f x p row s →
      ParentsBelow c parent row s → order ≡ front ++ (numbers_below c row s ++ back) →
      length front ≡ f x p → In z (numbers_below c row s) → Spot c label parent f order z
  spots c label parent f order x from p [] s front back z h k u split len i = absurd i
  spots c label parent f order x from p (None ∷ row) (unplugged s) front back z h k u split len i = spots c label parent f order x from (p + 1) row s front back z h k.1 u split (omega (arith, len, k.0)) i
  spots c label parent f order x from p (Some y ∷ row) (up s) front back z h k u split len i = spots c label parent f order x from (p + 1) row s front back z h.1 k.1 u split (omega (arith, len, k.0)) i
  spots c label parent f order x from p (Some y ∷ row) (down t s) front back z h k u split len i =
      let ns = numbers c y.node t in
      let nb = numbers_below c row s in
      let parts : order ≡ front ++ (ns ++ (nb ++ back)) = split ∙ ap (λ (xs : List ℕ). front ++ xs) (append_assoc ns nb back) in
      elim (in_append z ns nb i) [
        | inl child ↦ spot c label parent f order y.node (Some y.port) t (f x p) front (nb ++ back) z h.1 k.0 u.0 parts len child
        | inr rest ↦ spots c label parent f order x from (p + 1) row s (front ++ ns) back z h.2 k.2 u.1 (parts ∙ sym (append_assoc front ns (nb ++ back))) (omega (arith, len, k.1, length-append front ns)) rest
      ]
  spots c label parent f order x from p row s front back z h k u split len i = absurd h

-- ---- its ports

-- the marks at a port that leads to a child
port-leads :
    (c : Wiring) (label : ℕ → Label) (f : ℕ → ℕ → ℕ) (x : ℕ) (from : Option ℕ) (p : ℕ)
    (row : List (Option End)) (s : Slots) (i q : ℕ) (b : End) → SeesFrom c label from p row s →
    FitsBelow c f x p row s → q ≡ p + i → get_or row i None ≡ Some b → from ≢ Some q →
    (f b.node 0 ≡ f x q) × (f x (q + 1) ≡ place c f b.node + 1)
port-leads c label f x from p [] s i q b h k e j ne = absurd cc
port-leads c label f x from p (None ∷ row) (unplugged s) zero q b h k e j ne = absurd cc
port-leads c label f x from p (None ∷ row) (unplugged s) (suc i) q b h k e j ne = port-leads c label f x from (p + 1) row s i q b h k.1 (omega arith) j ne
port-leads c label f x from p (Some y ∷ row) (up s) zero q b h k e j ne = let same : p ≡ q = omega arith in absurd (ne (h.0 ∙ ap (λ (n : ℕ). Some n) same))
port-leads c label f x from p (Some y ∷ row) (up s) (suc i) q b h k e j ne = port-leads c label f x from (p + 1) row s i q b h.1 k.1 (omega arith) j ne
port-leads c label f x from p (Some y ∷ row) (down t s) zero q b h k e j ne =
    let same : y ≡ b = cc in
    let here : p ≡ q = omega arith in
    let lo : f y.node 0 ≡ f x p = fits-start c f y.node t (f x p) k.0 in
    let hi : place c f y.node + 1 ≡ f x p + length (numbers c y.node t) = tree-length c label f y.node (Some y.port) t (f x p) h.1 k.0 in
    let first : (f y.node 0 ≡ f x p) × (f x (p + 1) ≡ place c f y.node + 1) = (lo, omega (arith, hi, k.1)) in
    subst (λ (n : ℕ). (f b.node 0 ≡ f x n) × (f x (n + 1) ≡ place c f b.node + 1)) here
    (subst (λ (z : End). (f z.node 0 ≡ f x p) × (f x (p + 1) ≡ place c f z.node + 1)) same first)
port-leads c label f x from p (Some y ∷ row) (down t s) (suc i) q b h k e j ne = port-leads c label f x from (p + 1) row s i q b h.2 k.2 (omega arith) j ne
port-leads c label f x from p row s i q b h k e j ne = absurd h

-- and at any other
port-stays :
    (c : Wiring) (label : ℕ → Label) (f : ℕ → ℕ → ℕ) (x : ℕ) (from : Option ℕ) (p : ℕ)
    (row : List (Option End)) (s : Slots) (i q : ℕ) → SeesFrom c label from p row s →
    FitsBelow c f x p row s → q ≡ p + i → i < length row → (get_or row i None ≡ None)
    ⊎ (from ≡ Some q) → f x (q + 1) ≡ f x q
port-stays c label f x from p [] s i q h k e less j = absurd (omega (arith, less))
port-stays c label f x from p (None ∷ row) (unplugged s) zero q h k e less j = let here : p ≡ q = omega arith in subst (λ (n : ℕ). f x (n + 1) ≡ f x n) here k.0
port-stays c label f x from p (None ∷ row) (unplugged s) (suc i) q h k e less j = port-stays c label f x from (p + 1) row s i q h k.1 (omega arith) (omega (arith, less)) j
port-stays c label f x from p (Some y ∷ row) (up s) zero q h k e less j = let here : p ≡ q = omega arith in subst (λ (n : ℕ). f x (n + 1) ≡ f x n) here k.0
port-stays c label f x from p (Some y ∷ row) (up s) (suc i) q h k e less j = port-stays c label f x from (p + 1) row s i q h.1 k.1 (omega arith) (omega (arith, less)) j
port-stays c label f x from p (Some y ∷ row) (down t s) zero q h k e less j = elim j [
  | inl none ↦ absurd cc
  | inr is ↦ let here : q ≡ p = omega arith in absurd (h.0 (is ∙ ap (λ (n : ℕ). Some n) here))
]
port-stays c label f x from p (Some y ∷ row) (down t s) (suc i) q h k e less j = port-stays c label f x from (p + 1) row s i q h.2 k.2 (omega arith) (omega (arith, less)) j
port-stays c label f x from p row s i q h k e less j = absurd h

port-rises :
    (c : Wiring) (label : ℕ → Label) (f : ℕ → ℕ → ℕ) (x : ℕ) (from : Option ℕ) (p : ℕ)
    (row : List (Option End)) (s : Slots) (i q : ℕ) → SeesFrom c label from p row s →
    FitsBelow c f x p row s → q ≡ p + i → i < length row → f x q ≤ f x (q + 1)
port-rises c label f x from p [] s i q h k e less = absurd (omega (arith, less))
port-rises c label f x from p (None ∷ row) (unplugged s) zero q h k e less = let here : p ≡ q = omega arith in subst (λ (n : ℕ). f x n ≤ f x (n + 1)) here (omega (arith, k.0))
port-rises c label f x from p (None ∷ row) (unplugged s) (suc i) q h k e less = port-rises c label f x from (p + 1) row s i q h k.1 (omega arith) (omega (arith, less))
port-rises c label f x from p (Some y ∷ row) (up s) zero q h k e less = let here : p ≡ q = omega arith in subst (λ (n : ℕ). f x n ≤ f x (n + 1)) here (omega (arith, k.0))
port-rises c label f x from p (Some y ∷ row) (up s) (suc i) q h k e less = port-rises c label f x from (p + 1) row s i q h.1 k.1 (omega arith) (omega (arith, less))
port-rises c label f x from p (Some y ∷ row) (down t s) zero q h k e less = let here : p ≡ q = omega arith in subst (λ (n : ℕ). f x n ≤ f x (n + 1)) here (omega (arith, k.1))
port-rises c label f x from p (Some y ∷ row) (down t s) (suc i) q h k e less = port-rises c label f x from (p + 1) row s i q h.2 k.2 (omega arith) (omega (arith, less))
port-rises c label f x from p row s i q h k e less = absurd h

-- ---- places

pub in-read : (xs : List ℕ) (i k : ℕ) → slice_get xs i ≡ Some k → In k xs
in-read [] i k e = absurd cc
in-read (x ∷ xs) zero k e = inl (cc)
in-read (x ∷ xs) (suc i) k e = inr (in-read xs i k e)

-- a number stands at one place
pub one-place :
    (xs : List ℕ) (i j k : ℕ) → Once xs → slice_get xs i ≡ Some k → slice_get xs j ≡ Some k → i ≡ j
one-place [] i j k o e f = absurd cc
one-place (x ∷ xs) zero zero k o e f = refl
one-place (x ∷ xs) zero (suc j) k o e f = let same : k ≡ x = cc in absurd (o.0 (subst (λ (n : ℕ). In n xs) same (in-read xs j k f)))
one-place (x ∷ xs) (suc i) zero k o e f = let same : k ≡ x = cc in absurd (o.0 (subst (λ (n : ℕ). In n xs) same (in-read xs i k e)))
one-place (x ∷ xs) (suc i) (suc j) k o e f = ap (λ (n : ℕ). suc n) (one-place xs i j k o.1 e f)

-- ---- the whole

pub root-spot :
    (c : Wiring) (label : ℕ → Label) (parent : ℕ → Option ℕ) (root set : ℕ) (t : Tree)
    (l : Loopless c root set) → Sees c label root None t → ParentsAre c parent root None t → (k : ℕ)
    → Holds set k → Spot c label parent (mark c root t 0) (numbers c root t) k
root-spot c label parent root set t l h u k has =
    spot c label parent (mark c root t 0) (numbers c root t) root None t 0 [] [] k h (mark-fits c label root None t 0 h (tree_once c label root set t l h)) u (sym (append-nil (numbers c root t))) refl (tree_has c label root set t l.cabling l.component h k has)

pub tree-marked :
    (c : Wiring) (label : ℕ → Label) (parent : ℕ → Option ℕ) (root set : ℕ) (t : Tree) →
    Loopless c root set → Sees c label root None t → ParentsAre c parent root None t →
    Marked c parent set root (numbers c root t) (mark c root t 0)
tree-marked c label parent root set t l h u =
    let f : ℕ → ℕ → ℕ = mark c root t 0 in
    let order : List ℕ = numbers c root t in
    let once : Once order = tree_once c label root set t l h in
    let fits : Fits c f root t 0 = mark-fits c label root None t 0 h once in
    let node : (k : ℕ) → Holds set k → Spot c label parent f order k = root-spot c label parent root set t l h u in
    let reads : (i : ℕ) → i < length order → slice_get order i ≡ Some (get_or order i 0) = λ i less. slice_get-get_or order i 0 less in
    record {
      first = fits-start c f root t 0 fits;
      last = omega (arith, tree-length c label f root None t 0 h fits);
      enters = λ k p b has j ne. (port-leads c label f k (parent k) 0 (ports_of c k) (node k has).slots p p b (node k has).seen (node k has).fits (omega arith) j ne).0;
      leaves = λ k p b has j ne. (port-leads c label f k (parent k) 0 (ports_of c k) (node k has).slots p p b (node k has).seen (node k has).fits (omega arith) j ne).1;
      stays = λ k p has less j. port-stays c label f k (parent k) 0 (ports_of c k) (node k has).slots p p (node k has).seen (node k has).fits (omega arith) less j;
      rises = λ k p has less. port-rises c label f k (parent k) 0 (ports_of c k) (node k has).slots p p (node k has).seen (node k has).fits (omega arith) less;
      at = λ k has. (node k has).at;
      covers = λ i less.
          let k : ℕ = get_or order i 0 in
          let has : Holds set k = tree_within c label root set t l h k (in-read order i k (reads i less)) in
          (k, has, one-place order (place c f k) i k once (node k has).at (reads i less));
    }
