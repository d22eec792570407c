-- The slots of a seen tree's nodes lead where the cables do.
use Rattle.std.proofs.Common.{◌≡◌, ℕ, zero, suc, ◌+◌, ◌-◌, ◌<◌, Option, Some, None, List, [], ◌∷◌, ◌++◌, length, inl, inr, ◌⊎◌, refl, sym, ◌∙◌, ap, subst, arith}
use Rattle.std.specs.Prelude.{slice_get}
use Rattle.topology_stack.specs.Tree.{Label, Tree, branch, Slots, no_more, absent, unplugged, up, down, walk, walk_below}
use Rattle.topology_stack.specs.Far.{slot_ends, ends_from, ends_below}
use Rattle.speed_map.proofs.Lemmas.{Ends, last, length-ends_from, length-ends_below}
use Rattle.cabling.specs.declared.cable.End.{End}
use Rattle.cabling.specs.Wiring.{Wiring, ports_of, far, IsCabling}
use Rattle.cabling.specs.Sees.{Sees, SeesFrom, numbers, numbers_below}
use Rattle.settle.proofs.SeenTrees.{so-many, so-many-below}
use Rattle.cabling.proofs.Lemmas.{end_at, RowAt, row_all, row_head, row_tail}
use Rattle.topology_stack.proofs.Lemmas.{length-walk}
use Rattle.quad_lanes.proofs.Lemmas.{slice_get-left, slice_get-right}

-- a slot leads to an ID exactly where a cable leads to the node of this ID
abbrev pub Agree : List ℕ → Option (Option ℕ) → Option End → Type 0
Agree N (Some (Some j)) (Some end) = slice_get N j ≡ Some end.node
Agree N (Some (Some j)) None = ⊥
Agree N (Some None) (Some end) = ⊥
Agree N (Some None) None = Unit {0}
Agree N None (Some end) = ⊥
Agree N None None = Unit {0}

-- the last of a tree's nodes is its root
root-last : (c : Wiring) (label : ℕ → Label) (x : ℕ) (fr : Option ℕ) (t : Tree) →
    Sees c label x fr t → (k : ℕ) → k + 1 ≡ length (walk t) → slice_get (numbers c x t) k ≡ Some x
root-last c label x fr (branch a s) h k e = last (numbers_below c (ports_of c x) s) x k (omega (arith, e, length-walk a s, so-many-below c label fr 0 (ports_of c x) s h.2))

-- ---- slots

abbrev Up : Wiring → List ℕ → ℕ → ℕ → Option ℕ → Type 0
Up c N x parent fr = (p : ℕ) → fr ≡ Some p → (end : End) × (far c (end_at x p) ≡ Some end) × (slice_get N parent ≡ Some end.node)

-- a part of a list begins at a place of another
abbrev Stands : List ℕ → ℕ → List ℕ → Type 0
Stands N o ns = (k m y : ℕ) → m ≡ o + k → slice_get ns k ≡ Some y → slice_get N m ≡ Some y

agree-same : (N : List ℕ) (r : Option (Option ℕ)) (a b : Option End) → a ≡ b → Agree N r b →
    Agree N r a
agree-same N r a b e h = subst (Agree N r) (sym e) h

slots-agree : (c : Wiring) (label : ℕ → Label) (N : List ℕ) (x : ℕ) (fr : Option ℕ) (parent o q : ℕ) (row : List (Option End)) (s : Slots) →
    SeesFrom c label fr q row s → RowAt c x q row → Up c N x parent fr →
    Stands N o (numbers_below c row s) → (p m : ℕ) → m ≡ q + p →
    Agree N (slice_get (slot_ends o parent s) p) (far c (end_at x m))
slots-agree c label N x fr parent o q [] no_more h row above stands p m e = agree-same N None (far c (end_at x m)) None (row p m e) tt
slots-agree c label N x fr parent o q [] (absent s) h row above stands zero m e = agree-same N (Some None) (far c (end_at x m)) None (row 0 m e) tt
slots-agree c label N x fr parent o q [] (absent s) h row above stands (suc p) m e = slots-agree c label N x fr parent o (q + 1) [] s h (λ i n f. row (suc i) n (omega (arith, f))) above stands p m (omega (arith, e))
slots-agree c label N x fr parent o q (None ∷ rest) (unplugged s) h row above stands zero m e = agree-same N (Some None) (far c (end_at x m)) None (row 0 m e) tt
slots-agree c label N x fr parent o q (None ∷ rest) (unplugged s) h row above stands (suc p) m e = slots-agree c label N x fr parent o (q + 1) rest s h (row_tail c x q None rest row) above stands p m (omega (arith, e))
slots-agree c label N x fr parent o q (Some y ∷ rest) (up s) h row above stands zero m e =
    let here : far c (end_at x m) ≡ Some y = row 0 m e in
    let same : m ≡ q = omega (arith, e) in
    let u = above q h.0 in
    let end_is : Some u.0 ≡ Some y = sym u.1 ∙ ap (λ (n : ℕ). far c (end_at x n)) (sym same) ∙ here in
    agree-same N (Some (Some parent)) (far c (end_at x m)) (Some u.0) (here ∙ sym end_is) u.2
slots-agree c label N x fr parent o q (Some y ∷ rest) (up s) h row above stands (suc p) m e = slots-agree c label N x fr parent o (q + 1) rest s h.1 (row_tail c x q (Some y) rest row) above stands p m (omega (arith, e))
slots-agree c label N x fr parent o q (Some y ∷ rest) (down t s) h row above stands zero m e =
    let k : ℕ = length (walk t) - 1 in
    agree-same N (Some (Some (o + length (walk t) - 1))) (far c (end_at x m)) (Some y) (row 0 m e)
    (stands k (o + length (walk t) - 1) y.node (omega (arith, some-walk t)) (slice_get-left (numbers c y.node t) (numbers_below c rest s) k y.node (root-last c label y.node (Some y.port) t h.1 k (omega (arith, some-walk t)))))
  where
    some-walk : (t : Tree) → 0 < length (walk t)
    some-walk (branch a s) = omega (arith, length-walk a s)
slots-agree c label N x fr parent o q (Some y ∷ rest) (down t s) h row above stands (suc p) m e =
    slots-agree c label N x fr parent (o + length (walk t)) (q + 1) rest s h.2 (row_tail c x q (Some y) rest row) above
    (λ k n z f g. stands (length (walk t) + k) n z (omega (arith, f)) (slice_get-right (numbers c y.node t) (numbers_below c rest s) (length (walk t)) k (so-many c label y.node (Some y.port) t h.1) ∙ g)) p m (omega (arith, e))
slots-agree c label N x fr parent o q row s h at above stands p m e = absurd h

-- ---- nodes

-- the node at a place, and where its slots lead
abbrev pub Leads : Wiring → List ℕ → ℕ → Ends → Type 0
Leads c N m e = (y : ℕ) × (slice_get N m ≡ Some y) × ((p : ℕ) → Agree N (slice_get e p) (far c (end_at y p)))

split : {X : Type 0} → (xs ys : List X) (i : ℕ) (x : X) → slice_get (xs ++ ys) i ≡ Some x →
    (slice_get xs i ≡ Some x) ⊎ ((j : ℕ) × (i ≡ length xs + j) × (slice_get ys j ≡ Some x))
split [] ys i x e = inr (i, omega arith, e)
split (z ∷ xs) ys zero x e = inl e
split (z ∷ xs) ys (suc i) x e = elim (split xs ys i x e) [
  | inl left ↦ inl left
  | inr right ↦ inr (right.0, omega (arith, right.1), right.2)
]

only : {X : Type 0} → (y : X) (j : ℕ) (x : X) → slice_get (y ∷ []) j ≡ Some x → (j ≡ 0) × (y ≡ x)
only y zero x e = (refl, cc)
only y (suc j) x e = absurd cc

mutual
  pub tree-leads : (c : Wiring) (label : ℕ → Label) (N : List ℕ) (x : ℕ) (fr : Option ℕ) (parent o : ℕ) (t : Tree) →
      IsCabling c → Sees c label x fr t → Up c N x parent fr → Stands N o (numbers c x t) →
      (i m : ℕ) (e : Ends) → m ≡ o + i → slice_get (ends_from o parent t) i ≡ Some e → Leads c N m e
  tree-leads c label N x fr parent o (branch a s) is h above stands i m e eq at =
      let below : Stands N o (numbers_below c (ports_of c x) s) = λ k n y f g. stands k n y f (slice_get-left (numbers_below c (ports_of c x) s) (x ∷ []) k y g) in
      let own : (n : ℕ) → n ≡ o + length (walk_below s) → slice_get N n ≡ Some x = λ n f. stands (length (walk_below s)) n x f (last (numbers_below c (ports_of c x) s) x (length (walk_below s)) (sym (so-many-below c label fr 0 (ports_of c x) s h.2))) in
      elim (split (ends_below o (o + length (walk_below s)) s) (slot_ends o parent s ∷ []) i e at) [
        | inl left ↦ below-leads c label N x fr (o + length (walk_below s)) o 0 (ports_of c x) s is h.2 (row_all c x) (own (o + length (walk_below s)) refl) below i m e eq left
        | inr right ↦
            let one = only (slot_ends o parent s) right.0 e right.2 in
            (x, own m (omega (arith, eq, right.1, one.0, length-ends_below o (o + length (walk_below s)) s)), λ p. subst (λ (f : Ends). Agree N (slice_get f p) (far c (end_at x p))) one.1 (slots-agree c label N x fr parent o 0 (ports_of c x) s h.2 (row_all c x) above below p p (omega arith)))
      ]

  below-leads : (c : Wiring) (label : ℕ → Label) (N : List ℕ) (x : ℕ) (fr : Option ℕ) (me o q : ℕ) (row : List (Option End)) (s : Slots) →
      IsCabling c → SeesFrom c label fr q row s → RowAt c x q row → slice_get N me ≡ Some x →
      Stands N o (numbers_below c row s) → (i m : ℕ) (e : Ends) → m ≡ o + i →
      slice_get (ends_below o me s) i ≡ Some e → Leads c N m e
  below-leads c label N x fr me o q [] no_more is h row own stands i m e eq at = absurd cc
  below-leads c label N x fr me o q [] (absent s) is h row own stands i m e eq at = below-leads c label N x fr me o (q + 1) [] s is h (λ k n f. row (suc k) n (omega (arith, f))) own stands i m e eq at
  below-leads c label N x fr me o q (None ∷ rest) (unplugged s) is h row own stands i m e eq at = below-leads c label N x fr me o (q + 1) rest s is h (row_tail c x q None rest row) own stands i m e eq at
  below-leads c label N x fr me o q (Some y ∷ rest) (up s) is h row own stands i m e eq at = below-leads c label N x fr me o (q + 1) rest s is h.1 (row_tail c x q (Some y) rest row) own stands i m e eq at
  below-leads c label N x fr me o q (Some y ∷ rest) (down t s) is h row own stands i m e eq at = elim (split (ends_from o me t) (ends_below (o + length (walk t)) me s) i e at) [
    | inl left ↦
        tree-leads c label N y.node (Some y.port) me o t is h.1 (λ p f. (end_at x q, back p f, own))
        (λ k n z f g. stands k n z f (slice_get-left (numbers c y.node t) (numbers_below c rest s) k z g)) i m e eq left
    | inr right ↦
        below-leads c label N x fr me (o + length (walk t)) (q + 1) rest s is h.2 (row_tail c x q (Some y) rest row) own
        (λ k n z f g. stands (length (walk t) + k) n z (omega (arith, f)) (slice_get-right (numbers c y.node t) (numbers_below c rest s) (length (walk t)) k (so-many c label y.node (Some y.port) t h.1) ∙ g))
        right.0 m e (omega (arith, eq, right.1, length-ends_from o me t)) right.2
  ]
    where
      back : (p : ℕ) → Some y.port ≡ Some p → far c (end_at y.node p) ≡ Some (end_at x q)
      back p f = let same : y.port ≡ p = cc in ap (λ (n : ℕ). far c (end_at y.node n)) (sym same) ∙ is.both_ways (end_at x q) y (row_head c x q (Some y) rest row)
  below-leads c label N x fr me o q row s is h at own stands i m e eq found = absurd h
