-- Where the ports and labels of a tree's nodes are the same, so is the tree with its walk and its
-- marks.
use Rattle.std.proofs.Common.{◌≡◌, ℕ, zero, suc, ◌+◌, inl, cond, eqb, Option, Some, None, List, [], ◌∷◌, ◌++◌, length, refl, subst, ap, ◌∙◌}
use Rattle.outcomes.proofs.Common.{Label, Tree, branch, Slots, no_more, absent, unplugged, up, down, End, Wiring, ports_of, slot_count, Sees, SeesFrom, numbers, numbers_below, mark, Alike, In, in_left, in_right, Loopless, tree_within}
use Rattle.outcomes.specs.WalkMarks.{is_in, before, mark_below}
use Rattle.outcomes.specs.Alike.{SeenAlike}

mutual
  same-sees :
      (c d : Wiring) (label other : ℕ → Label) (x : ℕ) (from : Option ℕ) (t : Tree) →
      Sees c label x from t →
      ((k : ℕ) → In k (numbers c x t) → (ports_of c k ≡ ports_of d k) × (label k ≡ other k)) →
      Sees d other x from t
  same-sees c d label other x from (branch a s) h same =
      let own = same x (in_right x (numbers_below c (ports_of c x) s) (x ∷ []) (inl refl)) in
      let below : SeesFrom d other from 0 (ports_of c x) s = same-sees-below c d label other from 0 (ports_of c x) s h.2 (λ k i. same k (in_left k (numbers_below c (ports_of c x) s) (x ∷ []) i)) in (
        h.0 ∙ own.1,
        h.1 ∙ ap (λ (row : List (Option End)). slot_count (length row)) own.0,
        subst (λ (row : List (Option End)). SeesFrom d other from 0 row s) own.0 below,
      )

  same-sees-below :
      (c d : Wiring) (label other : ℕ → Label) (from : Option ℕ) (p : ℕ) (row : List (Option End))
      (s : Slots) → SeesFrom c label from p row s →
      ((k : ℕ) → In k (numbers_below c row s) → (ports_of c k ≡ ports_of d k) × (label k ≡ other k))
      → SeesFrom d other from p row s
  same-sees-below c d label other from p [] no_more h same = tt
  same-sees-below c d label other from p [] (absent s) h same = same-sees-below c d label other from (p + 1) [] s h (λ k i. absurd i)
  same-sees-below c d label other from p (None ∷ row) (unplugged s) h same = same-sees-below c d label other from (p + 1) row s h same
  same-sees-below c d label other from p (Some e ∷ row) (up s) h same = (h.0, same-sees-below c d label other from (p + 1) row s h.1 same)
  same-sees-below c d label other from p (Some e ∷ row) (down t s) h same = (
    h.0,
    same-sees c d label other e.node (Some e.port) t h.1 (λ k i. same k (in_left k (numbers c e.node t) (numbers_below c row s) i)),
    same-sees-below c d label other from (p + 1) row s h.2 (λ k i. same k (in_right k (numbers c e.node t) (numbers_below c row s) i)),
  )
  same-sees-below c d label other from p row s h same = absurd h

mutual
  same-numbers :
      (c d : Wiring) (label : ℕ → Label) (x : ℕ) (from : Option ℕ) (t : Tree) →
      Sees c label x from t → ((k : ℕ) → In k (numbers c x t) → ports_of c k ≡ ports_of d k) →
      numbers c x t ≡ numbers d x t
  same-numbers c d label x from (branch a s) h same =
      ap (λ (xs : List ℕ). xs ++ x ∷ []) (same-numbers-below c d label from 0 (ports_of c x) s h.2 (λ k i. same k (in_left k (numbers_below c (ports_of c x) s) (x ∷ []) i)))
      ∙ ap (λ (row : List (Option End)). numbers_below d row s ++ x ∷ []) (same x (in_right x (numbers_below c (ports_of c x) s) (x ∷ []) (inl refl)))

  same-numbers-below :
      (c d : Wiring) (label : ℕ → Label) (from : Option ℕ) (p : ℕ) (row : List (Option End))
      (s : Slots) → SeesFrom c label from p row s →
      ((k : ℕ) → In k (numbers_below c row s) → ports_of c k ≡ ports_of d k) →
      numbers_below c row s ≡ numbers_below d row s
  same-numbers-below c d label from p [] s h same = refl
  same-numbers-below c d label from p (None ∷ row) (unplugged s) h same = same-numbers-below c d label from (p + 1) row s h same
  same-numbers-below c d label from p (Some e ∷ row) (up s) h same = same-numbers-below c d label from (p + 1) row s h.1 same
  same-numbers-below c d label from p (Some e ∷ row) (down t s) h same =
      ap (λ (xs : List ℕ). xs ++ numbers_below c row s) (same-numbers c d label e.node (Some e.port) t h.1 (λ k i. same k (in_left k (numbers c e.node t) (numbers_below c row s) i)))
      ∙ ap (λ (xs : List ℕ). numbers d e.node t ++ xs) (same-numbers-below c d label from (p + 1) row s h.2 (λ k i. same k (in_right k (numbers c e.node t) (numbers_below c row s) i)))
  same-numbers-below c d label from p row s h same = absurd h

same-before :
    (c d : Wiring) (label : ℕ → Label) (from : Option ℕ) (p : ℕ) (row : List (Option End))
    (s : Slots) (q : ℕ) → SeesFrom c label from p row s →
    ((k : ℕ) → In k (numbers_below c row s) → ports_of c k ≡ ports_of d k) →
    before c row s q ≡ before d row s q
same-before c d label from p [] s zero h same = refl
same-before c d label from p [] s (suc q) h same = refl
same-before c d label from p (None ∷ row) (unplugged s) zero h same = refl
same-before c d label from p (None ∷ row) (unplugged s) (suc q) h same = same-before c d label from (p + 1) row s q h same
same-before c d label from p (Some e ∷ row) (up s) zero h same = refl
same-before c d label from p (Some e ∷ row) (up s) (suc q) h same = same-before c d label from (p + 1) row s q h.1 same
same-before c d label from p (Some e ∷ row) (down t s) zero h same = refl
same-before c d label from p (Some e ∷ row) (down t s) (suc q) h same =
    ap (λ (xs : List ℕ). length xs + before c row s q) (same-numbers c d label e.node (Some e.port) t h.1 (λ k i. same k (in_left k (numbers c e.node t) (numbers_below c row s) i)))
    ∙ ap (λ (n : ℕ). length (numbers d e.node t) + n) (same-before c d label from (p + 1) row s q h.2 (λ k i. same k (in_right k (numbers c e.node t) (numbers_below c row s) i)))
same-before c d label from p row s q h same = absurd h

mutual
  same-mark :
      (c d : Wiring) (label : ℕ → Label) (x : ℕ) (from : Option ℕ) (t : Tree) (base z q : ℕ) →
      Sees c label x from t → ((k : ℕ) → In k (numbers c x t) → ports_of c k ≡ ports_of d k) →
      mark c x t base z q ≡ mark d x t base z q
  same-mark c d label x from (branch a s) base z q h same =
      let row = ports_of c x in
      let own : ports_of c x ≡ ports_of d x = same x (in_right x (numbers_below c row s) (x ∷ []) (inl refl)) in
      let below : (k : ℕ) → In k (numbers_below c row s) → ports_of c k ≡ ports_of d k = λ k i. same k (in_left k (numbers_below c row s) (x ∷ []) i) in
      ap (λ (n : ℕ). cond (eqb z x) (base + n) (mark_below c row s base z q)) (same-before c d label from 0 row s q h.2 below)
      ∙ ap (λ (n : ℕ). cond (eqb z x) (base + before d row s q) n) (same-mark-below c d label from 0 row s base z q h.2 below)
      ∙ ap (λ (r : List (Option End)). cond (eqb z x) (base + before d r s q) (mark_below d r s base z q)) own

  same-mark-below :
      (c d : Wiring) (label : ℕ → Label) (from : Option ℕ) (p : ℕ) (row : List (Option End))
      (s : Slots) (base z q : ℕ) → SeesFrom c label from p row s →
      ((k : ℕ) → In k (numbers_below c row s) → ports_of c k ≡ ports_of d k) →
      mark_below c row s base z q ≡ mark_below d row s base z q
  same-mark-below c d label from p [] s base z q h same = refl
  same-mark-below c d label from p (None ∷ row) (unplugged s) base z q h same = same-mark-below c d label from (p + 1) row s base z q h same
  same-mark-below c d label from p (Some e ∷ row) (up s) base z q h same = same-mark-below c d label from (p + 1) row s base z q h.1 same
  same-mark-below c d label from p (Some e ∷ row) (down t s) base z q h same =
      let left : (k : ℕ) → In k (numbers c e.node t) → ports_of c k ≡ ports_of d k = λ k i. same k (in_left k (numbers c e.node t) (numbers_below c row s) i) in
      let right : (k : ℕ) → In k (numbers_below c row s) → ports_of c k ≡ ports_of d k = λ k i. same k (in_right k (numbers c e.node t) (numbers_below c row s) i) in
      let ns : numbers c e.node t ≡ numbers d e.node t = same-numbers c d label e.node (Some e.port) t h.1 left in
      ap (λ (n : ℕ). cond (is_in z (numbers c e.node t)) n (mark_below c row s (base + length (numbers c e.node t)) z q)) (same-mark c d label e.node (Some e.port) t base z q h.1 left)
      ∙ ap (λ (n : ℕ). cond (is_in z (numbers c e.node t)) (mark d e.node t base z q) n) (same-mark-below c d label from (p + 1) row s (base + length (numbers c e.node t)) z q h.2 right)
      ∙ ap (λ (xs : List ℕ). cond (is_in z xs) (mark d e.node t base z q) (mark_below d row s (base + length xs) z q)) ns
  same-mark-below c d label from p row s base z q h same = absurd h

pub seen-alike :
    (c d : Wiring) (label other : ℕ → Label) (root set : ℕ) (t : Tree) → Loopless c root set →
    Sees c label root None t → Alike c d label other set → SeenAlike c d other root t
seen-alike c d label other root set t l h a =
    let same : (k : ℕ) → In k (numbers c root t) → ports_of c k ≡ ports_of d k = λ k i. a.ports k (tree_within c label root set t l h k i) in
    record {
      seen = same-sees c d label other root None t h (λ k i. (same k i, a.labels k (tree_within c label root set t l h k i)));
      order = same-numbers c d label root None t h same;
      marks = λ z q. same-mark c d label root None t 0 z q h same;
    }
