-- Where each node of a seen tree but the root has a parent port that leads up, it is the port by
-- which the
-- node is come to.
use Rattle.std.proofs.Common.{◌≡◌, ◌≢◌, ℕ, zero, suc, ◌+◌, inl, Option, Some, None, List, [], ◌∷◌, get_or, refl, sym, subst, ap, ◌∙◌, arith}
use Rattle.outcomes.proofs.Common.{Label, Tree, branch, Slots, unplugged, up, down, End, Wiring, ports_of, far, Sees, SeesFrom, numbers, numbers_below, ParentsAre, ParentsBelow, end_at, In, in_left, in_right, Loopless, tree_within}
use Rattle.outcomes.specs.Parents.{LeadDown}
use Rattle.cabling.proofs.Lemmas.{RowAt, row_all, row_head, row_tail}

-- the root of a tree has the port
tree-parent :
    (c : Wiring) (parent : ℕ → Option ℕ) (x : ℕ) (from : Option ℕ) (t : Tree) →
    ParentsAre c parent x from t → parent x ≡ from
tree-parent c parent x from (branch a s) h = h.0

-- so does the far end of each port but the one that was come by
pub child-parent :
    (c : Wiring) (label : ℕ → Label) (parent : ℕ → Option ℕ) (from : Option ℕ) (p : ℕ)
    (row : List (Option End)) (s : Slots) → SeesFrom c label from p row s →
    ParentsBelow c parent row s → (i q : ℕ) (b : End) → q ≡ p + i → get_or row i None ≡ Some b →
    from ≢ Some q → parent b.node ≡ Some b.port
child-parent c label parent from p [] s h k i q b e j ne = absurd cc
child-parent c label parent from p (None ∷ row) (unplugged s) h k zero q b e j ne = absurd cc
child-parent c label parent from p (None ∷ row) (unplugged s) h k (suc i) q b e j ne = child-parent c label parent from (p + 1) row s h k i q b (omega arith) j ne
child-parent c label parent from p (Some f ∷ row) (up s) h k zero q b e j ne = let same : p ≡ q = omega arith in absurd (ne (h.0 ∙ ap (λ (n : ℕ). Some n) same))
child-parent c label parent from p (Some f ∷ row) (up s) h k (suc i) q b e j ne = child-parent c label parent from (p + 1) row s h.1 k i q b (omega arith) j ne
child-parent c label parent from p (Some f ∷ row) (down t s) h k zero q b e j ne =
    let same : f ≡ b = cc in
    subst (λ (y : End). parent y.node ≡ Some y.port) same (tree-parent c parent f.node (Some f.port) t k.0)
child-parent c label parent from p (Some f ∷ row) (down t s) h k (suc i) q b e j ne = child-parent c label parent from (p + 1) row s h.2 k.1 i q b (omega arith) j ne
child-parent c label parent from p row s h k i q b e j ne = absurd h

-- ---- from above: each port of a node that isn't its parent port leads to a parent port

mutual
  down-tree :
      (c : Wiring) (label : ℕ → Label) (parent : ℕ → Option ℕ) (x : ℕ) (from : Option ℕ) (t : Tree)
      → Sees c label x from t → parent x ≡ from →
      ((k p : ℕ) (b : End) → In k (numbers c x t) → far c (end_at k p) ≡ Some b →
      parent k ≢ Some p → parent b.node ≡ Some b.port)
      → ParentsAre c parent x from t
  down-tree c label parent x from (branch a s) h mine all = (
    mine,
    down-slots c label parent x from 0 (ports_of c x) s (row_all c x) h.2
        (λ p b j ne. all x p b (in_right x (numbers_below c (ports_of c x) s) (x ∷ []) (inl refl)) j (λ e. ne (sym mine ∙ e)))
        (λ k p b i j ne. all k p b (in_left k (numbers_below c (ports_of c x) s) (x ∷ []) i) j ne),
  )

  down-slots :
      (c : Wiring) (label : ℕ → Label) (parent : ℕ → Option ℕ) (x : ℕ) (from : Option ℕ) (p : ℕ)
      (row : List (Option End)) (s : Slots) → RowAt c x p row → SeesFrom c label from p row s →
      ((q : ℕ) (b : End) → far c (end_at x q) ≡ Some b → from ≢ Some q →
      parent b.node ≡ Some b.port)
      →
      ((k q : ℕ) (b : End) → In k (numbers_below c row s) → far c (end_at k q) ≡ Some b →
      parent k ≢ Some q → parent b.node ≡ Some b.port)
      → ParentsBelow c parent row s
  down-slots c label parent x from p [] s at h own all = tt
  down-slots c label parent x from p (None ∷ row) (unplugged s) at h own all = down-slots c label parent x from (p + 1) row s (row_tail c x p None row at) h own all
  down-slots c label parent x from p (Some f ∷ row) (up s) at h own all = down-slots c label parent x from (p + 1) row s (row_tail c x p (Some f) row at) h.1 own all
  down-slots c label parent x from p (Some f ∷ row) (down t s) at h own all = (
    down-tree c label parent f.node (Some f.port) t h.1 (own p f (row_head c x p (Some f) row at) h.0) (λ k q b i j ne. all k q b (in_left k (numbers c f.node t) (numbers_below c row s) i) j ne),
    down-slots c label parent x from (p + 1) row s (row_tail c x p (Some f) row at) h.2 own (λ k q b i j ne. all k q b (in_right k (numbers c f.node t) (numbers_below c row s) i) j ne),
  )
  down-slots c label parent x from p row s at h own all = absurd h

pub parents-from-above :
    (c : Wiring) (label : ℕ → Label) (parent : ℕ → Option ℕ) (root set : ℕ) (t : Tree) →
    Loopless c root set → Sees c label root None t → LeadDown c set root parent →
    ParentsAre c parent root None t
parents-from-above c label parent root set t l h d = down-tree c label parent root None t h d.none (λ k p b i j ne. d.others k p b (tree_within c label root set t l h k i) j ne)
