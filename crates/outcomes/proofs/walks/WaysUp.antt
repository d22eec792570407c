-- From each node of a component without a loop one way leads up to a chosen node.
use Rattle.std.proofs.Common.{◌≡◌, ◌≢◌, ℕ, ◌+◌, inl, inr, cond, eqb, Option, Some, None, List, [], ◌∷◌, ◌++◌, map, refl, sym, subst, ap, ◌∙◌, arith, eq-eqb}
use Rattle.std.proofs.lemmas.List.{map-append}
use Rattle.std.proofs.lemmas.Bool.{ne_eqb}
use Rattle.outcomes.proofs.Common.{Label, Tree, branch, Slots, absent, unplugged, up, down, End, Wiring, ports_of, IsCabling, Sees, SeesFrom, numbers, numbers_below, LeadsUp, ParentsAre, ParentsBelow, mark, WaysUp, end_at, In, Once, Loopless, tree_once}
use Rattle.cabling.proofs.Lemmas.{RowAt, row_all, row_head, row_tail, in_append, plain, small_tree, tree_has}
use Rattle.outcomes.proofs.walks.Parents.{child-parent}
use Rattle.outcomes.proofs.walks.Marked.{tree-marked, root-spot}
use Rattle.outcomes.proofs.walks.Rising.{lowest}

-- ---- the ports by which nodes are come to

-- the nodes of a seen tree in the order of its walk, each with the port by which it is come to
abbrev mutual
  stops : Wiring → ℕ → Option ℕ → Tree → List (ℕ × Option ℕ)
  stops c x from (branch a s) = stops_below c (ports_of c x) s ++ (x, from) ∷ []

  stops_below : Wiring → List (Option End) → Slots → List (ℕ × Option ℕ)
  stops_below c (Some far ∷ ports) (down t s) = stops c far.node (Some far.port) t ++ stops_below c ports s
  stops_below c (port ∷ ports) (absent s) = stops_below c ports s
  stops_below c (port ∷ ports) (unplugged s) = stops_below c ports s
  stops_below c (port ∷ ports) (up s) = stops_below c ports s
  stops_below c ports s = []

abbrev stop_node : ℕ × Option ℕ → ℕ
stop_node v = v.0

mutual
  nodes-stops :
      (c : Wiring) (x : ℕ) (from : Option ℕ) (t : Tree) →
      map stop_node (stops c x from t) ≡ numbers c x t
  nodes-stops c x from (branch a s) =
      map-append stop_node (stops_below c (ports_of c x) s) ((x, from) ∷ [])
      ∙ ap (λ (zs : List ℕ). zs ++ x ∷ []) (nodes-below c (ports_of c x) s)

  nodes-below :
      (c : Wiring) (row : List (Option End)) (s : Slots) →
      map stop_node (stops_below c row s) ≡ numbers_below c row s
  nodes-below c (Some e ∷ row) (down t s) =
      map-append stop_node (stops c e.node (Some e.port) t) (stops_below c row s)
      ∙ ap (λ (zs : List ℕ). zs ++ map stop_node (stops_below c row s)) (nodes-stops c e.node (Some e.port) t)
      ∙ ap (λ (zs : List ℕ). numbers c e.node t ++ zs) (nodes-below c row s)
  nodes-below c (port ∷ row) (absent s) = nodes-below c row s
  nodes-below c (port ∷ row) (unplugged s) = nodes-below c row s
  nodes-below c (port ∷ row) (up s) = nodes-below c row s
  nodes-below c row s = refl

-- a function gives the port of each stop
abbrev Gives : (ℕ → Option ℕ) → List (ℕ × Option ℕ) → Type 0
Gives g [] = Unit {0}
Gives g (v ∷ vs) = (g v.0 ≡ v.1) × Gives g vs

gives-left : (g : ℕ → Option ℕ) (xs ys : List (ℕ × Option ℕ)) → Gives g (xs ++ ys) → Gives g xs
gives-left g [] ys a = tt
gives-left g (x ∷ xs) ys a = (a.0, gives-left g xs ys a.1)

gives-right : (g : ℕ → Option ℕ) (xs ys : List (ℕ × Option ℕ)) → Gives g (xs ++ ys) → Gives g ys
gives-right g [] ys a = a
gives-right g (x ∷ xs) ys a = gives-right g xs ys a.1

mutual
  gives-tree :
      (c : Wiring) (label : ℕ → Label) (g : ℕ → Option ℕ) (x : ℕ) (from : Option ℕ) (t : Tree) →
      Sees c label x from t → Gives g (stops c x from t) → ParentsAre c g x from t
  gives-tree c label g x from (branch a s) h k = (
    (gives-right g (stops_below c (ports_of c x) s) ((x, from) ∷ []) k).0,
    gives-slots c label g from 0 (ports_of c x) s h.2 (gives-left g (stops_below c (ports_of c x) s) ((x, from) ∷ []) k),
  )

  gives-slots :
      (c : Wiring) (label : ℕ → Label) (g : ℕ → Option ℕ) (from : Option ℕ) (p : ℕ)
      (row : List (Option End)) (s : Slots) → SeesFrom c label from p row s →
      Gives g (stops_below c row s) → ParentsBelow c g row s
  gives-slots c label g from p [] s h k = tt
  gives-slots c label g from p (None ∷ row) (unplugged s) h k = gives-slots c label g from (p + 1) row s h k
  gives-slots c label g from p (Some e ∷ row) (up s) h k = gives-slots c label g from (p + 1) row s h.1 k
  gives-slots c label g from p (Some e ∷ row) (down t s) h k = (
    gives-tree c label g e.node (Some e.port) t h.1 (gives-left g (stops c e.node (Some e.port) t) (stops_below c row s) k),
    gives-slots c label g from (p + 1) row s h.2 (gives-right g (stops c e.node (Some e.port) t) (stops_below c row s) k),
  )
  gives-slots c label g from p row s h k = absurd h

-- the port of the first stop at a node
port_in : List (ℕ × Option ℕ) → ℕ → Option ℕ
port_in [] z = None
port_in (v ∷ vs) z = cond (eqb z v.0) v.1 (port_in vs z)

port_in-first :
    (v : ℕ × Option ℕ) (vs : List (ℕ × Option ℕ)) → port_in (v ∷ vs) v.0 ≡ v.1
unfolding port_in
port_in-first v vs = rw (eq-eqb v.0 v.0 refl) refl

port_in-later :
    (v : ℕ × Option ℕ) (vs : List (ℕ × Option ℕ)) (z : ℕ) → z ≢ v.0 →
    port_in (v ∷ vs) z ≡ port_in vs z
unfolding port_in
port_in-later v vs z ne = rw (ne_eqb z v.0 ne) refl

gives-more :
    (g f : ℕ → Option ℕ) (vs : List (ℕ × Option ℕ)) →
    ((z : ℕ) → In z (map stop_node vs) → g z ≡ f z) → Gives f vs → Gives g vs
gives-more g f [] same k = tt
gives-more g f (v ∷ vs) same k = (same v.0 (inl refl) ∙ k.0, gives-more g f vs (λ z i. same z (inr i)) k.1)

port_in-gives :
    (vs : List (ℕ × Option ℕ)) → Once (map stop_node vs) → Gives (port_in vs) vs
port_in-gives [] o = tt
port_in-gives (v ∷ vs) o = (
  port_in-first v vs,
  gives-more (port_in (v ∷ vs)) (port_in vs) vs (λ z i. port_in-later v vs z (λ same. o.0 (subst (λ (n : ℕ). In n (map stop_node vs)) same i))) (port_in-gives vs o.1),
)

-- ---- each node but the root has one that leads up

top :
    (c : Wiring) (parent : ℕ → Option ℕ) (x : ℕ) (from : Option ℕ) (t : Tree) →
    ParentsAre c parent x from t → parent x ≡ from
top c parent x from (branch a s) h = h.0

mutual
  below-lead :
      (c : Wiring) (label : ℕ → Label) (parent : ℕ → Option ℕ) (x : ℕ) (from : Option ℕ) (t : Tree)
      → IsCabling c → Sees c label x from t → ParentsAre c parent x from t → (z : ℕ) →
      In z (numbers c x t) → (z ≡ x → LeadsUp c parent x) → LeadsUp c parent z
  below-lead c label parent x from (branch a s) is h u z i own = elim (in_append z (numbers_below c (ports_of c x) s) (x ∷ []) i) [
    | inl below ↦ slots-lead c label parent x from 0 (ports_of c x) s is u.0 (row_all c x) h.2 u.1 z below
    | inr itself ↦ elim itself [
      | inl e ↦ subst (λ (n : ℕ). LeadsUp c parent n) (sym e) (own e)
      | inr none ↦ absurd none
    ]
  ]

  slots-lead :
      (c : Wiring) (label : ℕ → Label) (parent : ℕ → Option ℕ) (x : ℕ) (from : Option ℕ) (p : ℕ)
      (row : List (Option End)) (s : Slots) → IsCabling c → parent x ≡ from → RowAt c x p row →
      SeesFrom c label from p row s → ParentsBelow c parent row s → (z : ℕ) →
      In z (numbers_below c row s) → LeadsUp c parent z
  slots-lead c label parent x from p [] s is mine at h u z i = absurd i
  slots-lead c label parent x from p (None ∷ row) (unplugged s) is mine at h u z i = slots-lead c label parent x from (p + 1) row s is mine (row_tail c x p None row at) h u z i
  slots-lead c label parent x from p (Some e ∷ row) (up s) is mine at h u z i = slots-lead c label parent x from (p + 1) row s is mine (row_tail c x p (Some e) row at) h.1 u z i
  slots-lead c label parent x from p (Some e ∷ row) (down t s) is mine at h u z i = elim (in_append z (numbers c e.node t) (numbers_below c row s) i) [
    | inl child ↦ below-lead c label parent e.node (Some e.port) t is h.1 u.0 z child (λ same. record {
      port = e.port;
      is = top c parent e.node (Some e.port) t u.0;
      end = end_at x p;
      joined = is.both_ways (end_at x p) e (row_head c x p (Some e) row at);
      child = λ back. h.0 (sym mine ∙ back);
    })
    | inr rest ↦ slots-lead c label parent x from (p + 1) row s is mine (row_tail c x p (Some e) row at) h.2 u.1 z rest
  ]
  slots-lead c label parent x from p row s is mine at h u z i = absurd h

pub tree-ways :
    (c : Wiring) (label : ℕ → Label) (parent : ℕ → Option ℕ) (root set : ℕ) (t : Tree) →
    Loopless c root set → Sees c label root None t → ParentsAre c parent root None t →
    WaysUp c set root parent
tree-ways c label parent root set t l h u = record {
  ups = record {
    none = top c parent root None t u;
    others = λ k has ne. below-lead c label parent root None t l.cabling h u k (tree_has c label root set t l.cabling l.component h k has) (λ same. absurd (ne same));
  };
  down = λ k p b has j ne.
      let at = root-spot c label parent root set t l h u k has in
      child-parent c label parent (parent k) 0 (ports_of c k) at.slots at.seen at.below p p b (omega arith) j ne;
  lowest = lowest c parent set root (numbers c root t) (mark c root t 0) l.component.closed (tree-marked c label parent root set t l h u);
}

-- ---- such ways are there

pub ways :
    (c : Wiring) (root set : ℕ) → Loopless c root set → (up : ℕ → Option ℕ) × WaysUp c set root up
ways c root set l =
    let small = small_tree c plain root set l in
    let vs : List (ℕ × Option ℕ) = stops c root None small.tree in
    let once : Once (map stop_node vs) = subst Once (sym (nodes-stops c root None small.tree)) (tree_once c plain root set small.tree l small.seen) in
    (port_in vs, tree-ways c plain (port_in vs) root set small.tree l small.seen (gives-tree c plain (port_in vs) root None small.tree small.seen (port_in-gives vs once)))
