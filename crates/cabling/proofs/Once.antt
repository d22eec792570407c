-- A seen tree holds each node of the component once.
use Rattle.std.proofs.Common.{◌≡◌, ◌≢◌, ℕ, zero, suc, ◌+◌, ◌≤◌, ◌⊎◌, inl, inr, Option, Some, None, List, [], ◌∷◌, ◌++◌, get_or, refl, sym, subst, ap, ◌∙◌, arith}
use Rattle.topology_stack.specs.Tree.{Label, Tree, branch, Slots, no_more, absent, unplugged, up, down}
use Rattle.cabling.specs.declared.cable.End.{End}
use Rattle.cabling.specs.Wiring.{Wiring, ports_of, far, IsCabling}
use Rattle.cabling.specs.NodeSet.{Holds}
use Rattle.cabling.specs.Component.{IsClosed}
use Rattle.cabling.specs.Sees.{Sees, SeesFrom, numbers, numbers_below}
use Rattle.cabling.proofs.Ends.{one_other}
use Rattle.cabling.proofs.Near.{end_at}
use Rattle.cabling.proofs.Rank.{Ranked}
use Rattle.cabling.proofs.Climb.{Step, Climbs, climbs_rank, climbs_more, one_way}
use Rattle.cabling.proofs.Seen.{Down, down_next, from_or_not, RowAt, row_all, row_head, row_tail}

-- ---- lists of numbers

abbrev pub In : ℕ → List ℕ → Type 0
In x [] = ⊥
In x (y ∷ ys) = (x ≡ y) ⊎ In x ys

pub in_append : (x : ℕ) (ys zs : List ℕ) → In x (ys ++ zs) → In x ys ⊎ In x zs
in_append x [] zs i = inr i
in_append x (y ∷ ys) zs (inl e) = inl (inl e)
in_append x (y ∷ ys) zs (inr i) = elim (in_append x ys zs i) [ inl a ↦ inl (inr a) | inr b ↦ inr b ]

pub in_left : (x : ℕ) (ys zs : List ℕ) → In x ys → In x (ys ++ zs)
in_left x [] zs i = absurd i
in_left x (y ∷ ys) zs (inl e) = inl e
in_left x (y ∷ ys) zs (inr i) = inr (in_left x ys zs i)

pub in_right : (x : ℕ) (ys zs : List ℕ) → In x zs → In x (ys ++ zs)
in_right x [] zs i = i
in_right x (y ∷ ys) zs i = inr (in_right x ys zs i)

abbrev pub Once : List ℕ → Type 0
Once [] = Unit {0}
Once (x ∷ xs) = (In x xs → ⊥) × Once xs

pub once_append : (xs ys : List ℕ) → Once xs → Once ys → ((x : ℕ) → In x xs → In x ys → ⊥) →
    Once (xs ++ ys)
once_append [] ys a b apart = b
once_append (x ∷ xs) ys a b apart = (
  (λ i. elim (in_append x xs ys i) [ inl l ↦ a.0 l | inr r ↦ apart x (inl refl) r ]),
  once_append xs ys a.1 b (λ z i j. apart z (inr i) j),
)

-- ---- who is in a seen tree

pub record Context (c : Wiring) (rank : ℕ → ℕ) (set root : ℕ) : Type 0 where
  pub cabling : IsCabling c
  pub closed : IsClosed c set
  pub ranked : Ranked c set root rank

-- cables lead up from a node to the top
pub record Climbing (c : Wiring) (rank : ℕ → ℕ) (set top node : ℕ) : Type 0 where
  pub count : ℕ
  pub climbs : Climbs c rank top count node
  pub here : Holds set node

-- they lead up to the far end of a port from a number on
pub record ClimbingTo (c : Wiring) (rank : ℕ → ℕ) (set x : ℕ) (from : Option ℕ) (p node : ℕ) : Type 0 where
  pub port : ℕ
  pub end : End
  pub not_before : p ≤ port
  pub joined : far c (end_at x port) ≡ Some end
  pub onward : from ≢ Some port
  pub climbing : Climbing c rank set end.node node

pub later : (c : Wiring) (rank : ℕ → ℕ) (set x : ℕ) (from : Option ℕ) (p node : ℕ) →
    ClimbingTo c rank set x from (p + 1) node → ClimbingTo c rank set x from p node
later c rank set x from p node t = record { port = t.port; end = t.end; not_before = omega (arith, t.not_before); joined = t.joined; onward = t.onward; climbing = t.climbing }

pub step_back : (c : Wiring) (rank : ℕ → ℕ) (set root x p : ℕ) (from : Option ℕ) (e : End) →
    Context c rank set root → Down c rank set x from → far c (end_at x p) ≡ Some e → from ≢ Some p →
    Step c rank e.node e.port (end_at x p)
step_back c rank set root x p from e k d j ne = record { joined = k.cabling.both_ways (end_at x p) e j; rises = d.falls p e j ne }

mutual
  pub in_tree : (c : Wiring) (label : ℕ → Label) (rank : ℕ → ℕ) (set root x : ℕ) (from : Option ℕ) (t : Tree) →
      Context c rank set root → Down c rank set x from → Sees c label x from t → (z : ℕ) →
      In z (numbers c x t) → Climbing c rank set x z
  in_tree c label rank set root x from (branch a s) k d h z i = elim (in_append z (numbers_below c (ports_of c x) s) (x ∷ []) i) [
    | inl below ↦
        let w = in_slots c label rank set root x from 0 (ports_of c x) s k d (row_all c x) h.2 z below in
        record { count = suc w.climbing.count; climbs = climbs_more c rank w.end.node w.end.port (end_at x w.port) w.climbing.count z w.climbing.climbs (step_back c rank set root x w.port from w.end k d w.joined w.onward); here = w.climbing.here }
    | inr itself ↦ elim itself [
      | inl e ↦ record { count = 0; climbs = e; here = subst (λ (n : ℕ). Holds set n) (sym e) d.here }
      | inr none ↦ absurd none
    ]
  ]

  pub in_slots : (c : Wiring) (label : ℕ → Label) (rank : ℕ → ℕ) (set root x : ℕ) (from : Option ℕ) (p : ℕ) (row : List (Option End)) (s : Slots) →
      Context c rank set root → Down c rank set x from → RowAt c x p row →
      SeesFrom c label from p row s → (z : ℕ) → In z (numbers_below c row s) →
      ClimbingTo c rank set x from p z
  in_slots c label rank set root x from p (None ∷ row) (unplugged s) k d at h z i = later c rank set x from p z (in_slots c label rank set root x from (p + 1) row s k d (row_tail c x p None row at) h z i)
  in_slots c label rank set root x from p (Some e ∷ row) (up s) k d at h z i = later c rank set x from p z (in_slots c label rank set root x from (p + 1) row s k d (row_tail c x p (Some e) row at) h.1 z i)
  in_slots c label rank set root x from p (Some e ∷ row) (down t s) k d at h z i =
      let j : far c (end_at x p) ≡ Some e = row_head c x p (Some e) row at in
      elim (in_append z (numbers c e.node t) (numbers_below c row s) i) [
        | inl child ↦ record { port = p; end = e; not_before = omega arith; joined = j; onward = h.0; climbing = in_tree c label rank set root e.node (Some e.port) t k (down_next c rank set root x p from e k.cabling k.closed k.ranked d j h.0) h.1 z child }
        | inr rest ↦ later c rank set x from p z (in_slots c label rank set root x from (p + 1) row s k d (row_tail c x p (Some e) row at) h.2 z rest)
      ]
  in_slots c label rank set root x from p [] no_more k d at h z i = absurd i
  in_slots c label rank set root x from p [] (absent s) k d at h z i = absurd i
  in_slots c label rank set root x from p row s k d at h z i = absurd h

-- ---- no node twice

mutual
  pub once_tree : (c : Wiring) (label : ℕ → Label) (rank : ℕ → ℕ) (set root x : ℕ) (from : Option ℕ) (t : Tree) →
      Context c rank set root → Down c rank set x from → Sees c label x from t →
      Once (numbers c x t)
  once_tree c label rank set root x from (branch a s) k d h =
      once_append (numbers_below c (ports_of c x) s) (x ∷ []) (once_slots c label rank set root x from 0 (ports_of c x) s k d (row_all c x) h.2) ((λ i. i), tt)
      (λ z below itself. elim itself [
        | inl e ↦
            let w = in_slots c label rank set root x from 0 (ports_of c x) s k d (row_all c x) h.2 z below in
            absurd (omega (arith, climbs_rank c rank w.end.node w.climbing.count z w.climbing.climbs, d.falls w.port w.end w.joined w.onward, ap rank e))
        | inr none ↦ none
      ])

  pub once_slots : (c : Wiring) (label : ℕ → Label) (rank : ℕ → ℕ) (set root x : ℕ) (from : Option ℕ) (p : ℕ) (row : List (Option End)) (s : Slots) →
      Context c rank set root → Down c rank set x from → RowAt c x p row →
      SeesFrom c label from p row s → Once (numbers_below c row s)
  once_slots c label rank set root x from p (None ∷ row) (unplugged s) k d at h = once_slots c label rank set root x from (p + 1) row s k d (row_tail c x p None row at) h
  once_slots c label rank set root x from p (Some e ∷ row) (up s) k d at h = once_slots c label rank set root x from (p + 1) row s k d (row_tail c x p (Some e) row at) h.1
  once_slots c label rank set root x from p (Some e ∷ row) (down t s) k d at h =
      let j : far c (end_at x p) ≡ Some e = row_head c x p (Some e) row at in
      let below : Down c rank set e.node (Some e.port) = down_next c rank set root x p from e k.cabling k.closed k.ranked d j h.0 in
      once_append (numbers c e.node t) (numbers_below c row s)
      (once_tree c label rank set root e.node (Some e.port) t k below h.1)
      (once_slots c label rank set root x from (p + 1) row s k d (row_tail c x p (Some e) row at) h.2)
      (λ z child rest.
      let u = in_tree c label rank set root e.node (Some e.port) t k below h.1 z child in
      let v = in_slots c label rank set root x from (p + 1) row s k d (row_tail c x p (Some e) row at) h.2 z rest in
      let same : end_at x p ≡ end_at x v.port = one_way c rank set root e.node v.end.node e.port v.end.port (end_at x p) (end_at x v.port) u.count v.climbing.count z k.ranked k.closed u.here refl u.climbs v.climbing.climbs
      (step_back c rank set root x p from e k d j h.0) (step_back c rank set root x v.port from v.end k d v.joined v.onward) in
      let port : p ≡ v.port = ap (λ (y : End). y.port) same in
      omega (arith, port, v.not_before))
  once_slots c label rank set root x from p [] no_more k d at h = tt
  once_slots c label rank set root x from p [] (absent s) k d at h = tt
  once_slots c label rank set root x from p row s k d at h = absurd h

-- ---- no cable leads out of a seen tree, but the one by which it was come to

pub in_itself : (c : Wiring) (x : ℕ) (t : Tree) → In x (numbers c x t)
in_itself c x (branch a s) = in_right x (numbers_below c (ports_of c x) s) (x ∷ []) (inl refl)

-- the trees below a node hold the far ends of its ports
in_below : (c : Wiring) (label : ℕ → Label) (x : ℕ) (from : Option ℕ) (p : ℕ) (row : List (Option End)) (s : Slots) →
    SeesFrom c label from p row s → (i q : ℕ) (b : End) → q ≡ p + i → get_or row i None ≡ Some b →
    from ≢ Some q → In b.node (numbers_below c row s)
in_below c label x from p [] s h i q b e j ne = absurd cc
in_below c label x from p (None ∷ row) (unplugged s) h zero q b e j ne = absurd cc
in_below c label x from p (None ∷ row) (unplugged s) h (suc i) q b e j ne = in_below c label x from (p + 1) row s h i q b (omega arith) j ne
in_below c label x from p (Some far ∷ row) (up s) h zero q b e j ne = let same : p ≡ q = omega arith in absurd (ne (h.0 ∙ ap (λ (n : ℕ). Some n) same))
in_below c label x from p (Some far ∷ row) (up s) h (suc i) q b e j ne = in_below c label x from (p + 1) row s h.1 i q b (omega arith) j ne
in_below c label x from p (Some far ∷ row) (down t s) h zero q b e j ne = let same : far ≡ b = cc in in_left b.node (numbers c far.node t) (numbers_below c row s) (subst (λ (y : End). In y.node (numbers c far.node t)) same (in_itself c far.node t))
in_below c label x from p (Some far ∷ row) (down t s) h (suc i) q b e j ne = in_right b.node (numbers c far.node t) (numbers_below c row s) (in_below c label x from (p + 1) row s h.2 i q b (omega arith) j ne)
in_below c label x from p row s h i q b e j ne = absurd h

mutual
  pub closed_tree : (c : Wiring) (label : ℕ → Label) (x : ℕ) (from : Option ℕ) (t : Tree) →
      IsCabling c → Sees c label x from t → (z q : ℕ) (b : End) → In z (numbers c x t) →
      far c (end_at z q) ≡ Some b → In b.node (numbers c x t) ⊎ ((z ≡ x) × (from ≡ Some q))
  closed_tree c label x from (branch a s) is h z q b i j = elim (in_append z (numbers_below c (ports_of c x) s) (x ∷ []) i) [
    | inl below ↦ elim (closed_slots c label x from 0 (ports_of c x) s is (row_all c x) h.2 z q b below j) [
      | inl found ↦ inl (in_left b.node (numbers_below c (ports_of c x) s) (x ∷ []) found)
      | inr root ↦ inl (in_right b.node (numbers_below c (ports_of c x) s) (x ∷ []) (inl root))
    ]
    | inr itself ↦ elim itself [
      | inr none ↦ absurd none
      | inl e ↦ elim (from_or_not from q) [
        | inl is_from ↦ inr (e, is_from)
        | inr ne ↦
            let at : far c (end_at x q) ≡ Some b = subst (λ (n : ℕ). far c (end_at n q) ≡ Some b) e j in
            inl (in_left b.node (numbers_below c (ports_of c x) s) (x ∷ []) (in_below c label x from 0 (ports_of c x) s h.2 q q b (omega arith) at ne))
      ]
    ]
  ]

  pub closed_slots : (c : Wiring) (label : ℕ → Label) (x : ℕ) (from : Option ℕ) (p : ℕ) (row : List (Option End)) (s : Slots) →
      IsCabling c → RowAt c x p row → SeesFrom c label from p row s → (z q : ℕ) (b : End) →
      In z (numbers_below c row s) → far c (end_at z q) ≡ Some b →
      In b.node (numbers_below c row s) ⊎ (b.node ≡ x)
  closed_slots c label x from p (None ∷ row) (unplugged s) is at h z q b i j = closed_slots c label x from (p + 1) row s is (row_tail c x p None row at) h z q b i j
  closed_slots c label x from p (Some e ∷ row) (up s) is at h z q b i j = closed_slots c label x from (p + 1) row s is (row_tail c x p (Some e) row at) h.1 z q b i j
  closed_slots c label x from p (Some e ∷ row) (down t s) is at h z q b i j = elim (in_append z (numbers c e.node t) (numbers_below c row s) i) [
    | inl child ↦ elim (closed_tree c label e.node (Some e.port) t is h.1 z q b child j) [
      | inl found ↦ inl (in_left b.node (numbers c e.node t) (numbers_below c row s) found)
      | inr back ↦
          let port : e.port ≡ q = cc in
          let home : far c (end_at e.node e.port) ≡ Some (end_at x p) = is.both_ways (end_at x p) e (row_head c x p (Some e) row at) in
          let there : far c (end_at e.node e.port) ≡ Some b = rw port (subst (λ (n : ℕ). far c (end_at n q) ≡ Some b) back.0 j) in
          inr (ap (λ (y : End). y.node) (one_other (far c (end_at e.node e.port)) b (end_at x p) there home))
    ]
    | inr rest ↦ elim (closed_slots c label x from (p + 1) row s is (row_tail c x p (Some e) row at) h.2 z q b rest j) [
      | inl found ↦ inl (in_right b.node (numbers c e.node t) (numbers_below c row s) found)
      | inr home ↦ inr home
    ]
  ]
  closed_slots c label x from p [] no_more is at h z q b i j = absurd i
  closed_slots c label x from p [] (absent s) is at h z q b i j = absurd i
  closed_slots c label x from p row s is at h z q b i j = absurd h
