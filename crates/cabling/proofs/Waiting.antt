-- The walk is made from its end: each visit that waits stands for the walk of the tree that is seen from it.
use Rattle.std.proofs.Common.{◌≡◌, ◌≢◌, ℕ, ◌+◌, ◌<◌, ◌≤◌, Bool, true, false, cond, eqb, Option, Some, None, List, [], ◌∷◌, ◌++◌, length, map, reverse, drop, refl, sym, subst, ap, ◌∙◌, arith, append_assoc, length-append, append-nil, get_or, drop-cons, add-one}
use Rattle.std.proofs.lemmas.Bool.{ne_eqb}
use Rattle.std.proofs.lemmas.Bool.Decides.{nat_tests}
use Rattle.std.proofs.lemmas.List.{reverse-append, length-reverse, map-append, length-map}
use Rattle.topology_stack.specs.Tree.{Label, Tree, branch, Slots, no_more, absent, unplugged, up, down}
use Rattle.cabling.specs.declared.cable.End.{End}
use Rattle.cabling.specs.declared.visits.Visit.{Visit}
use Rattle.cabling.specs.Wiring.{Wiring, ports_of, IsCabling}
use Rattle.cabling.specs.Sees.{Sees, SeesFrom, numbers, numbers_below, SmallTree}
use Rattle.cabling.specs.codings.Visits.{visits, visits_below, by_port, next_visits, at_root}
use Rattle.cabling.proofs.Ends.{plugged}
use Rattle.cabling.proofs.Near.{end_at}
use Rattle.cabling.proofs.Seen.{RowAt, row_all, row_head, row_tail}

abbrev pub node_of : Visit → ℕ
node_of v = v.node

-- the visits have the numbers of the tree's nodes
mutual
  pub nodes-visits : (c : Wiring) (v : Visit) (t : Tree) →
      map node_of (visits c v t) ≡ numbers c v.node t
  nodes-visits c v (branch a s) = map-append node_of (visits_below c (ports_of c v.node) s) (v ∷ []) ∙ ap (λ (xs : List ℕ). xs ++ v.node ∷ []) (nodes-visits_below c (ports_of c v.node) s)

  nodes-visits_below : (c : Wiring) (row : List (Option End)) (s : Slots) →
      map node_of (visits_below c row s) ≡ numbers_below c row s
  nodes-visits_below c (Some far ∷ row) (down t s) =
      map-append node_of (visits c (record { node = far.node; from = Some far.port }) t) (visits_below c row s)
      ∙ ap (λ (xs : List ℕ). xs ++ map node_of (visits_below c row s)) (nodes-visits c (record { node = far.node; from = Some far.port }) t)
      ∙ ap (λ (xs : List ℕ). numbers c far.node t ++ xs) (nodes-visits_below c row s)
  nodes-visits_below c (Some far ∷ row) (absent s) = nodes-visits_below c row s
  nodes-visits_below c (Some far ∷ row) (unplugged s) = nodes-visits_below c row s
  nodes-visits_below c (Some far ∷ row) (up s) = nodes-visits_below c row s
  nodes-visits_below c (Some far ∷ row) no_more = refl
  nodes-visits_below c (None ∷ row) (down t s) = refl
  nodes-visits_below c (None ∷ row) (absent s) = nodes-visits_below c row s
  nodes-visits_below c (None ∷ row) (unplugged s) = nodes-visits_below c row s
  nodes-visits_below c (None ∷ row) (up s) = nodes-visits_below c row s
  nodes-visits_below c (None ∷ row) no_more = refl
  nodes-visits_below c [] s = refl

pub length-visits : (c : Wiring) (v : Visit) (t : Tree) →
    length (visits c v t) ≡ length (numbers c v.node t)
length-visits c v t = sym (length-map (visits c v t) node_of) ∙ ap length (nodes-visits c v t)

-- ---- visits that wait

-- the list is the walks of the trees that are seen from these visits, one after the other
pub record First (c : Wiring) (label : ℕ → Label) (v : Visit) (rest : List Visit → Type 0) (all : List Visit) : Type 0 where
  pub there : v.node < length c
  pub tree : Tree
  pub seen : Sees c label v.node v.from tree
  pub others : List Visit
  pub split : all ≡ visits c v tree ++ others
  pub after : rest others

abbrev pub Walks : Wiring → (ℕ → Label) → List Visit → List Visit → Type 0
Walks c label [] all = all ≡ []
Walks c label (v ∷ vs) all = First c label v (λ others. Walks c label vs others) all

pub walks_append : (c : Wiring) (label : ℕ → Label) (vs ws all more : List Visit) →
    Walks c label vs all → Walks c label ws more → Walks c label (vs ++ ws) (all ++ more)
walks_append c label [] ws all more e w = subst (λ (xs : List Visit). Walks c label ws (xs ++ more)) (sym e) w
walks_append c label (v ∷ vs) ws all more f w = record {
  there = f.there;
  tree = f.tree;
  seen = f.seen;
  others = f.others ++ more;
  split = ap (λ (xs : List Visit). xs ++ more) f.split ∙ append_assoc (visits c v f.tree) f.others more;
  after = walks_append c label vs ws f.others more f.after w;
}

-- the last of the visits that wait
pub record Last (c : Wiring) (label : ℕ → Label) (vs : List Visit) (v : Visit) (all : List Visit) : Type 0 where
  pub before : List Visit
  pub walks : Walks c label vs before
  pub there : v.node < length c
  pub tree : Tree
  pub seen : Sees c label v.node v.from tree
  pub split : all ≡ before ++ visits c v tree

pub walks_last : (c : Wiring) (label : ℕ → Label) (vs : List Visit) (v : Visit) (all : List Visit) →
    Walks c label (vs ++ v ∷ []) all → Last c label vs v all
walks_last c label [] v all f = record { before = []; walks = refl; there = f.there; tree = f.tree; seen = f.seen; split = f.split ∙ ap (λ (xs : List Visit). visits c v f.tree ++ xs) f.after ∙ append-nil (visits c v f.tree) }
walks_last c label (u ∷ vs) v all f =
    let l = walks_last c label vs v f.others f.after in
    record {
      before = visits c u f.tree ++ l.before;
      walks = record { there = f.there; tree = f.tree; seen = f.seen; others = l.before; split = refl; after = l.walks };
      there = l.there;
      tree = l.tree;
      seen = l.seen;
      split = f.split ∙ ap (λ (xs : List Visit). visits c u f.tree ++ xs) l.split ∙ sym (append_assoc (visits c u f.tree) l.before (visits c v l.tree));
    }

-- each visit that waits stands for one at least
some_visit : (c : Wiring) (v : Visit) (t : Tree) → 0 < length (visits c v t)
some_visit c v (branch a s) = omega (arith, length-append (visits_below c (ports_of c v.node) s) (v ∷ []))

pub walks_long : (c : Wiring) (label : ℕ → Label) (vs all : List Visit) → Walks c label vs all →
    length vs ≤ length all
walks_long c label [] all e = omega arith
walks_long c label (v ∷ vs) all f = omega (arith, some_visit c v f.tree, ap length f.split, length-append (visits c v f.tree) f.others, walks_long c label vs f.others f.after)

-- ---- the visits by a node's ports

by_from : (from : Option ℕ) (p : ℕ) (e : End) → from ≡ Some p → by_port from p (Some e) ≡ []
by_from None p e is = absurd cc
by_from (Some q) p e is = go (eqb q p) (let same : q ≡ p = cc in grind (arith, nat_tests))
  where
    go : (b : Bool) → b ≡ true → cond {A = List Visit} b [] ((record { node = e.node; from = Some e.port }) ∷ []) ≡ []
    go true t = refl
    go false t = absurd cc

by_other : (from : Option ℕ) (p : ℕ) (e : End) → from ≢ Some p →
    by_port from p (Some e) ≡ (record { node = e.node; from = Some e.port }) ∷ []
by_other None p e ne = refl
by_other (Some q) p e ne = go (eqb q p) (ne_eqb q p (λ same. ne (ap (λ (n : ℕ). Some n) same)))
  where
    go : (b : Bool) → b ≡ false → cond {A = List Visit} b [] ((record { node = e.node; from = Some e.port }) ∷ []) ≡ (record { node = e.node; from = Some e.port }) ∷ []
    go true t = absurd cc
    go false t = refl

pub walks_onward : (c : Wiring) (label : ℕ → Label) (x : ℕ) (from : Option ℕ) (p : ℕ) (row : List (Option End)) (s : Slots) →
    IsCabling c → RowAt c x p row → SeesFrom c label from p row s →
    Walks c label (next_visits from p row) (visits_below c row s)
walks_onward c label x from p [] no_more is at h = refl
walks_onward c label x from p [] (absent s) is at h = refl
walks_onward c label x from p (None ∷ row) (unplugged s) is at h = walks_onward c label x from (p + 1) row s is (row_tail c x p None row at) h
walks_onward c label x from p (Some e ∷ row) (up s) is at h =
    subst (λ (xs : List Visit). Walks c label (xs ++ next_visits from (p + 1) row) (visits_below c row s)) (sym (by_from from p e h.0)) (walks_onward c label x from (p + 1) row s is (row_tail c x p (Some e) row at) h.1)
walks_onward c label x from p (Some e ∷ row) (down t s) is at h =
    subst (λ (xs : List Visit). Walks c label (xs ++ next_visits from (p + 1) row) (visits c (record { node = e.node; from = Some e.port }) t ++ visits_below c row s)) (sym (by_other from p e h.0))
    (record {
      there = (plugged c e (end_at x p) (is.both_ways (end_at x p) e (row_head c x p (Some e) row at))).node;
      tree = t;
      seen = h.1;
      others = visits_below c row s;
      split = refl;
      after = walks_onward c label x from (p + 1) row s is (row_tail c x p (Some e) row at) h.2;
    })
walks_onward c label x from p row s is at h = absurd h

-- ---- the loop

pub record Going (c : Wiring) (label : ℕ → Label) (waiting done whole : List Visit) : Type 0 where
  pub rest : List Visit
  pub walks : Walks c label waiting rest
  pub all : rest ++ reverse done ≡ whole

pub going_first : (c : Wiring) (label : ℕ → Label) (v : Visit) (t : Tree) → v.node < length c →
    Sees c label v.node v.from t → Going c label (v ∷ []) [] (visits c v t)
going_first c label v t there h = record {
  rest = visits c v t;
  walks = record { there = there; tree = t; seen = h; others = []; split = sym (append-nil (visits c v t)); after = refl };
  all = append-nil (visits c v t);
}

regroup : (a b r : List Visit) (v : Visit) → (a ++ b) ++ (v ∷ r) ≡ (a ++ (b ++ v ∷ [])) ++ r
regroup a b r v = simp append_assoc

reverse-push : (xs : List Visit) (v : Visit) → reverse (xs ++ v ∷ []) ≡ v ∷ reverse xs
reverse-push xs v = reverse-append xs (v ∷ [])

going_by : (c : Wiring) (label : ℕ → Label) (waiting done whole : List Visit) (v : Visit) (is : IsCabling c) (g : Going c label (waiting ++ v ∷ []) done whole) (t : Tree) →
    Sees c label v.node v.from t → (before : List Visit) → Walks c label waiting before →
    g.rest ≡ before ++ visits c v t →
    Going c label (waiting ++ next_visits v.from 0 (ports_of c v.node)) (done ++ v ∷ []) whole
going_by c label waiting done whole v is g (branch a s) h before w split =
    let row = ports_of c v.node in
    record {
      rest = before ++ visits_below c row s;
      walks = walks_append c label waiting (next_visits v.from 0 row) before (visits_below c row s) w (walks_onward c label v.node v.from 0 row s is (row_all c v.node) h.2);
      all =
          ap (λ (xs : List Visit). (before ++ visits_below c row s) ++ xs) (reverse-push done v)
          ∙ regroup before (visits_below c row s) (reverse done) v
          ∙ ap (λ (xs : List Visit). xs ++ reverse done) (sym split)
          ∙ g.all;
    }

pub going_next : (c : Wiring) (label : ℕ → Label) (waiting done whole : List Visit) (v : Visit) →
    IsCabling c → Going c label (waiting ++ v ∷ []) done whole →
    Going c label (waiting ++ next_visits v.from 0 (ports_of c v.node)) (done ++ v ∷ []) whole
going_next c label waiting done whole v is g =
    let l = walks_last c label waiting v g.rest g.walks in
    going_by c label waiting done whole v is g l.tree l.seen l.before l.walks l.split

pub going_room : (c : Wiring) (label : ℕ → Label) (waiting done whole : List Visit) →
    Going c label waiting done whole → length waiting + length done ≤ length whole
going_room c label waiting done whole g = omega (arith, walks_long c label waiting g.rest g.walks, ap length g.all, length-append g.rest (reverse done), length-reverse done)

pub going_last : (c : Wiring) (label : ℕ → Label) (done whole : List Visit) →
    Going c label [] done whole → reverse done ≡ whole
going_last c label done whole g = subst (λ (xs : List Visit). xs ++ reverse done ≡ whole) g.walks g.all

-- the node of the last visit that waits is there
pub going_there : (c : Wiring) (label : ℕ → Label) (waiting done whole : List Visit) (v : Visit) →
    Going c label (waiting ++ v ∷ []) done whole → v.node < length c
going_there c label waiting done whole v g = (walks_last c label waiting v g.rest g.walks).there

-- ---- as the code does it

-- labels that say nothing
abbrev pub plain : ℕ → Label
plain x = record { attrs = record { link = false; gap = 0; speed = 0; delay = 0; contender = false; power = 0; initiated = false }; kept_a = 0; kept_b = 0 }

-- for each tree that is seen from the root
abbrev pub AllGoing : Wiring → ℕ → List Visit → List Visit → Type 0
AllGoing c root waiting done = (label : ℕ → Label) (tree : Tree) → Sees c label root None tree → Going c label waiting done (visits c (at_root root) tree)

abbrev pub AllSmall : Wiring → ℕ → Type 0
AllSmall c root = (label : ℕ → Label) → SmallTree c label root

pub all_first : (c : Wiring) (root : ℕ) (waiting done : List Visit) → root < length c →
    waiting ≡ (at_root root) ∷ [] → done ≡ [] → AllGoing c root waiting done
all_first c root waiting done there w d label tree h = rw (w, d) (going_first c label (at_root root) tree there h)

pub all_next : (c : Wiring) (root : ℕ) (before waiting done after done_after : List Visit) (v : Visit) →
    IsCabling c → before ≡ waiting ++ v ∷ [] → done_after ≡ done ++ v ∷ [] →
    after ≡ waiting ++ next_visits v.from 0 (ports_of c v.node) → AllGoing c root before done →
    AllGoing c root after done_after
all_next c root before waiting done after done_after v is b d a all label tree h =
    rw (a, d) (going_next c label waiting done (visits c (at_root root) tree) v is (subst (λ (xs : List Visit). Going c label xs done (visits c (at_root root) tree)) b (all label tree h)))

pub all_last : (c : Wiring) (root : ℕ) (waiting done : List Visit) → waiting ≡ [] →
    AllGoing c root waiting done → (label : ℕ → Label) (tree : Tree) → Sees c label root None tree →
    reverse done ≡ visits c (at_root root) tree
all_last c root waiting done e all label tree h = going_last c label done (visits c (at_root root) tree) (subst (λ (xs : List Visit). Going c label xs done (visits c (at_root root) tree)) e (all label tree h))

pub all_room : (c : Wiring) (root : ℕ) (waiting done : List Visit) → AllSmall c root →
    AllGoing c root waiting done → length waiting + length done ≤ 63
all_room c root waiting done small all =
    let s = small plain in
    omega (arith, going_room c plain waiting done (visits c (at_root root) s.tree) (all plain s.tree s.seen), length-visits c (at_root root) s.tree, s.few)

pub all_there : (c : Wiring) (root : ℕ) (before waiting done : List Visit) (v : Visit) →
    AllSmall c root → before ≡ waiting ++ v ∷ [] → AllGoing c root before done → v.node < length c
all_there c root before waiting done v small b all =
    let s = small plain in
    going_there c plain waiting done (visits c (at_root root) s.tree) v (subst (λ (xs : List Visit). Going c plain xs done (visits c (at_root root) s.tree)) b (all plain s.tree s.seen))

-- one port more
pub onward_at : (from : Option ℕ) (i : ℕ) (row : List (Option End)) → i < length row →
    next_visits from i (drop i row) ≡ by_port from i (get_or row i None) ++ next_visits from (i + 1) (drop (i + 1) row)
onward_at from i row less = rw (drop-cons row i None) (rw (add-one i) refl)

pub onward_room : (from : Option ℕ) (i : ℕ) (row : List (Option End)) (now old : List Visit) (v : Visit) →
    i < length row → now ++ next_visits from i (drop i row) ≡ old ++ next_visits from 0 row →
    by_port from i (get_or row i None) ≡ v ∷ [] →
    length old + length (next_visits from 0 row) ≤ 63 → length now < 63
onward_room from i row now old v less e one few =
    let there : next_visits from i (drop i row) ≡ v ∷ next_visits from (i + 1) (drop (i + 1) row) = onward_at from i row less ∙ ap (λ (xs : List Visit). xs ++ next_visits from (i + 1) (drop (i + 1) row)) one in
    omega (arith, ap length e, length-append now (next_visits from i (drop i row)), length-append old (next_visits from 0 row), ap length there)
