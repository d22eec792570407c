-- A list that comes quadlet by quadlet: which faults last, and where reading stands.
use Rattle.std.proofs.Common.{◌⊎◌, inl, inr, ◌≡◌, ℕ, zero, suc, ◌+◌, ◌-◌, ◌<◌, ◌≤◌, Bool, true, false, cond, eqb, ltb, List, [], ◌∷◌, ◌++◌, length, take, drop, Result, Ok, Err, refl, sym, ap, subst, ◌∙◌, arith, length-append, length-drop}
use Rattle.std.specs.Prelude.{MatchBool, Option, Some, None, is_some}
use Rattle.std.proofs.lemmas.List.{append-nil, take-append-le, take-append-drop, length-take-le, take_all}
use Rattle.std.proofs.lemmas.Bool.{and_parts, eqb-true, eqb-false, ltb-true, ltb-false}
use Rattle.self_id.specs.declared.fault.GroupFault.{GroupFault}
use Rattle.self_id.specs.declared.fault.GroupFault.TheVariants.{Cut}
use Rattle.self_id.specs.declared.standard.Standard.TheVariants.{Ieee2000}
use Rattle.self_id.specs.Node.{Node, IsNode, IsOf, ups, downs}
use Rattle.self_id.specs.Group.{group, StandsAt}
use Rattle.self_id.specs.Refused.{GroupRefused}
use Rattle.self_id.proofs.Lemmas.{read_at, read_at-group, read_at-refused, length-group, three_packets}
use Rattle.topology_stack.specs.declared.fault.TreeFault.{TreeFault}
use Rattle.topology_stack.specs.declared.fault.TreeFault.TheVariants.{Group, Empty, TooFewChildren, TreesLeft, NoRoot}
use Rattle.topology_stack.specs.declared.reader.Place.{Place}
use Rattle.topology_stack.specs.declared.waiting.Waiting.{Waiting}
use Rattle.topology_stack.specs.Tree.{Tree, branch, Slots, walk, IsWhole, AreOf, IsBusTreeOf, groups, emits}
use Rattle.topology_stack.specs.Forest.{walks, Forest}
use Rattle.topology_stack.specs.Refused.{GoesOn, GroupNext, Refused}
use Rattle.topology_stack.specs.declared.fault.TreeStop.{TreeStop}
use Rattle.topology_stack.specs.declared.fault.TreeStop.TheVariants.{Fault}
use Rattle.topology_stack.specs.Reader.{Kept, IsLasting, StandsFor}
use Rattle.topology_stack.specs.codings.Code.{label_of, build}
use Rattle.topology_stack.specs.codings.Place.{IsWholeTree, IsWaiting, IsTreeOrWaiting, IsPlace, StandsAtEnd, GroupMayEnd, IsPlaced}
use Rattle.topology_stack.specs.Waiting.{after_node}
use Rattle.topology_stack.proofs.Lemmas.{no_fault, one_fault}
use Rattle.topology_stack.proofs.Loop.{ok_waiting, too_few, left, joined, few_wait}
use Rattle.topology_stack.proofs.Stack.{built, groups-snoc, AreOf-snoc}
use Rattle.topology_stack.proofs.Sound.{Grows, grows, root_test, ups_one}

-- ---- one more quadlet

-- a list and one quadlet more that begin with a list and more: so does the first list
split_last : (xs g : List ℕ) (q r : ℕ) (rs : List ℕ) → xs ++ q ∷ [] ≡ g ++ r ∷ rs →
    (ys : List ℕ) × (xs ≡ g ++ ys)
split_last xs [] q r rs e = (xs, refl)
split_last [] (y ∷ g) q r rs e = absurd (omega (arith, ap length e, length-append g (r ∷ rs)))
split_last (x ∷ xs) (y ∷ g) q r rs e =
    let head : x ≡ y = cc in
    let tail : xs ++ q ∷ [] ≡ g ++ r ∷ rs = cc in
    let rest = split_last xs g q r rs tail in
    (rest.0, rw (head, ← rest.1) refl)

apart : (n : Node) (f : GroupFault) (r : Result Node GroupFault) → r ≡ Ok n → r ≡ Err f → ⊥
apart n f r a b = cc

-- no whole group stands behind the place
none_stands : (quads : List ℕ) (p : Place) (n : Node) (ys : List ℕ) (more : Bool) →
    ltb p.at (length quads) ≡ more → StandsAtEnd quads p → p.nodes ≤ 62 → IsNode n →
    IsOf Ieee2000 n → drop p.at quads ≡ group n p.nodes ++ ys → ⊥
none_stands quads p n ys true test h few is is_of e =
    let cut = h.cut (ltb-true _ _ test) in
    apart n (Cut (length quads)) (read_at Ieee2000 p.at p.nodes (drop p.at quads)) (ap (read_at Ieee2000 p.at p.nodes) e ∙ read_at-group Ieee2000 n p.at p.nodes ys is is_of few) (read_at-refused Ieee2000 p.at p.nodes (drop p.at quads) (Cut (length quads)) few cut)
none_stands quads p n ys false test h few is is_of e =
    absurd (omega (arith, ltb-false _ _ test, length-drop p.at quads, ap length e, length-append (group n p.nodes) ys, (length-group n p.nodes is).0))

drop_snoc : (n : ℕ) (xs : List ℕ) (q : ℕ) → n ≤ length xs →
    drop n (xs ++ q ∷ []) ≡ drop n xs ++ q ∷ []
drop_snoc zero xs q le = refl
drop_snoc (suc n) [] q le = absurd (omega arith)
drop_snoc (suc n) (x ∷ xs) q le = drop_snoc n xs q (omega arith)

last_of : (quads : List ℕ) (q : ℕ) (p : Place) → StandsAtEnd quads p → p.nodes ≤ 62 →
    (n : Node) (rest : List ℕ) → IsNode n → IsOf Ieee2000 n →
    drop p.at (quads ++ q ∷ []) ≡ group n p.nodes ++ rest → rest ≡ []
last_of quads q p h few n [] is is_of e = refl
last_of quads q p h few n (r ∷ rs) is is_of e =
    let s = split_last (drop p.at quads) (group n p.nodes) q r rs (sym (drop_snoc p.at quads q h.inside) ∙ e) in
    absurd (none_stands quads p n s.0 (ltb p.at (length quads)) refl h few is is_of s.1)

pub may_end : (quads : List ℕ) (q : ℕ) (p : Place) → StandsAtEnd quads p → p.nodes ≤ 62 →
    p.waiting.rooted ≡ false → GroupMayEnd (quads ++ q ∷ []) p
may_end quads q p h few unrooted = record {
  place = record {
    room = h.place.room;
    few = h.place.few;
    trees = h.place.trees;
    read = rw (take-append-le p.at quads (q ∷ []) h.inside) h.place.read;
  };
  some = omega (arith, h.inside, length-append quads (q ∷ []));
  short = omega (arith, h.short, length-append quads (q ∷ []));
  room = few;
  open_ = unrooted;
  last = last_of quads q p h few;
}

not_rooted : (quads : List ℕ) (p : Place) (rooted : Bool) → p.waiting.rooted ≡ rooted →
    StandsAtEnd quads p → p.at < length quads → p.waiting.rooted ≡ false
not_rooted quads p true e h lt = absurd (omega (arith, h.over e))
not_rooted quads p false e h lt = e

few_nodes : (quads : List ℕ) (p : Place) (full : Bool) → eqb p.nodes 63 ≡ full →
    StandsAtEnd quads p → p.at < length quads → p.nodes ≤ 62
few_nodes quads p true e h lt = absurd (omega (arith, h.full (eqb-true _ _ e)))
few_nodes quads p false e h lt = let ne = eqb-false _ _ e in omega (arith, h.place.few)

pub may_end_within : (quads : List ℕ) (q : ℕ) (p : Place) → StandsAtEnd quads p →
    p.at < length quads → GroupMayEnd (quads ++ q ∷ []) p
may_end_within quads q p h lt = may_end quads q p h (few_nodes quads p (eqb p.nodes 63) refl h lt) (not_rooted quads p p.waiting.rooted refl h lt)

-- ---- a whole group

is_waiting : (front : List ℕ) (nodes : ℕ) (w : Waiting) → w.rooted ≡ false →
    IsTreeOrWaiting front nodes w → IsWaiting front w.trees nodes
is_waiting front nodes w e r = subst (λ (b : Bool). MatchBool b (IsWholeTree front nodes) (IsWaiting front w.trees nodes)) e r

pass_tests : (a b : Bool) (x y : TreeFault) (w v : Waiting) →
    cond a (Err x) (cond b (Err y) (ok_waiting w)) ≡ Ok v → (a ≡ false) × (b ≡ false) × (w ≡ v)
pass_tests true b x y w v e = absurd cc
pass_tests false true x y w v e = absurd cc
pass_tests false false x y w v e = (refl, refl, cc)

fail_tests : (a b : Bool) (x y f : TreeFault) (w : Waiting) →
    cond a (Err x) (cond b (Err y) (ok_waiting w)) ≡ Err f →
    ((a ≡ true) × (x ≡ f)) ⊎ ((b ≡ true) × (y ≡ f))
fail_tests true b x y f w e = inl (refl, cc)
fail_tests false true x y f w e = inr (refl, cc)
fail_tests false false x y f w e = absurd cc

-- the list with one more group is that of the nodes with one more
one_more : (front : List ℕ) (trees nodes : ℕ) (n : Node) (h : IsWaiting front trees nodes) →
    front ++ group n nodes ≡ groups 0 (walks h.wait ++ n ∷ [])
one_more front trees nodes n h =
    ap (λ (x : List ℕ). x ++ group n nodes) h.forest.emitted ∙ ap (λ (k : ℕ). groups 0 (walks h.wait) ++ group n k) h.nodes_are ∙ sym (groups-snoc (walks h.wait) n)

root_more : (front : List ℕ) (trees nodes : ℕ) (n : Node) (h : IsWaiting front trees nodes) (s : Slots) (us : List Tree) →
    Grows n h.wait s us → length us ≡ 0 → nodes ≤ 62 → IsNode n → IsOf Ieee2000 n →
    ups n.ports ≡ 0 →
    IsWholeTree (front ++ group n nodes) (nodes + 1)
root_more front trees nodes n h s (u ∷ us) g none few is is_of no_up = absurd (omega arith)
root_more front trees nodes n h s [] g none few is is_of no_up =
    let nodes_are : walk (branch (label_of n) s) ≡ walks h.wait ++ n ∷ [] = g.nodes in
    let count : nodes + 1 ≡ length (walk (branch (label_of n) s)) = omega (arith, h.nodes_are, ap length nodes_are, length-append (walks h.wait) (n ∷ [])) in
    let whole : IsWhole (branch (label_of n) s) = (subst IsNode (sym g.node) is, ap (λ (m : Node). ups m.ports) g.node ∙ no_up, g.parts) in
    let are : AreOf Ieee2000 (walk (branch (label_of n) s)) = subst (AreOf Ieee2000) (sym nodes_are) (AreOf-snoc Ieee2000 (walks h.wait) n h.forest.are_of is_of) in
    record {
      tree = branch (label_of n) s;
      bus = record { bus = record { whole = whole; small = omega (arith, count); one_standard = (Ieee2000, are) }; nodes = are };
      emitted = one_more front trees nodes n h ∙ ap (groups 0) (sym nodes_are);
      count = count;
    }

part_more : (front : List ℕ) (trees nodes : ℕ) (n : Node) (h : IsWaiting front trees nodes) (s : Slots) (us : List Tree) →
    Grows n h.wait s us → IsNode n → IsOf Ieee2000 n → ups n.ports ≡ 1 →
    IsWaiting (front ++ group n nodes) (trees - downs n.ports + 1) (nodes + 1)
part_more front trees nodes n h s us g is is_of one = record {
  wait = branch (label_of n) s ∷ us;
  forest = record {
    waiting = ((subst IsNode (sym g.node) is, ap (λ (m : Node). ups m.ports) g.node ∙ one, g.parts), g.waiting);
    are_of = subst (AreOf Ieee2000) (sym g.nodes) (AreOf-snoc Ieee2000 (walks h.wait) n h.forest.are_of is_of);
    emitted = one_more front trees nodes n h ∙ ap (groups 0) (sym g.nodes);
  };
  count = omega (arith, h.count, g.count);
  nodes_are = omega (arith, h.nodes_are, ap length g.nodes, length-append (walks h.wait) (n ∷ []));
}

by_root : (front : List ℕ) (trees nodes : ℕ) (n : Node) (h : IsWaiting front trees nodes) (s : Slots) (us : List Tree) (rooted : Bool) →
    eqb (ups n.ports) 0 ≡ rooted → Grows n h.wait s us → nodes ≤ 62 → IsNode n → IsOf Ieee2000 n →
    left trees n ≡ false →
    MatchBool rooted (IsWholeTree (front ++ group n nodes) (nodes + 1)) (IsWaiting (front ++ group n nodes) (trees - downs n.ports + 1) (nodes + 1))
by_root front trees nodes n h s us true e g few is is_of all =
    let none : length us ≡ 0 = omega (arith, g.count, h.count, ltb-false _ _ (root_test _ _ all e)) in
    root_more front trees nodes n h s us g none few is is_of (eqb-true _ _ e)
by_root front trees nodes n h s us false e g few is is_of all = part_more front trees nodes n h s us g is is_of (ups_one _ is.one_parent e)

-- reading goes on behind the group of a node that passes its tests
pub read_more : (front : List ℕ) (at nodes : ℕ) (n : Node) (w v : Waiting) →
    IsWaiting front w.trees nodes → nodes ≤ 62 → IsNode n → IsOf Ieee2000 n →
    after_node at w.trees n ≡ Ok v → IsTreeOrWaiting (front ++ group n nodes) (nodes + 1) v
read_more front at nodes n w v h few is is_of go =
    let tests = pass_tests (too_few w.trees n) (left w.trees n) (TooFewChildren at w.trees (downs n.ports)) (TreesLeft at w.trees (downs n.ports)) (joined w.trees n) v go in
    let b = built n.ports h.wait (omega (arith, h.count, ltb-false _ _ tests.0)) in
    let g = grows n h.wait (build n.ports h.wait).0 (build n.ports h.wait).1 b h.forest.waiting in
    subst (λ (x : Waiting). IsTreeOrWaiting (front ++ group n nodes) (nodes + 1) x) tests.2 (by_root front w.trees nodes n h (build n.ports h.wait).0 (build n.ports h.wait).1 (eqb (ups n.ports) 0) refl g few is is_of tests.1)

-- the place behind it is at the end
pub behind : (quads : List ℕ) (p : Place) (n : Node) (after : ℕ) (v : Waiting) →
    GroupMayEnd quads p → StandsAt Ieee2000 quads p.at p.nodes n after →
    after_node p.at p.waiting.trees n ≡ Ok v →
    StandsAtEnd quads (record { at = after; nodes = p.nodes + 1; waiting = v })
behind quads p n after v h s go =
    let none : drop after quads ≡ [] = h.last n (drop after quads) s.is_node s.is_of s.parts in
    let end : after ≡ length quads = omega (arith, s.inside, ap length none, length-drop after quads) in
    let all : take after quads ≡ take p.at quads ++ group n p.nodes =
    ap (λ (k : ℕ). take k quads) end ∙ take_all (length quads) quads (omega arith) ∙ sym (take-append-drop p.at quads)
    ∙ ap (λ (x : List ℕ). take p.at quads ++ x) (s.parts ∙ ap (λ (x : List ℕ). group n p.nodes ++ x) none ∙ append-nil (group n p.nodes))
    in
    record {
      place = record {
        room = omega (arith, h.place.room, s.place, three_packets n p.nodes s.is_node s.is_of);
        few = omega (arith, h.room);
        trees = omega (arith, h.place.trees, few_wait p.at p.waiting.trees n v go);
        read = rw all (read_more (take p.at quads) p.at p.nodes n p.waiting v (is_waiting (take p.at quads) p.nodes p.waiting h.open_ h.place.read) h.room s.is_node s.is_of go);
      };
      inside = s.inside;
      short = omega (arith, end);
      full = λ e. end;
      over = λ e. end;
      cut = λ lt. absurd (omega (arith, end));
    }

-- ---- faults

goes_on : (quads : List ℕ) (p : Place) (h : IsWaiting (take p.at quads) p.waiting.trees p.nodes) (rest : List ℕ) →
    drop p.at quads ≡ rest → p.at < length quads → p.nodes ≤ 62 →
    GoesOn Ieee2000 quads h.wait (take p.at quads) rest p.at 62
goes_on quads p h rest is lt few = record {
  forest = h.forest;
  parts = sym (take-append-drop p.at quads) ∙ ap (λ (x : List ℕ). take p.at quads ++ x) is;
  more = omega (arith, ap length is, length-drop p.at quads);
  place = sym (length-take-le p.at quads (omega arith));
  few = omega (arith, h.nodes_are);
}

pub group_refused : (quads : List ℕ) (p : Place) (f : GroupFault) → IsPlace quads p →
    p.waiting.rooted ≡ false → p.at < length quads → p.nodes ≤ 62 →
    GroupRefused Ieee2000 p.at p.nodes (drop p.at quads) f → Refused Ieee2000 quads (Group f)
group_refused quads p f place unrooted lt few fault =
    let h = is_waiting (take p.at quads) p.nodes p.waiting unrooted place.read in
    (h.wait, take p.at quads, drop p.at quads, p.at, goes_on quads p h (drop p.at quads) refl lt few, subst (λ (k : ℕ). GroupRefused Ieee2000 p.at k (drop p.at quads) f) h.nodes_are fault)

pub node_refused : (quads : List ℕ) (p : Place) (n : Node) (after : ℕ) (f : TreeFault) →
    GroupMayEnd quads p → StandsAt Ieee2000 quads p.at p.nodes n after →
    after_node p.at p.waiting.trees n ≡ Err f → Refused Ieee2000 quads f × IsLasting f
node_refused quads p n after f m s go =
    let h = is_waiting (take p.at quads) p.nodes p.waiting m.open_ m.place.read in
    let parts : drop p.at quads ≡ group n (length (walks h.wait)) ++ drop after quads = s.parts ∙ ap (λ (k : ℕ). group n k ++ drop after quads) h.nodes_are in
    let next : GroupNext Ieee2000 quads h.wait n p.at p.waiting.trees (downs n.ports) = record {
      front = take p.at quads;
      rest = drop after quads;
      goes_on = goes_on quads p h (group n (length (walks h.wait)) ++ drop after quads) parts m.some m.room;
      is_node = s.is_node;
      is_of = s.is_of;
      found_is = h.count;
      wanted_is = refl;
    } in
    elim (fail_tests (too_few p.waiting.trees n) (left p.waiting.trees n) (TooFewChildren p.at p.waiting.trees (downs n.ports)) (TreesLeft p.at p.waiting.trees (downs n.ports)) f (joined p.waiting.trees n) go) [
      | inl few ↦ subst (λ (g : TreeFault). Refused Ieee2000 quads g × IsLasting g) few.1 ((h.wait, n, next, ltb-true _ _ few.0), tt)
      | inr lot ↦ let both = and_parts _ _ lot.0 in subst (λ (g : TreeFault). Refused Ieee2000 quads g × IsLasting g) lot.1 ((h.wait, n, next, eqb-true _ _ both.0, ltb-true _ _ both.1), tt)
    ]

-- a list that ends within a group stands where it stood
pub within : (quads : List ℕ) (p : Place) (at : ℕ) → GroupMayEnd quads p →
    GroupRefused Ieee2000 p.at p.nodes (drop p.at quads) (Cut at) → StandsAtEnd quads p
within quads p at m (front, h, some) =
    let size : length quads - p.at ≡ length front = sym (length-drop p.at quads) ∙ ap length h.parts ∙ length-append front [] ∙ omega arith in
    let end : at ≡ length quads = omega (arith, h.place_is, m.some, size) in
    record {
      place = m.place;
      inside = omega (arith, m.some);
      short = omega (arith, h.few, size);
      full = λ e. absurd (omega (arith, m.room));
      over = λ e. absurd (let x : true ≡ false = sym e ∙ m.open_ in cc);
      cut = λ lt. subst (λ (k : ℕ). GroupRefused Ieee2000 p.at p.nodes (drop p.at quads) (Cut k)) end (front, h, some);
    }

-- ---- the end of a list

pub ends_within : (quads : List ℕ) (p : Place) → StandsAtEnd quads p → p.at < length quads →
    Refused Ieee2000 quads (Group (Cut (length quads)))
ends_within quads p h lt = group_refused quads p (Cut (length quads)) h.place (not_rooted quads p p.waiting.rooted refl h lt) lt (few_nodes quads p (eqb p.nodes 63) refl h lt) (h.cut lt)

pub no_quads : (quads : List ℕ) → length quads ≡ 0 → Refused Ieee2000 quads Empty
no_quads [] e = refl
no_quads (q ∷ qs) e = absurd (omega arith)

whole : (quads : List ℕ) (p : Place) → length quads ≤ p.at → take p.at quads ≡ quads
whole quads p le = take_all p.at quads le

pub ends_unrooted : (quads : List ℕ) (p : Place) → StandsAtEnd quads p → length quads ≤ p.at →
    p.waiting.rooted ≡ false → 0 < length quads → Refused Ieee2000 quads (NoRoot (length quads))
ends_unrooted quads p h le unrooted some =
    let w = is_waiting (take p.at quads) p.nodes p.waiting unrooted h.place.read in
    (w.wait, subst (Forest Ieee2000 w.wait) (whole quads p le) w.forest, omega (arith, w.nodes_are, h.place.room, h.inside), omega (arith, w.nodes_are, h.place.few), refl)

pub ends_rooted : (quads : List ℕ) (p : Place) → StandsAtEnd quads p → length quads ≤ p.at →
    p.waiting.rooted ≡ true → (t : Tree) × IsBusTreeOf Ieee2000 t × (emits t ≡ quads)
ends_rooted quads p h le rooted =
    let w : IsWholeTree (take p.at quads) p.nodes = subst (λ (b : Bool). MatchBool b (IsWholeTree (take p.at quads) p.nodes) (IsWaiting (take p.at quads) p.waiting.trees p.nodes)) rooted h.place.read in
    (w.tree, w.bus, sym w.emitted ∙ whole quads p le)

-- ---- what a reader keeps

pub none_of : (fault : Option TreeFault) → ((f : TreeFault) → fault ≡ Some f → ⊥) →
    is_some fault ≡ false
none_of None other = refl
none_of (Some f) other = absurd (other f refl)

abbrev kept : List ℕ → Option TreeFault → Kept
kept quads fault = record { quads = quads; fault = fault }

pub placed : (quads : List ℕ) (p : Place) (fault : Option TreeFault) → is_some fault ≡ false →
    IsPlaced quads p fault → StandsAtEnd quads p
placed quads p None none h = h
placed quads p (Some f) none h = absurd cc

-- without a fault it keeps the list that it stands for
pub kept_list : (k : Kept) (quads : List ℕ) (fault : Option TreeFault) (l : List ℕ) →
    kept quads fault ≡ k → is_some fault ≡ false → StandsFor k l → quads ≡ l
kept_list k quads None l is none s = subst (λ (x : Kept). StandsFor x l) (sym is) s
kept_list k quads (Some f) l is none s = absurd cc

-- with a fault it keeps that of the list
pub kept_fault : (k : Kept) (quads : List ℕ) (fault : Option TreeFault) (f : TreeFault) (l : List ℕ) →
    kept quads fault ≡ k → fault ≡ Some f → StandsFor k l → Refused Ieee2000 l f × IsLasting f
kept_fault k quads fault f l is some s = subst (λ (x : Kept). StandsFor x l) (sym is ∙ ap (kept quads) some) s

pub room_left : (quads : List ℕ) (q : ℕ) (p : Place) → GroupMayEnd (quads ++ q ∷ []) p →
    length quads < 189
room_left quads q p m = omega (arith, m.short, m.place.room, m.room, length-append quads (q ∷ []))

pub stops_with : (quads l : List ℕ) (q : ℕ) (f : TreeFault) → quads ≡ l →
    Refused Ieee2000 (quads ++ q ∷ []) f × IsLasting f →
    Refused Ieee2000 (l ++ q ∷ []) f × IsLasting f
stops_with quads l q f same h = subst (λ (x : List ℕ). Refused Ieee2000 (x ++ q ∷ []) f × IsLasting f) same h

-- a fault of the list is the only answer
pub no_tree : {A : Type 0} (quads l : List ℕ) (f : TreeFault) (t : Tree) (x : A) → quads ≡ l → Refused Ieee2000 quads f → IsBusTreeOf Ieee2000 t → emits t ≡ l → ◌≡◌ {A = Result A TreeStop} (Err (Fault f)) (Ok x)
no_tree quads l f t x same fault bus e = absurd (no_fault Ieee2000 t f bus (subst (λ (k : List ℕ). Refused Ieee2000 k f) (same ∙ sym e) fault))

pub that_fault : {A : Type 0} (quads l : List ℕ) (f g : TreeFault) → quads ≡ l → Refused Ieee2000 quads f → Refused Ieee2000 l g → ◌≡◌ {A = Result A TreeStop} (Err (Fault f)) (Err (Fault g))
that_fault quads l f g same fault is = ap (λ (h : TreeFault). Err (Fault h)) (one_fault Ieee2000 l f g (subst (λ (k : List ℕ). Refused Ieee2000 k f) same fault) is)

pub accepted : (quads l : List ℕ) (f : TreeFault) → quads ≡ l →
    (t : Tree) × IsBusTreeOf Ieee2000 t × (emits t ≡ quads) → Refused Ieee2000 l f → ⊥
accepted quads l f same (t, bus, e) is = no_fault Ieee2000 t f bus (subst (λ (k : List ℕ). Refused Ieee2000 k f) (sym (e ∙ same)) is)
