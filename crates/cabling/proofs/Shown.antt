-- A seen tree is a bus tree, and its walk is what its nodes show.
use Rattle.std.proofs.Common.{◌≡◌, ◌≢◌, ℕ, zero, suc, ◌+◌, ◌-◌, ◌^◌, ◌<◌, ◌≤◌, inl, inr, Bool, true, false, cond, eqb, nat_le, Option, Some, None, List, [], ◌∷◌, ◌++◌, length, map, drop, get_or, refl, sym, subst, ap, ◌∙◌, arith, append_assoc, length-append, append-nil, drop-cons, add-one}
use Rattle.std.specs.Prelude.{All}
use Rattle.std.proofs.Math.ListN.{replicate}
use Rattle.std.proofs.lemmas.List.{length-replicate, map-append, length-map}
use Rattle.std.proofs.lemmas.List.Elements.{All-get_or}
use Rattle.std.proofs.lemmas.Grind.{common_steps}
use Rattle.std.proofs.lemmas.Bool.{cases_eq, ne_eqb}
use Rattle.std.proofs.lemmas.Bool.Decides.{nat_tests}
use Rattle.self_id.specs.declared.node.Attrs.{Attrs}
use Rattle.self_id.specs.declared.node.PortStatus.{PortStatus}
use Rattle.self_id.specs.declared.node.PortStatus.TheVariants.{Absent, Unplugged, Up, Down}
use Rattle.self_id.specs.declared.standard.Standard.TheVariants.{Ieee2000}
use Rattle.self_id.specs.Node.{Node, IsNode, IsOf, FitBits, ups, is_width, is_width_of, kept_a_bits, kept_b_bits, blank_b_bits}
use Rattle.self_id.specs.Group.{group}
use Rattle.topology_stack.specs.Tree.{Label, Tree, branch, Slots, no_more, absent, unplugged, up, down, statuses, node_of, walk, walk_below, IsPart, AreParts, IsWhole, AreOf, IsBusTreeOf, groups, emits}
use Rattle.cabling.specs.declared.cable.End.{End}
use Rattle.cabling.specs.declared.visits.Visit.{Visit}
use Rattle.cabling.specs.Wiring.{Wiring, ports_of, far, IsCabling}
use Rattle.self_id.specs.Slots.{slot_count}
use Rattle.cabling.specs.Sees.{Sees, SeesFrom, numbers}
use Rattle.cabling.specs.codings.Visits.{visits, visits_below, is_from, at_root}
use Rattle.cabling.specs.Labels.{no_attrs, labels}
use Rattle.cabling.specs.codings.Shown.{statuses_from, slots_of, shown_node}
use Rattle.std.proofs.lemmas.Nat.{pow_pos}
use Rattle.std.proofs.Math.Nat.{zero-mod}
use Rattle.cabling.proofs.Ends.{plugged, none_some}
use Rattle.cabling.proofs.Near.{end_at}
use Rattle.cabling.proofs.Seen.{RowAt, row_all, row_head, row_tail, wide}
use Rattle.cabling.proofs.Waiting.{length-visits}

-- ---- tests of the port

is_from-same : (from : Option ℕ) (p : ℕ) → from ≡ Some p → is_from from p ≡ true
is_from-same None p e = absurd cc
is_from-same (Some q) p e = let same : q ≡ p = cc in grind (arith, nat_tests)

is_from-other : (from : Option ℕ) (p : ℕ) → from ≢ Some p → is_from from p ≡ false
is_from-other None p ne = refl
is_from-other (Some q) p ne = ne_eqb q p (λ same. ne (ap (λ (n : ℕ). Some n) same))

abbrev up_or_down : Bool → PortStatus
up_or_down b = cond b Up Down

-- ---- slots

-- the slots of a seen tree are those that its node shows
slots_shown : (c : Wiring) (label : ℕ → Label) (from : Option ℕ) (p : ℕ) (row : List (Option End)) (s : Slots) (k : ℕ) →
    SeesFrom c label from p row s → length (statuses s) ≡ length row + k →
    statuses s ≡ statuses_from from p row ++ replicate k Absent
slots_shown c label from p [] no_more zero h e = refl
slots_shown c label from p [] no_more (suc k) h e = absurd (omega (arith, e))
slots_shown c label from p [] (absent s) zero h e = absurd (omega (arith, e))
slots_shown c label from p [] (absent s) (suc k) h e = ap (λ (xs : List PortStatus). Absent ∷ xs) (slots_shown c label from (p + 1) [] s k h (omega (arith, e)))
slots_shown c label from p (None ∷ row) (unplugged s) k h e = ap (λ (xs : List PortStatus). Unplugged ∷ xs) (slots_shown c label from (p + 1) row s k h (omega (arith, e)))
slots_shown c label from p (Some far ∷ row) (up s) k h e =
    ap (λ (xs : List PortStatus). Up ∷ xs) (slots_shown c label from (p + 1) row s k h.1 (omega (arith, e)))
    ∙ ap (λ (b : Bool). up_or_down b ∷ (statuses_from from (p + 1) row ++ replicate k Absent)) (sym (is_from-same from p h.0))
slots_shown c label from p (Some far ∷ row) (down t s) k h e =
    ap (λ (xs : List PortStatus). Down ∷ xs) (slots_shown c label from (p + 1) row s k h.2 (omega (arith, e)))
    ∙ ap (λ (b : Bool). up_or_down b ∷ (statuses_from from (p + 1) row ++ replicate k Absent)) (sym (is_from-other from p h.0))
slots_shown c label from p row s k h e = absurd h

pub are_slots : (c : Wiring) (label : ℕ → Label) (v : Visit) (s : Slots) → IsCabling c →
    v.node < length c → SeesFrom c label v.from 0 (ports_of c v.node) s →
    length (statuses s) ≡ slot_count (length (ports_of c v.node)) → statuses s ≡ slots_of c v
are_slots c label v s is there h e =
    let n = length (ports_of c v.node) in
    slots_shown c label v.from 0 (ports_of c v.node) s (slot_count n - n) h (omega (arith, e, wide n (is.few_ports v.node there)))

shown-length : (from : Option ℕ) (p : ℕ) (row : List (Option End)) →
    length (statuses_from from p row) ≡ length row
shown-length from p [] = refl
shown-length from p (r ∷ row) = ap (λ (n : ℕ). suc n) (shown-length from (p + 1) row)

-- ---- one slot up at most

ups_absent : (k : ℕ) → ups (replicate k Absent) ≡ 0
ups_absent zero = refl
ups_absent (suc k) = ups_absent k

ups_padded : (xs : List PortStatus) (k : ℕ) → ups (xs ++ replicate k Absent) ≡ ups xs
ups_padded [] k = ups_absent k
ups_padded (Absent ∷ xs) k = ups_padded xs k
ups_padded (Unplugged ∷ xs) k = ups_padded xs k
ups_padded (Up ∷ xs) k = ap (λ (n : ℕ). n + 1) (ups_padded xs k)
ups_padded (Down ∷ xs) k = ups_padded xs k

ups_none : (p : ℕ) (row : List (Option End)) → ups (statuses_from None p row) ≡ 0
ups_none p [] = refl
ups_none p (None ∷ row) = ups_none (p + 1) row
ups_none p (Some e ∷ row) = ups_none (p + 1) row

ups_down : (b : Bool) (xs : List PortStatus) → b ≡ false → ups (up_or_down b ∷ xs) ≡ ups xs
ups_down true xs e = absurd cc
ups_down false xs e = refl

ups_up : (b : Bool) (xs : List PortStatus) → b ≡ true → ups (up_or_down b ∷ xs) ≡ ups xs + 1
ups_up true xs e = refl
ups_up false xs e = absurd cc

ups_past : (q p : ℕ) (row : List (Option End)) → q < p → ups (statuses_from (Some q) p row) ≡ 0
ups_past q p [] less = refl
ups_past q p (None ∷ row) less = ups_past q (p + 1) row (omega arith)
ups_past q p (Some e ∷ row) less = ups_down (eqb q p) (statuses_from (Some q) (p + 1) row) (ne_eqb q p (λ same. omega arith)) ∙ ups_past q (p + 1) row (omega arith)

ups_at : (c : Wiring) (x q p : ℕ) (e : End) (row : List (Option End)) → RowAt c x p row →
    far c (end_at x q) ≡ Some e → p ≤ q → q < p + length row →
    ups (statuses_from (Some q) p row) ≡ 1
ups_at c x q p e [] at j low high = absurd (omega (arith, low, high))
ups_at c x q p e (None ∷ row) at j low high = elim (cases_eq q p) [
  | inl same ↦
      let nothing : far c (end_at x q) ≡ None = at 0 q (omega arith) in
      absurd (none_some (far c (end_at x q)) e nothing j)
  | inr ne ↦ ups_at c x q (p + 1) e row (row_tail c x p None row at) j (omega arith) (omega arith)
]
ups_at c x q p e (Some f ∷ row) at j low high = elim (cases_eq q p) [
  | inl same ↦ ups_up (eqb q p) (statuses_from (Some q) (p + 1) row) (grind (arith, nat_tests)) ∙ ap (λ (n : ℕ). n + 1) (ups_past q (p + 1) row (omega arith))
  | inr ne ↦ ups_down (eqb q p) (statuses_from (Some q) (p + 1) row) (ne_eqb q p ne) ∙ ups_at c x q (p + 1) e row (row_tail c x p (Some f) row at) j (omega arith) (omega arith)
]

pub ups_root : (c : Wiring) (root : ℕ) → ups (slots_of c (at_root root)) ≡ 0
ups_root c root = ups_padded (statuses_from None 0 (ports_of c root)) (slot_count (length (ports_of c root)) - length (ports_of c root)) ∙ ups_none 0 (ports_of c root)

pub ups_below : (c : Wiring) (x q : ℕ) (e : End) → far c (end_at x q) ≡ Some e →
    ups (slots_of c (record { node = x; from = Some q })) ≡ 1
ups_below c x q e j = ups_padded (statuses_from (Some q) 0 (ports_of c x)) (slot_count (length (ports_of c x)) - length (ports_of c x))
    ∙ ups_at c x q 0 e (ports_of c x) (row_all c x) j (omega arith) (omega (arith, (plugged c (end_at x q) e j).port))

-- ---- seen trees are bus trees

-- labels that packets can show
pub record Fit (c : Wiring) (label : ℕ → Label) : Type 0 where
  pub attrs : (x : ℕ) → x < length c → FitBits (label x).attrs
  pub kept_a : (x : ℕ) → (label x).kept_a ≡ 0
  pub kept_b : (x : ℕ) → (label x).kept_b ≡ 0

is_width-slot_count : (n : ℕ) →
    (is_width (slot_count n) ≡ true) × (is_width_of Ieee2000 (slot_count n) ≡ true)
is_width-slot_count n = go (nat_le n 3) (nat_le n 11)
  where
    go : (a b : Bool) → (is_width (cond a 3 (cond b 11 16)) ≡ true) × (is_width_of Ieee2000 (cond a 3 (cond b 11 16)) ≡ true)
    go true b = (refl, refl)
    go false true = (refl, refl)
    go false false = (refl, refl)

slots-length : (c : Wiring) (v : Visit) → IsCabling c → v.node < length c →
    length (slots_of c v) ≡ slot_count (length (ports_of c v.node))
slots-length c v is there =
    let n = length (ports_of c v.node) in
    omega (arith, length-append (statuses_from v.from 0 (ports_of c v.node)) (replicate (slot_count n - n) Absent), shown-length v.from 0 (ports_of c v.node), length-replicate (slot_count n - n) Absent, wide n (is.few_ports v.node there))

-- what a node shows is a node
pub shown_is_node : (c : Wiring) (label : ℕ → Label) (v : Visit) → IsCabling c → Fit c label →
    v.node < length c → ups (slots_of c v) ≤ 1 → IsNode (shown_node c label v)
shown_is_node c label v is fit there few = record {
  form = record {
    attrs = fit.attrs v.node there;
    width = rw (slots-length c v is there) (is_width-slot_count (length (ports_of c v.node))).0;
    kept_a = rw (fit.kept_a v.node) (pow_pos (kept_a_bits (length (slots_of c v))));
    kept_b = rw (fit.kept_b v.node) (pow_pos (kept_b_bits (length (slots_of c v))));
    blank_b = rw (fit.kept_b v.node) (zero-mod (2 ^ blank_b_bits (length (slots_of c v))));
  };
  one_parent = few;
}

-- by IEEE 1394a-2000
shown_is_of : (c : Wiring) (label : ℕ → Label) (v : Visit) → IsCabling c → v.node < length c →
    IsOf Ieee2000 (shown_node c label v)
shown_is_of c label v is there = rw (slots-length c v is there) (is_width-slot_count (length (ports_of c v.node))).1

-- the node of a seen tree is the one that is statuses_from
node_shown : (c : Wiring) (label : ℕ → Label) (v : Visit) (a : Label) (s : Slots) →
    a ≡ label v.node → statuses s ≡ slots_of c v → node_of a s ≡ shown_node c label v
node_shown c label v a s e f =
    let at : Label → List PortStatus → Node = λ l xs. record { attrs = l.attrs; ports = xs; kept_a = l.kept_a; kept_b = l.kept_b } in
    ap (λ (l : Label). at l (statuses s)) e ∙ ap (λ (xs : List PortStatus). at (label v.node) xs) f

-- slots past the ports are absent
absent_walk : (c : Wiring) (label : ℕ → Label) (from : Option ℕ) (p : ℕ) (s : Slots) →
    SeesFrom c label from p [] s → walk_below s ≡ []
absent_walk c label from p no_more h = refl
absent_walk c label from p (absent s) h = absent_walk c label from (p + 1) s h
absent_walk c label from p (unplugged s) h = absurd h
absent_walk c label from p (up s) h = absurd h
absent_walk c label from p (down t s) h = absurd h

absent_parts : (c : Wiring) (label : ℕ → Label) (from : Option ℕ) (p : ℕ) (s : Slots) →
    SeesFrom c label from p [] s → AreParts s
absent_parts c label from p no_more h = tt
absent_parts c label from p (absent s) h = absent_parts c label from (p + 1) s h
absent_parts c label from p (unplugged s) h = absurd h
absent_parts c label from p (up s) h = absurd h
absent_parts c label from p (down t s) h = absurd h

mutual
  part_seen : (c : Wiring) (label : ℕ → Label) (x q : ℕ) (e : End) (t : Tree) → IsCabling c →
      Fit c label → x < length c → far c (end_at x q) ≡ Some e → Sees c label x (Some q) t →
      IsPart t
  part_seen c label x q e (branch a s) is fit there j h =
      let v : Visit = record { node = x; from = Some q } in
      let slots : statuses s ≡ slots_of c v = are_slots c label v s is there h.2 h.1 in
      let one : ups (slots_of c v) ≡ 1 = ups_below c x q e j in (
        subst IsNode (sym (node_shown c label v a s h.0 slots)) (shown_is_node c label v is fit there (omega (arith, one))),
        ap ups slots ∙ one,
        parts_seen c label x (Some q) 0 (ports_of c x) s is fit (row_all c x) h.2,
      )

  parts_seen : (c : Wiring) (label : ℕ → Label) (x : ℕ) (from : Option ℕ) (p : ℕ) (row : List (Option End)) (s : Slots) →
      IsCabling c → Fit c label → RowAt c x p row → SeesFrom c label from p row s → AreParts s
  parts_seen c label x from p [] no_more is fit at h = tt
  parts_seen c label x from p [] (absent s) is fit at h = absent_parts c label from (p + 1) s h
  parts_seen c label x from p (None ∷ row) (unplugged s) is fit at h = parts_seen c label x from (p + 1) row s is fit (row_tail c x p None row at) h
  parts_seen c label x from p (Some f ∷ row) (up s) is fit at h = parts_seen c label x from (p + 1) row s is fit (row_tail c x p (Some f) row at) h.1
  parts_seen c label x from p (Some f ∷ row) (down t s) is fit at h =
      let back : far c f ≡ Some (end_at x p) = is.both_ways (end_at x p) f (row_head c x p (Some f) row at) in (
        part_seen c label f.node f.port (end_at x p) t is fit (plugged c f (end_at x p) back).node back h.1,
        parts_seen c label x from (p + 1) row s is fit (row_tail c x p (Some f) row at) h.2,
      )
  parts_seen c label x from p row s is fit at h = absurd h

-- ---- the walk of a seen tree is what its nodes show

mutual
  pub walk_seen : (c : Wiring) (label : ℕ → Label) (v : Visit) (t : Tree) → IsCabling c →
      v.node < length c → Sees c label v.node v.from t →
      walk t ≡ map (shown_node c label) (visits c v t)
  walk_seen c label v (branch a s) is there h =
      let slots : statuses s ≡ slots_of c v = are_slots c label v s is there h.2 h.1 in
      ap (λ (n : Node). walk_below s ++ n ∷ []) (node_shown c label v a s h.0 slots)
      ∙ ap (λ (ns : List Node). ns ++ shown_node c label v ∷ []) (walk_below_seen c label v.node v.from 0 (ports_of c v.node) s is (row_all c v.node) h.2)
      ∙ sym (map-append (shown_node c label) (visits_below c (ports_of c v.node) s) (v ∷ []))

  walk_below_seen : (c : Wiring) (label : ℕ → Label) (x : ℕ) (from : Option ℕ) (p : ℕ) (row : List (Option End)) (s : Slots) →
      IsCabling c → RowAt c x p row → SeesFrom c label from p row s →
      walk_below s ≡ map (shown_node c label) (visits_below c row s)
  walk_below_seen c label x from p [] no_more is at h = refl
  walk_below_seen c label x from p [] (absent s) is at h = absent_walk c label from (p + 1) s h
  walk_below_seen c label x from p (None ∷ row) (unplugged s) is at h = walk_below_seen c label x from (p + 1) row s is (row_tail c x p None row at) h
  walk_below_seen c label x from p (Some f ∷ row) (up s) is at h = walk_below_seen c label x from (p + 1) row s is (row_tail c x p (Some f) row at) h.1
  walk_below_seen c label x from p (Some f ∷ row) (down t s) is at h =
      let next : Visit = record { node = f.node; from = Some f.port } in
      let back : far c f ≡ Some (end_at x p) = is.both_ways (end_at x p) f (row_head c x p (Some f) row at) in
      ap (λ (ns : List Node). ns ++ walk_below s) (walk_seen c label next t is (plugged c f (end_at x p) back).node h.1)
      ∙ ap (λ (ns : List Node). map (shown_node c label) (visits c next t) ++ ns) (walk_below_seen c label x from (p + 1) row s is (row_tail c x p (Some f) row at) h.2)
      ∙ sym (map-append (shown_node c label) (visits c next t) (visits_below c row s))
  walk_below_seen c label x from p row s is at h = absurd h

-- ---- each visit of a seen tree is of a node that packets can show

pub record Good (c : Wiring) (v : Visit) : Type 0 where
  pub there : v.node < length c
  pub few : ups (slots_of c v) ≤ 1

abbrev pub AllGood : Wiring → List Visit → Type 0
AllGood c [] = Unit {0}
AllGood c (v ∷ vs) = Good c v × AllGood c vs

good_append : (c : Wiring) (xs ys : List Visit) → AllGood c xs → AllGood c ys → AllGood c (xs ++ ys)
good_append c [] ys a b = b
good_append c (x ∷ xs) ys a b = (a.0, good_append c xs ys a.1 b)

pub good_at : (c : Wiring) (vs : List Visit) (i : ℕ) (d : Visit) → AllGood c vs → i < length vs →
    Good c (get_or vs i d)
good_at c [] i d a less = absurd (omega (arith, less))
good_at c (v ∷ vs) zero d a less = a.0
good_at c (v ∷ vs) (suc i) d a less = good_at c vs i d a.1 (omega (arith, less))

mutual
  pub good_visits : (c : Wiring) (label : ℕ → Label) (v : Visit) (t : Tree) → IsCabling c →
      Good c v → Sees c label v.node v.from t → AllGood c (visits c v t)
  good_visits c label v (branch a s) is g h = good_append c (visits_below c (ports_of c v.node) s) (v ∷ []) (good_below c label v.node v.from 0 (ports_of c v.node) s is (row_all c v.node) h.2) (g, tt)

  good_below : (c : Wiring) (label : ℕ → Label) (x : ℕ) (from : Option ℕ) (p : ℕ) (row : List (Option End)) (s : Slots) →
      IsCabling c → RowAt c x p row → SeesFrom c label from p row s →
      AllGood c (visits_below c row s)
  good_below c label x from p [] s is at h = tt
  good_below c label x from p (None ∷ row) (unplugged s) is at h = good_below c label x from (p + 1) row s is (row_tail c x p None row at) h
  good_below c label x from p (Some f ∷ row) (up s) is at h = good_below c label x from (p + 1) row s is (row_tail c x p (Some f) row at) h.1
  good_below c label x from p (Some f ∷ row) (down t s) is at h =
      let next : Visit = record { node = f.node; from = Some f.port } in
      let back : far c f ≡ Some (end_at x p) = is.both_ways (end_at x p) f (row_head c x p (Some f) row at) in
      let one : ups (slots_of c next) ≡ 1 = ups_below c f.node f.port (end_at x p) back in
      good_append c (visits c next t) (visits_below c row s)
      (good_visits c label next t is (record { there = (plugged c f (end_at x p) back).node; few = omega (arith, one) }) h.1)
      (good_below c label x from (p + 1) row s is (row_tail c x p (Some f) row at) h.2)
  good_below c label x from p row s is at h = absurd h

pub good_root : (c : Wiring) (root : ℕ) → root < length c → Good c (at_root root)
good_root c root there = let none : ups (slots_of c (at_root root)) ≡ 0 = ups_root c root in record { there = there; few = omega (arith, none) }

-- ---- a seen tree is a bus tree

shown_are_of : (c : Wiring) (label : ℕ → Label) (vs : List Visit) → IsCabling c → AllGood c vs →
    AreOf Ieee2000 (map (shown_node c label) vs)
shown_are_of c label [] is all = tt
shown_are_of c label (v ∷ vs) is all = (shown_is_of c label v is all.0.there, shown_are_of c label vs is all.1)

pub bus_seen : (c : Wiring) (label : ℕ → Label) (root : ℕ) (t : Tree) → IsCabling c → Fit c label →
    root < length c → Sees c label root None t → length (numbers c root t) ≤ 63 →
    IsBusTreeOf Ieee2000 t
bus_seen c label root t is fit there h few = record {
  bus = record {
    whole = whole t h;
    small = omega (arith, few, length-visits c (at_root root) t, ap length (walk_seen c label (at_root root) t is there h), length-map (visits c (at_root root) t) (shown_node c label));
    one_standard = (Ieee2000, all_of);
  };
  nodes = all_of;
}
  where
    all_of : AreOf Ieee2000 (walk t)
    all_of = subst (AreOf Ieee2000) (sym (walk_seen c label (at_root root) t is there h)) (shown_are_of c label (visits c (at_root root) t) is (good_visits c label (at_root root) t is (good_root c root there) h))

    whole : (t : Tree) → Sees c label root None t → IsWhole t
    whole (branch a s) h =
        let slots : statuses s ≡ slots_of c (at_root root) = are_slots c label (at_root root) s is there h.2 h.1 in
        let none : ups (slots_of c (at_root root)) ≡ 0 = ups_root c root in (
          subst IsNode (sym (node_shown c label (at_root root) a s h.0 slots)) (shown_is_node c label (at_root root) is fit there (omega (arith, none))),
          ap ups slots ∙ none,
          parts_seen c label root None 0 (ports_of c root) s is fit (row_all c root) h.2,
        )

-- ---- the list, group by group

pub groups_next : (f : Visit → Node) (vs : List Visit) (i : ℕ) (d : Visit) → i < length vs →
    groups i (map f (drop i vs)) ≡ group (f (get_or vs i d)) i ++ groups (i + 1) (map f (drop (i + 1) vs))
groups_next f vs i d less = rw (drop-cons vs i d) (rw (add-one i) refl)

pub listed : (f : Visit → Node) (vs : List Visit) (i : ℕ) (d : Visit) (v : Visit) (n : Node) (quads after list whole : List ℕ) →
    i < length vs → v ≡ get_or vs i d → n ≡ f v → list ≡ group n i → after ≡ quads ++ list →
    quads ++ groups i (map f (drop i vs)) ≡ whole →
    after ++ groups (i + 1) (map f (drop (i + 1) vs)) ≡ whole
listed f vs i d v n quads after list whole less at is group_is e all =
    let rest : List ℕ = groups (i + 1) (map f (drop (i + 1) vs)) in
    ap (λ (xs : List ℕ). xs ++ rest) e
    ∙ append_assoc quads list rest
    ∙ ap (λ (xs : List ℕ). quads ++ (xs ++ rest)) (group_is ∙ ap (λ (m : Node). group m i) (is ∙ ap f at))
    ∙ ap (λ (xs : List ℕ). quads ++ xs) (sym (groups_next f vs i d less))
    ∙ all

pub listed_all : (f : Visit → Node) (vs : List Visit) (i : ℕ) (quads whole : List ℕ) →
    length vs ≤ i → quads ++ groups i (map f (drop i vs)) ≡ whole → quads ≡ whole
listed_all f vs i quads whole le all = sym (append-nil quads) ∙ ap (λ (xs : List Visit). quads ++ groups i (map f xs)) (sym (dropped vs i le)) ∙ all
  where
    dropped : (vs : List Visit) (i : ℕ) → length vs ≤ i → drop i vs ≡ []
    dropped vs i le = grind (arith, common_steps)

pub list_seen : (c : Wiring) (label : ℕ → Label) (root : ℕ) (t : Tree) → IsCabling c →
    root < length c → Sees c label root None t →
    emits t ≡ groups 0 (map (shown_node c label) (visits c (at_root root) t))
list_seen c label root t is there h = ap (λ (ns : List Node). groups 0 ns) (walk_seen c label (at_root root) t is there h)

-- labels by attributes
pub labels_fit : (c : Wiring) (attrs : List Attrs) → length attrs ≡ length c → All FitBits attrs →
    Fit c (labels attrs)
labels_fit c attrs e all = record {
  attrs = λ x there. All-get_or FitBits attrs x no_attrs (omega (arith, e, there)) all;
  kept_a = λ x. refl;
  kept_b = λ x. refl;
}
