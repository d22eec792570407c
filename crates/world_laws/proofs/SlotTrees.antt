-- A tree that a cabling of slots shows is a bus tree. Where a slot has no port, another cabling has a
-- port without cable: it shows as many nodes, and these are few.
use Rattle.std.proofs.Common.{◌≡◌, inl, inr, ℕ, zero, suc, ◌+◌, ◌-◌, ◌<◌, ◌≤◌, ◌==◌, ◌||◌, Bool, true, false, IsTrue, Option, Some, None, List, [], ◌∷◌, ◌++◌, map, length, slice_get, slice_index_or, refl, sym, ◌∙◌, ap, subst, arith, length-append}
use Rattle.std.proofs.lemmas.Bool.{eqb-true}
use Rattle.std.proofs.lemmas.List.{length-map}
use Rattle.std.proofs.lemmas.Option.{slice_get_within, slice_get_cases}
use Rattle.self_id.specs.declared.standard.Standard.TheVariants.{Ieee2000}
use Rattle.self_id.specs.Node.{is_width_of}
use Rattle.self_id.specs.Slots.{slot_count}
use Rattle.topology_stack.specs.Tree.{Label, Tree, branch, Slots, no_more, absent, unplugged, up, down, statuses, node_of, walk, walk_below, IsBusTreeOf, emits}
use Rattle.cabling.specs.declared.cable.End.{End}
use Rattle.cabling.specs.Wiring.{Wiring, ports_of, far, IsCabling}
use Rattle.cabling.specs.Existence.{HasComponent}
use Rattle.cabling.specs.Sees.{Sees, SeesFrom, numbers}
use Rattle.cabling.proofs.Lemmas.{shown_node, visits, at_root, component_exists, walk_seen, length-visits, tree_few, seen_loopless}
use Rattle.cable_world.proofs.Lemmas.{some-same}
use Rattle.slot_cabling.specs.SlotCabling.{Place, no_port, no_cable, cable_to, SlotWiring, Leads, IsSlotCabling, SeesSlots, SeesRow, CablesTree}
use Rattle.slot_cabling.proofs.Lemmas.{cabled, row-length, all-of, whole-seen}
use Rattle.world_laws.specs.SlotCabling.{IsEmitted, CabledTreesAreBusTrees, AcceptedListsAreEmitted}

-- ---- a port for each slot

abbrev far_of : Place → Option End
far_of no_port = None
far_of no_cable = None
far_of (cable_to e) = Some e

abbrev wiring : SlotWiring → Wiring
wiring c = map (map far_of) c

abbrev mutual
  filled : Tree → Tree
  filled (branch a s) = branch a (filled_slots s)

  filled_slots : Slots → Slots
  filled_slots no_more = no_more
  filled_slots (absent s) = unplugged (filled_slots s)
  filled_slots (unplugged s) = unplugged (filled_slots s)
  filled_slots (up s) = up (filled_slots s)
  filled_slots (down t s) = down (filled t) (filled_slots s)

mutual
  filled-walk : (t : Tree) → length (walk (filled t)) ≡ length (walk t)
  filled-walk (branch a s) =
      omega (arith, length-append (walk_below (filled_slots s)) (node_of a (filled_slots s) ∷ []), length-append (walk_below s) (node_of a s ∷ []), filled-below s)

  filled-below : (s : Slots) → length (walk_below (filled_slots s)) ≡ length (walk_below s)
  filled-below no_more = refl
  filled-below (absent s) = filled-below s
  filled-below (unplugged s) = filled-below s
  filled-below (up s) = filled-below s
  filled-below (down t s) =
      omega (arith, length-append (walk (filled t)) (walk_below (filled_slots s)), length-append (walk t) (walk_below s), filled-walk t, filled-below s)

filled-statuses : (s : Slots) → length (statuses (filled_slots s)) ≡ length (statuses s)
filled-statuses no_more = refl
filled-statuses (absent s) = ap suc (filled-statuses s)
filled-statuses (unplugged s) = ap suc (filled-statuses s)
filled-statuses (up s) = ap suc (filled-statuses s)
filled-statuses (down t s) = ap suc (filled-statuses s)

-- ---- the same cables

ports-are : (c : SlotWiring) (x : ℕ) (row : List Place) → slice_get c x ≡ Some row →
    ports_of (wiring c) x ≡ map far_of row
ports-are [] x row e = absurd cc
ports-are (r ∷ c) zero row e = ap (map far_of) (some-same r row e)
ports-are (r ∷ c) (suc x) row e = ports-are c x row e

no-ports : (c : SlotWiring) (x : ℕ) → length c ≤ x → ports_of (wiring c) x ≡ []
no-ports [] x h = refl
no-ports (r ∷ c) zero h = absurd (omega (arith, h))
no-ports (r ∷ c) (suc x) h = no-ports c x (omega (arith, h))

cable-there : (row : List Place) (p : ℕ) (e : End) →
    slice_index_or (map far_of row) p None ≡ Some e → slice_get row p ≡ Some (cable_to e)
cable-there [] p e h = absurd cc
cable-there (no_port ∷ row) zero e h = absurd cc
cable-there (no_cable ∷ row) zero e h = absurd cc
cable-there (cable_to f ∷ row) zero e h = ap (λ (g : End). Some (cable_to g)) (some-same f e h)
cable-there (x ∷ row) (suc p) e h = cable-there row p e h

cable-here : (row : List Place) (p : ℕ) (e : End) → slice_get row p ≡ Some (cable_to e) →
    slice_index_or (map far_of row) p None ≡ Some e
cable-here [] p e h = absurd cc
cable-here (no_port ∷ row) zero e h = absurd cc
cable-here (no_cable ∷ row) zero e h = absurd cc
cable-here (cable_to f ∷ row) zero e h = cc
cable-here (x ∷ row) (suc p) e h = cable-here row p e h

leads-of : (c : SlotWiring) (a b : End) → far (wiring c) a ≡ Some b → Leads c a b
leads-of c a b e = elim (slice_get_cases c a.node).1 [
  | inl found ↦ record {
    row = found.0;
    node = found.2;
    slot = cable-there found.0 a.port b (ap (λ (r : List (Option End)). slice_index_or r a.port None) (sym (ports-are c a.node found.0 found.2)) ∙ e);
  }
  | inr lacks ↦ absurd (no-cable-there b (sym (ap (λ (r : List (Option End)). slice_index_or r a.port None) (no-ports c a.node (omega (arith, lacks.0)))) ∙ e))
]
  where
    no-cable-there : (b : End) → ◌≡◌ {A = Option End} None (Some b) → ⊥
    no-cable-there b h = cc

far-is : (c : SlotWiring) (a b : End) → Leads c a b → far (wiring c) a ≡ Some b
far-is c a b l = ap (λ (r : List (Option End)). slice_index_or r a.port None) (ports-are c a.node l.row l.node) ∙ cable-here l.row a.port b l.slot

-- ---- widths

record IsWide (n : ℕ) : Type 0 where
  slots : slot_count n ≡ n
  some : 1 ≤ n
  few : n ≤ 16

wide : (n : ℕ) → IsTrue (is_width_of Ieee2000 n) → IsWide n
wide n h = go (n == 3) (n == 11) (n == 16) refl refl refl h
  where
    three : IsWide 3
    three = record { slots = refl; some = omega arith; few = omega arith }

    eleven : IsWide 11
    eleven = record { slots = refl; some = omega arith; few = omega arith }

    sixteen : IsWide 16
    sixteen = record { slots = refl; some = omega arith; few = omega arith }

    go :
        (a b c : Bool) → (n == 3) ≡ a → (n == 11) ≡ b → (n == 16) ≡ c → IsTrue (a || (b || c)) → IsWide n
    go true b c e f g h = subst IsWide (sym (eqb-true n 3 e)) three
    go false true c e f g h = subst IsWide (sym (eqb-true n 11 f)) eleven
    go false false true e f g h = subst IsWide (sym (eqb-true n 16 g)) sixteen
    go false false false e f g h = absurd cc

module _ (c : SlotWiring) (is : IsSlotCabling Ieee2000 c) where
  row-at : (x : ℕ) → x < length (wiring c) → (row : List Place) × (slice_get c x ≡ Some row)
  row-at x less = elim (slice_get_cases c x).1 [
    | inl found ↦ (found.0, found.2)
    | inr lacks ↦ absurd (omega (arith, lacks.0, less, length-map c (map far_of)))
  ]

  port-count : (x : ℕ) (row : List Place) → slice_get c x ≡ Some row →
      length (ports_of (wiring c) x) ≡ length row
  port-count x row at = ap length (ports-are c x row at) ∙ length-map row far_of

  is-cabling : IsCabling (wiring c)
  is-cabling = record {
    both_ways = λ a b e. far-is c b a (is.both_ways a b (leads-of c a b e));
    two_nodes = λ a b e. is.two_nodes a b (leads-of c a b e);
    few_nodes = omega (arith, is.few_nodes, length-map c (map far_of));
    some_port = λ x less. let r = row-at x less in omega (arith, port-count x r.0 r.1, (wide (length r.0) (is.widths x r.0 r.1)).some);
    few_ports = λ x less. let r = row-at x less in omega (arith, port-count x r.0 r.1, (wide (length r.0) (is.widths x r.0 r.1)).few);
  }

  module _ (label : ℕ → Label) where
    mutual
      sees-filled : (t : Tree) (x : ℕ) (come : Option ℕ) → SeesSlots c label x come t → Sees (wiring c) label x come (filled t)
      sees-filled (branch a s) x come h = (
        h.0,
        filled-statuses s ∙ row-length Ieee2000 c is label come 0 h.1 s h.3 ∙ sym (wide (length h.1) (is.widths x h.1 h.2)).slots ∙ ap slot_count (sym (port-count x h.1 h.2)),
        subst (λ (r : List (Option End)). SeesFrom (wiring c) label come 0 r (filled_slots s)) (sym (ports-are c x h.1 h.2)) (row-filled h.1 s 0 come h.3),
      )

      row-filled : (row : List Place) (s : Slots) (p : ℕ) (come : Option ℕ) → SeesRow c label come p row s → SeesFrom (wiring c) label come p (map far_of row) (filled_slots s)
      row-filled [] no_more p come h = tt
      row-filled (no_port ∷ row) (absent s) p come h = row-filled row s (p + 1) come h
      row-filled (no_cable ∷ row) (unplugged s) p come h = row-filled row s (p + 1) come h
      row-filled (cable_to f ∷ row) (up s) p come h = (h.0, row-filled row s (p + 1) come h.1)
      row-filled (cable_to f ∷ row) (down t s) p come h = (h.0, sees-filled t f.node (Some f.port) h.1, row-filled row s (p + 1) come h.2)
      row-filled row s p come h = absurd h

    -- ---- few nodes

    few-nodes : (root : ℕ) (t : Tree) → root < length (wiring c) → SeesSlots c label root None t → length (walk t) ≤ 63
    few-nodes root t there h =
        let seen : Sees (wiring c) label root None (filled t) = sees-filled t root None h in
        let comp : HasComponent (wiring c) root = component_exists (wiring c) root is-cabling there in
        let few : length (numbers (wiring c) root (filled t)) ≤ 63 =
        tree_few (wiring c) label root comp.set (filled t) (seen_loopless (wiring c) label root comp.set (filled t) is-cabling there comp.small comp.is seen) seen in
        let walked : length (walk (filled t)) ≡ length (numbers (wiring c) root (filled t)) =
        ap length (walk_seen (wiring c) label (at_root root) (filled t) is-cabling there seen)
        ∙ length-map (visits (wiring c) (at_root root) (filled t)) (shown_node (wiring c) label)
        ∙ length-visits (wiring c) (at_root root) (filled t) in
        omega (arith, few, walked, filled-walk t)

    root-there : (t : Tree) (root : ℕ) → SeesSlots c label root None t → root < length (wiring c)
    root-there (branch a s) root h = omega (arith, slice_get_within c root h.1 h.2, length-map c (map far_of))

pub slot-trees : CabledTreesAreBusTrees
slot-trees c label root t is labels h = record {
  bus = record {
    whole = whole-seen Ieee2000 c is label labels t root h;
    small = few-nodes c is label root t (root-there c is label t root h) h;
    one_standard = (Ieee2000, all-of Ieee2000 c is label labels t root None h);
  };
  nodes = all-of Ieee2000 c is label labels t root None h;
}

pub emitted : AcceptedListsAreEmitted
emitted list = (accepted, shown)
  where
    accepted : (t : Tree) × IsBusTreeOf Ieee2000 t × (emits t ≡ list) → IsEmitted list
    accepted h =
        let k : CablesTree Ieee2000 h.0 = cabled Ieee2000 h.0 h.1 in
        record { cabling = k.cabling; label = k.label; root = length (walk h.0) - 1; tree = h.0; is = k.is; labels = k.labels; seen = k.seen; emits_it = h.2 }

    shown : IsEmitted list → (t : Tree) × IsBusTreeOf Ieee2000 t × (emits t ≡ list)
    shown h = (h.tree, slot-trees h.cabling h.label h.root h.tree h.is h.labels h.seen, h.emits_it)
