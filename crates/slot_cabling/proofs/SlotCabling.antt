-- A cabling for each bus tree: its nodes are numbered by their IDs, and each slot that is down leads
-- to the slot of the child that is up.
use Rattle.std.proofs.Common.{◌≡◌, ◌≢◌, ◌⊎◌, inl, inr, ℕ, zero, suc, ◌+◌, ◌-◌, ◌^◌, ◌%◌, ◌<◌, ◌≤◌, IsTrue, Option, Some, None, List, [], ◌∷◌, ◌++◌, map, length, slice_get, refl, sym, ◌∙◌, ap, subst, arith, length-append}
use Rattle.std.specs.Option.{option_map}
use Rattle.std.proofs.lemmas.Bool.{cases_lt}
use Rattle.std.proofs.lemmas.List.{map-append, length-map}
use Rattle.std.proofs.lemmas.Option.{slice_get_within, slice_get_cases, slice_get-map}
use Rattle.self_id.specs.declared.node.PortStatus.{PortStatus}
use Rattle.self_id.specs.declared.standard.Standard.{Standard}
use Rattle.self_id.specs.Node.{Node, HasForm, ups, is_width, is_width_of, node_with, kept_a_bits, kept_b_bits, blank_b_bits}
use Rattle.topology_stack.proofs.Lemmas.{are_nodes, length-walk, some_node}
use Rattle.topology_stack.specs.Tree.{Label, Tree, branch, Slots, no_more, absent, unplugged, up, down, statuses, node_of, walk, walk_below, IsPart, AreParts, IsWhole, AreOf, IsBusTreeOf}
use Rattle.cabling.specs.declared.cable.End.{End}
use Rattle.cabling.specs.Labels.{no_attrs}
use Rattle.cabling.proofs.Lemmas.{same_end}
use Rattle.slot_cabling.specs.SlotCabling.{Place, no_port, no_cable, cable_to, SlotWiring, Leads, HasRoomFor, SeesSlots, SeesRow, CablesTree}
use Rattle.quad_lanes.proofs.Lemmas.{has-left, has-right, has-tail, has-head, has-itself, Has, slice_get-left, slice_get-right}

pub some-same : {A : Type 0} (x y : A) → Some x ≡ Some y → x ≡ y
some-same x y e = cc

-- ---- the cabling of a tree

abbrev end_at : ℕ → ℕ → End
end_at node port = record { node = node; port = port }

-- the number of the slot that is up
abbrev up_index : Slots → ℕ
up_index no_more = 0
up_index (absent s) = up_index s + 1
up_index (unplugged s) = up_index s + 1
up_index (up s) = 0
up_index (down t s) = up_index s + 1

abbrev up_slot : Tree → ℕ
up_slot (branch a s) = up_index s

-- the end of the outermost node that is up, where the IDs of the tree begin with this one
abbrev top : ℕ → Tree → End
top first t = end_at (first + length (walk t) - 1) (up_slot t)

abbrev place_of : Option End → Place
place_of None = no_cable
place_of (Some e) = cable_to e

-- the slots of a node, whose parent is at this end, and the IDs below which begin with this one
abbrev row_of : ℕ → Option End → Slots → List Place
row_of first parent no_more = []
row_of first parent (absent s) = no_port ∷ row_of first parent s
row_of first parent (unplugged s) = no_cable ∷ row_of first parent s
row_of first parent (up s) = place_of parent ∷ row_of first parent s
row_of first parent (down t s) = cable_to (top first t) ∷ row_of (first + length (walk t)) parent s

abbrev mutual
  rows_of : ℕ → Option End → Tree → SlotWiring
  rows_of first parent (branch a s) =
      rows_below first (first + length (walk_below s)) 0 s ++ row_of first parent s ∷ []

  -- of the trees below the slots from number p on of this node
  rows_below : ℕ → ℕ → ℕ → Slots → SlotWiring
  rows_below first node p no_more = []
  rows_below first node p (absent s) = rows_below first node (p + 1) s
  rows_below first node p (unplugged s) = rows_below first node (p + 1) s
  rows_below first node p (up s) = rows_below first node (p + 1) s
  rows_below first node p (down t s) =
      rows_of first (Some (end_at node p)) t ++ rows_below (first + length (walk t)) node (p + 1) s

-- ---- as many rows as nodes, each as wide

abbrev width : Node → ℕ
width n = length n.ports

row-width : (first : ℕ) (parent : Option End) (s : Slots) →
    length (row_of first parent s) ≡ length (statuses s)
row-width first parent no_more = refl
row-width first parent (absent s) = ap suc (row-width first parent s)
row-width first parent (unplugged s) = ap suc (row-width first parent s)
row-width first parent (up s) = ap suc (row-width first parent s)
row-width first parent (down t s) = ap suc (row-width (first + length (walk t)) parent s)

mutual
  rows-widths : (first : ℕ) (parent : Option End) (t : Tree) →
      map length (rows_of first parent t) ≡ map width (walk t)
  rows-widths first parent (branch a s) =
      map-append length (rows_below first (first + length (walk_below s)) 0 s) (row_of first parent s ∷ [])
      ∙ ap (λ (l : List ℕ). l ++ length (row_of first parent s) ∷ []) (below-widths first (first + length (walk_below s)) 0 s)
      ∙ ap (λ (n : ℕ). map width (walk_below s) ++ n ∷ []) (row-width first parent s)
      ∙ sym (map-append width (walk_below s) (node_of a s ∷ []))

  below-widths : (first node p : ℕ) (s : Slots) →
      map length (rows_below first node p s) ≡ map width (walk_below s)
  below-widths first node p no_more = refl
  below-widths first node p (absent s) = below-widths first node (p + 1) s
  below-widths first node p (unplugged s) = below-widths first node (p + 1) s
  below-widths first node p (up s) = below-widths first node (p + 1) s
  below-widths first node p (down t s) =
      map-append length (rows_of first (Some (end_at node p)) t) (rows_below (first + length (walk t)) node (p + 1) s)
      ∙ ap (λ (l : List ℕ). l ++ map length (rows_below (first + length (walk t)) node (p + 1) s)) (rows-widths first (Some (end_at node p)) t)
      ∙ ap (λ (l : List ℕ). map width (walk t) ++ l) (below-widths (first + length (walk t)) node (p + 1) s)
      ∙ sym (map-append width (walk t) (walk_below s))

rows-length : (first : ℕ) (parent : Option End) (t : Tree) →
    length (rows_of first parent t) ≡ length (walk t)
rows-length first parent t =
    sym (length-map (rows_of first parent t) length) ∙ ap length (rows-widths first parent t) ∙ length-map (walk t) width

below-length : (first node p : ℕ) (s : Slots) →
    length (rows_below first node p s) ≡ length (walk_below s)
below-length first node p s =
    sym (length-map (rows_below first node p s) length) ∙ ap length (below-widths first node p s) ∙ length-map (walk_below s) width

-- ---- trees whose nodes have one slot up at most

abbrev IsFine : Tree → Type 0
IsFine (branch a s) = (ups (statuses s) ≤ 1) × AreParts s

abbrev AreFine : Tree → Type 0
AreFine (branch a s) = AreParts s

part-fine : (t : Tree) → IsPart t → IsFine t
part-fine (branch a s) h = (omega (arith, h.1), h.2)

part-parts : (t : Tree) → IsPart t → AreFine t
part-parts (branch a s) h = h.2

-- ---- what stands where

up-entry :
    (first : ℕ) (parent : Option End) (s : Slots) → 1 ≤ ups (statuses s) →
    slice_get (row_of first parent s) (up_index s) ≡ Some (place_of parent)
up-entry first parent no_more h = absurd (omega (arith, h))
up-entry first parent (absent s) h = next (up_index s) no_port (row_of first parent s) ∙ up-entry first parent s h
  where
    next : (n : ℕ) (x : Place) (xs : List Place) → slice_get (x ∷ xs) (n + 1) ≡ slice_get xs n
    next n x xs = let z : n + 1 ≡ suc n = omega arith in ap (slice_get (x ∷ xs)) z
up-entry first parent (unplugged s) h = next (up_index s) no_cable (row_of first parent s) ∙ up-entry first parent s h
  where
    next : (n : ℕ) (x : Place) (xs : List Place) → slice_get (x ∷ xs) (n + 1) ≡ slice_get xs n
    next n x xs = let z : n + 1 ≡ suc n = omega arith in ap (slice_get (x ∷ xs)) z
up-entry first parent (up s) h = refl
up-entry first parent (down t s) h = next (up_index s) (cable_to (top first t)) (row_of (first + length (walk t)) parent s) ∙ up-entry (first + length (walk t)) parent s h
  where
    next : (n : ℕ) (x : Place) (xs : List Place) → slice_get (x ∷ xs) (n + 1) ≡ slice_get xs n
    next n x xs = let z : n + 1 ≡ suc n = omega arith in ap (slice_get (x ∷ xs)) z

module _ (c : SlotWiring) where
  -- the trees below a node, and then the node
  below-has :
      (first : ℕ) (parent : Option End) (a : Label) (s : Slots) → Has c first (rows_of first parent (branch a s)) →
      Has c first (rows_below first (first + length (walk_below s)) 0 s)
  below-has first parent a s h = has-left c first (rows_below first (first + length (walk_below s)) 0 s) (row_of first parent s ∷ []) h

  own-row :
      (first : ℕ) (parent : Option End) (a : Label) (s : Slots) → Has c first (rows_of first parent (branch a s)) →
      slice_get c (first + length (walk_below s)) ≡ Some (row_of first parent s)
  own-row first parent a s h =
      has-head c (first + length (walk_below s)) (row_of first parent s) []
      (has-right c first (length (walk_below s)) (rows_below first (first + length (walk_below s)) 0 s) (row_of first parent s ∷ []) (below-length first (first + length (walk_below s)) 0 s) h)

  last-is : (first : ℕ) (a : Label) (s : Slots) →
      first + length (walk (branch a s)) - 1 ≡ first + length (walk_below s)
  last-is first a s = omega (arith, length-walk a s)

  -- the child of a node leads back to it
  child-back :
      (first node p : ℕ) (t : Tree) → IsPart t → Has c first (rows_of first (Some (end_at node p)) t) →
      Leads c (top first t) (end_at node p)
  child-back first node p (branch a s) part h = record {
    row = row_of first (Some (end_at node p)) s;
    node = ap (slice_get c) (last-is first a s) ∙ own-row first (Some (end_at node p)) a s h;
    slot = up-entry first (Some (end_at node p)) s (omega (arith, part.1));
  }

  -- ---- cables lead both ways

  abbrev Back : End → End → Type 0
  Back e f = Leads c f e × (e.node ≢ f.node)

  cable-same : (e f : End) → Some (cable_to e) ≡ Some (cable_to f) → e ≡ f
  cable-same e f h = cc

  parent-is : (parent : Option End) (f : End) → Some (place_of parent) ≡ Some (cable_to f) →
      parent ≡ Some f
  parent-is None f h = absurd cc
  parent-is (Some e) f h = cc

  -- a slot of a node that leads somewhere is down, or is the one that is up
  abbrev FromRow : ℕ → ℕ → ℕ → Option End → Slots → End → Type 0
  FromRow node p i parent s f =
      Back (end_at node (p + i)) f ⊎ ((i ≡ up_index s) × (1 ≤ ups (statuses s)) × (parent ≡ Some f))

  shifted :
      (node p i : ℕ) (f : End) → Back (end_at node (p + 1 + i)) f → Back (end_at node (p + suc i)) f
  shifted node p i f b = let z : p + 1 + i ≡ p + suc i = omega arith in subst (λ (n : ℕ). Back (end_at node n) f) z b

  row-back :
      (s : Slots) (first node p i : ℕ) (parent : Option End) (f : End) → Has c first (rows_below first node p s) →
      AreParts s → ups (statuses s) ≤ 1 → first + length (walk_below s) ≤ node →
      slice_get (row_of first parent s) i ≡ Some (cable_to f) →
      FromRow node p i parent s f
  row-back no_more first node p i parent f h parts few low e = absurd cc
  row-back (absent s) first node p zero parent f h parts few low e = absurd cc
  row-back (absent s) first node p (suc i) parent f h parts few low e = elim (row-back s first node (p + 1) i parent f h parts few low e) [
    | inl b ↦ inl (shifted node p i f b)
    | inr u ↦ inr (omega (arith, u.0), u.1, u.2)
  ]
  row-back (unplugged s) first node p zero parent f h parts few low e = absurd cc
  row-back (unplugged s) first node p (suc i) parent f h parts few low e = elim (row-back s first node (p + 1) i parent f h parts few low e) [
    | inl b ↦ inl (shifted node p i f b)
    | inr u ↦ inr (omega (arith, u.0), u.1, u.2)
  ]
  row-back (up s) first node p zero parent f h parts few low e = inr (refl, omega arith, parent-is parent f e)
  row-back (up s) first node p (suc i) parent f h parts few low e = elim (row-back s first node (p + 1) i parent f h parts (omega (arith, few)) low e) [
    | inl b ↦ inl (shifted node p i f b)
    | inr u ↦ absurd (omega (arith, u.1, few))
  ]
  row-back (down t s) first node p zero parent f h parts few low e =
      let same : top first t ≡ f = cable-same (top first t) f e in
      let z : p ≡ p + 0 = omega arith in
      let back : Leads c (top first t) (end_at node p) = child-back first node p t parts.0 (has-left c first (rows_of first (Some (end_at node p)) t) (rows_below (first + length (walk t)) node (p + 1) s) h) in
      let apart : node ≢ first + length (walk t) - 1 = λ is. omega (arith, is, low, length-append (walk t) (walk_below s), some_node t) in
      inl (subst (λ (g : End). Back (end_at node (p + 0)) g) same (subst (λ (n : ℕ). Back (end_at node n) (top first t)) z (back, apart)))
  row-back (down t s) first node p (suc i) parent f h parts few low e =
      elim (row-back s (first + length (walk t)) node (p + 1) i parent f
      (has-right c first (length (walk t)) (rows_of first (Some (end_at node p)) t) (rows_below (first + length (walk t)) node (p + 1) s) (rows-length first (Some (end_at node p)) t) h)
      parts.1 few (omega (arith, low, length-append (walk t) (walk_below s))) e) [
        | inl b ↦ inl (shifted node p i f b)
        | inr u ↦ inr (omega (arith, u.0), u.1, u.2)
      ]

  -- what a node of these rows has is its row
  same-row : (k : ℕ) (row other : List Place) → slice_get c k ≡ Some row →
      slice_get c k ≡ Some other → row ≡ other
  same-row k row other at too = some-same row other (sym at ∙ too)

  mutual
    tree-back :
        (t : Tree) (first : ℕ) (parent : Option End) → IsFine t → Has c first (rows_of first parent t) →
        (e f : End) → Leads c e f → first ≤ e.node → e.node < first + length (walk t) →
        Back e f ⊎ ((e ≡ top first t) × (parent ≡ Some f))
    tree-back (branch a s) first parent fine h e f l low high = elim (cases_lt e.node (first + length (walk_below s))) [
      | inl less ↦ inl (below-back s first (first + length (walk_below s)) 0 (row_of first parent s) parent (below-has first parent a s h) (own-row first parent a s h) (has-itself (row_of first parent s)) fine.1 (omega arith) e f l low less)
      | inr more ↦
          let at : e.node ≡ first + length (walk_below s) = omega (arith, more, high, length-walk a s) in
          let row : l.row ≡ row_of first parent s = same-row e.node l.row (row_of first parent s) l.node (ap (slice_get c) at ∙ own-row first parent a s h) in
          let here : e ≡ end_at (first + length (walk_below s)) (0 + e.port) = let z : e.port ≡ 0 + e.port = omega arith in same_end e (end_at (first + length (walk_below s)) (0 + e.port)) at z in
          elim (row-back s first (first + length (walk_below s)) 0 e.port parent f (below-has first parent a s h) fine.1 fine.0 (omega arith) (ap (λ (r : List Place). slice_get r e.port) (sym row) ∙ l.slot)) [
            | inl b ↦ inl (subst (λ (g : End). Back g f) (sym here) b)
            | inr u ↦ inr (same_end e (top first (branch a s)) (at ∙ sym (last-is first a s)) u.0, u.2)
          ]
    ]

    below-back :
        (s : Slots) (first node p : ℕ) (row : List Place) (parent : Option End) → Has c first (rows_below first node p s) →
        slice_get c node ≡ Some row → Has row p (row_of first parent s) → AreParts s →
        first + length (walk_below s) ≤ node → (e f : End) → Leads c e f → first ≤ e.node →
        e.node < first + length (walk_below s) → Back e f
    below-back no_more first node p row parent h at r parts below e f l low high = absurd (omega (arith, low, high))
    below-back (absent s) first node p row parent h at r parts below e f l low high =
        below-back s first node (p + 1) row parent h at (has-tail row p no_port (row_of first parent s) r) parts below e f l low high
    below-back (unplugged s) first node p row parent h at r parts below e f l low high =
        below-back s first node (p + 1) row parent h at (has-tail row p no_cable (row_of first parent s) r) parts below e f l low high
    below-back (up s) first node p row parent h at r parts below e f l low high =
        below-back s first node (p + 1) row parent h at (has-tail row p (place_of parent) (row_of first parent s) r) parts below e f l low high
    below-back (down t s) first node p row parent h at r parts below e f l low high =
        elim (cases_lt e.node (first + length (walk t))) [
          | inl less ↦
              elim (tree-back t first (Some (end_at node p)) (part-fine t parts.0) (has-left c first (rows_of first (Some (end_at node p)) t) (rows_below (first + length (walk t)) node (p + 1) s) h) e f l low less) [
                | inl b ↦ b
                | inr u ↦
                    let there : end_at node p ≡ f = some-same (end_at node p) f u.1 in
                    let slot : slice_get row p ≡ Some (cable_to e) = has-head row p (cable_to (top first t)) (row_of (first + length (walk t)) parent s) r ∙ ap (λ (g : End). Some (cable_to g)) (sym u.0) in
                    let back : Leads c (end_at node p) e = record { row = row; node = at; slot = slot } in
                    (subst (λ (g : End). Leads c g e) there back, λ is. omega (arith, is, ap (λ (g : End). g.node) there, less, below, length-append (walk t) (walk_below s)))
              ]
          | inr more ↦
              below-back s (first + length (walk t)) node (p + 1) row parent
              (has-right c first (length (walk t)) (rows_of first (Some (end_at node p)) t) (rows_below (first + length (walk t)) node (p + 1) s) (rows-length first (Some (end_at node p)) t) h)
              at (has-tail row p (cable_to (top first t)) (row_of (first + length (walk t)) parent s) r) parts.1
              (omega (arith, below, length-append (walk t) (walk_below s))) e f l more (omega (arith, high, length-append (walk t) (walk_below s)))
        ]

  -- ---- and the tree is seen

  module _ (label : ℕ → Label) where
    -- by the slot `come` the node is come to, if by any, whose slots from number p on are these
    abbrev ComesBy : Option ℕ → ℕ → Option End → Slots → Type 0
    ComesBy come p parent s =
        ((ups (statuses s) ≡ 1) × (come ≡ Some (p + up_index s)) × ((e : End) × (parent ≡ Some e)))
        ⊎ ((ups (statuses s) ≡ 0) × ((q : ℕ) → p ≤ q → come ≢ Some q))

    abbrev Entered : Option ℕ → Option End → Tree → Type 0
    Entered come parent (branch a s) = ComesBy come 0 parent s

    part-entered : (t : Tree) (node p : ℕ) → IsPart t → Entered (Some (up_slot t)) (Some (end_at node p)) t
    part-entered (branch a s) node p part =
        let z : up_index s ≡ 0 + up_index s = omega arith in
        inl (part.1, ap (λ (n : ℕ). Some n) z, (end_at node p, refl))

    none-end : (e : End) → ◌≡◌ {A = Option End} None (Some e) → ⊥
    none-end e h = cc

    some-number : (p q : ℕ) → Some p ≡ Some q → p ≡ q
    some-number p q h = cc

    last-of : (ns : List Node) (n : Node) → slice_get (ns ++ n ∷ []) (length ns) ≡ Some n
    last-of ns n = let z : length ns ≡ length ns + 0 = omega arith in ap (slice_get (ns ++ n ∷ [])) z ∙ slice_get-right ns (n ∷ []) (length ns) 0 refl

    not-here :
        (come : Option ℕ) (p n : ℕ) (parent : Option End) (s : Slots) →
        ((ups (statuses s) ≡ 1) × (come ≡ Some (p + (n + 1))) × ((e : End) × (parent ≡ Some e)))
        ⊎ ((ups (statuses s) ≡ 0) × ((q : ℕ) → p ≤ q → come ≢ Some q)) → come ≢ Some p
    not-here come p n parent s (inl u) is = let same : p + (n + 1) ≡ p = some-number (p + (n + 1)) p (sym u.1 ∙ is) in omega (arith, same)
    not-here come p n parent s (inr u) is = u.1 p (omega arith) is

    next-slot :
        (come : Option ℕ) (p n : ℕ) (parent : Option End) (s : Slots) →
        ((ups (statuses s) ≡ 1) × (come ≡ Some (p + (n + 1))) × ((e : End) × (parent ≡ Some e)))
        ⊎ ((ups (statuses s) ≡ 0) × ((q : ℕ) → p ≤ q → come ≢ Some q)) → n ≡ up_index s → ComesBy come (p + 1) parent s
    next-slot come p n parent s (inl u) same = inl (u.0, u.1 ∙ (let z : p + (n + 1) ≡ p + 1 + up_index s = omega (arith, same) in ap (λ (m : ℕ). Some m) z), u.2)
    next-slot come p n parent s (inr u) same = inr (u.0, λ q le. u.1 q (omega (arith, le)))

    -- each node of the tree has its label
    abbrev Labelled : ℕ → List Node → Type 0
    Labelled first ns = (i : ℕ) (n : Node) (a : Label) (ports : List PortStatus) → slice_get ns i ≡ Some n → n ≡ record { attrs = a.attrs; ports = ports; kept_a = a.kept_a; kept_b = a.kept_b } → a ≡ label (first + i)

    mutual
      tree-sees :
          (t : Tree) (first : ℕ) (parent : Option End) (come : Option ℕ) → Has c first (rows_of first parent t) →
          Labelled first (walk t) → AreFine t → Entered come parent t →
          SeesSlots c label (first + length (walk t) - 1) come t
      tree-sees (branch a s) first parent come h named fine entered = (
        subst (λ (k : ℕ). a ≡ label k) (sym (last-is first a s)) (named (length (walk_below s)) (node_of a s) a (statuses s) (last-of (walk_below s) (node_of a s)) refl),
        row_of first parent s,
        ap (slice_get c) (last-is first a s) ∙ own-row first parent a s h,
        row-sees s first (first + length (walk_below s)) 0 parent come (below-has first parent a s h)
            (λ i n b ports e same. named i n b ports (slice_get-left (walk_below s) (node_of a s ∷ []) i n e) same) fine entered,
      )

      row-sees :
          (s : Slots) (first node p : ℕ) (parent : Option End) (come : Option ℕ) → Has c first (rows_below first node p s) →
          Labelled first (walk_below s) → AreParts s → ComesBy come p parent s →
          SeesRow c label come p (row_of first parent s) s
      row-sees no_more first node p parent come h named parts by = tt
      row-sees (absent s) first node p parent come h named parts by = row-sees s first node (p + 1) parent come h named parts (next-slot come p (up_index s) parent s by refl)
      row-sees (unplugged s) first node p parent come h named parts by = row-sees s first node (p + 1) parent come h named parts (next-slot come p (up_index s) parent s by refl)
      row-sees (up s) first node p None come h named parts (inl u) = absurd (none-end u.2.0 u.2.1)
      row-sees (up s) first node p (Some e) come h named parts (inl u) =
          let z : p + 0 ≡ p = omega arith in
          let here : come ≡ Some p = u.1 ∙ ap (λ (n : ℕ). Some n) z in (
            here,
            row-sees s first node (p + 1) (Some e) come h named parts (inr (omega (arith, u.0), λ q le is. let same : p ≡ q = some-number p q (sym here ∙ is) in omega (arith, same, le))),
          )
      row-sees (up s) first node p parent come h named parts (inr u) = absurd (omega (arith, u.0))
      row-sees (down t s) first node p parent come h named parts by = (
        not-here come p (up_index s) parent s by,
        tree-sees t first (Some (end_at node p)) (Some (up_slot t)) (has-left c first (rows_of first (Some (end_at node p)) t) (rows_below (first + length (walk t)) node (p + 1) s) h)
            (λ i n b ports e same. named i n b ports (slice_get-left (walk t) (walk_below s) i n e) same) (part-parts t parts.0) (part-entered t node p parts.0),
        row-sees s (first + length (walk t)) node (p + 1) parent come
            (has-right c first (length (walk t)) (rows_of first (Some (end_at node p)) t) (rows_below (first + length (walk t)) node (p + 1) s) (rows-length first (Some (end_at node p)) t) h)
            (λ i n b ports e same. let z : first + (length (walk t) + i) ≡ first + length (walk t) + i = omega arith in named (length (walk t) + i) n b ports (slice_get-right (walk t) (walk_below s) (length (walk t)) i refl ∙ e) same ∙ ap label z) parts.1
            (next-slot come p (up_index s) parent s by refl),
      )

-- ---- a bus tree

-- labels by the list of nodes
abbrev label_of : Option Node → Label
label_of None = record { attrs = no_attrs; kept_a = 0; kept_b = 0 }
label_of (Some n) = record { attrs = n.attrs; kept_a = n.kept_a; kept_b = n.kept_b }

abbrev label_in : List Node → ℕ → Label
label_in ns k = label_of (slice_get ns k)

labels-are :
    (c : SlotWiring) (ns : List Node) → Labelled c (label_in ns) 0 ns
labels-are c ns i n a ports at same =
    let z : 0 + i ≡ i = omega arith in
    sym (ap label_of (ap (slice_get ns) z ∙ at ∙ ap (λ (m : Node). Some m) same))

widths-of :
    (standard : Standard) (ns : List Node) (k w : ℕ) → AreOf standard ns → slice_get (map width ns) k ≡ Some w → IsTrue (is_width_of standard w)
widths-of standard [] k w h e = absurd cc
widths-of standard (n ∷ ns) zero w h e = subst (λ (m : ℕ). IsTrue (is_width_of standard m)) (some-same (width n) w e) h.0
widths-of standard (n ∷ ns) (suc k) w h e = widths-of standard ns k w h.1 e

-- the labels of nodes have room
room-of :
    (standard : Standard) (t : Tree) → IsBusTreeOf standard t → (k : ℕ) (row : List Place) → slice_get (rows_of 0 None t) k ≡ Some row →
    HasRoomFor (length row) (label_in (walk t) k)
room-of standard t h k row at ports long = elim (slice_get_cases (walk t) k).1 [
  | inr lacks ↦ absurd (omega (arith, lacks.0, slice_get_within (rows_of 0 None t) k row at, rows-length 0 None t))
  | inl found ↦
      let n : Node = found.0 in
      let wide : width n ≡ length row =
      some-same (width n) (length row)
      (sym (slice_get-map width (walk t) k ∙ ap (option_map width) found.2)
      ∙ ap (λ (l : List ℕ). slice_get l k) (sym (rows-widths 0 None t)) ∙ slice_get-map length (rows_of 0 None t) k ∙ ap (option_map length) at) in
      let form : HasForm n = (are_nodes t k n h.bus found.2).form in
      let same : length ports ≡ length n.ports = long ∙ sym wide in
      subst (λ (a : Label). HasForm (node_with a.attrs ports a.kept_a a.kept_b)) (sym (ap label_of found.2)) (record {
        attrs = form.attrs;
        width = subst (λ (m : ℕ). IsTrue (is_width m)) (sym same) form.width;
        kept_a = subst (λ (m : ℕ). n.kept_a < 2 ^ kept_a_bits m) (sym same) form.kept_a;
        kept_b = subst (λ (m : ℕ). n.kept_b < 2 ^ kept_b_bits m) (sym same) form.kept_b;
        blank_b = subst (λ (m : ℕ). n.kept_b % 2 ^ blank_b_bits m ≡ 0) (sym same) form.blank_b;
      })
]

whole-fine : (t : Tree) → IsWhole t → IsFine t
whole-fine (branch a s) h = (omega (arith, h.1), h.2)

whole-parts : (t : Tree) → IsWhole t → AreFine t
whole-parts (branch a s) h = h.2

nothing-some : (q : ℕ) → ◌≡◌ {A = Option ℕ} None (Some q) → ⊥
nothing-some q h = cc

whole-entered : (c : SlotWiring) (label : ℕ → Label) (t : Tree) → IsWhole t →
    Entered c label None None t
whole-entered c label (branch a s) h = inr (h.1, λ q le is. nothing-some q is)

both-back :
    (t : Tree) → IsWhole t → (e f : End) → Leads (rows_of 0 None t) e f → Back (rows_of 0 None t) e f
both-back t whole e f l =
    let c : SlotWiring = rows_of 0 None t in
    let inside : e.node < 0 + length (walk t) = omega (arith, slice_get_within c e.node l.row l.node, rows-length 0 None t) in
    elim (tree-back c t 0 None (whole-fine t whole) (has-itself c) e f l (omega arith) inside) [
      | inl b ↦ b
      | inr u ↦ absurd (none-cable f u.1)
    ]
  where
    none-cable : (f : End) → ◌≡◌ {A = Option End} None (Some f) → ⊥
    none-cable f h = cc

pub cabled : (standard : Standard) (t : Tree) → IsBusTreeOf standard t → CablesTree standard t
cabled standard t h =
    let c : SlotWiring = rows_of 0 None t in
    let z : 0 + length (walk t) - 1 ≡ length (walk t) - 1 = omega arith in
    record {
      cabling = rows_of 0 None t;
      label = label_in (walk t);
      is = record {
        both_ways = λ a b l. (both-back t h.bus.whole a b l).0;
        two_nodes = λ a b l. (both-back t h.bus.whole a b l).1;
        few_nodes = omega (arith, rows-length 0 None t, h.bus.small);
        widths = λ k row at.
            widths-of standard (walk t) k (length row) h.nodes
            (ap (λ (l : List ℕ). slice_get l k) (sym (rows-widths 0 None t)) ∙ slice_get-map length (rows_of 0 None t) k ∙ ap (option_map length) at);
      };
      labels = room-of standard t h;
      whole = rows-length 0 None t;
      seen = subst (λ (k : ℕ). SeesSlots (rows_of 0 None t) (label_in (walk t)) k None t) z
          (tree-sees c (label_in (walk t)) t 0 None None (has-itself c) (labels-are c (walk t)) (whole-parts t h.bus.whole) (whole-entered c (label_in (walk t)) t h.bus.whole));
    }
