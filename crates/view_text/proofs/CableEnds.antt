-- The cables of a tree, by their ends: a slot that is down leads to a child, whose first slot that is
-- up leads back.
use Rattle.std.proofs.Common.{◌≡◌, ◌⊎◌, inl, inr, ℕ, zero, suc, ◌+◌, ◌-◌, ◌<◌, ◌≤◌, Option, Some, None, List, [], ◌∷◌, ◌++◌, length, slice_get, refl, sym, ◌∙◌, ap, subst, arith, length-append}
use Rattle.std.specs.Prelude.{min}
use Rattle.std.proofs.lemmas.Bool.{cases_lt}
use Rattle.std.proofs.lemmas.Option.{slice_get_within, slice_get_cases, same_Some}
use Rattle.self_id.specs.declared.node.PortStatus.{PortStatus}
use Rattle.self_id.specs.declared.node.PortStatus.TheVariants.{Absent, Unplugged, Up, Down}
use Rattle.self_id.specs.Node.{Node, ups}
use Rattle.topology_stack.specs.Tree.{Label, Tree, branch, Slots, no_more, absent, unplugged, up, down, statuses, node_of, walk, walk_below, IsPart, AreParts, IsWhole, IsBusTree}
use Rattle.topology_stack.specs.Far.{slot_ends, ends_from, ends_below, ends, Far}
use Rattle.speed_map.specs.Path.{node_speed, path_speed}
use Rattle.speed_map.proofs.Lemmas.{speed_is, length-ends_from, length-ends_below}
use Rattle.view_text.specs.declared.cable.Cable.{Cable}
use Rattle.view_text.specs.Cable.{first_up, up_of, speed_of, cable_to, cable_at, cables_of, cables_from, cables}
use Rattle.view_text.specs.codings.Parts.{Has, HasPart}
use Rattle.view_text.specs.CableEnds.{IsOfTree, CablesAreOfTheTree, EachDownSlotHasItsCable}
use Rattle.topology_stack.proofs.Lemmas.{length-walk, some_node}
use Rattle.quad_lanes.proofs.Lemmas.{has-left, has-right, has-head, has-itself, slice_get-left, slice_get-right}

abbrev pub Ends : Type 0
Ends = List (Option ℕ)

-- ---- the slot that is up

record UpAt (first parent p : ℕ) (s : Slots) : Type 0 where
  at : ℕ
  is : first_up p (statuses s) ≡ p + at
  end : slice_get (slot_ends first parent s) at ≡ Some (Some parent)

up-later :
    (first parent p : ℕ) (s : Slots) (x : Option ℕ) → (u : UpAt first parent (p + 1) s) →
    (first_up (p + 1) (statuses s) ≡ p + (u.at + 1)) × (slice_get (x ∷ slot_ends first parent s) (u.at + 1) ≡ Some (Some parent))
up-later first parent p s x u =
    let z : u.at + 1 ≡ suc u.at = omega arith in
    (omega (arith, u.is), ap (slice_get (x ∷ slot_ends first parent s)) z ∙ u.end)

up-at : (s : Slots) (first parent p : ℕ) → 1 ≤ ups (statuses s) → UpAt first parent p s
up-at no_more first parent p h = absurd (omega (arith, h))
up-at (absent s) first parent p h =
    let u : UpAt first parent (p + 1) s = up-at s first parent (p + 1) h in
    let l = up-later first parent p s None u in record { at = u.at + 1; is = l.0; end = l.1 }
up-at (unplugged s) first parent p h =
    let u : UpAt first parent (p + 1) s = up-at s first parent (p + 1) h in
    let l = up-later first parent p s None u in record { at = u.at + 1; is = l.0; end = l.1 }
up-at (up s) first parent p h = record { at = 0; is = omega arith; end = refl }
up-at (down t s) first parent p h =
    let u : UpAt (first + length (walk t)) parent (p + 1) s = up-at s (first + length (walk t)) parent (p + 1) h in
    let l = up-later (first + length (walk t)) parent p s (Some (first + length (walk t) - 1)) u in record { at = u.at + 1; is = l.0; end = l.1 }

abbrev ArePartsOf : Tree → Type 0
ArePartsOf (branch a s) = AreParts s

parts-of : (u : Tree) → IsPart u → ArePartsOf u
parts-of (branch a s) h = h.2

whole-parts : (u : Tree) → IsWhole u → ArePartsOf u
whole-parts (branch a s) h = h.2

-- ---- slots that are down

module _ (t : Tree) where
  -- a slot that is down leads to a child, which leads back
  pub record LeadsDown (id : ℕ) (es : Ends) (slot : ℕ) : Type 0 where
    pub child : ℕ
    pub end : slice_get es slot ≡ Some (Some child)
    pub lower : child < id
    pub back : Far t child (up_of (slice_get (walk t) child)) (Some id)

  abbrev pub AllDown : ℕ → Type 0
  AllDown id = (n : Node) (es : Ends) (slot : ℕ) → slice_get (walk t) id ≡ Some n → slice_get (ends t) id ≡ Some es → slice_get n.ports slot ≡ Some Down → LeadsDown id es slot

  -- so do the trees below slots of the node with this ID
  pub record StandBelow (first id : ℕ) (s : Slots) : Type 0 where
    pub nodes : Has (walk t) first (walk_below s)
    pub ends_too : Has (ends t) first (ends_below first id s)

  pub below-of : (first parent : ℕ) (a : Label) (s : Slots) → HasPart t first parent (branch a s) →
      StandBelow first (first + length (walk_below s)) s
  below-of first parent a s h = record {
    nodes = has-left (walk t) first (walk_below s) (node_of a s ∷ []) h.nodes;
    ends_too = has-left (ends t) first (ends_below first (first + length (walk_below s)) s) (slot_ends first parent s ∷ []) h.ends_too;
  }

  pub own-node : (first parent : ℕ) (a : Label) (s : Slots) → HasPart t first parent (branch a s) →
      slice_get (walk t) (first + length (walk_below s)) ≡ Some (node_of a s)
  own-node first parent a s h =
      has-head (walk t) (first + length (walk_below s)) (node_of a s) []
      (has-right (walk t) first (length (walk_below s)) (walk_below s) (node_of a s ∷ []) refl h.nodes)

  pub own-ends : (first parent : ℕ) (a : Label) (s : Slots) → HasPart t first parent (branch a s) →
      slice_get (ends t) (first + length (walk_below s)) ≡ Some (slot_ends first parent s)
  own-ends first parent a s h =
      has-head (ends t) (first + length (walk_below s)) (slot_ends first parent s) []
      (has-right (ends t) first (length (walk_below s)) (ends_below first (first + length (walk_below s)) s) (slot_ends first parent s ∷ []) (length-ends_below first (first + length (walk_below s)) s) h.ends_too)

  pub first-of : (first id : ℕ) (u : Tree) (s : Slots) → StandBelow first id (down u s) →
      HasPart t first id u
  first-of first id u s h = record {
    nodes = has-left (walk t) first (walk u) (walk_below s) h.nodes;
    ends_too = has-left (ends t) first (ends_from first id u) (ends_below (first + length (walk u)) id s) h.ends_too;
  }

  pub rest-of : (first id : ℕ) (u : Tree) (s : Slots) → StandBelow first id (down u s) →
      StandBelow (first + length (walk u)) id s
  rest-of first id u s h = record {
    nodes = has-right (walk t) first (length (walk u)) (walk u) (walk_below s) refl h.nodes;
    ends_too = has-right (ends t) first (length (walk u)) (ends_from first id u) (ends_below (first + length (walk u)) id s) (length-ends_from first id u) h.ends_too;
  }

  -- the outermost node of a part leads back to its parent
  leads-back : (first id : ℕ) (u : Tree) → IsPart u → HasPart t first id u →
      Far t (first + length (walk u) - 1) (up_of (slice_get (walk t) (first + length (walk u) - 1))) (Some id)
  leads-back first id (branch a s) part h =
      let top : first + length (walk (branch a s)) - 1 ≡ first + length (walk_below s) = omega (arith, length-walk a s) in
      let u : UpAt first id 0 s = up-at s first id 0 (omega (arith, part.1)) in
      let port : up_of (slice_get (walk t) (first + length (walk (branch a s)) - 1)) ≡ u.at = ap up_of (ap (slice_get (walk t)) top ∙ own-node first id a s h) ∙ u.is ∙ (let z : 0 + u.at ≡ u.at = omega arith in z) in
      record {
        of_node = slot_ends first id s;
        node = ap (slice_get (ends t)) top ∙ own-ends first id a s h;
        slot_end = ap (slice_get (slot_ends first id s)) port ∙ u.end;
      }

  row-down :
      (s : Slots) (first id parent slot : ℕ) → StandBelow first id s → AreParts s → first + length (walk_below s) ≤ id →
      slice_get (statuses s) slot ≡ Some Down → LeadsDown id (slot_ends first parent s) slot
  row-down no_more first id parent slot h parts low e = absurd cc
  row-down (absent s) first id parent zero h parts low e = absurd cc
  row-down (absent s) first id parent (suc slot) h parts low e =
      let d : LeadsDown id (slot_ends first parent s) slot = row-down s first id parent slot (record { nodes = h.nodes; ends_too = h.ends_too }) parts low e in
      record { child = d.child; end = d.end; lower = d.lower; back = d.back }
  row-down (unplugged s) first id parent zero h parts low e = absurd cc
  row-down (unplugged s) first id parent (suc slot) h parts low e =
      let d : LeadsDown id (slot_ends first parent s) slot = row-down s first id parent slot (record { nodes = h.nodes; ends_too = h.ends_too }) parts low e in
      record { child = d.child; end = d.end; lower = d.lower; back = d.back }
  row-down (up s) first id parent zero h parts low e = absurd cc
  row-down (up s) first id parent (suc slot) h parts low e =
      let d : LeadsDown id (slot_ends first parent s) slot = row-down s first id parent slot (record { nodes = h.nodes; ends_too = h.ends_too }) parts low e in
      record { child = d.child; end = d.end; lower = d.lower; back = d.back }
  row-down (down u s) first id parent zero h parts low e = record {
    child = first + length (walk u) - 1;
    end = refl;
    lower = omega (arith, low, length-append (walk u) (walk_below s), some_node u);
    back = leads-back first id u parts.0 (first-of first id u s h);
  }
  row-down (down u s) first id parent (suc slot) h parts low e =
      let d : LeadsDown id (slot_ends (first + length (walk u)) parent s) slot =
      row-down s (first + length (walk u)) id parent slot (rest-of first id u s h) parts.1 (omega (arith, low, length-append (walk u) (walk_below s))) e in
      record { child = d.child; end = d.end; lower = d.lower; back = d.back }

  mutual
    tree-down : (u : Tree) (first parent : ℕ) → ArePartsOf u → HasPart t first parent u → (id : ℕ) → first ≤ id → id < first + length (walk u) → AllDown id
    tree-down (branch a s) first parent parts h id low high n es slot at_n at_e e = elim (cases_lt id (first + length (walk_below s))) [
      | inl less ↦ slots-down s first (first + length (walk_below s)) (below-of first parent a s h) parts id low less n es slot at_n at_e e
      | inr more ↦
          let at : id ≡ first + length (walk_below s) = omega (arith, more, high, length-walk a s) in
          let node : n ≡ node_of a s = same_Some n (node_of a s) (sym at_n ∙ ap (slice_get (walk t)) at ∙ own-node first parent a s h) in
          let row : es ≡ slot_ends first parent s = same_Some es (slot_ends first parent s) (sym at_e ∙ ap (slice_get (ends t)) at ∙ own-ends first parent a s h) in
          subst (λ (i : ℕ). LeadsDown i es slot) (sym at) (subst (λ (r : Ends). LeadsDown (first + length (walk_below s)) r slot) (sym row)
          (row-down s first (first + length (walk_below s)) parent slot (below-of first parent a s h) parts (omega arith) (ap (λ (m : Node). slice_get m.ports slot) (sym node) ∙ e)))
    ]

    slots-down : (s : Slots) (first me : ℕ) → StandBelow first me s → AreParts s → (id : ℕ) → first ≤ id → id < first + length (walk_below s) → AllDown id
    slots-down no_more first me h parts id low high = absurd (omega (arith, low, high))
    slots-down (absent s) first me h parts id low high = slots-down s first me (record { nodes = h.nodes; ends_too = h.ends_too }) parts id low high
    slots-down (unplugged s) first me h parts id low high = slots-down s first me (record { nodes = h.nodes; ends_too = h.ends_too }) parts id low high
    slots-down (up s) first me h parts id low high = slots-down s first me (record { nodes = h.nodes; ends_too = h.ends_too }) parts id low high
    slots-down (down u s) first me h parts id low high = elim (cases_lt id (first + length (walk u))) [
      | inl less ↦ tree-down u first me (parts-of u parts.0) (first-of first me u s h) id low less
      | inr more ↦ slots-down s (first + length (walk u)) me (rest-of first me u s h) parts.1 id more (omega (arith, high, length-append (walk u) (walk_below s)))
    ]

  pub all-down : IsBusTree t → (id : ℕ) → AllDown id
  all-down bus id n es slot at_n at_e e =
      let inside : id < 0 + length (walk t) = omega (arith, slice_get_within (walk t) id n at_n) in
      tree-down t 0 63 (whole-parts t bus.whole) (record { nodes = has-itself (walk t); ends_too = has-itself (ends t) }) id (omega arith) inside n es slot at_n at_e e

  -- ---- the cables

  abbrev In : List Cable → Cable → Type 0
  In cs c = (i : ℕ) × (slice_get cs i ≡ Some c)

  in-left : (xs ys : List Cable) (c : Cable) → In xs c → In (xs ++ ys) c
  in-left xs ys c h = (h.0, slice_get-left xs ys h.0 c h.1)

  in-right : (xs ys : List Cable) (c : Cable) → In ys c → In (xs ++ ys) c
  in-right xs ys c h = (length xs + h.0, slice_get-right xs ys (length xs) h.0 refl ∙ h.1)

  has-slot :
      (ps : List PortStatus) (es : Ends) (id slot j k : ℕ) → slice_get ps j ≡ Some Down → slice_get es j ≡ Some (Some k) →
      In (cables_of t id slot ps es) (cable_to t id (slot + j) k)
  has-slot [] es id slot j k d e = absurd cc
  has-slot (p ∷ ps) [] id slot j k d e = absurd cc
  has-slot (p ∷ ps) (x ∷ es) id slot zero k d e =
      let z : slot ≡ slot + 0 = omega arith in
      let here : cable_at t id slot p x ≡ cable_to t id (slot + 0) k ∷ [] =
      ap (λ (q : PortStatus). cable_at t id slot q x) (same_Some p Down d) ∙ ap (λ (o : Option ℕ). cable_at t id slot Down o) (same_Some x (Some k) e) ∙ ap (λ (m : ℕ). cable_to t id m k ∷ []) z in
      in-left (cable_at t id slot p x) (cables_of t id (slot + 1) ps es) (cable_to t id (slot + 0) k)
      (subst (λ (cs : List Cable). In cs (cable_to t id (slot + 0) k)) (sym here) (0, refl))
  has-slot (p ∷ ps) (x ∷ es) id slot (suc j) k d e =
      let z : slot + 1 + j ≡ slot + suc j = omega arith in
      in-right (cable_at t id slot p x) (cables_of t id (slot + 1) ps es) (cable_to t id (slot + suc j) k)
      (subst (λ (m : ℕ). In (cables_of t id (slot + 1) ps es) (cable_to t id m k)) z (has-slot ps es id (slot + 1) j k d e))

  has-node :
      (ns : List Node) (rows : List Ends) (first i : ℕ) (n : Node) (es : Ends) (c : Cable) → slice_get ns i ≡ Some n →
      slice_get rows i ≡ Some es → In (cables_of t (first + i) 0 n.ports es) c → In (cables_from t first ns rows) c
  has-node [] rows first i n es c a b h = absurd cc
  has-node (m ∷ ns) [] first i n es c a b h = absurd cc
  has-node (m ∷ ns) (r ∷ rows) first zero n es c a b h =
      let z : first + 0 ≡ first = omega arith in
      let here : cables_of t (first + 0) 0 n.ports es ≡ cables_of t first 0 m.ports r =
      ap (λ (k : ℕ). cables_of t k 0 n.ports es) z ∙ ap (λ (o : Node). cables_of t first 0 o.ports es) (sym (same_Some m n a)) ∙ ap (cables_of t first 0 m.ports) (sym (same_Some r es b)) in
      in-left (cables_of t first 0 m.ports r) (cables_from t (first + 1) ns rows) c (subst (λ (cs : List Cable). In cs c) here h)
  has-node (m ∷ ns) (r ∷ rows) first (suc i) n es c a b h =
      let z : first + suc i ≡ first + 1 + i = omega arith in
      in-right (cables_of t first 0 m.ports r) (cables_from t (first + 1) ns rows) c
      (has-node ns rows (first + 1) i n es c a b (subst (λ (k : ℕ). In (cables_of t k 0 n.ports es) c) z h))

  split-get : (xs ys : List Cable) (i : ℕ) (c : Cable) → slice_get (xs ++ ys) i ≡ Some c →
      (slice_get xs i ≡ Some c) ⊎ In ys c
  split-get [] ys i c h = inr (i, h)
  split-get (x ∷ xs) ys zero c h = inl h
  split-get (x ∷ xs) ys (suc i) c h = elim (split-get xs ys i c h) [
    | inl l ↦ inl l
    | inr r ↦ inr r
  ]

  record FromHere (id slot : ℕ) (p : PortStatus) (x : Option ℕ) (c : Cable) : Type 0 where
    child : ℕ
    down_is : p ≡ Down
    end : x ≡ Some child
    is : c ≡ cable_to t id slot child

  here-of : (id slot : ℕ) (p : PortStatus) (x : Option ℕ) (i : ℕ) (c : Cable) →
      slice_get (cable_at t id slot p x) i ≡ Some c → FromHere id slot p x c
  here-of id slot Absent x i c h = absurd cc
  here-of id slot Unplugged x i c h = absurd cc
  here-of id slot Up x i c h = absurd cc
  here-of id slot Down None i c h = absurd cc
  here-of id slot Down (Some k) zero c h = record { child = k; down_is = refl; end = refl; is = sym (same_Some (cable_to t id slot k) c h) }
  here-of id slot Down (Some k) (suc i) c h = absurd cc

  record FromSlot (id slot : ℕ) (ps : List PortStatus) (es : Ends) (c : Cable) : Type 0 where
    at : ℕ
    child : ℕ
    down_is : slice_get ps at ≡ Some Down
    end : slice_get es at ≡ Some (Some child)
    is : c ≡ cable_to t id (slot + at) child

  slot-of : (ps : List PortStatus) (es : Ends) (id slot i : ℕ) (c : Cable) →
      slice_get (cables_of t id slot ps es) i ≡ Some c → FromSlot id slot ps es c
  slot-of [] es id slot i c h = absurd cc
  slot-of (p ∷ ps) [] id slot i c h = absurd cc
  slot-of (p ∷ ps) (x ∷ es) id slot i c h = elim (split-get (cable_at t id slot p x) (cables_of t id (slot + 1) ps es) i c h) [
    | inl l ↦
        let f : FromHere id slot p x c = here-of id slot p x i c l in
        let z : slot ≡ slot + 0 = omega arith in
        record {
          at = 0;
          child = f.child;
          down_is = ap (λ (q : PortStatus). Some q) f.down_is;
          end = ap (λ (o : Option ℕ). Some o) f.end;
          is = f.is ∙ ap (λ (m : ℕ). cable_to t id m f.child) z;
        }
    | inr r ↦
        let f : FromSlot id (slot + 1) ps es c = slot-of ps es id (slot + 1) r.0 c r.1 in
        let z : slot + 1 + f.at ≡ slot + suc f.at = omega arith in
        record { at = suc f.at; child = f.child; down_is = f.down_is; end = f.end; is = f.is ∙ ap (λ (m : ℕ). cable_to t id m f.child) z }
  ]

  record FromNode (first : ℕ) (ns : List Node) (rows : List Ends) (c : Cable) : Type 0 where
    place : ℕ
    node : Node
    row : Ends
    node_at : slice_get ns place ≡ Some node
    row_at : slice_get rows place ≡ Some row
    slot : FromSlot (first + place) 0 node.ports row c

  node-of : (ns : List Node) (rows : List Ends) (first i : ℕ) (c : Cable) →
      slice_get (cables_from t first ns rows) i ≡ Some c → FromNode first ns rows c
  node-of [] rows first i c h = absurd cc
  node-of (n ∷ ns) [] first i c h = absurd cc
  node-of (n ∷ ns) (r ∷ rows) first i c h = elim (split-get (cables_of t first 0 n.ports r) (cables_from t (first + 1) ns rows) i c h) [
    | inl l ↦
        let z : first ≡ first + 0 = omega arith in
        record { place = 0; node = n; row = r; node_at = refl; row_at = refl; slot = subst (λ (k : ℕ). FromSlot k 0 n.ports r c) z (slot-of n.ports r first 0 i c l) }
    | inr m ↦
        let f : FromNode (first + 1) ns rows c = node-of ns rows (first + 1) m.0 c m.1 in
        let z : first + 1 + f.place ≡ first + suc f.place = omega arith in
        record { place = suc f.place; node = f.node; row = f.row; node_at = f.node_at; row_at = f.row_at; slot = subst (λ (k : ℕ). FromSlot k 0 f.node.ports f.row c) z f.slot }
  ]

  speeds : (id child : ℕ) (n m : Node) → slice_get (walk t) id ≡ Some n →
      slice_get (walk t) child ≡ Some m →
      min (speed_of (slice_get (walk t) id)) (speed_of (slice_get (walk t) child)) ≡ path_speed t id (child ∷ [])
  speeds id child n m at_n at_m =
      ap (λ (o : Option Node). min (speed_of o) (speed_of (slice_get (walk t) child))) at_n
      ∙ ap (λ (o : Option Node). min (node_speed n) (speed_of o)) at_m
      ∙ ap (λ (k : ℕ). min k (node_speed m)) (sym (speed_is t id n at_n))
      ∙ ap (λ (k : ℕ). min (path_speed t id []) k) (sym (speed_is t child m at_m))

  cable-is : IsBusTree t → (id slot child : ℕ) (n : Node) (es : Ends) →
      slice_get (walk t) id ≡ Some n → slice_get (ends t) id ≡ Some es →
      slice_get n.ports slot ≡ Some Down → slice_get es slot ≡ Some (Some child) → IsOfTree t (cable_to t id slot child)
  cable-is bus id slot child n es at_n at_e d e =
      let l : LeadsDown id es slot = all-down bus id n es slot at_n at_e d in
      let same : l.child ≡ child = same_Some l.child child (same_Some (Some l.child) (Some child) (sym l.end ∙ e)) in
      let lower : child < id = omega (arith, same, l.lower) in
      let inside : id < length (walk t) = slice_get_within (walk t) id n at_n in
      elim (slice_get_cases (walk t) child).1 [
        | inr lacks ↦ absurd (omega (arith, lacks.0, lower, inside))
        | inl found ↦ record {
          down = record { of_node = es; node = at_e; slot_end = e };
          back = subst (λ (k : ℕ). Far t k (up_of (slice_get (walk t) k)) (Some id)) same l.back;
          lower = lower;
          speed = speeds id child n found.0 at_n found.2;
        }
      ]

pub cables-of-tree : CablesAreOfTheTree
cables-of-tree t place c bus h =
    let f : FromNode t 0 (walk t) (ends t) c = node-of t (walk t) (ends t) 0 place c h in
    let z : 0 + f.place ≡ f.place = omega arith in
    let y : 0 + f.slot.at ≡ f.slot.at = omega arith in
    let is : c ≡ cable_to t f.place f.slot.at f.slot.child = f.slot.is ∙ ap (λ (k : ℕ). cable_to t k (0 + f.slot.at) f.slot.child) z ∙ ap (λ (k : ℕ). cable_to t f.place k f.slot.child) y in
    subst (IsOfTree t) (sym is) (cable-is t bus f.place f.slot.at f.slot.child f.node f.row f.node_at f.row_at f.slot.down_is f.slot.end)

pub each-has-cable : EachDownSlotHasItsCable
each-has-cable t id slot n bus at_n d = elim (slice_get_cases (ends t) id).1 [
  | inr lacks ↦ absurd (omega (arith, lacks.0, slice_get_within (walk t) id n at_n, length-ends_from 0 63 t))
  | inl found ↦
      let l : LeadsDown t id found.0 slot = all-down t bus id n found.0 slot at_n found.2 d in
      let z : 0 + id ≡ id = omega arith in
      let y : 0 + slot ≡ slot = omega arith in
      let here : In t (cables_of t (0 + id) 0 n.ports found.0) (cable_to t id slot l.child) =
      subst (λ (k : ℕ). In t (cables_of t k 0 n.ports found.0) (cable_to t id slot l.child)) (sym z)
      (subst (λ (k : ℕ). In t (cables_of t id 0 n.ports found.0) (cable_to t id k l.child)) y (has-slot t n.ports found.0 id 0 slot l.child d l.end)) in
      let all : In t (cables t) (cable_to t id slot l.child) = has-node t (walk t) (ends t) 0 id n found.0 (cable_to t id slot l.child) at_n found.2 here in
      record { place = all.0; cable = cable_to t id slot l.child; at = all.1; parent = refl; port_is = refl }
]
