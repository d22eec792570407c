-- The drawing of a part of a tree, slot by slot.
use Rattle.std.proofs.Common.{◌≡◌, ℕ, zero, suc, ◌+◌, ◌-◌, ◌<◌, ◌≤◌, Bool, Option, Some, None, List, [], ◌∷◌, ◌++◌, length, drop, slice_get, refl, sym, ◌∙◌, ap, subst, arith, append_assoc}
use Rattle.std.specs.Prelude.{min, nat_lt, IfSome}
use Rattle.std.proofs.lemmas.List.{drop_all}
use Rattle.std.proofs.lemmas.Option.{slice_get_within, same_Some}
use Rattle.self_id.specs.declared.node.PortStatus.{PortStatus}
use Rattle.self_id.specs.declared.node.PortStatus.TheVariants.{Down}
use Rattle.self_id.specs.Node.{Node, downs}
use Rattle.topology_stack.specs.Tree.{Label, Tree, branch, Slots, no_more, absent, unplugged, up, down, statuses, node_of, walk, walk_below, IsBusTree}
use Rattle.topology_stack.specs.Far.{slot_ends, ends}
use Rattle.view_text.specs.declared.cable.Cable.{Cable}
use Rattle.view_text.specs.Cable.{up_of, speed_of, cable_to}
use Rattle.view_text.specs.Drawing.{node_words, cable_text, cable_of, goes_on, corner, bar, outermost, tree_lines, slot_lines}
use Rattle.view_text.specs.codings.Parts.{HasPart, next, below, rest, skipped, first_child, IsChildAt, AppendsPart}
use Rattle.view_text.proofs.CableEnds.{Ends, StandBelow, below-of, own-node, own-ends, first-of, rest-of, LeadsDown, all-down}
use Rattle.topology_stack.proofs.Lemmas.{length-walk, some_node}

-- ---- the slots from one on

drop-more : {X : Type 0} (k : ℕ) (xs : List X) → drop (suc k) xs ≡ drop 1 (drop k xs)
drop-more zero xs = refl
drop-more (suc k) [] = refl
drop-more (suc k) (x ∷ xs) = drop-more k xs

get-drop : {X : Type 0} (k : ℕ) (xs : List X) → slice_get (drop k xs) 0 ≡ slice_get xs k
get-drop zero xs = refl
get-drop (suc k) [] = refl
get-drop (suc k) (x ∷ xs) = get-drop k xs

next-statuses : (x : Slots) → statuses (next x) ≡ drop 1 (statuses x)
next-statuses no_more = refl
next-statuses (absent s) = refl
next-statuses (unplugged s) = refl
next-statuses (up s) = refl
next-statuses (down t s) = refl

rest-statuses : (k : ℕ) (s : Slots) → statuses (rest k s) ≡ drop k (statuses s)
rest-statuses zero s = refl
rest-statuses (suc k) s =
    next-statuses (rest k s) ∙ ap (λ ps. drop 1 ps) (rest-statuses k s) ∙ sym (drop-more k (statuses s))

same-from : (from parent : ℕ) (s : Slots) →
    slot_ends (from + 0) parent s ≡ slot_ends from parent s
same-from from parent s =
    let z : from + 0 ≡ from = omega arith in ap (λ (f : ℕ). slot_ends f parent s) z

next-ends : (x : Slots) (from parent : ℕ) →
    slot_ends (from + below x) parent (next x) ≡ drop 1 (slot_ends from parent x)
next-ends no_more from parent = refl
next-ends (absent s) from parent = same-from from parent s
next-ends (unplugged s) from parent = same-from from parent s
next-ends (up s) from parent = same-from from parent s
next-ends (down t s) from parent = refl

rest-ends : (k : ℕ) (s : Slots) (from parent : ℕ) →
    slot_ends (from + skipped k s) parent (rest k s) ≡ drop k (slot_ends from parent s)
rest-ends zero s from parent = same-from from parent s
rest-ends (suc k) s from parent =
    let z : from + (skipped k s + below (rest k s)) ≡ from + skipped k s + below (rest k s) = omega arith in
    ap (λ (f : ℕ). slot_ends f parent (next (rest k s))) z ∙ next-ends (rest k s) (from + skipped k s) parent
    ∙ ap (λ (es : Ends). drop 1 es) (rest-ends k s from parent) ∙ sym (drop-more k (slot_ends from parent s))

next-stands : (t : Tree) (x : Slots) (from id : ℕ) → StandBelow t from id x →
    StandBelow t (from + below x) id (next x)
next-stands t no_more from id h =
    let z : from ≡ from + 0 = omega arith in subst (λ (f : ℕ). StandBelow t f id no_more) z h
next-stands t (absent s) from id h =
    let z : from ≡ from + 0 = omega arith in
    subst (λ (f : ℕ). StandBelow t f id s) z (record { nodes = h.nodes; ends_too = h.ends_too })
next-stands t (unplugged s) from id h =
    let z : from ≡ from + 0 = omega arith in
    subst (λ (f : ℕ). StandBelow t f id s) z (record { nodes = h.nodes; ends_too = h.ends_too })
next-stands t (up s) from id h =
    let z : from ≡ from + 0 = omega arith in
    subst (λ (f : ℕ). StandBelow t f id s) z (record { nodes = h.nodes; ends_too = h.ends_too })
next-stands t (down u s) from id h = rest-of t from id u s h

rest-stands : (t : Tree) (k : ℕ) (s : Slots) (from id : ℕ) → StandBelow t from id s →
    StandBelow t (from + skipped k s) id (rest k s)
rest-stands t zero s from id h =
    let z : from ≡ from + 0 = omega arith in subst (λ (f : ℕ). StandBelow t f id s) z h
rest-stands t (suc k) s from id h =
    let z : from + skipped k s + below (rest k s) ≡ from + (skipped k s + below (rest k s)) = omega arith in
    subst (λ (f : ℕ). StandBelow t f id (next (rest k s))) z
    (next-stands t (rest k s) (from + skipped k s) id (rest-stands t k s from id h))

-- ---- the child below a slot

child-down : (x : Slots) (from parent : ℕ) (far : Option ℕ) →
    slice_get (statuses x) 0 ≡ Some Down →
    slice_get (slot_ends from parent x) 0 ≡ Some far → far ≡ first_child from x
child-down no_more from parent far d e = absurd cc
child-down (absent s) from parent far d e = absurd cc
child-down (unplugged s) from parent far d e = absurd cc
child-down (up s) from parent far d e = absurd cc
child-down (down t s) from parent far d e =
    sym (same_Some (Some (from + length (walk t) - 1)) far e)

child-none : (x : Slots) (from : ℕ) (p : PortStatus) → slice_get (statuses x) 0 ≡ Some p →
    (p ≡ Down → ⊥) → None ≡ first_child from x
child-none no_more from p e other = absurd cc
child-none (absent s) from p e other = refl
child-none (unplugged s) from p e other = refl
child-none (up s) from p e other = refl
child-none (down t s) from p e other = absurd (other (sym (same_Some Down p e)))

own-status :
    (t : Tree) (id slot from parent : ℕ) (n : Node) (p : PortStatus) (a : Label) (s : Slots) →
    slice_get (walk t) id ≡ Some n → slice_get n.ports slot ≡ Some p → HasPart t from parent (branch a s) →
    id ≡ from + length (walk_below s) → slice_get (statuses (rest slot s)) 0 ≡ Some p
own-status t id slot from parent n p a s at_n d h place =
    let node : n ≡ node_of a s = same_Some n (node_of a s) (sym at_n ∙ ap (slice_get (walk t)) place ∙ own-node t from parent a s h) in
    ap (λ (ps : List PortStatus). slice_get ps 0) (rest-statuses slot s) ∙ get-drop slot (statuses s)
    ∙ ap (λ (m : Node). slice_get m.ports slot) (sym node) ∙ d

pub is_child : (t : Tree) (id slot : ℕ) (n : Node) (es : Ends) (far : Option ℕ) →
    slice_get (walk t) id ≡ Some n → slice_get (ends t) id ≡ Some es →
    slice_get n.ports slot ≡ Some Down → slice_get es slot ≡ Some far → IsChildAt t id slot far
is_child t id slot n es far at_n at_e d e = λ from parent a s h place.
    let row : es ≡ slot_ends from parent s = same_Some es (slot_ends from parent s) (sym at_e ∙ ap (slice_get (ends t)) place ∙ own-ends t from parent a s h) in
    child-down (rest slot s) (from + skipped slot s) parent far (own-status t id slot from parent n Down a s at_n d h place)
    (ap (λ (xs : Ends). slice_get xs 0) (rest-ends slot s from parent) ∙ get-drop slot (slot_ends from parent s)
    ∙ ap (λ (r : Ends). slice_get r slot) (sym row) ∙ e)

pub no_child : (t : Tree) (id slot : ℕ) (n : Node) (p : PortStatus) →
    slice_get (walk t) id ≡ Some n → slice_get n.ports slot ≡ Some p → (p ≡ Down → ⊥) →
    IsChildAt t id slot None
no_child t id slot n p at_n d other = λ from parent a s h place.
    child-none (rest slot s) (from + skipped slot s) p (own-status t id slot from parent n p a s at_n d h place) other

-- no node has a higher ID than the root
pub no_node : (t : Tree) (id slot : ℕ) → length (walk t) ≤ id → IsChildAt t id slot None
no_node t id slot past = λ from parent a s h place.
    absurd (omega (arith, past, place, slice_get_within (walk t) (from + length (walk_below s)) (node_of a s) (own-node t from parent a s h)))

pub child_lower : (t : Tree) (id slot : ℕ) (n : Node) (es : Ends) (far : Option ℕ) → IsBusTree t →
    slice_get (walk t) id ≡ Some n → slice_get (ends t) id ≡ Some es →
    slice_get n.ports slot ≡ Some Down → slice_get es slot ≡ Some far → IfSome far (λ c. c < id)
child_lower t id slot n es far bus at_n at_e d e =
    let l : LeadsDown t id es slot = all-down t bus id n es slot at_n at_e d in
    subst (λ (f : Option ℕ). IfSome f (λ c. c < id)) (same_Some (Some l.child) far (sym l.end ∙ e)) l.lower

-- ---- the lines of a node's children, one behind the other

record BelowSlot (x : Slots) (from child : ℕ) : Type 0 where
  tree : Tree
  is : x ≡ down tree (next x)
  many : below x ≡ length (walk tree)
  last : child + 1 ≡ from + length (walk tree)

child-tree : (x : Slots) (from child : ℕ) → Some child ≡ first_child from x →
    BelowSlot x from child
child-tree no_more from child e = absurd cc
child-tree (absent s) from child e = absurd cc
child-tree (unplugged s) from child e = absurd cc
child-tree (up s) from child e = absurd cc
child-tree (down t s) from child e =
    let is : child ≡ from + length (walk t) - 1 = same_Some child (from + length (walk t) - 1) e in
    record { tree = t; is = refl; many = refl; last = omega (arith, is, some_node t) }

no-lines : (margin : List ℕ) (root : ℕ) (irm : Option ℕ) (n : Node) (slot from : ℕ) (x : Slots) →
    None ≡ first_child from x →
    slot_lines margin root irm n slot from x ≡ slot_lines margin root irm n (slot + 1) (from + below x) (next x)
no-lines margin root irm n slot from no_more e = refl
no-lines margin root irm n slot from (absent s) e =
    let z : from ≡ from + 0 = omega arith in ap (λ (f : ℕ). slot_lines margin root irm n (slot + 1) f s) z
no-lines margin root irm n slot from (unplugged s) e =
    let z : from ≡ from + 0 = omega arith in ap (λ (f : ℕ). slot_lines margin root irm n (slot + 1) f s) z
no-lines margin root irm n slot from (up s) e =
    let z : from ≡ from + 0 = omega arith in ap (λ (f : ℕ). slot_lines margin root irm n (slot + 1) f s) z
no-lines margin root irm n slot from (down t s) e = absurd cc

top-node : (t : Tree) (first parent child : ℕ) (u : Tree) → HasPart t first parent u →
    child + 1 ≡ first + length (walk u) → slice_get (walk t) child ≡ Some (outermost u)
top-node t first parent child (branch a s) h e =
    let at : child ≡ first + length (walk_below s) = omega (arith, e, length-walk a s) in
    ap (slice_get (walk t)) at ∙ own-node t first parent a s h

-- what is written so far, and then the lines of the slots from one on, are those of the part
abbrev pub LinesFrom : Tree → List ℕ → Option ℕ → ℕ → ℕ → List ℕ → List ℕ → Type 0
LinesFrom t margin irm id slot entry now =
    (from parent : ℕ) (a : Label) (s : Slots) → HasPart t from parent (branch a s) → id ≡ from + length (walk_below s) →
    now ++ slot_lines margin (length (walk t) - 1) irm (node_of a s) slot (from + skipped slot s) (rest slot s)
    ≡ entry ++ tree_lines margin (length (walk t) - 1) irm from (branch a s)

pub lines_begin :
    (t : Tree) (margin : List ℕ) (irm : Option ℕ) (id root : ℕ) (n : Node) (entry now : List ℕ) →
    slice_get (walk t) id ≡ Some n → root + 1 ≡ length (walk t) →
    now ≡ entry ++ node_words id n root irm → LinesFrom t margin irm id 0 entry now
lines_begin t margin irm id root n entry now at_n last e = λ from parent a s h place.
    let top : root ≡ length (walk t) - 1 = omega (arith, last) in
    let node : n ≡ node_of a s = same_Some n (node_of a s) (sym at_n ∙ ap (slice_get (walk t)) place ∙ own-node t from parent a s h) in
    let z : from + 0 ≡ from = omega arith in
    let words : List ℕ = node_words (from + length (walk_below s)) (node_of a s) (length (walk t) - 1) irm in
    let is : now ≡ entry ++ words = e ∙ ap (λ (i : ℕ). entry ++ node_words i n root irm) place
    ∙ ap (λ (m : Node). entry ++ node_words (from + length (walk_below s)) m root irm) node
    ∙ ap (λ (r : ℕ). entry ++ node_words (from + length (walk_below s)) (node_of a s) r irm) top in
    ap (λ (f : ℕ). now ++ slot_lines margin (length (walk t) - 1) irm (node_of a s) 0 f s) z
    ∙ ap (λ (xs : List ℕ). xs ++ slot_lines margin (length (walk t) - 1) irm (node_of a s) 0 from s) is
    ∙ append_assoc entry words (slot_lines margin (length (walk t) - 1) irm (node_of a s) 0 from s)

pub lines_none : (t : Tree) (margin : List ℕ) (irm : Option ℕ) (id slot : ℕ) (entry now : List ℕ) →
    IsChildAt t id slot None → LinesFrom t margin irm id slot entry now →
    LinesFrom t margin irm id (slot + 1) entry now
lines_none t margin irm id slot entry now is inv = λ from parent a s h place.
    let more : slot + 1 ≡ suc slot = omega arith in
    let z : from + (skipped slot s + below (rest slot s)) ≡ from + skipped slot s + below (rest slot s) = omega arith in
    ap (λ (k : ℕ). now ++ slot_lines margin (length (walk t) - 1) irm (node_of a s) (slot + 1) (from + skipped k s) (rest k s)) more
    ∙ ap (λ (f : ℕ). now ++ slot_lines margin (length (walk t) - 1) irm (node_of a s) (slot + 1) f (next (rest slot s))) z
    ∙ ap (λ (xs : List ℕ). now ++ xs)
    (sym (no-lines margin (length (walk t) - 1) irm (node_of a s) slot (from + skipped slot s) (rest slot s) (is from parent a s h place)))
    ∙ inv from parent a s h place

joined : (m c k tl r before branched after whole : List ℕ) → branched ≡ before ++ (m ++ (c ++ k)) →
    after ≡ branched ++ tl → before ++ (m ++ (c ++ (k ++ (tl ++ r)))) ≡ whole → after ++ r ≡ whole
joined m c k tl r before branched after whole e f h =
    let flat : ((before ++ (m ++ (c ++ k))) ++ tl) ++ r ≡ before ++ (m ++ (c ++ (k ++ (tl ++ r)))) =
    rw (append_assoc (before ++ (m ++ (c ++ k))) tl r, append_assoc before (m ++ (c ++ k)) (tl ++ r), append_assoc m (c ++ k) (tl ++ r), append_assoc c k (tl ++ r)) refl in
    ap (λ (xs : List ℕ). xs ++ r) (f ∙ ap (λ (xs : List ℕ). xs ++ tl) e) ∙ flat ∙ h

cable-is :
    (t : Tree) (id slot child : ℕ) (n m : Node) (c : Cable) → slice_get (walk t) id ≡ Some n →
    slice_get (walk t) child ≡ Some m → c ≡ cable_to t id slot child →
    cable_text c.port c.speed c.child_port ≡ cable_of n slot m
cable-is t id slot child n m c at_n at_m e =
    ap (λ (d : Cable). cable_text d.port d.speed d.child_port) e
    ∙ ap (λ (o : Option Node). cable_text slot (min (speed_of o) (speed_of (slice_get (walk t) child))) (up_of (slice_get (walk t) child))) at_n
    ∙ ap (λ (o : Option Node). cable_text slot (min (speed_of (Some n)) (speed_of o)) (up_of o)) at_m

-- what is written of a child: its branch, and its part behind the margin below
pub lines_child :
    (t : Tree) (margin : List ℕ) (irm : Option ℕ) (id slot child : ℕ) (on : Bool) (n : Node) (c : Cable)
    (entry before branched deeper after : List ℕ) → slice_get (walk t) id ≡ Some n →
    IsChildAt t id slot (Some child) → on ≡ nat_lt 0 (downs (drop (slot + 1) n.ports)) → c ≡ cable_to t id slot child →
    branched ≡ before ++ (margin ++ (corner on ++ cable_text c.port c.speed c.child_port)) → deeper ≡ margin ++ bar on →
    AppendsPart t deeper irm child branched after →
    LinesFrom t margin irm id slot entry before → LinesFrom t margin irm id (slot + 1) entry after
lines_child t margin irm id slot child on n c entry before branched deeper after at_n is goes cable e d part inv = λ from parent a s h place.
    let root : ℕ = length (walk t) - 1 in
    let me : ℕ = from + length (walk_below s) in
    let first : ℕ = from + skipped slot s in
    let x : Slots = rest slot s in
    let b : BelowSlot x first child = child-tree x first child (is from parent a s h place) in
    let u : Tree = b.tree in
    let v : Slots = next x in
    let node : n ≡ node_of a s = same_Some n (node_of a s) (sym at_n ∙ ap (slice_get (walk t)) place ∙ own-node t from parent a s h) in
    let stands : HasPart t first me u = first-of t first me u v (subst (λ (y : Slots). StandBelow t first me y) b.is (rest-stands t slot s from me (below-of t from parent a s h))) in
    let more : slot + 1 ≡ suc slot = omega arith in
    let on_is : on ≡ goes_on v = goes ∙ ap (λ (m : Node). nat_lt 0 (downs (drop (slot + 1) m.ports))) node
    ∙ ap (λ (k : ℕ). nat_lt 0 (downs (drop k (statuses s)))) more ∙ ap (λ (ps : List PortStatus). nat_lt 0 (downs ps)) (sym (rest-statuses (suc slot) s)) in
    let cable_is : cable_text c.port c.speed c.child_port ≡ cable_of (node_of a s) slot (outermost u) =
    cable-is t id slot child (node_of a s) (outermost u) c (at_n ∙ ap (λ (m : Node). Some m) node) (top-node t first me child u stands b.last) cable in
    let branch_is : branched ≡ before ++ (margin ++ (corner (goes_on v) ++ cable_of (node_of a s) slot (outermost u))) =
    e ∙ ap (λ (o : Bool). before ++ (margin ++ (corner o ++ cable_text c.port c.speed c.child_port))) on_is
    ∙ ap (λ (xs : List ℕ). before ++ (margin ++ (corner (goes_on v) ++ xs))) cable_is in
    let after_is : after ≡ branched ++ tree_lines (margin ++ bar (goes_on v)) root irm first u =
    part first me u stands b.last ∙ ap (λ (xs : List ℕ). branched ++ tree_lines xs root irm first u) (d ∙ ap (λ (o : Bool). margin ++ bar o) on_is) in
    let last : List ℕ = slot_lines margin root irm (node_of a s) (slot + 1) (first + length (walk u)) v in
    let prior : before ++ slot_lines margin root irm (node_of a s) slot first (down u v) ≡ entry ++ tree_lines margin root irm from (branch a s) =
    ap (λ (y : Slots). before ++ slot_lines margin root irm (node_of a s) slot first y) (sym b.is) ∙ inv from parent a s h place in
    let z : from + (skipped slot s + below x) ≡ first + length (walk u) = omega (arith, b.many) in
    ap (λ (k : ℕ). after ++ slot_lines margin root irm (node_of a s) (slot + 1) (from + skipped k s) (rest k s)) more
    ∙ ap (λ (f : ℕ). after ++ slot_lines margin root irm (node_of a s) (slot + 1) f v) z
    ∙ joined margin (corner (goes_on v)) (cable_of (node_of a s) slot (outermost u)) (tree_lines (margin ++ bar (goes_on v)) root irm first u) last
    before branched after (entry ++ tree_lines margin root irm from (branch a s)) branch_is after_is prior

no-statuses : (x : Slots) → statuses x ≡ [] → x ≡ no_more
no-statuses no_more e = refl
no-statuses (absent s) e = absurd cc
no-statuses (unplugged s) e = absurd cc
no-statuses (up s) e = absurd cc
no-statuses (down t s) e = absurd cc

append-nothing : (xs : List ℕ) → xs ++ [] ≡ xs
append-nothing [] = refl
append-nothing (x ∷ xs) = ap (λ ys. x ∷ ys) (append-nothing xs)

pub lines_end :
    (t : Tree) (margin : List ℕ) (irm : Option ℕ) (id slot : ℕ) (n : Node) (entry now : List ℕ) →
    slice_get (walk t) id ≡ Some n → length n.ports ≤ slot →
    LinesFrom t margin irm id slot entry now → AppendsPart t margin irm id entry now
lines_end t margin irm id slot n entry now at_n long inv = λ from parent part h place. of part from parent h place
  where
    of : (part : Tree) (from parent : ℕ) → HasPart t from parent part → id + 1 ≡ from + length (walk part) →
        now ≡ entry ++ tree_lines margin (length (walk t) - 1) irm from part
    of (branch a s) from parent h place =
        let at : id ≡ from + length (walk_below s) = omega (arith, place, length-walk a s) in
        let node : n ≡ node_of a s = same_Some n (node_of a s) (sym at_n ∙ ap (slice_get (walk t)) at ∙ own-node t from parent a s h) in
        let few : length (statuses s) ≤ slot = subst (λ (m : Node). length m.ports ≤ slot) node long in
        let over : rest slot s ≡ no_more = no-statuses (rest slot s) (rest-statuses slot s ∙ drop_all slot (statuses s) few) in
        sym (append-nothing now)
        ∙ ap (λ (y : Slots). now ++ slot_lines margin (length (walk t) - 1) irm (node_of a s) slot (from + skipped slot s) y) (sym over)
        ∙ inv from parent a s h at
