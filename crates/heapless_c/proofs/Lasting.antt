-- A list that goes on: which faults it keeps, by either standard, and how long it is where it keeps none.
use Rattle.std.proofs.Common.{◌≡◌, ℕ, ◌+◌, ◌*◌, ◌<◌, ◌≤◌, Bool, true, false, cond, eqb, leb, List, [], ◌∷◌, ◌++◌, length, take, drop, refl, ap, subst, ◌∙◌, append_assoc, arith, length-take, length-append, take-append-drop}
use Rattle.std.proofs.lemmas.List.{take_all, length-map}
use Rattle.std.proofs.lemmas.Bool.{leb-true, leb-false}
use Rattle.phy_packet.specs.declared.packet.PhyPacket.{PhyPacket}
use Rattle.phy_packet.specs.Packet.{quad_of}
use Rattle.self_id.specs.declared.fault.GroupFault.{GroupFault}
use Rattle.self_id.specs.declared.fault.GroupFault.TheVariants.{NotSelfId, WrongId, BadOrder, Cut, TwoParents}
use Rattle.self_id.specs.declared.standard.Standard.{Standard}
use Rattle.self_id.specs.declared.standard.Standard.TheVariants.{Ieee1995, Ieee2000}
use Rattle.self_id.specs.Node.{Node}
use Rattle.self_id.specs.Group.{zero_packet, first_packet, five_packet, second_packet, third_packet, packets, group}
use Rattle.self_id.specs.Refused.{LeadsTo, GroupRefused, most_further}
use Rattle.topology_stack.specs.declared.fault.TreeFault.{TreeFault}
use Rattle.topology_stack.specs.declared.fault.TreeFault.TheVariants.{Group, Empty, TooFewChildren, TreesLeft, AfterRoot, NoRoot, TooMany}
use Rattle.topology_stack.specs.Tree.{Tree, IsBusTreeOf, walk, groups, emits}
use Rattle.topology_stack.specs.Forest.{walks}
use Rattle.topology_stack.specs.Refused.{GoesOn, GroupNext, Refused}
use Rattle.topology_stack.specs.Reader.{IsLasting}

-- ---- faults that a list keeps however it goes on

more_goes_on : (s : Standard) (l more : List ℕ) (ts : List Tree) (front rest : List ℕ) (at most : ℕ) →
    GoesOn s l ts front rest at most → GoesOn s (l ++ more) ts front (rest ++ more) at most
more_goes_on s l more ts front rest at most g = record {
  forest = g.forest;
  parts = ap (λ (x : List ℕ). x ++ more) g.parts ∙ append_assoc front rest more;
  more = omega (arith, g.more, length-append rest more);
  place = g.place;
  few = g.few;
}

more_leads : (s : Standard) (id at : ℕ) (l more front rest : List ℕ) (q place : ℕ) →
    LeadsTo s id at l front (q ∷ rest) place →
    LeadsTo s id at (l ++ more) front (q ∷ (rest ++ more)) place
more_leads s id at l more front rest q place h = record {
  parts = ap (λ (x : List ℕ). x ++ more) h.parts ∙ append_assoc front (q ∷ rest) more;
  front_leads = h.front_leads;
  few = h.few;
  place_is = h.place_is;
}

group_lasts : (s : Standard) (at id : ℕ) (l more : List ℕ) (f : GroupFault) → GroupRefused s at id l f →
    IsLasting (Group f) → GroupRefused s at id (l ++ more) f
group_lasts s at id l more (Cut place) h i = absurd i
group_lasts s at id l more (NotSelfId place) (front, rest, q, h, other) i = (front, rest ++ more, q, more_leads s id at l more front rest q place h, other)
group_lasts s at id l more (WrongId place found wanted) (front, rest, q, p, h, shows, self, is, same, ne) i = (front, rest ++ more, q, p, more_leads s id at l more front rest q place h, shows, self, is, same, ne)
group_lasts s at id l more (BadOrder place) (front, rest, q, p, h, shows, self, own, order) i = (front, rest ++ more, q, p, more_leads s id at l more front rest q place h, shows, self, own, order)
group_lasts s at id l more (TwoParents place) (n, rest, form, is_of, parts, two, is) i = (n, rest ++ more, form, is_of, ap (λ (x : List ℕ). x ++ more) parts ∙ append_assoc (group n id) rest more, two, is)

next_lasts : (s : Standard) (l more : List ℕ) (ts : List Tree) (n : Node) (at found wanted : ℕ) →
    GroupNext s l ts n at found wanted → GroupNext s (l ++ more) ts n at found wanted
next_lasts s l more ts n at found wanted k = record {
  front = k.front;
  rest = k.rest ++ more;
  goes_on = subst (λ (x : List ℕ). GoesOn s (l ++ more) ts k.front x at 62) (append_assoc (group n (length (walks ts))) k.rest more) (more_goes_on s l more ts k.front (group n (length (walks ts)) ++ k.rest) at 62 k.goes_on);
  is_node = k.is_node;
  is_of = k.is_of;
  found_is = k.found_is;
  wanted_is = k.wanted_is;
}

lasts : (s : Standard) (l more : List ℕ) (f : TreeFault) → Refused s l f → IsLasting f →
    Refused s (l ++ more) f
lasts s l more Empty h i = absurd i
lasts s l more (NoRoot at) h i = absurd i
lasts s l more (Group f) (ts, front, rest, at, g, fault) i = (ts, front, rest ++ more, at, more_goes_on s l more ts front rest at 62 g, group_lasts s at (length (walks ts)) rest more f fault i)
lasts s l more (TooFewChildren at found wanted) (ts, n, k, lt) i = (ts, n, next_lasts s l more ts n at found wanted k, lt)
lasts s l more (TreesLeft at found wanted) (ts, n, k, no_up, lt) i = (ts, n, next_lasts s l more ts n at found wanted k, no_up, lt)
lasts s l more (AfterRoot at) (t, rest, bus, parts, some, place) i = (t, rest ++ more, bus, ap (λ (x : List ℕ). x ++ more) parts ∙ append_assoc (emits t) rest more, omega (arith, some, length-append rest more), place)
lasts s l more (TooMany at) (ts, front, rest, g, count) i = (ts, front, rest ++ more, more_goes_on s l more ts front rest at 63 g, count)

-- ---- lists of at most 63 groups of four

one_of_five : (a b c d : Bool) (p q r s t : List PhyPacket) → length p ≤ 4 → length q ≤ 4 → length r ≤ 4 →
    length s ≤ 4 → length t ≤ 4 → length (cond a p (cond b q (cond c r (cond d s t)))) ≤ 4
one_of_five true b c d p q r s t e f g h i = e
one_of_five false true c d p q r s t e f g h i = f
one_of_five false false true d p q r s t e f g h i = g
one_of_five false false false true p q r s t e f g h i = h
one_of_five false false false false p q r s t e f g h i = i

four_packets : (n : Node) (id : ℕ) → length (packets n id) ≤ 4
four_packets n id = one_of_five (eqb (length n.ports) 3) (eqb (length n.ports) 11) (eqb (length n.ports) 16) (eqb (length n.ports) 19)
    (zero_packet n id false ∷ []) (zero_packet n id true ∷ first_packet n id false ∷ [])
    (zero_packet n id true ∷ first_packet n id true ∷ five_packet n id ∷ [])
    (zero_packet n id true ∷ first_packet n id true ∷ second_packet n id false ∷ [])
    (zero_packet n id true ∷ first_packet n id true ∷ second_packet n id true ∷ third_packet n id ∷ [])
    (omega arith) (omega arith) (omega arith) (omega arith) (omega arith)

four_quads : (n : Node) (id : ℕ) → length (group n id) ≤ 4
unfolding group
four_quads n id = omega (arith, length-map (packets n id) quad_of, four_packets n id)

few_quads : (id : ℕ) (ns : List Node) → length (groups id ns) ≤ 4 * length ns
few_quads id [] = omega arith
few_quads id (n ∷ ns) = omega (arith, length-append (group n id) (groups (id + 1) ns), four_quads n id, few_quads (id + 1) ns)

three_further : (s : Standard) → most_further s ≤ 3
three_further Ieee1995 = omega arith
three_further Ieee2000 = omega arith

-- a tree emits no more than that,
pub tree_is_short : (s : Standard) (t : Tree) → IsBusTreeOf s t → length (emits t) ≤ 252
tree_is_short s t bus = omega (arith, bus.bus.small, few_quads 0 (walk t))

-- and a list that is longer keeps its fault
pub long_lasts : (s : Standard) (l : List ℕ) (f : TreeFault) → Refused s l f → 252 < length l → IsLasting f
long_lasts s l Empty h long = absurd (omega (arith, ap length h, long))
long_lasts s l (NoRoot at) (ts, forest, some, few, place) long = absurd (omega (arith, ap length forest.emitted, few_quads 0 (walks ts), few, long))
long_lasts s l (Group (Cut at)) (ts, front, rest, place, g, (last, h, some)) long =
    absurd (omega (arith, ap length g.parts, length-append front rest, ap length g.forest.emitted, few_quads 0 (walks ts), g.few, ap length h.parts, length-append last [], h.few, three_further s, long))
long_lasts s l (Group (NotSelfId at)) h long = tt
long_lasts s l (Group (WrongId at found wanted)) h long = tt
long_lasts s l (Group (BadOrder at)) h long = tt
long_lasts s l (Group (TwoParents at)) h long = tt
long_lasts s l (TooFewChildren at found wanted) h long = tt
long_lasts s l (TreesLeft at found wanted) h long = tt
long_lasts s l (AfterRoot at) h long = tt
long_lasts s l (TooMany at) h long = tt

-- ---- the first 253 quadlets of a list

-- they are all of it, where they are fewer
pub all_taken : (list kept : List ℕ) → kept ≡ take 253 list → length kept ≤ 252 → kept ≡ list
all_taken list kept e few = e ∙ take_all 253 list (omega (arith, few, ap length e, length-take 253 list))

-- a fault of theirs that lasts is the whole list's
pub lasts_on : (s : Standard) (list kept : List ℕ) (f : TreeFault) → kept ≡ take 253 list →
    Refused s kept f → IsLasting f → Refused s list f
lasts_on s list kept f e refused lasting =
    let on : Refused s (kept ++ drop 253 list) f = lasts s kept (drop 253 list) f refused lasting in
    subst (λ (l : List ℕ). Refused s l f) (ap (λ (l : List ℕ). l ++ drop 253 list) e ∙ take-append-drop 253 list) on

-- a fault that doesn't last has a list that isn't long
pub not_long : (s : Standard) (l : List ℕ) (f : TreeFault) → Refused s l f → (IsLasting f → ⊥) → length l ≤ 252
not_long s l f h ends = at (leb (length l) 252) refl
  where
    at : (few : Bool) → leb (length l) 252 ≡ few → length l ≤ 252
    at true e = leb-true _ _ e
    at false e = absurd (ends (long_lasts s l f h (omega (arith, leb-false _ _ e))))
