-- Faults that a list keeps, however it goes on.
use Rattle.std.proofs.Common.{◌≡◌, ℕ, List, ◌∷◌, ◌++◌, length, refl, ap, subst, ◌∙◌, append_assoc, arith, length-append}
use Rattle.self_id.specs.declared.fault.GroupFault.{GroupFault}
use Rattle.self_id.specs.declared.fault.GroupFault.TheVariants.{NotSelfId, WrongId, BadOrder, Cut, TwoParents}
use Rattle.self_id.specs.declared.standard.Standard.TheVariants.{Ieee2000}
use Rattle.self_id.specs.Node.{Node}
use Rattle.self_id.specs.Group.{group}
use Rattle.self_id.specs.Refused.{LeadsTo, GroupRefused}
use Rattle.topology_stack.specs.declared.fault.TreeFault.{TreeFault}
use Rattle.topology_stack.specs.declared.fault.TreeFault.TheVariants.{Group, Empty, TooFewChildren, TreesLeft, AfterRoot, NoRoot, TooMany}
use Rattle.topology_stack.specs.Tree.{Tree, emits}
use Rattle.topology_stack.specs.Forest.{walks}
use Rattle.topology_stack.specs.Refused.{GoesOn, GroupNext, Refused}
use Rattle.topology_stack.specs.Reader.{IsLasting}

more_goes_on : (l more : List ℕ) (ts : List Tree) (front rest : List ℕ) (at most : ℕ) →
    GoesOn Ieee2000 l ts front rest at most →
    GoesOn Ieee2000 (l ++ more) ts front (rest ++ more) at most
more_goes_on l more ts front rest at most g = record {
  forest = g.forest;
  parts = ap (λ (x : List ℕ). x ++ more) g.parts ∙ append_assoc front rest more;
  more = omega (arith, g.more, length-append rest more);
  place = g.place;
  few = g.few;
}

more_leads : (id at : ℕ) (l more front rest : List ℕ) (q place : ℕ) →
    LeadsTo Ieee2000 id at l front (q ∷ rest) place →
    LeadsTo Ieee2000 id at (l ++ more) front (q ∷ (rest ++ more)) place
more_leads id at l more front rest q place h = record {
  parts = ap (λ (x : List ℕ). x ++ more) h.parts ∙ append_assoc front (q ∷ rest) more;
  front_leads = h.front_leads;
  few = h.few;
  place_is = h.place_is;
}

group_lasts : (at id : ℕ) (l more : List ℕ) (f : GroupFault) → GroupRefused Ieee2000 at id l f →
    IsLasting (Group f) → GroupRefused Ieee2000 at id (l ++ more) f
group_lasts at id l more (Cut place) h i = absurd i
group_lasts at id l more (NotSelfId place) (front, rest, q, h, other) i = (front, rest ++ more, q, more_leads id at l more front rest q place h, other)
group_lasts at id l more (WrongId place found wanted) (front, rest, q, p, h, shows, self, is, same, ne) i = (front, rest ++ more, q, p, more_leads id at l more front rest q place h, shows, self, is, same, ne)
group_lasts at id l more (BadOrder place) (front, rest, q, p, h, shows, self, own, order) i = (front, rest ++ more, q, p, more_leads id at l more front rest q place h, shows, self, own, order)
group_lasts at id l more (TwoParents place) (n, rest, form, is_of, parts, two, is) i = (n, rest ++ more, form, is_of, ap (λ (x : List ℕ). x ++ more) parts ∙ append_assoc (group n id) rest more, two, is)

next_lasts : (l more : List ℕ) (ts : List Tree) (n : Node) (at found wanted : ℕ) →
    GroupNext Ieee2000 l ts n at found wanted → GroupNext Ieee2000 (l ++ more) ts n at found wanted
next_lasts l more ts n at found wanted k = record {
  front = k.front;
  rest = k.rest ++ more;
  goes_on = subst (λ (x : List ℕ). GoesOn Ieee2000 (l ++ more) ts k.front x at 62) (append_assoc (group n (length (walks ts))) k.rest more) (more_goes_on l more ts k.front (group n (length (walks ts)) ++ k.rest) at 62 k.goes_on);
  is_node = k.is_node;
  is_of = k.is_of;
  found_is = k.found_is;
  wanted_is = k.wanted_is;
}

-- a list keeps a lasting fault however it goes on
pub lasts : (l more : List ℕ) (f : TreeFault) → Refused Ieee2000 l f → IsLasting f →
    Refused Ieee2000 (l ++ more) f
lasts l more Empty h i = absurd i
lasts l more (NoRoot at) h i = absurd i
lasts l more (Group f) (ts, front, rest, at, g, fault) i = (ts, front, rest ++ more, at, more_goes_on l more ts front rest at 62 g, group_lasts at (length (walks ts)) rest more f fault i)
lasts l more (TooFewChildren at found wanted) (ts, n, k, lt) i = (ts, n, next_lasts l more ts n at found wanted k, lt)
lasts l more (TreesLeft at found wanted) (ts, n, k, no_up, lt) i = (ts, n, next_lasts l more ts n at found wanted k, no_up, lt)
lasts l more (AfterRoot at) (t, rest, bus, parts, some, place) i = (t, rest ++ more, bus, ap (λ (x : List ℕ). x ++ more) parts ∙ append_assoc (emits t) rest more, omega (arith, some, length-append rest more), place)
lasts l more (TooMany at) (ts, front, rest, g, count) i = (ts, front, rest ++ more, more_goes_on l more ts front rest at 63 g, count)

-- a group's fault that isn't its end lasts
pub lasting_group : (f : GroupFault) → ((at : ℕ) → f ≡ Cut at → ⊥) → IsLasting (Group f)
lasting_group (Cut at) other = absurd (other at refl)
lasting_group (NotSelfId at) other = tt
lasting_group (WrongId at found wanted) other = tt
lasting_group (BadOrder at) other = tt
lasting_group (TwoParents at) other = tt
