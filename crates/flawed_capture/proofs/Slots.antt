-- Other slots of the first node of a bus, and the fault that they bring.
use Rattle.std.proofs.Common.{◌≡◌, ℕ, zero, suc, ◌+◌, ◌*◌, ◌/◌, ◌%◌, ◌^◌, ◌<◌, ◌≤◌, Bool, IsTrue, List, [], ◌∷◌, ◌++◌, length, drop, slice_set, get_or, refl, sym, ap, subst, ◌∙◌, arith, length-drop, length-append}
use Rattle.phy_packet.specs.Packet.{quad_of}
use Rattle.phy_packet.proofs.Lemmas.{bit_below}
use Rattle.self_id.specs.declared.fault.GroupFault.TheVariants.{TwoParents as Parents}
use Rattle.self_id.specs.declared.node.PortStatus.{PortStatus}
use Rattle.self_id.specs.declared.node.PortStatus.TheVariants.{Absent, Unplugged, Up, Down}
use Rattle.self_id.specs.declared.standard.Standard.{Standard}
use Rattle.self_id.specs.Node.{Node, node_with, FitBits, HasForm, IsNode, IsOf, is_width, is_width_of, kept_a_bits, kept_b_bits, blank_b_bits, status_bits, ups, downs}
use Rattle.self_id.specs.Group.{group, zero_packet}
use Rattle.self_id.proofs.Lemmas.{field_below, length-group, status_below}
use Rattle.topology_stack.specs.declared.fault.TreeFault.TheVariants.{TooFewChildren as Wanting}
use Rattle.flawed_capture.specs.declared.flaw.Flaw.TheVariants.{TwoParents, TooFewChildren}
use Rattle.flawed_capture.specs.Flaw.{HasListFlaw}
use Rattle.flawed_capture.specs.Other.{IsOther, with_slots}
use Rattle.flawed_capture.specs.Spoilt.{IsListOfBus}
use Rattle.flawed_capture.proofs.First.{IsFirst, first, begins, with_first, top_bits, wide, group_flaw}

-- ---- nodes with other slots

-- as many slots keep the form of a node
pub reformed : (n : Node) (ps : List PortStatus) → length n.ports ≡ length ps → HasForm n →
    HasForm (node_with n.attrs ps n.kept_a n.kept_b)
reformed n ps same h = record {
  attrs = h.attrs;
  width = subst (λ (k : ℕ). IsTrue (is_width k)) same h.width;
  kept_a = subst (λ (k : ℕ). n.kept_a < 2 ^ kept_a_bits k) same h.kept_a;
  kept_b = subst (λ (k : ℕ). n.kept_b < 2 ^ kept_b_bits k) same h.kept_b;
  blank_b = subst (λ (k : ℕ). n.kept_b % 2 ^ blank_b_bits k ≡ 0) same h.blank_b;
}

pub still_of : (standard : Standard) (n : Node) (ps : List PortStatus) → length n.ports ≡ length ps → IsOf standard n →
    IsOf standard (node_with n.attrs ps n.kept_a n.kept_b)
still_of standard n ps same h = subst (λ (k : ℕ). IsTrue (is_width_of standard k)) same h

-- the first slots are as many
as_many : (n : Node) (p q r : PortStatus) → IsNode n → length n.ports ≡ length (with_first n p q r).ports
as_many n p q r h = omega (arith, length-drop 3 n.ports, wide (length n.ports) h.form.width)

ups_behind : (p : PortStatus) (ps : List PortStatus) → ups ps ≤ ups (p ∷ ps)
ups_behind Absent ps = omega arith
ups_behind Unplugged ps = omega arith
ups_behind Up ps = omega arith
ups_behind Down ps = omega arith

-- fewer slots lead up behind the first ones
ups_drop : (k : ℕ) (ps : List PortStatus) → ups (drop k ps) ≤ ups ps
ups_drop zero ps = omega arith
ups_drop (suc k) [] = omega arith
ups_drop (suc k) (p ∷ ps) = omega (arith, ups_drop k ps, ups_behind p ps)

-- counts of slots behind one another
pub ups-append : (ps qs : List PortStatus) → ups (ps ++ qs) ≡ ups ps + ups qs
ups-append [] qs = omega arith
ups-append (Absent ∷ ps) qs = ups-append ps qs
ups-append (Unplugged ∷ ps) qs = ups-append ps qs
ups-append (Up ∷ ps) qs = omega (arith, ups-append ps qs)
ups-append (Down ∷ ps) qs = ups-append ps qs

pub downs-append : (ps qs : List PortStatus) → downs (ps ++ qs) ≡ downs ps + downs qs
downs-append [] qs = omega arith
downs-append (Absent ∷ ps) qs = downs-append ps qs
downs-append (Unplugged ∷ ps) qs = downs-append ps qs
downs-append (Up ∷ ps) qs = downs-append ps qs
downs-append (Down ∷ ps) qs = omega (arith, downs-append ps qs)

-- packet zero with other slots
slots_other : (n : Node) (p q r : PortStatus) (more : Bool) → FitBits n.attrs →
    with_slots (status_bits p * 2 ^ 4 + status_bits q * 2 ^ 2 + status_bits r) (quad_of (zero_packet n 0 more)) ≡ quad_of (zero_packet (with_first n p q r) 0 more)
slots_other n p q r more fit =
    omega (arith, fit.gap, fit.speed, fit.delay, fit.power, bit_below n.attrs.link, bit_below n.attrs.contender, bit_below n.attrs.initiated, bit_below more, field_below n.ports 0, field_below n.ports 1, field_below n.ports 2, status_below p, status_below q, status_below r)

-- ---- the list

-- the list begins with the group of the first node, which has other first slots
record HasSlots (standard : Standard) (spoilt : List ℕ) (p q r : PortStatus) : Type 0 where
  n : Node
  is_node : IsNode n
  is_of : IsOf standard n
  rest : List ℕ
  parts : spoilt ≡ group (with_first n p q r) 0 ++ rest
  some : 0 < length spoilt

slots_by : (standard : Standard) (list spoilt : List ℕ) (quad : ℕ) (p q r : PortStatus) (n : Node) → IsFirst standard list n →
    spoilt ≡ slice_set list 0 quad →
    (get_or list 0 0 / 2 ^ 23 % 2 ≡ 0 → quad ≡ with_slots (status_bits p * 2 ^ 4 + status_bits q * 2 ^ 2 + status_bits r) (get_or list 0 0)) →
    HasSlots standard spoilt p q r
slots_by standard list spoilt quad p q r n h is other =
    let b = begins n p q r 0 h.is_node in
    let z : ℕ = quad_of (zero_packet n 0 b.more) in
    let all : list ≡ z ∷ (b.tail ++ h.rest) = h.parts ∙ ap (λ (l : List ℕ). l ++ h.rest) b.own in
    let here : get_or list 0 0 ≡ z = ap (λ (l : List ℕ). get_or l 0 0) all in
    let top : get_or list 0 0 / 2 ^ 23 % 2 ≡ 0 = let t = top_bits n b.more h.is_node.form.attrs in omega (arith, t, here) in
    let new : quad ≡ quad_of (zero_packet (with_first n p q r) 0 b.more) =
    other top ∙ ap (with_slots (status_bits p * 2 ^ 4 + status_bits q * 2 ^ 2 + status_bits r)) here ∙ slots_other n p q r b.more h.is_node.form.attrs in
    record {
      n = n;
      is_node = h.is_node;
      is_of = h.is_of;
      rest = h.rest;
      some = omega (arith, ap length (is ∙ ap (λ (l : List ℕ). slice_set l 0 quad) all));
      parts = is ∙ ap (λ (l : List ℕ). slice_set l 0 quad) all ∙ ap (λ (x : ℕ). x ∷ (b.tail ++ h.rest)) new ∙ ap (λ (l : List ℕ). l ++ h.rest) (sym b.other);
    }

-- a group is no empty list
pub some_group : (m : Node) (id : ℕ) (rest : List ℕ) → IsNode m → 0 < length (group m id ++ rest)
some_group m id rest h = omega (arith, length-append (group m id) rest, (length-group m id h).0)

parents : (standard : Standard) (spoilt : List ℕ) → HasSlots standard spoilt Up Up Up →
    HasListFlaw standard spoilt TwoParents
parents standard spoilt h =
    let same = as_many h.n Up Up Up h.is_node in
    let m : Node = with_first h.n Up Up Up in
    group_flaw standard spoilt (Parents 0) TwoParents h.some
    (m, h.rest, reformed h.n m.ports same h.is_node.form, still_of standard h.n m.ports same h.is_of, h.parts, omega arith, refl) refl

wanting : (standard : Standard) (spoilt : List ℕ) → HasSlots standard spoilt Down Down Down →
    HasListFlaw standard spoilt TooFewChildren
wanting standard spoilt h =
    let same = as_many h.n Down Down Down h.is_node in
    let m : Node = with_first h.n Down Down Down in
    let is_node : IsNode m = record {
      form = reformed h.n m.ports same h.is_node.form;
      one_parent = omega (arith, ups_drop 3 h.n.ports, h.is_node.one_parent);
    } in
    record {
      fault = Wanting 0 0 (downs m.ports);
      refused = (
        [],
        m,
        record {
          front = [];
          rest = h.rest;
          goes_on = record {
            forest = record { waiting = tt; are_of = tt; emitted = refl };
            parts = h.parts;
            more = some_group m 0 h.rest is_node;
            place = refl;
            few = omega arith;
          };
          is_node = is_node;
          is_of = still_of standard h.n m.ports same h.is_of;
          found_is = refl;
          wanted_is = refl;
        },
        omega arith,
      );
      kind = refl;
    }

module _ (standard : Standard) (nodes : ℕ) (list spoilt : List ℕ) (quad : ℕ) (bus : IsListOfBus standard nodes list)
    (is : spoilt ≡ slice_set list 0 quad) where
  pub to_two_parents : IsOther TwoParents standard (get_or list 0 0) quad → HasListFlaw standard spoilt TwoParents
  to_two_parents other =
      let n = first standard nodes list bus in
      parents standard spoilt (slots_by standard list spoilt quad Up Up Up n.0 n.1 is other)

  pub to_too_few : IsOther TooFewChildren standard (get_or list 0 0) quad → HasListFlaw standard spoilt TooFewChildren
  to_too_few other =
      let n = first standard nodes list bus in
      wanting standard spoilt (slots_by standard list spoilt quad Down Down Down n.0 n.1 is other)
