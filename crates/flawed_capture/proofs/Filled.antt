-- The slots that a seed makes of a node show all of its links, and so packets show the node.
use Rattle.std.proofs.Common.{◌≡◌, ℕ, zero, suc, ◌+◌, ◌-◌, ◌%◌, ◌^◌, ◌<◌, ◌≤◌, ◌==◌, ◌&&◌, nat_lt, nat_le, Bool, true, false, not, IsTrue, List, [], ◌∷◌, length, if◌then◌else◌, refl, ap, arith, length-append}
use Rattle.std.proofs.Math.Nat.{mod-lt, zero-mod}
use Rattle.std.proofs.lemmas.Bool.{eqb-true, eqb-false, ltb-true, ltb-false, leb-true, leb-false, le-leb}
use Rattle.std.proofs.lemmas.Nat.{pow_pos}
use Rattle.rand_pcg.specs.Lcg.{Lcg}
use Rattle.self_id.specs.declared.node.Attrs.{Attrs}
use Rattle.self_id.specs.declared.node.PortStatus.{PortStatus}
use Rattle.self_id.specs.declared.node.PortStatus.TheVariants.{Absent, Unplugged, Up, Down}
use Rattle.self_id.specs.declared.standard.Standard.{Standard}
use Rattle.self_id.specs.declared.standard.Standard.TheVariants.{Ieee1995, Ieee2000}
use Rattle.self_id.specs.Node.{IsNode, is_width, is_width_of, kept_a_bits, kept_b_bits, blank_b_bits, node_with, ups, downs}
use Rattle.self_id.specs.Group.{group}
use Rattle.flawed_capture.specs.declared.node.Links.{Links}
use Rattle.flawed_capture.specs.Draws.{word, behind}
use Rattle.flawed_capture.specs.SeededNode.{Slots, status, without, with_slot, first_slots, most_slots, width, ports_of, slots_of, attrs_by, shown}
use Rattle.flawed_capture.proofs.Slots.{ups-append, downs-append}

-- ---- one slot

abbrev one_if : Bool → ℕ
one_if false = 0
one_if true = 1

abbrev all_links : Links → ℕ
all_links l = l.down + one_if l.up

some : {n : ℕ} → (n ≡ 0 → ⊥) → 0 < n
some h = omega (arith, h)

record Leaves (left : ℕ) (l : Links) (s : PortStatus) : Type 0 where
  downs_are : downs (s ∷ []) + (without s l).down ≡ l.down
  ups_are : ups (s ∷ []) + one_if (without s l).up ≡ one_if l.up
  few : all_links (without s l) ≤ left - 1

leaves : (left : ℕ) (l : Links) (w : ℕ) → all_links l ≤ left → Leaves left l (status left l w)
unfolding status
leaves left l w few = by (left == 0) (nat_lt (w % left) l.down) l.up (w % left == l.down) refl refl refl refl
  where
    by : (none child parent here : Bool) → (left == 0) ≡ none → nat_lt (w % left) l.down ≡ child → l.up ≡ parent →
        (w % left == l.down) ≡ here →
        Leaves left l (if none then Absent else if child then Down else if parent && here then Up else Unplugged)
    by true child parent here e f g h = record { downs_are = omega arith; ups_are = omega arith; few = omega (arith, few, eqb-true left 0 e) }
    by false true parent here e f g h =
        let below : w % left < l.down = ltb-true (w % left) l.down f in
        record { downs_are = omega (arith, below); ups_are = omega arith; few = omega (arith, few, below, eqb-false left 0 e) }
    by false false true true e f g h =
        let up_is : one_if l.up ≡ 1 = ap one_if g in
        record { downs_are = omega arith; ups_are = omega (arith, up_is); few = omega (arith, few, up_is) }
    by false false true false e f g h =
        let up_is : one_if l.up ≡ 1 = ap one_if g in
        let low : w % left < left = mod-lt w (some (eqb-false left 0 e)) in
        record { downs_are = omega arith; ups_are = omega arith; few = omega (arith, ltb-false (w % left) l.down f, eqb-false (w % left) l.down h, up_is, low) }
    by false false false here e f g h =
        let up_is : one_if l.up ≡ 0 = ap one_if g in
        let low : w % left < left = mod-lt w (some (eqb-false left 0 e)) in
        record { downs_are = omega arith; ups_are = omega arith; few = omega (arith, ltb-false (w % left) l.down f, up_is, low) }

-- ---- all slots

record Shows (ports : ℕ) (l : Links) (n : ℕ) (m : Slots) : Type 0 where
  count : length m.slots ≡ n
  downs_are : downs m.slots + m.links.down ≡ l.down
  ups_are : ups m.slots + one_if m.links.up ≡ one_if l.up
  few : all_links m.links ≤ ports - n

shows : (ports : ℕ) (l : Links) (g : Lcg) (n : ℕ) → all_links l ≤ ports → Shows ports l n (first_slots ports l g n)
unfolding with_slot
shows ports l g zero few = record { count = refl; downs_are = omega arith; ups_are = omega arith; few = omega (arith, few) }
shows ports l g (suc n) few =
    let now = first_slots ports l g n in
    let h = shows ports l g n few in
    let s = status (ports - n) now.links (word now.words) in
    let x = leaves (ports - n) now.links (word now.words) h.few in
    record {
      count = omega (arith, h.count, length-append now.slots (s ∷ []));
      downs_are = omega (arith, h.downs_are, x.downs_are, downs-append now.slots (s ∷ []));
      ups_are = omega (arith, h.ups_are, x.ups_are, ups-append now.slots (s ∷ []));
      few = omega (arith, x.few);
    }

-- ---- how many slots there are

record Wide (standard : Standard) (ports : ℕ) : Type 0 where
  enough : ports ≤ width standard ports
  of : IsTrue (is_width_of standard (width standard ports))
  any : IsTrue (is_width (width standard ports))

wide : (standard : Standard) (ports : ℕ) → ports ≤ most_slots standard → Wide standard ports
wide Ieee2000 ports few = by (nat_le ports 3) (nat_le ports 11) refl refl
  where
    by : (low middle : Bool) → nat_le ports 3 ≡ low → nat_le ports 11 ≡ middle → Wide Ieee2000 ports
    by true middle e f = record { enough = rw e (leb-true ports 3 e); of = rw e refl; any = rw e refl }
    by false true e f = record { enough = rw (e, f) (leb-true ports 11 f); of = rw (e, f) refl; any = rw (e, f) refl }
    by false false e f = record { enough = rw (e, f) few; of = rw (e, f) refl; any = rw (e, f) refl }
wide Ieee1995 ports few = by (nat_le ports 3) (nat_le ports 11) (nat_le ports 19) refl refl refl
  where
    by : (low middle high : Bool) → nat_le ports 3 ≡ low → nat_le ports 11 ≡ middle → nat_le ports 19 ≡ high → Wide Ieee1995 ports
    by true true high e f g = record { enough = rw (f, e) (leb-true ports 3 e); of = rw (f, e) refl; any = rw (f, e) refl }
    by true false high e f g = absurd (omega (arith, leb-true ports 3 e, leb-false ports 11 f))
    by false true high e f g = record { enough = rw (f, e) (leb-true ports 11 f); of = rw (f, e) refl; any = rw (f, e) refl }
    by false false true e f g = record { enough = rw (f, g) (leb-true ports 19 g); of = rw (f, g) refl; any = rw (f, g) refl }
    by false false false e f g = record { enough = rw (f, g) few; of = rw (f, g) refl; any = rw (f, g) refl }

-- ---- a node

-- the links of a node, and what its slots show of them
pub record Full (standard : Standard) (children : ℕ) (is_root : Bool) (slots : List PortStatus) : Type 0 where
  pub of : IsTrue (is_width_of standard (length slots))
  pub any : IsTrue (is_width (length slots))
  pub downs_are : downs slots ≡ children
  pub ups_are : ups slots ≡ (if is_root then 0 else 1)

room : (standard : Standard) (children : ℕ) (is_root : Bool) (w : ℕ) →
    children + (if is_root then 0 else 1) ≤ most_slots standard →
    (all_links (record { up = not is_root; down = children }) ≤ ports_of standard children is_root w)
    × (ports_of standard children is_root w ≤ most_slots standard)
room standard children true w few = (omega (arith, few), omega arith)
room standard children false w few = (omega (arith, few), omega arith)

pub full : (standard : Standard) (children : ℕ) (is_root : Bool) (g : Lcg) →
    children + (if is_root then 0 else 1) ≤ most_slots standard →
    Full standard children is_root (slots_of standard children is_root g).slots
unfolding slots_of
full standard children is_root g few =
    let ports = ports_of standard children is_root (word g) in
    let l : Links = record { up = not is_root; down = children } in
    let fits = room standard children is_root (word g) few in
    let w = wide standard ports fits.1 in
    let s = shows ports l (behind g) (width standard ports) fits.0 in
    let slots = (first_slots ports l (behind g) (width standard ports)).slots in
    record {
      of = rw s.count w.of;
      any = rw s.count w.any;
      downs_are = omega (arith, s.downs_are, s.few, w.enough);
      ups_are = own is_root (ups slots) (one_if (first_slots ports l (behind g) (width standard ports)).links.up) (omega (arith, s.few, w.enough)) s.ups_are;
    }
  where
    own : (root : Bool) (shown left : ℕ) → left ≡ 0 → shown + left ≡ one_if (not root) → shown ≡ (if root then 0 else 1)
    own true shown left e f = omega (arith, e, f)
    own false shown left e f = omega (arith, e, f)

-- the node is one that packets show
pub is_node : (standard : Standard) (children gap w : ℕ) (is_root : Bool) (slots : List PortStatus) → gap < 64 →
    Full standard children is_root slots → IsNode (node_with (attrs_by gap w) slots 0 0)
is_node standard children gap w is_root slots small f = record {
  form = record {
    attrs = record { gap = small; speed = omega arith; delay = omega arith; power = omega arith };
    width = f.any;
    kept_a = pow_pos (kept_a_bits (length slots));
    kept_b = pow_pos (kept_b_bits (length slots));
    blank_b = zero-mod (2 ^ blank_b_bits (length slots));
  };
  one_parent = by is_root f.ups_are;
}
  where
    by : (root : Bool) → ups slots ≡ (if root then 0 else 1) → ups slots ≤ 1
    by true e = omega (arith, e)
    by false e = omega (arith, e)

-- and they are its packets
pub is_shown : (attrs : Attrs) (slots : List PortStatus) (id : ℕ) → IsNode (node_with attrs slots 0 0) →
    shown attrs slots id ≡ group (node_with attrs slots 0 0) id
unfolding shown
is_shown attrs slots id h =
    let few : nat_le (ups slots) 1 ≡ true = le-leb (ups slots) 1 h.one_parent in
    rw (h.form.width, few) refl
