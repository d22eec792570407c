-- A packet that shows a child: without its cables the node has fewer children.
use Rattle.std.proofs.Common.{◌≡◌, inl, inr, ℕ, ◌+◌, ◌*◌, ◌/◌, ◌%◌, ◌^◌, ◌<◌, ◌≤◌, Bool, true, false, IsTrue, List, [], ◌∷◌, ◌++◌, length, take, drop, refl, sym, ap, subst, ◌∙◌, arith, length-drop, length-append}
use Rattle.std.specs.Prelude.{◌==◌, ◌&&◌, if◌then◌else◌}
use Rattle.std.proofs.lemmas.Bool.{cases_lt}
use Rattle.std.proofs.lemmas.List.{take-append-le, take-append-drop, length-take-le, drop-drop}
use Rattle.std.proofs.Math.Seq.{take-length}
use Rattle.phy_packet.specs.Packet.{quad_of}
use Rattle.phy_packet.specs.declared.packet.PhyPacket.TheVariants.{SelfMore}
use Rattle.phy_packet.proofs.Lemmas.{bit_below}
use Rattle.self_id.specs.declared.node.Attrs.{Attrs}
use Rattle.self_id.specs.declared.node.PortStatus.{PortStatus}
use Rattle.self_id.specs.declared.node.PortStatus.TheVariants.{Absent, Unplugged, Up, Down}
use Rattle.self_id.specs.declared.standard.Standard.{Standard}
use Rattle.self_id.specs.declared.standard.Standard.TheVariants.{Ieee1995, Ieee2000}
use Rattle.self_id.specs.Node.{Node, node_with, FitBits, HasForm, IsNode, IsOf, is_width_of, kept_a_bits, kept_b_bits, ups, downs}
use Rattle.self_id.specs.Group.{fields, group, zero_packet}
use Rattle.self_id.proofs.Lemmas.{group11, group16, field_below, fields_small}
use Rattle.flawed_capture.specs.Other.{has_five, with_bits, without_cables}
use Rattle.flawed_capture.proofs.First.{begins, with_first, wide}
use Rattle.flawed_capture.proofs.Last.{group19, group27, Width, three, eleven, sixteen, nineteen, full, width_of, only_2000, not_2000}
use Rattle.flawed_capture.proofs.Parent.{number_test}
use Rattle.flawed_capture.proofs.Slots.{ups-append, downs-append}

-- ---- counts of slots

downs_few : (ps : List PortStatus) → downs ps ≤ length ps
downs_few [] = omega arith
downs_few (Absent ∷ ps) = omega (arith, downs_few ps)
downs_few (Unplugged ∷ ps) = omega (arith, downs_few ps)
downs_few (Up ∷ ps) = omega (arith, downs_few ps)
downs_few (Down ∷ ps) = omega (arith, downs_few ps)

-- as many slots, of which fewer lead to children, and no more to parents
pub record Fewer (old new : List PortStatus) : Type 0 where
  pub as_many : length old ≡ length new
  pub fewer : downs new < downs old
  pub parents : ups new ≤ ups old

-- some slots without cables, among others
swap : (l x y r : List PortStatus) → length x ≡ length y → downs y ≡ 0 → ups y ≡ 0 → 0 < downs x → Fewer (l ++ (x ++ r)) (l ++ (y ++ r))
swap l x y r same none no_parent some = record {
  as_many = omega (arith, same, length-append l (x ++ r), length-append l (y ++ r), length-append x r, length-append y r);
  fewer = omega (arith, none, some, downs-append l (x ++ r), downs-append l (y ++ r), downs-append x r, downs-append y r);
  parents = omega (arith, no_parent, ups-append l (x ++ r), ups-append l (y ++ r), ups-append x r, ups-append y r);
}

-- and at the end
swap_end : (l x y : List PortStatus) → length x ≡ length y → downs y ≡ 0 → ups y ≡ 0 → 0 < downs x → Fewer (l ++ x) (l ++ y)
swap_end l x y same none no_parent some = record {
  as_many = omega (arith, same, length-append l x, length-append l y);
  fewer = omega (arith, none, some, downs-append l x, downs-append l y);
  parents = omega (arith, no_parent, ups-append l x, ups-append l y);
}

-- or among these
within : (l x y : List PortStatus) → Fewer x y → Fewer (l ++ x) (l ++ y)
within l x y h = record {
  as_many = omega (arith, h.as_many, length-append l x, length-append l y);
  fewer = omega (arith, h.fewer, downs-append l x, downs-append l y);
  parents = omega (arith, h.parents, ups-append l x, ups-append l y);
}

-- ---- bits

-- a packet, and the same without cables
abbrev IsBare : Standard → ℕ → ℕ → Type 0
IsBare standard quad other = other ≡ without_cables standard quad

bare_if : (standard : Standard) (quad : ℕ) (zero five : Bool) → (quad / 2 ^ 23 % 2 == 0) ≡ zero → has_five standard quad ≡ five →
    without_cables standard quad ≡ (if zero then with_bits 2 8 21 quad else (if five then with_bits 8 18 341 quad else with_bits 2 18 21845 quad))
bare_if standard quad zero five e f = rw (e, f) refl

no_five : (standard : Standard) (quad : ℕ) → (standard ≡ Ieee2000 → ((quad / 2 ^ 23 % 2 == 1) && (quad / 2 ^ 20 % 8 == 1)) ≡ false) →
    has_five standard quad ≡ false
no_five Ieee1995 quad test = refl
no_five Ieee2000 quad test = test refl

as_zero : (quad : ℕ) → quad / 2 ^ 23 % 2 ≡ 0 → (quad / 2 ^ 23 % 2 == 0) ≡ true
as_zero quad e = rw e refl

as_further : (quad : ℕ) → quad / 2 ^ 23 % 2 ≡ 1 → (quad / 2 ^ 23 % 2 == 0) ≡ false
as_further quad e = rw e refl

zero_bare : (standard : Standard) (n : Node) (id : ℕ) (more : Bool) → FitBits n.attrs → id < 64 →
    IsBare standard (quad_of (zero_packet n id more)) (quad_of (zero_packet (with_first n Unplugged Unplugged Unplugged) id more))
zero_bare standard n id more fit low =
    let q : ℕ = quad_of (zero_packet n id more) in
    let kind : q / 2 ^ 23 % 2 ≡ 0 =
    omega (arith, low, fit.gap, fit.speed, fit.delay, fit.power, bit_below n.attrs.link, bit_below n.attrs.contender, bit_below n.attrs.initiated, bit_below more, field_below n.ports 0, field_below n.ports 1, field_below n.ports 2) in
    let new : quad_of (zero_packet (with_first n Unplugged Unplugged Unplugged) id more) ≡ with_bits 2 8 21 q =
    omega (arith, bit_below n.attrs.initiated, bit_below more, field_below n.ports 0, field_below n.ports 1, field_below n.ports 2) in
    new ∙ sym (bare_if standard q true (has_five standard q) (as_zero q kind) refl)

eight_bare : (standard : Standard) (id k j x : ℕ) (r more : Bool) → id < 64 → k < 8 → j < 4 → x < 2 ^ 16 →
    (standard ≡ Ieee2000 → (k == 1) ≡ false) →
    IsBare standard (quad_of (SelfMore id k j x r more)) (quad_of (SelfMore id k j 21845 r more))
eight_bare standard id k j x r more id_fits k_fits j_fits few other =
    let q : ℕ = quad_of (SelfMore id k j x r more) in
    let kind : q / 2 ^ 23 % 2 ≡ 1 = omega (arith, id_fits, k_fits, j_fits, few, bit_below r, bit_below more) in
    let number : q / 2 ^ 20 % 8 ≡ k = omega (arith, id_fits, k_fits, j_fits, few, bit_below r, bit_below more) in
    let new : quad_of (SelfMore id k j 21845 r more) ≡ with_bits 2 18 21845 q = omega (arith, few, bit_below r, bit_below more) in
    new ∙ sym (bare_if standard q false false (as_further q kind) (no_five standard q (λ is. number_test q k kind number ∙ other is)))

five_bare : (id j x c : ℕ) (r more : Bool) → id < 64 → j < 4 → x < 2 ^ 10 → c < 64 →
    IsBare Ieee2000 (quad_of (SelfMore id 1 j (x * 2 ^ 6 + c) r more)) (quad_of (SelfMore id 1 j (341 * 2 ^ 6 + c) r more))
five_bare id j x c r more id_fits j_fits few kept =
    let q : ℕ = quad_of (SelfMore id 1 j (x * 2 ^ 6 + c) r more) in
    let kind : q / 2 ^ 23 % 2 ≡ 1 = omega (arith, id_fits, j_fits, few, kept, bit_below r, bit_below more) in
    let number : q / 2 ^ 20 % 8 ≡ 1 = omega (arith, id_fits, j_fits, few, kept, bit_below r, bit_below more) in
    let new : quad_of (SelfMore id 1 j (341 * 2 ^ 6 + c) r more) ≡ with_bits 8 18 341 q = omega (arith, few, kept, bit_below r, bit_below more) in
    new ∙ sym (bare_if Ieee2000 q false true (as_further q kind) (number_test q 1 kind number))

-- ---- slots of packets

abbrev bare5 : List PortStatus
bare5 = Unplugged ∷ Unplugged ∷ Unplugged ∷ Unplugged ∷ Unplugged ∷ []

abbrev bare8 : List PortStatus
bare8 = Unplugged ∷ Unplugged ∷ Unplugged ∷ bare5

before : (k : ℕ) (ps qs : List PortStatus) → length ps ≡ k → take k (ps ++ qs) ≡ ps
before k ps qs e =
    take-append-le k ps qs (omega (arith, e)) ∙ ap (λ (n : ℕ). take n ps) (sym e) ∙ take-length ps

behind : (ps qs : List PortStatus) → drop (length ps) (ps ++ qs) ≡ qs
behind [] qs = refl
behind (p ∷ ps) qs = behind ps qs

behind_of : (k : ℕ) (ps qs : List PortStatus) → length ps ≡ k → drop k (ps ++ qs) ≡ qs
behind_of k ps qs e = ap (λ (n : ℕ). drop n (ps ++ qs)) (sym e) ∙ behind ps qs

no_2000 : (standard : Standard) → IsTrue (is_width_of standard 27) → standard ≡ Ieee2000 → ⊥
no_2000 Ieee1995 w e = absurd cc
no_2000 Ieee2000 w e = absurd cc

-- ---- the node without the cables of a packet

-- a packet of the node's group, without whose cables it is the group of one with fewer children
pub record Cleared (standard : Standard) (n : Node) (id : ℕ) : Type 0 where
  pub ports : List PortStatus
  pub begin : List ℕ
  pub quad : ℕ
  pub end : List ℕ
  pub own : group n id ≡ begin ++ quad ∷ end
  pub other : group (node_with n.attrs ports n.kept_a n.kept_b) id ≡ begin ++ without_cables standard quad ∷ end
  pub counts : Fewer n.ports ports

module _ (standard : Standard) (attrs : Attrs) (ka kb id : ℕ) (low : id < 64) (a b c : PortStatus) where
  -- a node whose further slots are these
  abbrev of_slots : List PortStatus → Node
  of_slots ps = node_with attrs (a ∷ b ∷ c ∷ ps) ka kb

  abbrev zero : ℕ
  zero = quad_of (zero_packet (of_slots []) id true)

  -- packets of eight slots
  abbrev first : Bool → List PortStatus → ℕ
  first more ps = quad_of (SelfMore id 0 (ka / 2) (fields ps) (ka % 2 == 1) more)

  abbrev second : Bool → List PortStatus → ℕ
  second more ps = quad_of (SelfMore id 1 (kb / 2 ^ 4 / 2) (fields ps) (kb / 2 ^ 4 % 2 == 1) more)

  abbrev third : List PortStatus → ℕ
  third ps = quad_of (SelfMore id 2 (kb / 2 % 2 ^ 3 / 2) (fields ps) (kb / 2 % 2 ^ 3 % 2 == 1) (kb % 2 == 1))

  -- and of five
  abbrev five : List PortStatus → ℕ
  five ps = quad_of (SelfMore id 1 (kb / 2 ^ 8) (fields ps * 2 ^ 6 + kb / 2 ^ 2 % 2 ^ 6) (kb / 2 % 2 == 1) (kb % 2 == 1))

  as11 : (B : List PortStatus) → length B ≡ 8 → group (of_slots B) id ≡ zero ∷ first false B ∷ []
  as11 B e =
      group11 (of_slots B) id (omega (arith, e))
      ∙ ap (λ (l : List PortStatus). zero ∷ first false l ∷ []) (ap (λ (n : ℕ). take n B) (sym e) ∙ take-length B)

  as16 : (B C : List PortStatus) → length B ≡ 8 → length C ≡ 5 →
      group (of_slots (B ++ C)) id ≡ zero ∷ first true B ∷ five C ∷ []
  as16 B C e f =
      group16 (of_slots (B ++ C)) id (omega (arith, e, f, length-append B C))
      ∙ ap (λ (l : List PortStatus). zero ∷ first true l ∷ five (drop 8 (B ++ C)) ∷ []) (before 8 B C e)
      ∙ ap (λ (l : List PortStatus). zero ∷ first true B ∷ five l ∷ []) (behind_of 8 B C e)

  as19 : (B C : List PortStatus) → length B ≡ 8 → length C ≡ 8 →
      group (of_slots (B ++ C)) id ≡ zero ∷ first true B ∷ second false C ∷ []
  as19 B C e f =
      group19 (of_slots (B ++ C)) id (omega (arith, e, f, length-append B C))
      ∙ ap (λ (l : List PortStatus). zero ∷ first true l ∷ second false (take 8 (drop 8 (B ++ C))) ∷ []) (before 8 B C e)
      ∙ ap (λ (l : List PortStatus). zero ∷ first true B ∷ second false (take 8 l) ∷ []) (behind_of 8 B C e)
      ∙ ap (λ (l : List PortStatus). zero ∷ first true B ∷ second false l ∷ []) (ap (λ (n : ℕ). take n C) (sym f) ∙ take-length C)

  as27 : (B C D : List PortStatus) → length B ≡ 8 → length C ≡ 8 → length D ≡ 8 →
      group (of_slots (B ++ (C ++ D))) id ≡ zero ∷ first true B ∷ second true C ∷ third D ∷ []
  as27 B C D e f g =
      let all : List PortStatus = B ++ (C ++ D) in
      let far : drop 16 all ≡ D = sym (drop-drop 8 8 all) ∙ ap (λ (l : List PortStatus). drop 8 l) (behind_of 8 B (C ++ D) e) ∙ behind_of 8 C D f in
      group27 (of_slots all) id (omega (arith, e, f, g, length-append B (C ++ D), length-append C D))
      ∙ ap (λ (l : List PortStatus). zero ∷ first true l ∷ second true (take 8 (drop 8 all)) ∷ third (take 8 (drop 16 all)) ∷ []) (before 8 B (C ++ D) e)
      ∙ ap (λ (l : List PortStatus). zero ∷ first true B ∷ second true (take 8 l) ∷ third (take 8 (drop 16 all)) ∷ []) (behind_of 8 B (C ++ D) e)
      ∙ ap (λ (l : List PortStatus). zero ∷ first true B ∷ second true l ∷ third (take 8 (drop 16 all)) ∷ []) (before 8 C D f)
      ∙ ap (λ (l : List PortStatus). zero ∷ first true B ∷ second true C ∷ third (take 8 l) ∷ []) far
      ∙ ap (λ (l : List PortStatus). zero ∷ first true B ∷ second true C ∷ third l ∷ []) (ap (λ (n : ℕ). take n D) (sym g) ∙ take-length D)

  -- ---- packets without cables

  first_bare : (more : Bool) (B : List PortStatus) → length B ≡ 8 → ka < 8 → IsBare standard (first more B) (first more bare8)
  first_bare more B e few =
      eight_bare standard id 0 (ka / 2) (fields B) (ka % 2 == 1) more low (omega arith) (omega (arith, few)) (omega (arith, fields_small 8 B e)) (λ _. refl)

  second_bare : (more : Bool) (C : List PortStatus) → (standard ≡ Ieee2000 → ⊥) → length C ≡ 8 → kb < 128 → IsBare standard (second more C) (second more bare8)
  second_bare more C is e few =
      eight_bare standard id 1 (kb / 2 ^ 4 / 2) (fields C) (kb / 2 ^ 4 % 2 == 1) more low (omega arith) (omega (arith, few)) (omega (arith, fields_small 8 C e)) (λ same. absurd (is same))

  third_bare : (D : List PortStatus) → length D ≡ 8 → IsBare standard (third D) (third bare8)
  third_bare D e =
      eight_bare standard id 2 (kb / 2 % 2 ^ 3 / 2) (fields D) (kb / 2 % 2 ^ 3 % 2 == 1) (kb % 2 == 1) low (omega arith) (omega arith) (omega (arith, fields_small 8 D e)) (λ _. refl)

  five_is_bare : (C : List PortStatus) → standard ≡ Ieee2000 → length C ≡ 5 → kb < 1024 → IsBare standard (five C) (five bare5)
  five_is_bare C is e few =
      subst (λ (s : Standard). IsBare s (five C) (five bare5)) (sym is)
      (five_bare id (kb / 2 ^ 8) (fields C) (kb / 2 ^ 2 % 2 ^ 6) (kb / 2 % 2 == 1) (kb % 2 == 1) low (omega (arith, few)) (omega (arith, fields_small 5 C e)) (omega arith))

  -- ---- the node without the cables of a further packet

  of11 : (B : List PortStatus) → length B ≡ 8 → ka < 8 → 0 < downs B → Cleared standard (of_slots B) id
  of11 B e few some = record {
    ports = a ∷ b ∷ c ∷ bare8;
    begin = zero ∷ [];
    quad = first false B;
    end = [];
    own = as11 B e;
    other = as11 bare8 refl ∙ ap (λ (q : ℕ). zero ∷ q ∷ []) (first_bare false B e few);
    counts = swap_end (a ∷ b ∷ c ∷ []) B bare8 e refl refl some;
  }

  first16 : (B C : List PortStatus) → length B ≡ 8 → length C ≡ 5 → ka < 8 → 0 < downs B → Cleared standard (of_slots (B ++ C)) id
  first16 B C e f few some = record {
    ports = a ∷ b ∷ c ∷ (bare8 ++ C);
    begin = zero ∷ [];
    quad = first true B;
    end = five C ∷ [];
    own = as16 B C e f;
    other = as16 bare8 C refl f ∙ ap (λ (q : ℕ). zero ∷ q ∷ five C ∷ []) (first_bare true B e few);
    counts = swap (a ∷ b ∷ c ∷ []) B bare8 C e refl refl some;
  }

  second16 : (B C : List PortStatus) → standard ≡ Ieee2000 → length B ≡ 8 → length C ≡ 5 → kb < 1024 → 0 < downs C →
      Cleared standard (of_slots (B ++ C)) id
  second16 B C is e f few some = record {
    ports = a ∷ b ∷ c ∷ (B ++ bare5);
    begin = zero ∷ first true B ∷ [];
    quad = five C;
    end = [];
    own = as16 B C e f;
    other = as16 B bare5 e refl ∙ ap (λ (q : ℕ). zero ∷ first true B ∷ q ∷ []) (five_is_bare C is f few);
    counts = swap_end (a ∷ b ∷ c ∷ B) C bare5 f refl refl some;
  }

  first19 : (B C : List PortStatus) → length B ≡ 8 → length C ≡ 8 → ka < 8 → 0 < downs B → Cleared standard (of_slots (B ++ C)) id
  first19 B C e f few some = record {
    ports = a ∷ b ∷ c ∷ (bare8 ++ C);
    begin = zero ∷ [];
    quad = first true B;
    end = second false C ∷ [];
    own = as19 B C e f;
    other = as19 bare8 C refl f ∙ ap (λ (q : ℕ). zero ∷ q ∷ second false C ∷ []) (first_bare true B e few);
    counts = swap (a ∷ b ∷ c ∷ []) B bare8 C e refl refl some;
  }

  second19 : (B C : List PortStatus) → (standard ≡ Ieee2000 → ⊥) → length B ≡ 8 → length C ≡ 8 → kb < 128 → 0 < downs C →
      Cleared standard (of_slots (B ++ C)) id
  second19 B C is e f few some = record {
    ports = a ∷ b ∷ c ∷ (B ++ bare8);
    begin = zero ∷ first true B ∷ [];
    quad = second false C;
    end = [];
    own = as19 B C e f;
    other = as19 B bare8 e refl ∙ ap (λ (q : ℕ). zero ∷ first true B ∷ q ∷ []) (second_bare false C is f few);
    counts = swap_end (a ∷ b ∷ c ∷ B) C bare8 f refl refl some;
  }

  first27 : (B C D : List PortStatus) → length B ≡ 8 → length C ≡ 8 → length D ≡ 8 → ka < 8 → 0 < downs B →
      Cleared standard (of_slots (B ++ (C ++ D))) id
  first27 B C D e f g few some = record {
    ports = a ∷ b ∷ c ∷ (bare8 ++ (C ++ D));
    begin = zero ∷ [];
    quad = first true B;
    end = second true C ∷ third D ∷ [];
    own = as27 B C D e f g;
    other = as27 bare8 C D refl f g ∙ ap (λ (q : ℕ). zero ∷ q ∷ second true C ∷ third D ∷ []) (first_bare true B e few);
    counts = swap (a ∷ b ∷ c ∷ []) B bare8 (C ++ D) e refl refl some;
  }

  second27 : (B C D : List PortStatus) → (standard ≡ Ieee2000 → ⊥) → length B ≡ 8 → length C ≡ 8 → length D ≡ 8 → kb < 128 →
      0 < downs C → Cleared standard (of_slots (B ++ (C ++ D))) id
  second27 B C D is e f g few some = record {
    ports = a ∷ b ∷ c ∷ (B ++ (bare8 ++ D));
    begin = zero ∷ first true B ∷ [];
    quad = second true C;
    end = third D ∷ [];
    own = as27 B C D e f g;
    other = as27 B bare8 D e refl g ∙ ap (λ (q : ℕ). zero ∷ first true B ∷ q ∷ third D ∷ []) (second_bare true C is f few);
    counts = swap (a ∷ b ∷ c ∷ B) C bare8 D f refl refl some;
  }

  third27 : (B C D : List PortStatus) → length B ≡ 8 → length C ≡ 8 → length D ≡ 8 → 0 < downs D →
      Cleared standard (of_slots (B ++ (C ++ D))) id
  third27 B C D e f g some = record {
    ports = a ∷ b ∷ c ∷ (B ++ (C ++ bare8));
    begin = zero ∷ first true B ∷ second true C ∷ [];
    quad = third D;
    end = [];
    own = as27 B C D e f g;
    other = as27 B C bare8 e f refl ∙ ap (λ (q : ℕ). zero ∷ first true B ∷ second true C ∷ q ∷ []) (third_bare D g);
    counts = within (a ∷ b ∷ c ∷ B) (C ++ D) (C ++ bare8) (swap_end C D bare8 g refl refl some);
  }

  -- ---- whichever packet shows a child

  of16 : (B C : List PortStatus) → standard ≡ Ieee2000 → length B ≡ 8 → length C ≡ 5 → ka < 8 → kb < 1024 →
      0 < downs (B ++ C) → Cleared standard (of_slots (B ++ C)) id
  of16 B C is e f few few_behind some = elim (cases_lt 0 (downs B)) [
    | inl here ↦ first16 B C e f few here
    | inr none ↦ second16 B C is e f few_behind (omega (arith, none, some, downs-append B C))
  ]

  of19 : (B C : List PortStatus) → (standard ≡ Ieee2000 → ⊥) → length B ≡ 8 → length C ≡ 8 → ka < 8 → kb < 128 →
      0 < downs (B ++ C) → Cleared standard (of_slots (B ++ C)) id
  of19 B C is e f few few_behind some = elim (cases_lt 0 (downs B)) [
    | inl here ↦ first19 B C e f few here
    | inr none ↦ second19 B C is e f few_behind (omega (arith, none, some, downs-append B C))
  ]

  of27 : (B C D : List PortStatus) → (standard ≡ Ieee2000 → ⊥) → length B ≡ 8 → length C ≡ 8 → length D ≡ 8 → ka < 8 → kb < 128 →
      0 < downs (B ++ (C ++ D)) → Cleared standard (of_slots (B ++ (C ++ D))) id
  of27 B C D is e f g few few_behind some = elim (cases_lt 0 (downs B)) [
    | inl here ↦ first27 B C D e f g few here
    | inr none ↦ elim (cases_lt 0 (downs C)) [
      | inl next ↦ second27 B C D is e f g few_behind next
      | inr none_yet ↦ third27 B C D e f g (omega (arith, none, none_yet, some, downs-append B (C ++ D), downs-append C D))
    ]
  ]

  module _ (ps : List PortStatus) (h : HasForm (of_slots ps)) (of : IsOf standard (of_slots ps)) (some : 0 < downs ps) where
    kept : (k : ℕ) → length (a ∷ b ∷ c ∷ ps) ≡ k → ka < 2 ^ kept_a_bits k
    kept k e = subst (λ (j : ℕ). ka < 2 ^ kept_a_bits j) e h.kept_a

    kept_behind : (k : ℕ) → length (a ∷ b ∷ c ∷ ps) ≡ k → kb < 2 ^ kept_b_bits k
    kept_behind k e = subst (λ (j : ℕ). kb < 2 ^ kept_b_bits j) e h.kept_b

    of_width : (k : ℕ) → length (a ∷ b ∷ c ∷ ps) ≡ k → IsTrue (is_width_of standard k)
    of_width k e = subst (λ (j : ℕ). IsTrue (is_width_of standard j)) e of

    front : 8 ≤ length ps → length (take 8 ps) ≡ 8
    front le = length-take-le 8 ps le

    same : take 8 ps ++ drop 8 ps ≡ ps
    same = take-append-drop 8 ps

    in_two : 0 < downs (take 8 ps ++ drop 8 ps)
    in_two = subst (λ (l : List PortStatus). 0 < downs l) (sym same) some

    further : Width (length (a ∷ b ∷ c ∷ ps)) → Cleared standard (of_slots ps) id
    further (three e) = absurd (omega (arith, e, some, downs_few ps))
    further (eleven e) = of11 ps (omega (arith, e)) (kept 11 e) some
    further (sixteen e) =
        subst (λ (l : List PortStatus). Cleared standard (of_slots l) id) same
        (of16 (take 8 ps) (drop 8 ps) (only_2000 standard (of_width 16 e)) (front (omega (arith, e))) (omega (arith, e, length-drop 8 ps)) (kept 16 e) (kept_behind 16 e) in_two)
    further (nineteen e) =
        subst (λ (l : List PortStatus). Cleared standard (of_slots l) id) same
        (of19 (take 8 ps) (drop 8 ps) (not_2000 standard (of_width 19 e)) (front (omega (arith, e))) (omega (arith, e, length-drop 8 ps)) (kept 19 e) (kept_behind 19 e) in_two)
    further (full e) =
        let qs : List PortStatus = drop 8 ps in
        let long : length qs ≡ 16 = omega (arith, e, length-drop 8 ps) in
        let whole : take 8 ps ++ (take 8 qs ++ drop 8 qs) ≡ ps = ap (λ (l : List PortStatus). take 8 ps ++ l) (take-append-drop 8 qs) ∙ same in
        subst (λ (l : List PortStatus). Cleared standard (of_slots l) id) whole
        (of27 (take 8 ps) (take 8 qs) (drop 8 qs) (no_2000 standard (of_width 27 e)) (front (omega (arith, e))) (length-take-le 8 qs (omega (arith, long))) (omega (arith, long, length-drop 8 qs))
        (kept 27 e) (kept_behind 27 e) (subst (λ (l : List PortStatus). 0 < downs l) (sym whole) some))

-- ---- of any node

-- without the cables of packet zero
at_zero : (standard : Standard) (attrs : Attrs) (ka kb id : ℕ) (a b c : PortStatus) (ps : List PortStatus) → id < 64 →
    IsNode (node_with attrs (a ∷ b ∷ c ∷ ps) ka kb) → 0 < downs (a ∷ b ∷ c ∷ []) →
    Cleared standard (node_with attrs (a ∷ b ∷ c ∷ ps) ka kb) id
at_zero standard attrs ka kb id a b c ps low h some =
    let n : Node = node_with attrs (a ∷ b ∷ c ∷ ps) ka kb in
    let g = begins n Unplugged Unplugged Unplugged id h in
    record {
      ports = Unplugged ∷ Unplugged ∷ Unplugged ∷ ps;
      begin = [];
      quad = quad_of (zero_packet n id g.more);
      end = g.tail;
      own = g.own;
      other = g.other ∙ ap (λ (q : ℕ). q ∷ g.tail) (zero_bare standard n id g.more h.form.attrs low);
      counts = swap [] (a ∷ b ∷ c ∷ []) (Unplugged ∷ Unplugged ∷ Unplugged ∷ []) ps refl refl refl some;
    }

cleared_by : (standard : Standard) (attrs : Attrs) (ports : List PortStatus) (ka kb id : ℕ) → id < 64 → 3 ≤ length ports →
    IsNode (node_with attrs ports ka kb) → IsOf standard (node_with attrs ports ka kb) → 0 < downs ports →
    Cleared standard (node_with attrs ports ka kb) id
cleared_by standard attrs [] ka kb id low wide h of some = absurd (omega (arith, wide))
cleared_by standard attrs (a ∷ []) ka kb id low wide h of some = absurd (omega (arith, wide))
cleared_by standard attrs (a ∷ b ∷ []) ka kb id low wide h of some = absurd (omega (arith, wide))
cleared_by standard attrs (a ∷ b ∷ c ∷ ps) ka kb id low wide h of some = elim (cases_lt 0 (downs (a ∷ b ∷ c ∷ []))) [
  | inl here ↦ at_zero standard attrs ka kb id a b c ps low h here
  | inr none ↦
      further standard attrs ka kb id low a b c ps h.form of (omega (arith, none, some, downs-append (a ∷ b ∷ c ∷ []) ps)) (width_of (length (a ∷ b ∷ c ∷ ps)) h.form.width)
]

-- a node that has a child shows one in some packet
pub cleared : (standard : Standard) (n : Node) (id : ℕ) → id < 64 → IsNode n → IsOf standard n → 0 < downs n.ports →
    Cleared standard n id
cleared standard n id low h of some =
    cleared_by standard n.attrs n.ports n.kept_a n.kept_b id low (wide (length n.ports) h.form.width) h of some
