-- The last packet of a node, and of a bus: a parent at its last slot.
use Rattle.std.proofs.Common.{◌≡◌, ℕ, ◌+◌, ◌*◌, ◌/◌, ◌%◌, ◌^◌, ◌<◌, ◌≤◌, Bool, true, false, IsTrue, List, [], ◌∷◌, ◌++◌, length, take, drop, refl, sym, ap, subst, ◌∙◌, arith, length-drop, length-append}
use Rattle.std.specs.Prelude.{◌==◌, ◌||◌}
use Rattle.std.proofs.lemmas.Bool.{eqb-true}
use Rattle.std.proofs.lemmas.List.{drop-append-le}
use Rattle.phy_packet.specs.Packet.{quad_of}
use Rattle.phy_packet.specs.declared.packet.PhyPacket.TheVariants.{SelfMore}
use Rattle.self_id.specs.declared.node.Attrs.{Attrs}
use Rattle.self_id.specs.declared.node.PortStatus.{PortStatus}
use Rattle.self_id.specs.declared.node.PortStatus.TheVariants.{Up}
use Rattle.self_id.specs.declared.standard.Standard.{Standard}
use Rattle.self_id.specs.declared.standard.Standard.TheVariants.{Ieee1995, Ieee2000}
use Rattle.self_id.specs.Node.{Node, node_with, HasForm, IsOf, is_width, is_width_of, kept_a_bits, kept_b_bits, status_bits}
use Rattle.self_id.specs.Group.{fields, group, zero_packet, first_packet, five_packet, second_packet, third_packet}
use Rattle.self_id.proofs.Lemmas.{group3, group11, group16, fields_small, status_below}
use Rattle.flawed_capture.specs.Other.{last_field, with_up}
use Rattle.flawed_capture.proofs.First.{wide}
use Rattle.flawed_capture.proofs.Parent.{IsUp, zero_up, eight_up, five_up, fields-snoc, mid, end}

-- the node with a parent at its last slot
abbrev pub with_last : Node → List PortStatus → Node
with_last n front = node_with n.attrs (front ++ Up ∷ []) n.kept_a n.kept_b

-- both groups are alike up to their last packets
pub record LastOther (standard : Standard) (n : Node) (id : ℕ) : Type 0 where
  pub front : List PortStatus
  pub p : PortStatus
  pub slots : n.ports ≡ front ++ p ∷ []
  pub begin : List ℕ
  pub quad : ℕ
  pub own : group n id ≡ begin ++ quad ∷ []
  pub other : group (with_last n front) id ≡ begin ++ with_up (last_field standard quad) quad ∷ []

-- ---- packets

pub group19 : (n : Node) (id : ℕ) → length n.ports ≡ 19 →
    group n id ≡ quad_of (zero_packet n id true) ∷ quad_of (first_packet n id true) ∷ quad_of (second_packet n id false) ∷ []
unfolding group
group19 n id count = rw count refl

pub group27 : (n : Node) (id : ℕ) → length n.ports ≡ 27 →
    group n id ≡ quad_of (zero_packet n id true) ∷ quad_of (first_packet n id true) ∷ quad_of (second_packet n id true) ∷ quad_of (third_packet n id) ∷ []
unfolding group
group27 n id count = rw count refl

eight_last : (standard : Standard) (id k kept j : ℕ) (f : List PortStatus) (p : PortStatus) (r more : Bool) → id < 64 → k < 8 →
    kept < 4 → j + 7 ≡ length f → (standard ≡ Ieee2000 → (k == 1) ≡ false) →
    IsUp standard (quad_of (SelfMore id k kept (fields (take 8 (drop j (f ++ p ∷ [])))) r more)) (quad_of (SelfMore id k kept (fields (take 8 (drop j (f ++ Up ∷ [])))) r more))
eight_last standard id k kept j f p r more id_fits k_fits kept_fits le other =
    let x : ℕ = fields (drop j f) in
    let old : fields (take 8 (drop j (f ++ p ∷ []))) ≡ x * 4 + status_bits p = ap fields (end f p j le) ∙ fields-snoc (drop j f) p in
    let new : fields (take 8 (drop j (f ++ Up ∷ []))) ≡ x * 4 + 2 = ap fields (end f Up j le) ∙ fields-snoc (drop j f) Up in
    let eight : length (drop j f ++ p ∷ []) ≡ 8 = omega (arith, le, length-drop j f, length-append (drop j f) (p ∷ [])) in
    let few : x * 4 + status_bits p < 2 ^ 16 = omega (arith, fields_small 8 (drop j f ++ p ∷ []) eight, fields-snoc (drop j f) p) in
    subst (λ (y : ℕ). IsUp standard (quad_of (SelfMore id k kept y r more)) (quad_of (SelfMore id k kept (fields (take 8 (drop j (f ++ Up ∷ [])))) r more))) (sym old)
    (subst (λ (y : ℕ). IsUp standard (quad_of (SelfMore id k kept (x * 4 + status_bits p) r more)) (quad_of (SelfMore id k kept y r more))) (sym new)
    (eight_up standard id k kept x (status_bits p) r more id_fits k_fits kept_fits few (status_below p) other))

five_last : (id kept j c : ℕ) (f : List PortStatus) (p : PortStatus) (r more : Bool) → id < 64 → kept < 4 → j + 4 ≡ length f →
    c < 64 →
    IsUp Ieee2000 (quad_of (SelfMore id 1 kept (fields (drop j (f ++ p ∷ [])) * 2 ^ 6 + c) r more)) (quad_of (SelfMore id 1 kept (fields (drop j (f ++ Up ∷ [])) * 2 ^ 6 + c) r more))
five_last id kept j c f p r more id_fits kept_fits le low =
    let x : ℕ = fields (drop j f) in
    let old : fields (drop j (f ++ p ∷ [])) ≡ x * 4 + status_bits p = ap fields (drop-append-le j f (p ∷ []) (omega (arith, le))) ∙ fields-snoc (drop j f) p in
    let new : fields (drop j (f ++ Up ∷ [])) ≡ x * 4 + 2 = ap fields (drop-append-le j f (Up ∷ []) (omega (arith, le))) ∙ fields-snoc (drop j f) Up in
    let five : length (drop j f ++ p ∷ []) ≡ 5 = omega (arith, le, length-drop j f, length-append (drop j f) (p ∷ [])) in
    let few : x * 4 + status_bits p < 2 ^ 10 = omega (arith, fields_small 5 (drop j f ++ p ∷ []) five, fields-snoc (drop j f) p) in
    subst (λ (y : ℕ). IsUp Ieee2000 (quad_of (SelfMore id 1 kept (y * 2 ^ 6 + c) r more)) (quad_of (SelfMore id 1 kept (fields (drop j (f ++ Up ∷ [])) * 2 ^ 6 + c) r more))) (sym old)
    (subst (λ (y : ℕ). IsUp Ieee2000 (quad_of (SelfMore id 1 kept ((x * 4 + status_bits p) * 2 ^ 6 + c) r more)) (quad_of (SelfMore id 1 kept (y * 2 ^ 6 + c) r more))) (sym new)
    (five_up id kept x (status_bits p) c r more id_fits kept_fits few (status_below p) low))

-- a packet of eight slots before the last
eight_kept : (id k kept j : ℕ) (f : List PortStatus) (p : PortStatus) (r more : Bool) → j + 8 ≤ length f →
    quad_of (SelfMore id k kept (fields (take 8 (drop j (f ++ Up ∷ [])))) r more) ≡ quad_of (SelfMore id k kept (fields (take 8 (drop j (f ++ p ∷ [])))) r more)
eight_kept id k kept j f p r more le = ap (λ (l : List PortStatus). quad_of (SelfMore id k kept (fields l) r more)) (mid f Up j le ∙ sym (mid f p j le))

-- ---- the group of a node, by its number of slots

module _ (standard : Standard) (attrs : Attrs) (ka kb id : ℕ) (low : id < 64) where
  -- a node with these slots
  abbrev of_slots : List PortStatus → Node
  of_slots ps = node_with attrs ps ka kb

  last3 : (a b p : PortStatus) → HasForm (of_slots (a ∷ b ∷ p ∷ [])) → LastOther standard (of_slots (a ∷ b ∷ p ∷ [])) id
  last3 a b p h = record {
    front = a ∷ b ∷ [];
    p = p;
    slots = refl;
    begin = [];
    quad = quad_of (zero_packet (of_slots (a ∷ b ∷ p ∷ [])) id false);
    own = group3 (of_slots (a ∷ b ∷ p ∷ [])) id refl;
    other = group3 (of_slots (a ∷ b ∷ Up ∷ [])) id refl ∙ ap (λ (q : ℕ). q ∷ []) (zero_up standard attrs a b p ka kb id h.attrs low);
  }

  module _ (a b c p : PortStatus) (f : List PortStatus) where
    abbrev n : Node
    n = of_slots (a ∷ b ∷ c ∷ (f ++ p ∷ []))

    abbrev m : Node
    m = of_slots (a ∷ b ∷ c ∷ (f ++ Up ∷ []))

    as_long : (q : PortStatus) (k : ℕ) → length f + 4 ≡ k → length (a ∷ b ∷ c ∷ (f ++ q ∷ [])) ≡ k
    as_long q k e = omega (arith, e, length-append f (q ∷ []))

    kept : (k : ℕ) → length f + 4 ≡ k → HasForm n → ka < 2 ^ kept_a_bits k
    kept k e h = subst (λ (j : ℕ). ka < 2 ^ kept_a_bits j) (as_long p k e) h.kept_a

    kept_behind : (k : ℕ) → length f + 4 ≡ k → HasForm n → kb < 2 ^ kept_b_bits k
    kept_behind k e h = subst (λ (j : ℕ). kb < 2 ^ kept_b_bits j) (as_long p k e) h.kept_b

    of_width : (k : ℕ) → length f + 4 ≡ k → IsOf standard n → IsTrue (is_width_of standard k)
    of_width k e h = subst (λ (j : ℕ). IsTrue (is_width_of standard j)) (as_long p k e) h

    last11 : length f + 4 ≡ 11 → HasForm n → LastOther standard n id
    last11 e h =
        let few : ka < 8 = kept 11 e h in
        let up = eight_last standard id 0 (ka / 2) 0 f p (ka % 2 == 1) false low (omega arith) (omega (arith, few)) (omega (arith, e)) (λ _. refl) in
        record {
          front = a ∷ b ∷ c ∷ f;
          p = p;
          slots = refl;
          begin = quad_of (zero_packet n id true) ∷ [];
          quad = quad_of (first_packet n id false);
          own = group11 n id (as_long p 11 e);
          other = group11 m id (as_long Up 11 e) ∙ ap (λ (q : ℕ). quad_of (zero_packet n id true) ∷ q ∷ []) up;
        }

    last16 : (standard ≡ Ieee2000) → length f + 4 ≡ 16 → HasForm n → LastOther standard n id
    last16 is e h =
        let few : ka < 8 = kept 16 e h in
        let few_behind : kb < 1024 = kept_behind 16 e h in
        let first = eight_kept id 0 (ka / 2) 0 f p (ka % 2 == 1) true (omega (arith, e)) in
        let up : IsUp standard (quad_of (five_packet n id)) (quad_of (five_packet m id)) =
        subst (λ (s : Standard). IsUp s (quad_of (five_packet n id)) (quad_of (five_packet m id))) (sym is)
        (five_last id (kb / 2 ^ 8) 8 (kb / 2 ^ 2 % 2 ^ 6) f p (kb / 2 % 2 == 1) (kb % 2 == 1) low (omega (arith, few_behind)) (omega (arith, e)) (omega arith)) in
        record {
          front = a ∷ b ∷ c ∷ f;
          p = p;
          slots = refl;
          begin = quad_of (zero_packet n id true) ∷ quad_of (first_packet n id true) ∷ [];
          quad = quad_of (five_packet n id);
          own = group16 n id (as_long p 16 e);
          other = group16 m id (as_long Up 16 e) ∙ ap (λ (q : ℕ). quad_of (zero_packet n id true) ∷ q ∷ quad_of (five_packet m id) ∷ []) first
              ∙ ap (λ (q : ℕ). quad_of (zero_packet n id true) ∷ quad_of (first_packet n id true) ∷ q ∷ []) up;
        }

    last19 : (standard ≡ Ieee2000 → ⊥) → length f + 4 ≡ 19 → HasForm n → LastOther standard n id
    last19 is e h =
        let few_behind : kb < 128 = kept_behind 19 e h in
        let first = eight_kept id 0 (ka / 2) 0 f p (ka % 2 == 1) true (omega (arith, e)) in
        let up = eight_last standard id 1 (kb / 2 ^ 4 / 2) 8 f p (kb / 2 ^ 4 % 2 == 1) false low (omega arith) (omega (arith, few_behind)) (omega (arith, e)) (λ other. absurd (is other)) in
        record {
          front = a ∷ b ∷ c ∷ f;
          p = p;
          slots = refl;
          begin = quad_of (zero_packet n id true) ∷ quad_of (first_packet n id true) ∷ [];
          quad = quad_of (second_packet n id false);
          own = group19 n id (as_long p 19 e);
          other = group19 m id (as_long Up 19 e) ∙ ap (λ (q : ℕ). quad_of (zero_packet n id true) ∷ q ∷ quad_of (second_packet m id false) ∷ []) first
              ∙ ap (λ (q : ℕ). quad_of (zero_packet n id true) ∷ quad_of (first_packet n id true) ∷ q ∷ []) up;
        }

    last27 : length f + 4 ≡ 27 → HasForm n → LastOther standard n id
    last27 e h =
        let few_behind : kb < 128 = kept_behind 27 e h in
        let first = eight_kept id 0 (ka / 2) 0 f p (ka % 2 == 1) true (omega (arith, e)) in
        let second = eight_kept id 1 (kb / 2 ^ 4 / 2) 8 f p (kb / 2 ^ 4 % 2 == 1) true (omega (arith, e)) in
        let up = eight_last standard id 2 (kb / 2 % 2 ^ 3 / 2) 16 f p (kb / 2 % 2 ^ 3 % 2 == 1) (kb % 2 == 1) low (omega arith) (omega arith) (omega (arith, e)) (λ _. refl) in
        record {
          front = a ∷ b ∷ c ∷ f;
          p = p;
          slots = refl;
          begin = quad_of (zero_packet n id true) ∷ quad_of (first_packet n id true) ∷ quad_of (second_packet n id true) ∷ [];
          quad = quad_of (third_packet n id);
          own = group27 n id (as_long p 27 e);
          other = group27 m id (as_long Up 27 e)
              ∙ ap (λ (q : ℕ). quad_of (zero_packet n id true) ∷ q ∷ quad_of (second_packet m id true) ∷ quad_of (third_packet m id) ∷ []) first
              ∙ ap (λ (q : ℕ). quad_of (zero_packet n id true) ∷ quad_of (first_packet n id true) ∷ q ∷ quad_of (third_packet m id) ∷ []) second
              ∙ ap (λ (q : ℕ). quad_of (zero_packet n id true) ∷ quad_of (first_packet n id true) ∷ quad_of (second_packet n id true) ∷ q ∷ []) up;
        }

-- ---- of any node

pub data Width (k : ℕ) : Type 0 where
  three : k ≡ 3 → Width k
  eleven : k ≡ 11 → Width k
  sixteen : k ≡ 16 → Width k
  nineteen : k ≡ 19 → Width k
  full : k ≡ 27 → Width k

width_by : (k : ℕ) (b3 b11 b16 b19 b27 : Bool) → (k == 3) ≡ b3 → (k == 11) ≡ b11 → (k == 16) ≡ b16 → (k == 19) ≡ b19 →
    (k == 27) ≡ b27 → IsTrue (b3 || (b11 || (b16 || (b19 || b27)))) → Width k
width_by k true b11 b16 b19 b27 e f g h i w = three (eqb-true k 3 e)
width_by k false true b16 b19 b27 e f g h i w = eleven (eqb-true k 11 f)
width_by k false false true b19 b27 e f g h i w = sixteen (eqb-true k 16 g)
width_by k false false false true b27 e f g h i w = nineteen (eqb-true k 19 h)
width_by k false false false false true e f g h i w = full (eqb-true k 27 i)
width_by k false false false false false e f g h i w = absurd cc

pub width_of : (k : ℕ) → IsTrue (is_width k) → Width k
width_of k w = width_by k (k == 3) (k == 11) (k == 16) (k == 19) (k == 27) refl refl refl refl refl w

-- the last of some slots
record Snoc (ps : List PortStatus) : Type 0 where
  front : List PortStatus
  p : PortStatus
  is : ps ≡ front ++ p ∷ []

snoc : (q : PortStatus) (ps : List PortStatus) → Snoc (q ∷ ps)
snoc q [] = record { front = []; p = q; is = refl }
snoc q (a ∷ ps) = let rest = snoc a ps in record { front = q ∷ rest.front; p = rest.p; is = ap (λ (l : List PortStatus). q ∷ l) rest.is }

pub only_2000 : (standard : Standard) → IsTrue (is_width_of standard 16) → standard ≡ Ieee2000
only_2000 Ieee1995 w = absurd cc
only_2000 Ieee2000 w = refl

pub not_2000 : (standard : Standard) → IsTrue (is_width_of standard 19) → standard ≡ Ieee2000 → ⊥
not_2000 Ieee1995 w e = absurd cc
not_2000 Ieee2000 w e = absurd cc

last_more : (standard : Standard) (attrs : Attrs) (ka kb id : ℕ) (a b c p : PortStatus) (f : List PortStatus) → id < 64 →
    HasForm (node_with attrs (a ∷ b ∷ c ∷ (f ++ p ∷ [])) ka kb) → IsOf standard (node_with attrs (a ∷ b ∷ c ∷ (f ++ p ∷ [])) ka kb) →
    Width (length (a ∷ b ∷ c ∷ (f ++ p ∷ []))) → LastOther standard (node_with attrs (a ∷ b ∷ c ∷ (f ++ p ∷ [])) ka kb) id
last_more standard attrs ka kb id a b c p f low h of (three e) = absurd (omega (arith, e, length-append f (p ∷ [])))
last_more standard attrs ka kb id a b c p f low h of (eleven e) = last11 standard attrs ka kb id low a b c p f (omega (arith, e, length-append f (p ∷ []))) h
last_more standard attrs ka kb id a b c p f low h of (sixteen e) =
    let long : length f + 4 ≡ 16 = omega (arith, e, length-append f (p ∷ [])) in
    last16 standard attrs ka kb id low a b c p f (only_2000 standard (of_width standard attrs ka kb id low a b c p f 16 long of)) long h
last_more standard attrs ka kb id a b c p f low h of (nineteen e) =
    let long : length f + 4 ≡ 19 = omega (arith, e, length-append f (p ∷ [])) in
    last19 standard attrs ka kb id low a b c p f (not_2000 standard (of_width standard attrs ka kb id low a b c p f 19 long of)) long h
last_more standard attrs ka kb id a b c p f low h of (full e) = last27 standard attrs ka kb id low a b c p f (omega (arith, e, length-append f (p ∷ []))) h

last_by : (standard : Standard) (attrs : Attrs) (ports : List PortStatus) (ka kb id : ℕ) → id < 64 → 3 ≤ length ports →
    HasForm (node_with attrs ports ka kb) → IsOf standard (node_with attrs ports ka kb) → LastOther standard (node_with attrs ports ka kb) id
last_by standard attrs [] ka kb id low some h of = absurd (omega arith)
last_by standard attrs (a ∷ []) ka kb id low some h of = absurd (omega arith)
last_by standard attrs (a ∷ b ∷ []) ka kb id low some h of = absurd (omega arith)
last_by standard attrs (a ∷ b ∷ c ∷ []) ka kb id low some h of = last3 standard attrs ka kb id low a b c h
last_by standard attrs (a ∷ b ∷ c ∷ d ∷ ps) ka kb id low some h of =
    let s = snoc d ps in
    let P : List PortStatus → Type 0 = λ (l : List PortStatus). HasForm (node_with attrs (a ∷ b ∷ c ∷ l) ka kb) → IsOf standard (node_with attrs (a ∷ b ∷ c ∷ l) ka kb) → LastOther standard (node_with attrs (a ∷ b ∷ c ∷ l) ka kb) id in
    subst P (sym s.is) (λ h2 of2. last_more standard attrs ka kb id a b c s.p s.front low h2 of2 (width_of (length (a ∷ b ∷ c ∷ (s.front ++ s.p ∷ []))) h2.width)) h of

pub last_other : (standard : Standard) (n : Node) (id : ℕ) → id < 64 → HasForm n → IsOf standard n → LastOther standard n id
last_other standard n id low h of = last_by standard n.attrs n.ports n.kept_a n.kept_b id low (wide (length n.ports) h.width) h of
