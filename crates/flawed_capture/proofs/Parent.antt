-- A parent at the last slot of a node: its last packet is another.
use Rattle.std.proofs.Common.{◌≡◌, ℕ, ◌+◌, ◌*◌, ◌/◌, ◌%◌, ◌^◌, ◌<◌, ◌≤◌, Bool, true, false, List, [], ◌∷◌, ◌++◌, length, take, drop, refl, sym, ap, ◌∙◌, arith, length-drop, length-append}
use Rattle.std.specs.Prelude.{◌==◌, ◌&&◌, if◌then◌else◌}
use Rattle.std.proofs.lemmas.List.{take-append-le, drop-append-le}
use Rattle.std.proofs.lemmas.Nat.{pow-add}
use Rattle.std.proofs.Math.Seq.{take-length}
use Rattle.phy_packet.specs.Packet.{quad_of}
use Rattle.phy_packet.specs.declared.packet.PhyPacket.TheVariants.{SelfMore}
use Rattle.phy_packet.proofs.Lemmas.{bit_below}
use Rattle.self_id.specs.declared.node.Attrs.{Attrs}
use Rattle.self_id.specs.declared.node.PortStatus.{PortStatus}
use Rattle.self_id.specs.declared.node.PortStatus.TheVariants.{Up}
use Rattle.self_id.specs.declared.standard.Standard.{Standard}
use Rattle.self_id.specs.declared.standard.Standard.TheVariants.{Ieee1995, Ieee2000}
use Rattle.self_id.specs.Node.{node_with, FitBits, status_bits}
use Rattle.self_id.specs.Group.{fields, zero_packet}
use Rattle.self_id.proofs.Lemmas.{status_below}
use Rattle.flawed_capture.specs.Other.{last_field, with_up}

-- ---- bits

-- the last packet of a group, before and after
abbrev pub IsUp : Standard → ℕ → ℕ → Type 0
IsUp standard quad other = other ≡ with_up (last_field standard quad) quad

five_test : (quad : ℕ) (b : Bool) → ((quad / 2 ^ 23 % 2 == 1) && (quad / 2 ^ 20 % 8 == 1)) ≡ b →
    last_field Ieee2000 quad ≡ (if b then 8 else 2)
five_test quad b e = rw e refl

-- packet zero, and packets of eight slots, have their last slot in the bits 2 and 3
at_two : (standard : Standard) (quad : ℕ) → (standard ≡ Ieee2000 → ((quad / 2 ^ 23 % 2 == 1) && (quad / 2 ^ 20 % 8 == 1)) ≡ false) →
    last_field standard quad ≡ 2
at_two Ieee1995 quad test = refl
at_two Ieee2000 quad test = five_test quad false (test refl)

zero_test : (quad : ℕ) → quad / 2 ^ 23 % 2 ≡ 0 → ((quad / 2 ^ 23 % 2 == 1) && (quad / 2 ^ 20 % 8 == 1)) ≡ false
zero_test quad e = rw e refl

pub number_test : (quad k : ℕ) → quad / 2 ^ 23 % 2 ≡ 1 → quad / 2 ^ 20 % 8 ≡ k → ((quad / 2 ^ 23 % 2 == 1) && (quad / 2 ^ 20 % 8 == 1)) ≡ (k == 1)
number_test quad k e f = rw (e, f) refl

up_two : (standard : Standard) (quad other : ℕ) → last_field standard quad ≡ 2 →
    other ≡ quad / 2 ^ 4 * 2 ^ 4 + (2 * 2 ^ 2 + quad % 2 ^ 2) → IsUp standard quad other
up_two standard quad other e is = rw e is

up_eight : (quad other : ℕ) → last_field Ieee2000 quad ≡ 8 →
    other ≡ quad / 2 ^ 10 * 2 ^ 10 + (2 * 2 ^ 8 + quad % 2 ^ 8) → IsUp Ieee2000 quad other
up_eight quad other e is = rw e is

-- packet zero of a node with three slots
pub zero_up : (standard : Standard) (attrs : Attrs) (a b p : PortStatus) (ka kb id : ℕ) → FitBits attrs → id < 64 →
    IsUp standard (quad_of (zero_packet (node_with attrs (a ∷ b ∷ p ∷ []) ka kb) id false)) (quad_of (zero_packet (node_with attrs (a ∷ b ∷ Up ∷ []) ka kb) id false))
zero_up standard attrs a b p ka kb id fit low =
    let q : ℕ = quad_of (zero_packet (node_with attrs (a ∷ b ∷ p ∷ []) ka kb) id false) in
    let kind : q / 2 ^ 23 % 2 ≡ 0 = omega (arith, fit.gap, fit.speed, fit.delay, fit.power, bit_below attrs.link, bit_below attrs.contender, bit_below attrs.initiated, status_below a, status_below b, status_below p) in
    up_two standard q _ (at_two standard q (λ _. zero_test q kind))
    (omega (arith, bit_below attrs.initiated, status_below p))

-- packets of eight slots
pub eight_up : (standard : Standard) (id k j x s : ℕ) (r more : Bool) → id < 64 → k < 8 → j < 4 → x * 4 + s < 2 ^ 16 → s < 4 →
    (standard ≡ Ieee2000 → (k == 1) ≡ false) →
    IsUp standard (quad_of (SelfMore id k j (x * 4 + s) r more)) (quad_of (SelfMore id k j (x * 4 + 2) r more))
eight_up standard id k j x s r more id_fits k_fits j_fits few small other =
    let q : ℕ = quad_of (SelfMore id k j (x * 4 + s) r more) in
    let kind : q / 2 ^ 23 % 2 ≡ 1 = omega (arith, id_fits, k_fits, j_fits, few, bit_below r, bit_below more) in
    let number : q / 2 ^ 20 % 8 ≡ k = omega (arith, id_fits, k_fits, j_fits, few, bit_below r, bit_below more) in
    up_two standard q _ (at_two standard q (λ is. number_test q k kind number ∙ other is))
    (omega (arith, small, bit_below r, bit_below more))

-- packet n = 1 of five slots
pub five_up : (id j x s c : ℕ) (r more : Bool) → id < 64 → j < 4 → x * 4 + s < 2 ^ 10 → s < 4 → c < 64 →
    IsUp Ieee2000 (quad_of (SelfMore id 1 j ((x * 4 + s) * 2 ^ 6 + c) r more)) (quad_of (SelfMore id 1 j ((x * 4 + 2) * 2 ^ 6 + c) r more))
five_up id j x s c r more id_fits j_fits few small kept =
    let q : ℕ = quad_of (SelfMore id 1 j ((x * 4 + s) * 2 ^ 6 + c) r more) in
    let kind : q / 2 ^ 23 % 2 ≡ 1 = omega (arith, id_fits, j_fits, few, kept, bit_below r, bit_below more) in
    let number : q / 2 ^ 20 % 8 ≡ 1 = omega (arith, id_fits, j_fits, few, kept, bit_below r, bit_below more) in
    up_eight q _ (five_test q true (number_test q 1 kind number))
    (omega (arith, small, kept, bit_below r, bit_below more))

-- ---- slots

-- the last slot is the last two bits
pub fields-snoc : (ps : List PortStatus) (p : PortStatus) → fields (ps ++ p ∷ []) ≡ fields ps * 4 + status_bits p
fields-snoc [] p = omega arith
fields-snoc (a ∷ ps) p =
    let wide : length (ps ++ p ∷ []) ≡ length ps + 1 = length-append ps (p ∷ []) in
    let more : 2 * (length ps + 1) ≡ 2 + 2 * length ps = omega arith in
    let power : 2 ^ (2 * length (ps ++ p ∷ [])) ≡ 4 * 2 ^ (2 * length ps) = ap (λ (k : ℕ). 2 ^ (2 * k)) wide ∙ ap (λ (k : ℕ). 2 ^ k) more ∙ pow-add 2 2 (2 * length ps) in
    rw (power, fields-snoc ps p) (grind arith)

module _ (f : List PortStatus) (p : PortStatus) where
  -- eight slots before the last
  pub mid : (k : ℕ) → k + 8 ≤ length f → take 8 (drop k (f ++ p ∷ [])) ≡ take 8 (drop k f)
  mid k le = ap (λ (l : List PortStatus). take 8 l) (drop-append-le k f (p ∷ []) (omega (arith, le))) ∙ take-append-le 8 (drop k f) (p ∷ []) (omega (arith, le, length-drop k f))

  -- and eight with it
  pub end : (k : ℕ) → k + 7 ≡ length f → take 8 (drop k (f ++ p ∷ [])) ≡ drop k f ++ p ∷ []
  end k le =
      let eight : length (drop k f ++ p ∷ []) ≡ 8 = omega (arith, le, length-drop k f, length-append (drop k f) (p ∷ [])) in
      ap (λ (l : List PortStatus). take 8 l) (drop-append-le k f (p ∷ []) (omega (arith, le))) ∙ ap (λ (n : ℕ). take n (drop k f ++ p ∷ [])) (sym eight) ∙ take-length (drop k f ++ p ∷ [])
