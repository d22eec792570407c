-- What is read is a group, or the fault is the list's.
use Rattle.std.proofs.Common.{◌≡◌, ℕ, suc, ◌+◌, ◌*◌, ◌/◌, ◌%◌, ◌^◌, ◌<◌, ◌≤◌, Bool, true, false, cond, eqb, ◌||◌, IsTrue, List, [], ◌∷◌, ◌++◌, length, take, drop, drop-drop, length-append, Result, Ok, Err, refl, sym, ap, ◌∙◌, arith}
use Rattle.std.proofs.lemmas.Bool.{eqb-true}
use Rattle.std.proofs.Math.Nat.{mod-eq_of_lt}
pub use Rattle.phy_packet.proofs.Lemmas.{bit_below}
use Rattle.phy_packet.specs.Layout.{bit, spelled}
use Rattle.phy_packet.specs.Packet.{quad_of, has_more}
use Rattle.phy_packet.specs.declared.packet.PhyPacket.{PhyPacket}
use Rattle.self_id.specs.declared.fault.GroupFault.{GroupFault}
use Rattle.self_id.specs.declared.packets.ZeroPart.{ZeroPart}
use Rattle.self_id.specs.declared.packets.FurtherPart.{FurtherPart}
use Rattle.self_id.specs.declared.standard.Standard.{Standard}
use Rattle.self_id.specs.declared.standard.Standard.TheVariants.{Ieee1995, Ieee2000}
use Rattle.self_id.specs.Node.{Node, FitBits, HasForm, IsOf}
use Rattle.self_id.specs.Group.{fields, zero_packet, eight_packet, first_packet, five_packet, second_packet, third_packet, group}
use Rattle.self_id.specs.Refused.{LeadsOn, AllLeadOn, most_further, GroupRefused}
use Rattle.self_id.specs.codings.Reading.{carried_a, carried_b, carried_c, packet_at, zero_in, further_in, statuses, node3, node11, node16, node19, node27, node_of_three, goes_past, single, and_then, read_at}
use Rattle.self_id.proofs.Fields.{fields-statuses}
use Rattle.self_id.proofs.Taken.{Found, found, refused, zero_of, further_of, zero_said, further_said}

-- ---- how many slots a node has

pub data Width (slots : ℕ) : Type 0 where
  three : slots ≡ 3 → Width slots
  eleven : slots ≡ 11 → Width slots
  sixteen : slots ≡ 16 → Width slots
  nineteen : slots ≡ 19 → Width slots
  full : slots ≡ 27 → Width slots

width_by : (a b c d e : Bool) (slots : ℕ) → (a ≡ true → slots ≡ 3) → (b ≡ true → slots ≡ 11) →
    (c ≡ true → slots ≡ 16) → (d ≡ true → slots ≡ 19) → (e ≡ true → slots ≡ 27) →
    IsTrue (a || (b || (c || (d || e)))) → Width slots
width_by true b c d e slots f g h i j w = three (f refl)
width_by false true c d e slots f g h i j w = eleven (g refl)
width_by false false true d e slots f g h i j w = sixteen (h refl)
width_by false false false true e slots f g h i j w = nineteen (i refl)
width_by false false false false true slots f g h i j w = full (j refl)
width_by false false false false false slots f g h i j w = absurd cc

pub width_of : (n : Node) → HasForm n → Width (length n.ports)
width_of n h = width_by _ _ _ _ _ (length n.ports) (eqb-true _ _) (eqb-true _ _) (eqb-true _ _) (eqb-true _ _) (eqb-true _ _) h.width

-- ---- the packets of a node that was made of parts

low_bit : (k : ℕ) (b : Bool) → eqb ((k * 2 + bit b) % 2) 1 ≡ b
low_bit k true = let e : (k * 2 + 1) % 2 ≡ 1 = omega arith in rw e refl
low_bit k false = let e : (k * 2 + 0) % 2 ≡ 0 = omega arith in rw e refl

eight_is : (n : Node) (a : FurtherPart) (id number kept : ℕ) (m : Bool) →
    kept ≡ spelled (carried_a a) → fields (take 8 (drop (3 + 8 * number) n.ports)) ≡ a.fields →
    a.more ≡ m → eight_packet n id number kept m ≡ further_of id number a
eight_is n a id number kept m is same more =
    let b = bit_below a.r in
    let high : kept / 2 ≡ a.kept = omega arith in
    let whole : kept ≡ a.kept * 2 + bit a.r = omega arith in
    let low : eqb (kept % 2) 1 ≡ a.r = ap (λ (k : ℕ). eqb (k % 2) 1) whole ∙ low_bit a.kept a.r in
    rw (high, same, low, more) refl

five_is : (n : Node) (b : FurtherPart) (id : ℕ) → n.kept_b ≡ spelled (carried_b b) →
    fields (drop 11 n.ports) ≡ b.fields / 2 ^ 6 →
    five_packet n id ≡ further_of id 1 b
five_is n b id kept same =
    let r = bit_below b.r in
    let m = bit_below b.more in
    let high : n.kept_b / 2 ^ 8 ≡ b.kept = omega arith in
    let both : fields (drop 11 n.ports) * 2 ^ 6 + n.kept_b / 2 ^ 2 % 2 ^ 6 ≡ b.fields = omega arith in
    let r_bit : eqb (n.kept_b / 2 % 2) 1 ≡ b.r =
    let e : n.kept_b / 2 % 2 ≡ (b.fields % 2 ^ 6 * 2 + bit b.r) % 2 = omega arith in
    ap (λ (k : ℕ). eqb k 1) e ∙ low_bit (b.fields % 2 ^ 6) b.r
    in
    let m_bit : eqb (n.kept_b % 2) 1 ≡ b.more =
    let e : n.kept_b % 2 ≡ (bit b.r * 2 + bit b.more) % 2 = omega arith in
    ap (λ (k : ℕ). eqb k 1) e ∙ low_bit (bit b.r) b.more
    in
    rw (high, both, r_bit, m_bit) refl

third_is : (n : Node) (c : FurtherPart) (id before : ℕ) → c.kept < 4 →
    n.kept_b ≡ before * 2 ^ 4 + spelled (carried_c c) →
    fields (take 8 (drop 19 n.ports)) ≡ c.fields → third_packet n id ≡ further_of id 2 c
third_is n c id before small is same =
    let r = bit_below c.r in
    let m = bit_below c.more in
    let kept : n.kept_b / 2 % 2 ^ 3 ≡ spelled (carried_a c) = omega arith in
    let low : n.kept_b % 2 ≡ (bit c.r * 2 + bit c.more) % 2 = omega arith in
    let more : c.more ≡ eqb (n.kept_b % 2) 1 = sym (ap (λ (k : ℕ). eqb k 1) low ∙ low_bit (bit c.r) c.more) in
    eight_is n c id 2 (n.kept_b / 2 % 2 ^ 3) (eqb (n.kept_b % 2) 1) kept same more

-- eight slots that were taken from fields
eight_fields : (x : ℕ) → x < 2 ^ 16 → fields (statuses 8 x) ≡ x
eight_fields x small = fields-statuses 8 x ∙ mod-eq_of_lt small

group3 : (z : ZeroPart) (id : ℕ) → z.more ≡ false → group (node3 z) id ≡ quad_of (zero_of id z) ∷ []
unfolding group
group3 z id more = rw more refl

group11 : (z : ZeroPart) (a : FurtherPart) (id : ℕ) → z.more ≡ true → a.more ≡ false →
    a.fields < 2 ^ 16 →
    group (node11 z a) id ≡ quad_of (zero_of id z) ∷ quad_of (further_of id 0 a) ∷ []
unfolding group
group11 z a id zm am small =
    let first : first_packet (node11 z a) id false ≡ further_of id 0 a = eight_is (node11 z a) a id 0 (spelled (carried_a a)) false refl (eight_fields a.fields small) am in
    ap (λ (p : _). quad_of (zero_packet (node11 z a) id true) ∷ quad_of p ∷ []) first ∙ rw zm refl

-- three packets, by the standard
group_three : (standard : Standard) (z : ZeroPart) (a b : FurtherPart) (id : ℕ) → z.more ≡ true →
    a.more ≡ true → goes_past standard b.more ≡ false → a.fields < 2 ^ 16 → b.fields < 2 ^ 16 →
    group (node_of_three standard z a b) id ≡ quad_of (zero_of id z) ∷ quad_of (further_of id 0 a) ∷ quad_of (further_of id 1 b) ∷ []
unfolding group
group_three Ieee2000 z a b id zm am bm a_small b_small =
    let n = node16 z a b in
    let small : b.fields / 2 ^ 6 < 2 ^ 10 = omega arith in
    let same : fields (statuses 5 (b.fields / 2 ^ 6)) ≡ b.fields / 2 ^ 6 = fields-statuses 5 (b.fields / 2 ^ 6) ∙ mod-eq_of_lt small in
    let first : first_packet n id true ≡ further_of id 0 a = eight_is n a id 0 (spelled (carried_a a)) true refl (eight_fields a.fields a_small) am in
    let second : five_packet n id ≡ further_of id 1 b = five_is n b id refl same in
    ap (λ (p : _). quad_of (zero_packet n id true) ∷ quad_of p ∷ quad_of (five_packet n id) ∷ []) first
    ∙ ap (λ (p : _). quad_of (zero_packet n id true) ∷ quad_of (further_of id 0 a) ∷ quad_of p ∷ []) second
    ∙ rw zm refl
group_three Ieee1995 z a b id zm am bm a_small b_small =
    let n = node19 z a b in
    let kept : n.kept_b / 2 ^ 4 ≡ spelled (carried_a b) = omega arith in
    let first : first_packet n id true ≡ further_of id 0 a = eight_is n a id 0 (spelled (carried_a a)) true refl (eight_fields a.fields a_small) am in
    let second : second_packet n id false ≡ further_of id 1 b = eight_is n b id 1 (n.kept_b / 2 ^ 4) false kept (eight_fields b.fields b_small) bm in
    ap (λ (p : _). quad_of (zero_packet n id true) ∷ quad_of p ∷ quad_of (second_packet n id false) ∷ []) first
    ∙ ap (λ (p : _). quad_of (zero_packet n id true) ∷ quad_of (further_of id 0 a) ∷ quad_of p ∷ []) second
    ∙ rw zm refl

group27 : (z : ZeroPart) (a b c : FurtherPart) (id : ℕ) → z.more ≡ true → a.more ≡ true →
    b.more ≡ true → a.fields < 2 ^ 16 → b.fields < 2 ^ 16 → c.fields < 2 ^ 16 → c.kept < 4 →
    group (node27 z a b c) id ≡ quad_of (zero_of id z) ∷ quad_of (further_of id 0 a) ∷ quad_of (further_of id 1 b) ∷ quad_of (further_of id 2 c) ∷ []
unfolding group
group27 z a b c id zm am bm a_small b_small c_small c_kept =
    let n = node27 z a b c in
    let r = bit_below c.r in
    let m = bit_below c.more in
    let kept : n.kept_b / 2 ^ 4 ≡ spelled (carried_a b) = omega arith in
    let first : first_packet n id true ≡ further_of id 0 a = eight_is n a id 0 (spelled (carried_a a)) true refl (eight_fields a.fields a_small) am in
    let second : second_packet n id true ≡ further_of id 1 b = eight_is n b id 1 (n.kept_b / 2 ^ 4) true kept (eight_fields b.fields b_small) bm in
    let third : third_packet n id ≡ further_of id 2 c = third_is n c id (spelled (carried_a b)) c_kept refl (eight_fields c.fields c_small) in
    ap (λ (p : _). quad_of (zero_packet n id true) ∷ quad_of p ∷ quad_of (second_packet n id true) ∷ quad_of (third_packet n id) ∷ []) first
    ∙ ap (λ (p : _). quad_of (zero_packet n id true) ∷ quad_of (further_of id 0 a) ∷ quad_of p ∷ quad_of (third_packet n id) ∷ []) second
    ∙ ap (λ (p : _). quad_of (zero_packet n id true) ∷ quad_of (further_of id 0 a) ∷ quad_of (further_of id 1 b) ∷ quad_of p ∷ []) third
    ∙ rw zm refl

-- ---- these nodes are ones that packets can show, of a standard

-- what a further packet says fits its bits
pub record Fits (a : FurtherPart) : Type 0 where
  pub kept : a.kept < 4
  pub fields : a.fields < 2 ^ 16

pub form3 : (z : ZeroPart) → FitBits z.attrs → HasForm (node3 z)
form3 z fits = record { attrs = fits; width = refl; kept_a = omega arith; kept_b = omega arith; blank_b = refl }

pub form11 : (z : ZeroPart) (a : FurtherPart) → FitBits z.attrs → Fits a → HasForm (node11 z a)
form11 z a fits h =
    let r = bit_below a.r in
    record { attrs = fits; width = refl; kept_a = omega (arith, h.kept); kept_b = omega arith; blank_b = refl }

pub form_three : (standard : Standard) (z : ZeroPart) (a b : FurtherPart) → FitBits z.attrs →
    Fits a → Fits b → HasForm (node_of_three standard z a b)
form_three Ieee2000 z a b fits h k =
    let r = bit_below a.r in
    let s = bit_below b.r in
    let m = bit_below b.more in
    record { attrs = fits; width = refl; kept_a = omega (arith, h.kept); kept_b = omega (arith, k.kept); blank_b = omega arith }
form_three Ieee1995 z a b fits h k =
    let r = bit_below a.r in
    let s = bit_below b.r in
    record { attrs = fits; width = refl; kept_a = omega (arith, h.kept); kept_b = omega (arith, k.kept); blank_b = omega arith }

pub form27 : (z : ZeroPart) (a b c : FurtherPart) → FitBits z.attrs → Fits a → Fits b → Fits c →
    HasForm (node27 z a b c)
form27 z a b c fits h k g =
    let r = bit_below a.r in
    let s = bit_below b.r in
    let t = bit_below c.r in
    let m = bit_below c.more in
    record { attrs = fits; width = refl; kept_a = omega (arith, h.kept); kept_b = omega (arith, k.kept, g.kept); blank_b = omega arith }

of_either : (standard : Standard) (n : Node) → IsOf Ieee1995 n → IsOf Ieee2000 n → IsOf standard n
of_either Ieee1995 n a b = a
of_either Ieee2000 n a b = b

of_three : (standard : Standard) (z : ZeroPart) (a b : FurtherPart) →
    IsOf standard (node_of_three standard z a b)
of_three Ieee1995 z a b = refl
of_three Ieee2000 z a b = refl

-- ---- what is read

-- Reading a list ends with the fault that it has, or with the node of the group at its front, which
-- may have two parents.
pub data Reading (standard : Standard) (at id : ℕ) (l : List ℕ) (r : Result Node GroupFault) : Type 0 where
  stopped : (f : GroupFault) → r ≡ Err f → (0 < length l → GroupRefused standard at id l f) →
      Reading standard at id l r
  grouped : (m : Node) → HasForm m → IsOf standard m →
      l ≡ group m id ++ drop (length (group m id)) l → r ≡ single at m → Reading standard at id l r

by_more : (standard : Standard) (at id : ℕ) (l : List ℕ) (b : Bool) (x y : Result Node GroupFault) →
    (b ≡ true → Reading standard at id l x) → (b ≡ false → Reading standard at id l y) →
    Reading standard at id l (cond b x y)
by_more standard at id l true x y f g = f refl
by_more standard at id l false x y f g = g refl

leads : (id j : ℕ) (l : List ℕ) (p : PhyPacket) (h : Found id j l p) → has_more p ≡ true →
    LeadsOn id j h.quad p
leads id j l p h more = record { shows = h.shows; self = h.self; own = h.own; order = h.order; more = more }

two_fronts : (l : List ℕ) (z a : ℕ) → l ≡ z ∷ drop 1 l → drop 1 l ≡ a ∷ drop 1 (drop 1 l) →
    l ≡ z ∷ a ∷ drop 2 l
two_fronts [] z a e f = absurd cc
two_fronts (x ∷ []) z a e f = absurd cc
two_fronts (x ∷ y ∷ l) z a e f = e ∙ ap (λ (k : List ℕ). z ∷ k) f

three_fronts : (l : List ℕ) (z a b : ℕ) → l ≡ z ∷ drop 1 l → drop 1 l ≡ a ∷ drop 1 (drop 1 l) →
    drop 2 l ≡ b ∷ drop 1 (drop 2 l) → l ≡ z ∷ a ∷ b ∷ drop 3 l
three_fronts l z a b e f g = two_fronts l z a e f ∙ ap (λ (k : List ℕ). z ∷ a ∷ k) (g ∙ ap (λ (k : List ℕ). b ∷ k) (drop-drop 1 2 l))

four_fronts : (l : List ℕ) (z a b c : ℕ) → l ≡ z ∷ drop 1 l → drop 1 l ≡ a ∷ drop 1 (drop 1 l) →
    drop 2 l ≡ b ∷ drop 1 (drop 2 l) → drop 3 l ≡ c ∷ drop 1 (drop 3 l) →
    l ≡ z ∷ a ∷ b ∷ c ∷ drop 4 l
four_fronts l z a b c e f g h = three_fronts l z a b e f g ∙ ap (λ (k : List ℕ). z ∷ a ∷ b ∷ k) (h ∙ ap (λ (k : List ℕ). c ∷ k) (drop-drop 1 3 l))

-- packet zero at the front, and what it says
pub record ZeroFront (id : ℕ) (l : List ℕ) (z : PhyPacket) : Type 0 where
  pub has : Found id 0 l z
  pub fit : FitBits (zero_in z).attrs
  pub quad_is : quad_of (zero_of id (zero_in z)) ≡ has.quad
  pub more_is : has_more z ≡ (zero_in z).more

zero_front : (id : ℕ) (l : List ℕ) (z : PhyPacket) → Found id 0 l z → ZeroFront id l z
zero_front id l z h =
    let s = zero_said z id h.shows.valid h.own h.order in
    record { has = h; fit = s.fit; quad_is = ap quad_of (sym s.packet) ∙ h.shows.quad_is; more_is = s.more }

-- the same of a further packet
pub record Front (id n : ℕ) (l : List ℕ) (p : PhyPacket) : Type 0 where
  pub has : Found id (suc n) l p
  pub fits : Fits (further_in p)
  pub quad_is : quad_of (further_of id n (further_in p)) ≡ has.quad
  pub more_is : has_more p ≡ (further_in p).more

front : (id n : ℕ) (l : List ℕ) (p : PhyPacket) → Found id (suc n) l p → Front id n l p
front id n l p h =
    let s = further_said p id n h.shows.valid h.own h.order in
    record { has = h; fits = record { kept = s.kept; fields = s.fields }; quad_is = ap quad_of (sym s.packet) ∙ h.shows.quad_is; more_is = s.more }

reading3 : (standard : Standard) (at id : ℕ) (l : List ℕ) (z : PhyPacket) → ZeroFront id l z →
    has_more z ≡ false → Reading standard at id l (single at (node3 (zero_in z)))
reading3 standard at id l z h last =
    let n = node3 (zero_in z) in
    let g : group n id ≡ h.has.quad ∷ [] = group3 (zero_in z) id (sym h.more_is ∙ last) ∙ ap (λ (q : ℕ). q ∷ []) h.quad_is in
    grouped n (form3 (zero_in z) h.fit) (of_either standard n refl refl) (rw g h.has.front) refl

reading11 : (standard : Standard) (at id : ℕ) (l : List ℕ) (z a : PhyPacket) → ZeroFront id l z →
    has_more z ≡ true → Front id 0 (drop 1 l) a → has_more a ≡ false →
    Reading standard at id l (single at (node11 (zero_in z) (further_in a)))
reading11 standard at id l z a h more i last =
    let n = node11 (zero_in z) (further_in a) in
    let g : group n id ≡ h.has.quad ∷ i.has.quad ∷ [] =
    group11 (zero_in z) (further_in a) id (sym h.more_is ∙ more) (sym i.more_is ∙ last) i.fits.fields
    ∙ ap (λ (q : ℕ). q ∷ quad_of (further_of id 0 (further_in a)) ∷ []) h.quad_is
    ∙ ap (λ (q : ℕ). h.has.quad ∷ q ∷ []) i.quad_is
    in
    grouped n (form11 (zero_in z) (further_in a) h.fit i.fits) (of_either standard n refl refl) (rw g (two_fronts l h.has.quad i.has.quad h.has.front i.has.front)) refl

reading_three : (standard : Standard) (at id : ℕ) (l : List ℕ) (z a b : PhyPacket) →
    ZeroFront id l z → has_more z ≡ true → Front id 0 (drop 1 l) a → has_more a ≡ true →
    Front id 1 (drop 2 l) b → goes_past standard (has_more b) ≡ false →
    Reading standard at id l (single at (node_of_three standard (zero_in z) (further_in a) (further_in b)))
reading_three standard at id l z a b h more i more_i j last =
    let n = node_of_three standard (zero_in z) (further_in a) (further_in b) in
    let g : group n id ≡ h.has.quad ∷ i.has.quad ∷ j.has.quad ∷ [] =
    group_three standard (zero_in z) (further_in a) (further_in b) id (sym h.more_is ∙ more) (sym i.more_is ∙ more_i) (ap (goes_past standard) (sym j.more_is) ∙ last) i.fits.fields j.fits.fields
    ∙ ap (λ (q : ℕ). q ∷ quad_of (further_of id 0 (further_in a)) ∷ quad_of (further_of id 1 (further_in b)) ∷ []) h.quad_is
    ∙ ap (λ (q : ℕ). h.has.quad ∷ q ∷ quad_of (further_of id 1 (further_in b)) ∷ []) i.quad_is
    ∙ ap (λ (q : ℕ). h.has.quad ∷ i.has.quad ∷ q ∷ []) j.quad_is
    in
    grouped n (form_three standard (zero_in z) (further_in a) (further_in b) h.fit i.fits j.fits) (of_three standard (zero_in z) (further_in a) (further_in b))
    (rw g (three_fronts l h.has.quad i.has.quad j.has.quad h.has.front i.has.front j.has.front)) refl

reading27 : (at id : ℕ) (l : List ℕ) (z a b c : PhyPacket) → ZeroFront id l z → has_more z ≡ true →
    Front id 0 (drop 1 l) a → has_more a ≡ true → Front id 1 (drop 2 l) b → has_more b ≡ true →
    Front id 2 (drop 3 l) c →
    Reading Ieee1995 at id l (single at (node27 (zero_in z) (further_in a) (further_in b) (further_in c)))
reading27 at id l z a b c h more i more_i j more_j k =
    let n = node27 (zero_in z) (further_in a) (further_in b) (further_in c) in
    let g : group n id ≡ h.has.quad ∷ i.has.quad ∷ j.has.quad ∷ k.has.quad ∷ [] =
    group27 (zero_in z) (further_in a) (further_in b) (further_in c) id (sym h.more_is ∙ more) (sym i.more_is ∙ more_i) (sym j.more_is ∙ more_j) i.fits.fields j.fits.fields k.fits.fields k.fits.kept
    ∙ ap (λ (q : ℕ). q ∷ quad_of (further_of id 0 (further_in a)) ∷ quad_of (further_of id 1 (further_in b)) ∷ quad_of (further_of id 2 (further_in c)) ∷ []) h.quad_is
    ∙ ap (λ (q : ℕ). h.has.quad ∷ q ∷ quad_of (further_of id 1 (further_in b)) ∷ quad_of (further_of id 2 (further_in c)) ∷ []) i.quad_is
    ∙ ap (λ (q : ℕ). h.has.quad ∷ i.has.quad ∷ q ∷ quad_of (further_of id 2 (further_in c)) ∷ []) j.quad_is
    ∙ ap (λ (q : ℕ). h.has.quad ∷ i.has.quad ∷ j.has.quad ∷ q ∷ []) k.quad_is
    in
    grouped n (form27 (zero_in z) (further_in a) (further_in b) (further_in c) h.fit i.fits j.fits k.fits) refl
    (rw g (four_fronts l h.has.quad i.has.quad j.has.quad k.has.quad h.has.front i.has.front j.has.front k.has.front)) refl

-- packet n = 2 follows by one standard alone
pub past_1995 : (P : Standard → Type 0) (standard : Standard) (more : Bool) →
    goes_past standard more ≡ true → (more ≡ true → P Ieee1995) → P standard
past_1995 P Ieee1995 more e go = go e
past_1995 P Ieee2000 more e go = absurd cc

pub most_two : (standard : Standard) → 2 ≤ most_further standard
most_two Ieee1995 = omega arith
most_two Ieee2000 = omega arith

-- what is read behind packet n = 1, behind n = 0, and behind packet zero
abbrev behind_two : ℕ → ℕ → List ℕ → PhyPacket → PhyPacket → PhyPacket → Result Node GroupFault
behind_two at id l z a b = and_then (packet_at (at + 3) id 3 (drop 3 l)) (λ c. single at (node27 (zero_in z) (further_in a) (further_in b) (further_in c)))

abbrev behind_one : Standard → ℕ → ℕ → List ℕ → PhyPacket → PhyPacket → Result Node GroupFault
behind_one standard at id l z a =
    and_then (packet_at (at + 2) id 2 (drop 2 l)) (λ b. cond (goes_past standard (has_more b)) (behind_two at id l z a b)
    (single at (node_of_three standard (zero_in z) (further_in a) (further_in b))))

abbrev behind_zero : Standard → ℕ → ℕ → List ℕ → PhyPacket → Result Node GroupFault
behind_zero standard at id l z =
    and_then (packet_at (at + 1) id 1 (drop 1 l)) (λ a. cond (has_more a) (behind_one standard at id l z a) (single at (node11 (zero_in z) (further_in a))))

-- A fault of the packet behind packets that lead on to it.
stops_behind : (standard : Standard) (at id j place : ℕ) (l ahead : List ℕ) (f : GroupFault) →
    l ≡ ahead ++ drop j l → AllLeadOn id 0 ahead → length ahead ≡ j → j ≤ most_further standard →
    place ≡ at + j → packet_at place id j (drop j l) ≡ Err f →
    0 < length l → GroupRefused standard at id l f
stops_behind standard at id j place l ahead f parts lead count few is e some =
    refused standard place id j at l ahead (drop j l) f (record { parts = parts; front_leads = lead; few = omega (arith, few, count); place_is = is ∙ ap (λ (k : ℕ). at + k) (sym count) }) count
    (omega (arith, some, ap length parts, length-append ahead (drop j l))) e

fourth : (at id : ℕ) (l : List ℕ) (z a b : PhyPacket) (h : ZeroFront id l z) → has_more z ≡ true →
    (i : Front id 0 (drop 1 l) a) → has_more a ≡ true → (j : Front id 1 (drop 2 l) b) →
    has_more b ≡ true →
    (r : Result PhyPacket GroupFault) → packet_at (at + 3) id 3 (drop 3 l) ≡ r →
    Reading Ieee1995 at id l (and_then r (λ c. single at (node27 (zero_in z) (further_in a) (further_in b) (further_in c))))
fourth at id l z a b h more i more_i j more_j (Ok c) e = reading27 at id l z a b c h more i more_i j more_j (front id 2 (drop 3 l) c (found (at + 3) id 3 (drop 3 l) c e))
fourth at id l z a b h more i more_i j more_j (Err f) e = stopped f refl
    (stops_behind Ieee1995 at id 3 (at + 3) l (h.has.quad ∷ i.has.quad ∷ j.has.quad ∷ []) f
    (three_fronts l h.has.quad i.has.quad j.has.quad h.has.front i.has.front j.has.front)
    ((z, leads id 0 l z h.has more), ((a, leads id 1 (drop 1 l) a i.has more_i), ((b, leads id 2 (drop 2 l) b j.has more_j), tt))) refl (omega arith) refl e)

third : (standard : Standard) (at id : ℕ) (l : List ℕ) (z a : PhyPacket) (h : ZeroFront id l z) →
    has_more z ≡ true → (i : Front id 0 (drop 1 l) a) → has_more a ≡ true →
    (r : Result PhyPacket GroupFault) → packet_at (at + 2) id 2 (drop 2 l) ≡ r →
    Reading standard at id l (and_then r (λ b. cond (goes_past standard (has_more b)) (behind_two at id l z a b)
    (single at (node_of_three standard (zero_in z) (further_in a) (further_in b)))))
third standard at id l z a h more i more_i (Ok b) e =
    let j = front id 1 (drop 2 l) b (found (at + 2) id 2 (drop 2 l) b e) in
    by_more standard at id l (goes_past standard (has_more b)) _ _
    (λ past. past_1995 (λ (x : Standard). Reading x at id l (behind_two at id l z a b)) standard (has_more b) past
    (λ more_j. fourth at id l z a b h more i more_i j more_j (packet_at (at + 3) id 3 (drop 3 l)) refl))
    (λ last. reading_three standard at id l z a b h more i more_i j last)
third standard at id l z a h more i more_i (Err f) e = stopped f refl
    (stops_behind standard at id 2 (at + 2) l (h.has.quad ∷ i.has.quad ∷ []) f
    (two_fronts l h.has.quad i.has.quad h.has.front i.has.front)
    ((z, leads id 0 l z h.has more), ((a, leads id 1 (drop 1 l) a i.has more_i), tt)) refl (most_two standard) refl e)

second : (standard : Standard) (at id : ℕ) (l : List ℕ) (z : PhyPacket) (h : ZeroFront id l z) →
    has_more z ≡ true → (r : Result PhyPacket GroupFault) → packet_at (at + 1) id 1 (drop 1 l) ≡ r →
    Reading standard at id l (and_then r (λ a. cond (has_more a) (behind_one standard at id l z a) (single at (node11 (zero_in z) (further_in a)))))
second standard at id l z h more (Ok a) e =
    let i = front id 0 (drop 1 l) a (found (at + 1) id 1 (drop 1 l) a e) in
    by_more standard at id l (has_more a) _ _
    (λ more_i. third standard at id l z a h more i more_i (packet_at (at + 2) id 2 (drop 2 l)) refl)
    (λ last. reading11 standard at id l z a h more i last)
second standard at id l z h more (Err f) e = stopped f refl
    (stops_behind standard at id 1 (at + 1) l (h.has.quad ∷ []) f h.has.front ((z, leads id 0 l z h.has more), tt) refl (omega (arith, most_two standard)) refl e)

first : (standard : Standard) (at id : ℕ) (l : List ℕ) (r : Result PhyPacket GroupFault) →
    packet_at at id 0 l ≡ r →
    Reading standard at id l (and_then r (λ z. cond (has_more z) (behind_zero standard at id l z) (single at (node3 (zero_in z)))))
first standard at id l (Ok z) e =
    let h = zero_front id l z (found at id 0 l z e) in
    by_more standard at id l (has_more z) _ _
    (λ more. second standard at id l z h more (packet_at (at + 1) id 1 (drop 1 l)) refl)
    (λ last. reading3 standard at id l z h last)
first standard at id l (Err f) e = stopped f refl
    (stops_behind standard at id 0 at l [] f refl tt refl (omega (arith, most_two standard)) (omega arith) e)

pub reading : (standard : Standard) (at id : ℕ) (l : List ℕ) →
    Reading standard at id l (read_at standard at id l)
unfolding read_at
reading standard at id l = first standard at id l (packet_at at id 0 l) refl
