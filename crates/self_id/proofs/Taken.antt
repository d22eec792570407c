-- One packet of a group: taken, or refused with its first fault.
use Rattle.std.proofs.Common.{◌≡◌, ◌≢◌, ℕ, suc, ◌+◌, ◌^◌, ◌<◌, Bool, true, false, cond, eqb, List, [], ◌∷◌, length, drop, Result, Ok, Err, refl, sym, ap, subst, ◌∙◌, arith, eq-eqb}
use Rattle.std.proofs.lemmas.Bool.{eqb-true, eqb-false}
use Rattle.phy_packet.specs.Packet.{IsQuadletOf, IsValid, is_self_id, owner, has_more}
use Rattle.phy_packet.proofs.Lemmas.{packet_of, packet-shown, shows-self_id}
use Rattle.phy_packet.specs.declared.packet.PhyPacket.{PhyPacket}
use Rattle.phy_packet.specs.declared.packet.PhyPacket.TheVariants.{Config, LinkOn, SelfZero, SelfMore, Extended, Other}
use Rattle.self_id.specs.declared.fault.GroupFault.{GroupFault}
use Rattle.self_id.specs.declared.fault.GroupFault.TheVariants.{NotSelfId, WrongId, BadOrder, Cut}
use Rattle.self_id.specs.declared.packets.ZeroPart.{ZeroPart}
use Rattle.self_id.specs.declared.packets.FurtherPart.{FurtherPart}
use Rattle.self_id.specs.declared.standard.Standard.{Standard}
use Rattle.self_id.specs.Node.{FitBits, status_bits}
use Rattle.self_id.specs.Refused.{is_in_order, LeadsTo, GroupRefused}
use Rattle.self_id.specs.codings.Reading.{taken, packet_at, zero_in, further_in}
use Rattle.self_id.proofs.Fields.{status_bits-status_of}
use Rattle.self_id.proofs.Results.{same_read}

-- packet number j of the ID's group is at the front of a list
pub record Found (id j : ℕ) (l : List ℕ) (p : PhyPacket) : Type 0 where
  pub quad : ℕ
  pub front : l ≡ quad ∷ drop 1 l
  pub shows : IsQuadletOf quad p
  pub self : is_self_id p ≡ true
  pub own : owner p ≡ id
  pub order : is_in_order j p ≡ true

if_ok : {C : Type 0} (b : Bool) (x : Result PhyPacket GroupFault) (f : GroupFault) (p : PhyPacket) →
    cond b x (Err f) ≡ Ok p → (b ≡ true → x ≡ Ok p → C) → C
if_ok true x f p e go = go refl e
if_ok false x f p e go = absurd cc

if_err : {C : Type 0} (b : Bool) (x : Result PhyPacket GroupFault) (f g : GroupFault) →
    cond b x (Err f) ≡ Err g → (b ≡ true → x ≡ Err g → C) → (b ≡ false → f ≡ g → C) → C
if_err true x f g e t u = t refl e
if_err false x f g e t u = u refl cc

pub found : (at id j : ℕ) (l : List ℕ) (p : PhyPacket) → packet_at at id j l ≡ Ok p → Found id j l p
unfolding packet_at
found at id j [] p e = absurd cc
found at id j (q ∷ qs) p e =
    let x = packet_of q in
    if_ok (is_self_id x) _ _ p e (λ self e1. if_ok (eqb (owner x) id) _ _ p e1 (λ own e2. if_ok (is_in_order j x) _ _ p e2 (λ order e3.
    subst (λ (y : PhyPacket). Found id j (q ∷ qs) y) (same_read x p e3)
    (record { quad = q; front = refl; shows = shows-self_id q self; self = self; own = eqb-true _ _ own; order = order }))))

-- a packet that is in its place is taken
pub takes : (at id j q : ℕ) (qs : List ℕ) (p : PhyPacket) → IsQuadletOf q p → is_self_id p ≡ true →
    owner p ≡ id → is_in_order j p ≡ true → packet_at at id j (q ∷ qs) ≡ Ok p
unfolding packet_at
takes at id j q qs p shows self own order = rw (packet-shown q p shows, self, eq-eqb _ _ own, order) refl

-- ---- refusals

refused_packet : (standard : Standard) (at id j : ℕ) (start : ℕ) (l front : List ℕ) (q : ℕ) (qs : List ℕ) (f : GroupFault) →
    LeadsTo standard id start l front (q ∷ qs) at → length front ≡ j →
    taken at id j (packet_of q) ≡ Err f → GroupRefused standard start id l f
refused_packet standard at id j start l front q qs f leads count e =
    let x = packet_of q in
    let P : GroupFault → Type 0 = λ (g : GroupFault). GroupRefused standard start id l g in
    if_err (is_self_id x) _ (NotSelfId at) f e
    (λ self e1. if_err (eqb (owner x) id) _ (WrongId at (owner x) id) f e1
    (λ own e2. if_err (is_in_order j x) (Ok x) (BadOrder at) f e2
    (λ order e3. absurd cc)
    (λ order same. subst P same (front, qs, q, x, leads, shows-self_id q self, self, eqb-true _ _ own, ap (λ (k : ℕ). is_in_order k x) count ∙ order)))
    (λ own same. subst P same (front, qs, q, x, leads, shows-self_id q self, self, refl, refl, eqb-false _ _ own)))
    (λ self same. subst P same (front, qs, q, leads, λ p shows. ap is_self_id (sym (packet-shown q p shows)) ∙ self))

-- what a list that leads to here is refused for
pub refused : (standard : Standard) (at id j : ℕ) (start : ℕ) (l front rest : List ℕ) (f : GroupFault) →
    LeadsTo standard id start l front rest at → length front ≡ j →
    (0 < length front + length rest) →
    packet_at at id j rest ≡ Err f → GroupRefused standard start id l f
unfolding packet_at
refused standard at id j start l front [] f leads count some e =
    let same : Cut at ≡ f = cc in
    subst (λ (g : GroupFault). GroupRefused standard start id l g) same (front, leads, omega arith)
refused standard at id j start l front (q ∷ qs) f leads count some e = refused_packet standard at id j start l front q qs f leads count e

-- and a packet is refused so
pub refuses_end : (at id j : ℕ) → packet_at at id j [] ≡ Err (Cut at)
unfolding packet_at
refuses_end at id j = refl

refuses_other' : (at id j : ℕ) (x : PhyPacket) → is_self_id x ≡ false →
    taken at id j x ≡ Err (NotSelfId at)
refuses_other' at id j x e = rw e refl

pub refuses_other : (at id j q : ℕ) (qs : List ℕ) →
    ((p : PhyPacket) → IsQuadletOf q p → is_self_id p ≡ false) →
    packet_at at id j (q ∷ qs) ≡ Err (NotSelfId at)
unfolding packet_at
refuses_other at id j q qs not_self =
    let go : (b : Bool) → is_self_id (packet_of q) ≡ b → is_self_id (packet_of q) ≡ false =
    λ b e. elim b as (λ (v : Bool). is_self_id (packet_of q) ≡ v → is_self_id (packet_of q) ≡ false) [
      | true ↦ λ is. not_self (packet_of q) (shows-self_id q is)
      | false ↦ λ is. is
    ] e in
    refuses_other' at id j (packet_of q) (go (is_self_id (packet_of q)) refl)

not_eqb : (a b : ℕ) → a ≢ b → eqb a b ≡ false
not_eqb a b ne = elim (eqb a b) as (λ (v : Bool). eqb a b ≡ v → v ≡ false) [ true ↦ λ e. absurd (ne (eqb-true a b e)) | false ↦ λ e. refl ] refl

pub refuses_owner : (at id j q : ℕ) (qs : List ℕ) (p : PhyPacket) → IsQuadletOf q p →
    is_self_id p ≡ true → owner p ≢ id → packet_at at id j (q ∷ qs) ≡ Err (WrongId at (owner p) id)
unfolding packet_at
refuses_owner at id j q qs p shows self ne = rw (packet-shown q p shows, self, not_eqb (owner p) id ne) refl

pub refuses_order : (at id j q : ℕ) (qs : List ℕ) (p : PhyPacket) → IsQuadletOf q p →
    is_self_id p ≡ true → owner p ≡ id → is_in_order j p ≡ false →
    packet_at at id j (q ∷ qs) ≡ Err (BadOrder at)
unfolding packet_at
refuses_order at id j q qs p shows self own order = rw (packet-shown q p shows, self, eq-eqb _ _ own, order) refl

-- ---- what a packet says

-- packet zero, and a further packet with its number
abbrev pub zero_of : ℕ → ZeroPart → PhyPacket
zero_of id z =
    SelfZero id z.attrs.link z.attrs.gap z.attrs.speed z.attrs.delay z.attrs.contender z.attrs.power
    (status_bits z.p0) (status_bits z.p1) (status_bits z.p2) z.attrs.initiated z.more

abbrev pub further_of : ℕ → ℕ → FurtherPart → PhyPacket
further_of id n a = SelfMore id n a.kept a.fields a.r a.more

pub record ZeroSaid (id : ℕ) (p : PhyPacket) (z : ZeroPart) : Type 0 where
  pub fit : FitBits z.attrs
  pub packet : p ≡ zero_of id z
  pub more : has_more p ≡ z.more

pub zero_said : (p : PhyPacket) (id : ℕ) → IsValid p → owner p ≡ id → is_in_order 0 p ≡ true →
    ZeroSaid id p (zero_in p)
zero_said (SelfZero i l g s d c w p0 p1 p2 n m) id v own order = record {
  fit = record { gap = v.fit.1.1.1.1.0; speed = v.fit.1.1.1.1.1.0; delay = v.fit.1.1.1.1.1.1.0; power = v.fit.1.1.1.1.1.1.1.1.0 };
  packet = rw (status_bits-status_of p0 v.fit.1.1.1.1.1.1.1.1.1.0, status_bits-status_of p1 v.fit.1.1.1.1.1.1.1.1.1.1.0, status_bits-status_of p2 v.fit.1.1.1.1.1.1.1.1.1.1.1.0)
      (ap (λ (k : ℕ). SelfZero k l g s d c w p0 p1 p2 n m) own);
  more = refl;
}
zero_said (SelfMore i k kept fields r m) id v own order = absurd cc
zero_said (Config root force set_gap gap rest) id v own order = absurd cc
zero_said (LinkOn i rest) id v own order = absurd cc
zero_said (Extended w) id v own order = absurd cc
zero_said (Other w) id v own order = absurd cc

pub record FurtherSaid (id n : ℕ) (p : PhyPacket) (a : FurtherPart) : Type 0 where
  pub kept : a.kept < 4
  pub fields : a.fields < 2 ^ 16
  pub packet : p ≡ further_of id n a
  pub more : has_more p ≡ a.more

pub further_said : (p : PhyPacket) (id n : ℕ) → IsValid p → owner p ≡ id →
    is_in_order (suc n) p ≡ true → FurtherSaid id n p (further_in p)
further_said (SelfMore i k kept fields r m) id n v own order = record {
  kept = v.fit.1.1.1.1.0;
  fields = v.fit.1.1.1.1.1.0;
  packet = ap (λ (j : ℕ). SelfMore j k kept fields r m) own ∙ ap (λ (j : ℕ). SelfMore id j kept fields r m) (eqb-true k n order);
  more = refl;
}
further_said (SelfZero i l g s d c w p0 p1 p2 k m) id n v own order = absurd cc
further_said (Config root force set_gap gap rest) id n v own order = absurd cc
further_said (LinkOn i rest) id n v own order = absurd cc
further_said (Extended w) id n v own order = absurd cc
further_said (Other w) id n v own order = absurd cc
