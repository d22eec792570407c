-- A quadlet shows exactly one packet: the packet of its fields.
use Rattle.std.specs.Prelude.{◌≡◌, ℕ, zero, suc, ◌+◌, ◌*◌, ◌/◌, ◌%◌, ◌^◌, ◌<◌, Bool, true, false, ◌==◌, ◌||◌, if◌then◌else◌, refl}
use Rattle.std.proofs.Common.{arith, eqb, ap, sym, ◌∙◌}
use Rattle.std.proofs.lemmas.Bool.{eqb-true, eqb-false}
use Rattle.phy_packet.specs.Layout.{bit}
use Rattle.phy_packet.specs.Packet.{quad_of, IsValid, IsQuadletOf, is_self_id}
pub use Rattle.phy_packet.specs.codings.Decoding.{config_of, link_on_of, self_zero_of, self_more_of, packet_of}
use Rattle.phy_packet.specs.declared.packet.PhyPacket.{PhyPacket}
use Rattle.phy_packet.specs.declared.packet.PhyPacket.TheVariants.{Config, LinkOn, SelfZero, SelfMore, Extended, Other}

-- ---- a packet's quadlet has its fields

pub bit_below : (b : Bool) → bit b < 2
bit_below true = omega arith
bit_below false = omega arith

eqb-bit : (b : Bool) → eqb (bit b) 1 ≡ b
eqb-bit true = refl
eqb-bit false = refl

record Config_in (q root f t gap rest : ℕ) : Type 0 where
  top : q / 2 ^ 30 ≡ 0
  root_id : q / 2 ^ 24 % 64 ≡ root
  force : q / 2 ^ 23 % 2 ≡ f
  set_gap : q / 2 ^ 22 % 2 ≡ t
  gap_count : q / 2 ^ 16 % 64 ≡ gap
  carried : q % 2 ^ 16 ≡ rest

config_in : (q root f t gap rest : ℕ) → root < 64 → f < 2 → t < 2 → gap < 64 → rest < 2 ^ 16 →
    q ≡ root * 2 ^ 24 + f * 2 ^ 23 + t * 2 ^ 22 + gap * 2 ^ 16 + rest → Config_in q root f t gap rest
config_in q root f t gap rest b0 b1 b2 b3 b4 e = record {
  top = omega arith;
  root_id = omega arith;
  force = omega arith;
  set_gap = omega arith;
  gap_count = omega arith;
  carried = omega arith;
}

record Zero_in (q id l g s d c w p0 p1 p2 i m : ℕ) : Type 0 where
  top : q / 2 ^ 30 ≡ 2
  kind : q / 2 ^ 23 % 2 ≡ 0
  phy_id : q / 2 ^ 24 % 64 ≡ id
  link : q / 2 ^ 22 % 2 ≡ l
  gap : q / 2 ^ 16 % 64 ≡ g
  speed : q / 2 ^ 14 % 4 ≡ s
  delay : q / 2 ^ 12 % 4 ≡ d
  contender : q / 2 ^ 11 % 2 ≡ c
  power : q / 2 ^ 8 % 8 ≡ w
  port0 : q / 2 ^ 6 % 4 ≡ p0
  port1 : q / 2 ^ 4 % 4 ≡ p1
  port2 : q / 2 ^ 2 % 4 ≡ p2
  initiated : q / 2 % 2 ≡ i
  more : q % 2 ≡ m

zero_in : (q id l g s d c w p0 p1 p2 i m : ℕ) → id < 64 → l < 2 → g < 64 → s < 4 → d < 4 → c < 2 →
    w < 8 → p0 < 4 → p1 < 4 → p2 < 4 → i < 2 → m < 2 →
    q ≡ 2 * 2 ^ 30 + id * 2 ^ 24 + l * 2 ^ 22 + g * 2 ^ 16 + s * 2 ^ 14 + d * 2 ^ 12 + c * 2 ^ 11 + w * 2 ^ 8 + p0 * 2 ^ 6 + p1 * 2 ^ 4 + p2 * 2 ^ 2 + i * 2 + m →
    Zero_in q id l g s d c w p0 p1 p2 i m
zero_in q id l g s d c w p0 p1 p2 i m b0 b1 b2 b3 b4 b5 b6 b7 b8 b9 b10 b11 e = record {
  top = omega arith;
  kind = omega arith;
  phy_id = omega arith;
  link = omega arith;
  gap = omega arith;
  speed = omega arith;
  delay = omega arith;
  contender = omega arith;
  power = omega arith;
  port0 = omega arith;
  port1 = omega arith;
  port2 = omega arith;
  initiated = omega arith;
  more = omega arith;
}

record More_in (q id n k f r m : ℕ) : Type 0 where
  top : q / 2 ^ 30 ≡ 2
  kind : q / 2 ^ 23 % 2 ≡ 1
  phy_id : q / 2 ^ 24 % 64 ≡ id
  number : q / 2 ^ 20 % 8 ≡ n
  kept : q / 2 ^ 18 % 4 ≡ k
  fields : q / 2 ^ 2 % 2 ^ 16 ≡ f
  last : q / 2 % 2 ≡ r
  more : q % 2 ≡ m

more_in : (q id n k f r m : ℕ) → id < 64 → n < 8 → k < 4 → f < 2 ^ 16 → r < 2 → m < 2 →
    q ≡ 2 * 2 ^ 30 + id * 2 ^ 24 + 2 ^ 23 + n * 2 ^ 20 + k * 2 ^ 18 + f * 2 ^ 2 + r * 2 + m → More_in q id n k f r m
more_in q id n k f r m b0 b1 b2 b3 b4 b5 e = record {
  top = omega arith;
  kind = omega arith;
  phy_id = omega arith;
  number = omega arith;
  kept = omega arith;
  fields = omega arith;
  last = omega arith;
  more = omega arith;
}

extended_again : (w : ℕ) → w / 2 ^ 30 ≡ 0 → w / 2 ^ 22 % 4 ≡ 0 → packet_of (w * 1 + 0) ≡ Extended w
unfolding packet_of
extended_again w top marks =
    let same : w * 1 + 0 ≡ w = omega arith in
    let force : w / 2 ^ 23 % 2 ≡ 0 = omega arith in
    let set_gap : w / 2 ^ 22 % 2 ≡ 0 = omega arith in
    rw (same, top, force, set_gap) refl

other_again : (w : ℕ) → w / 2 ^ 30 ≡ 3 → packet_of (w * 1 + 0) ≡ Other w
unfolding packet_of
other_again w top =
    let same : w * 1 + 0 ≡ w = omega arith in
    rw (same, top) refl

-- the packet of a packet's quadlet is that packet
pub packet_of-quad_of : (p : PhyPacket) → IsValid p → packet_of (quad_of p) ≡ p
unfolding packet_of
packet_of-quad_of (Config root force set_gap gap rest) v =
    let q = quad_of (Config root force set_gap gap rest) in
    let h = config_in q root (bit force) (bit set_gap) gap rest v.fit.1.0 (bit_below force) (bit_below set_gap) v.fit.1.1.1.1.0 v.fit.1.1.1.1.1.0 (omega arith) in
    rw (h.top, h.root_id, h.force, h.set_gap, h.gap_count, h.carried, eqb-bit force, eqb-bit set_gap) (grind arith)
packet_of-quad_of (LinkOn id rest) v =
    let q = quad_of (LinkOn id rest) in
    let id_fits : id < 64 = v.fit.1.0 in
    let rest_fits : rest < 2 ^ 24 = v.fit.1.1.0 in
    let top : q / 2 ^ 30 ≡ 1 = omega arith in
    let phy_id : q / 2 ^ 24 % 64 ≡ id = omega arith in
    let carried : q % 2 ^ 24 ≡ rest = omega arith in
    rw (top, phy_id, carried) refl
packet_of-quad_of (SelfZero id l g s d c w p0 p1 p2 i m) v =
    let q = quad_of (SelfZero id l g s d c w p0 p1 p2 i m) in
    let h =
    zero_in q id (bit l) g s d (bit c) w p0 p1 p2 (bit i) (bit m) v.fit.1.0 (bit_below l) v.fit.1.1.1.1.0 v.fit.1.1.1.1.1.0 v.fit.1.1.1.1.1.1.0 (bit_below c) v.fit.1.1.1.1.1.1.1.1.0 v.fit.1.1.1.1.1.1.1.1.1.0 v.fit.1.1.1.1.1.1.1.1.1.1.0 v.fit.1.1.1.1.1.1.1.1.1.1.1.0 (bit_below i) (bit_below m) (omega arith)
    in
    rw (h.top, h.kind, h.phy_id, h.link, h.gap, h.speed, h.delay, h.contender, h.power, h.port0, h.port1, h.port2, h.initiated, h.more, eqb-bit l, eqb-bit c, eqb-bit i, eqb-bit m) refl
packet_of-quad_of (SelfMore id n k f r m) v =
    let q = quad_of (SelfMore id n k f r m) in
    let h = more_in q id n k f (bit r) (bit m) v.fit.1.0 v.fit.1.1.1.0 v.fit.1.1.1.1.0 v.fit.1.1.1.1.1.0 (bit_below r) (bit_below m) (omega arith) in
    rw (h.top, h.kind, h.phy_id, h.number, h.kept, h.fields, h.last, h.more, eqb-bit r, eqb-bit m) refl
packet_of-quad_of (Extended w) v = extended_again w v.apart.0 v.apart.1
packet_of-quad_of (Other w) v = other_again w v.apart

-- ---- a self-ID quadlet shows a self-ID packet

pub bit-eqb : (x : ℕ) → x < 2 → bit (eqb x 1) ≡ x
bit-eqb zero lt = refl
bit-eqb (suc zero) lt = refl
bit-eqb (suc (suc x)) lt = omega arith

pub bit_fits : (b : Bool) → bit b < 2 ^ 1
bit_fits true = omega arith
bit_fits false = omega arith

pub shows-self_zero : (q : ℕ) → q / 2 ^ 30 ≡ 2 → q / 2 ^ 23 % 2 ≡ 0 → IsQuadletOf q (self_zero_of q)
shows-self_zero q top kind = record {
  valid = record {
    fit = (omega arith, (omega arith, (omega arith, (bit_fits _, (omega arith, (omega arith, (omega arith, (bit_fits _, (omega arith, (omega arith, (omega arith, (omega arith, (bit_fits _, (bit_fits _, tt))))))))))))));
    apart = tt;
  };
  quad_is = rw (bit-eqb (q / 2 ^ 22 % 2) (omega arith), bit-eqb (q / 2 ^ 11 % 2) (omega arith), bit-eqb (q / 2 % 2) (omega arith), bit-eqb (q % 2) (omega arith)) (omega arith);
}

pub shows-self_more : (q : ℕ) → q / 2 ^ 30 ≡ 2 → q / 2 ^ 23 % 2 ≡ 1 → IsQuadletOf q (self_more_of q)
shows-self_more q top kind = record {
  valid = record { fit = (omega arith, (omega arith, (omega arith, (omega arith, (omega arith, (omega arith, (bit_fits _, (bit_fits _, tt)))))))); apart = tt };
  quad_is = rw (bit-eqb (q / 2 % 2) (omega arith), bit-eqb (q % 2) (omega arith)) (omega arith);
}

not_self_id : (b : Bool) (q : ℕ) → is_self_id (if b then config_of q else Extended q) ≡ false
not_self_id true q = refl
not_self_id false q = refl

shows_kind : (b : Bool) (q : ℕ) → (b ≡ true → IsQuadletOf q (self_zero_of q)) →
    (b ≡ false → IsQuadletOf q (self_more_of q)) →
    IsQuadletOf q (if b then self_zero_of q else self_more_of q)
shows_kind true q f g = f refl
shows_kind false q f g = g refl

-- by the tests of the top two bits
by_top : (a b c : Bool) (q : ℕ) (x y : PhyPacket) → is_self_id x ≡ false →
    (c ≡ true → IsQuadletOf q y) →
    is_self_id (if a then x else (if b then link_on_of q else (if c then y else Other q))) ≡ true →
    IsQuadletOf q (if a then x else (if b then link_on_of q else (if c then y else Other q)))
by_top true b c q x y other go is = absurd cc
by_top false true c q x y other go is = absurd cc
by_top false false true q x y other go is = go refl
by_top false false false q x y other go is = absurd cc

-- a quadlet whose packet is a self-ID packet shows that packet
pub shows-self_id : (q : ℕ) → is_self_id (packet_of q) ≡ true → IsQuadletOf q (packet_of q)
unfolding packet_of
shows-self_id q is =
    by_top _ _ _ q _ _ (not_self_id ((q / 2 ^ 23 % 2 == 1) || (q / 2 ^ 22 % 2 == 1)) q) (λ top.
    shows_kind (q / 2 ^ 23 % 2 == 0) q
    (λ kind. shows-self_zero q (eqb-true _ _ top) (eqb-true _ _ kind))
    (λ kind. shows-self_more q (eqb-true _ _ top) (let ne : q / 2 ^ 23 % 2 ≡ 0 → ⊥ = eqb-false _ _ kind in omega arith))) is

-- a quadlet shows no other packet
pub packet-shown : (q : ℕ) (p : PhyPacket) → IsQuadletOf q p → packet_of q ≡ p
packet-shown q p s = ap packet_of (sym s.quad_is) ∙ packet_of-quad_of p s.valid
