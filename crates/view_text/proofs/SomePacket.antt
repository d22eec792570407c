-- Each quadlet shows a packet.
use Rattle.std.proofs.Common.{◌≡◌, ◌<◌, ◌^◌, ◌/◌, ◌%◌, ◌==◌, ◌||◌, ℕ, Bool, true, false, refl, eqb-true, arith}
use Rattle.std.specs.Prelude.{IsTrue, if◌then◌else◌}
use Rattle.std.proofs.lemmas.Bool.{eqb-false}
use Rattle.phy_packet.specs.Packet.{IsQuadletOf}
use Rattle.phy_packet.specs.declared.packet.PhyPacket.{PhyPacket}
use Rattle.phy_packet.specs.declared.packet.PhyPacket.TheVariants.{Extended, Other}
use Rattle.phy_packet.proofs.Lemmas.{config_of, link_on_of, self_zero_of, self_more_of, bit-eqb, bit_fits, shows-self_zero, shows-self_more}

shows-config : (q : ℕ) → q / 2 ^ 30 ≡ 0 → IsTrue ((q / 2 ^ 23 % 2 == 1) || (q / 2 ^ 22 % 2 == 1)) →
    IsQuadletOf q (config_of q)
shows-config q top some = record {
  valid = record { fit = (omega arith, (omega arith, (bit_fits _, (bit_fits _, (omega arith, (omega arith, tt)))))); apart = some };
  quad_is = rw (bit-eqb (q / 2 ^ 23 % 2) (omega arith), bit-eqb (q / 2 ^ 22 % 2) (omega arith)) (omega arith);
}

shows-extended : (q : ℕ) → q / 2 ^ 30 ≡ 0 → q / 2 ^ 23 % 2 ≡ 0 → q / 2 ^ 22 % 2 ≡ 0 → q < 2 ^ 32 →
    IsQuadletOf q (Extended q)
shows-extended q top high low fits = record {
  valid = record { fit = (omega arith, tt); apart = (top, omega arith) };
  quad_is = omega arith;
}

shows-link_on : (q : ℕ) → q / 2 ^ 30 ≡ 1 → IsQuadletOf q (link_on_of q)
shows-link_on q top = record {
  valid = record { fit = (omega arith, (omega arith, (omega arith, tt))); apart = tt };
  quad_is = omega arith;
}

shows-other : (q : ℕ) → q / 2 ^ 30 ≡ 3 → q < 2 ^ 32 → IsQuadletOf q (Other q)
shows-other q top fits = record { valid = record { fit = (omega arith, tt); apart = top }; quad_is = omega arith }

-- ---- by the tests

some-zero : (q : ℕ) → q / 2 ^ 30 ≡ 0 → q < 2 ^ 32 → (a b : Bool) → (q / 2 ^ 23 % 2 == 1) ≡ a →
    (q / 2 ^ 22 % 2 == 1) ≡ b →
    IsQuadletOf q (if a || b then config_of q else Extended q)
some-zero q top fits true b h l = shows-config q top (rw h refl)
some-zero q top fits false true h l = shows-config q top (rw (h, l) refl)
some-zero q top fits false false h l =
    let high : q / 2 ^ 23 % 2 ≡ 1 → ⊥ = eqb-false _ _ h in
    let low : q / 2 ^ 22 % 2 ≡ 1 → ⊥ = eqb-false _ _ l in
    shows-extended q top (omega arith) (omega arith) fits

some-self : (q : ℕ) → q / 2 ^ 30 ≡ 2 → (a : Bool) → (q / 2 ^ 23 % 2 == 0) ≡ a →
    IsQuadletOf q (if a then self_zero_of q else self_more_of q)
some-self q top true h = shows-self_zero q top (eqb-true _ _ h)
some-self q top false h = let ne : q / 2 ^ 23 % 2 ≡ 0 → ⊥ = eqb-false _ _ h in shows-self_more q top (omega arith)

some-top :
    (q : ℕ) → q < 2 ^ 32 → (a b c : Bool) → (q / 2 ^ 30 == 0) ≡ a → (q / 2 ^ 30 == 1) ≡ b → (q / 2 ^ 30 == 2) ≡ c →
    IsQuadletOf q (if a then (if (q / 2 ^ 23 % 2 == 1) || (q / 2 ^ 22 % 2 == 1) then config_of q else Extended q)
    else (if b then link_on_of q else (if c then (if q / 2 ^ 23 % 2 == 0 then self_zero_of q else self_more_of q) else Other q)))
some-top q fits true b c x y z = some-zero q (eqb-true _ _ x) fits (q / 2 ^ 23 % 2 == 1) (q / 2 ^ 22 % 2 == 1) refl refl
some-top q fits false true c x y z = shows-link_on q (eqb-true _ _ y)
some-top q fits false false true x y z = some-self q (eqb-true _ _ z) (q / 2 ^ 23 % 2 == 0) refl
some-top q fits false false false x y z =
    let a : q / 2 ^ 30 ≡ 0 → ⊥ = eqb-false _ _ x in
    let b : q / 2 ^ 30 ≡ 1 → ⊥ = eqb-false _ _ y in
    let c : q / 2 ^ 30 ≡ 2 → ⊥ = eqb-false _ _ z in
    shows-other q (omega arith) fits

-- the packet that a quadlet shows
abbrev packet_by : ℕ → PhyPacket
packet_by q =
    if q / 2 ^ 30 == 0 then (if (q / 2 ^ 23 % 2 == 1) || (q / 2 ^ 22 % 2 == 1) then config_of q else Extended q)
    else (if q / 2 ^ 30 == 1 then link_on_of q
    else (if q / 2 ^ 30 == 2 then (if q / 2 ^ 23 % 2 == 0 then self_zero_of q else self_more_of q) else Other q))

pub some-packet : (q : ℕ) → q < 2 ^ 32 → (p : PhyPacket) × IsQuadletOf q p
some-packet q fits = (packet_by q, some-top q fits (q / 2 ^ 30 == 0) (q / 2 ^ 30 == 1) (q / 2 ^ 30 == 2) refl refl refl)
