-- The quadlet of a packet that stands at a place.
use Rattle.std.proofs.Common.{◌≡◌, ℕ, zero, suc, ◌<◌, Bool, true, false, cond, List, [], ◌∷◌, length, drop, get_or, Result, Ok, Err, refl, arith}
use Rattle.phy_packet.proofs.Lemmas.{packet_of}
use Rattle.phy_packet.specs.declared.packet.PhyPacket.{PhyPacket}
use Rattle.phy_packet.specs.declared.packet.PhyPacket.TheVariants.{Config, LinkOn, SelfZero, SelfMore, Extended, Other}
use Rattle.self_id.specs.declared.fault.GroupFault.{GroupFault}
use Rattle.self_id.specs.Refused.{is_in_order}
use Rattle.self_id.specs.codings.Reading.{owned_at}

abbrev ok_packet : PhyPacket → Result PhyPacket GroupFault
ok_packet p = Ok p

same_packet : (a b : Bool) (x p : PhyPacket) (f g : GroupFault) →
    ok_packet p ≡ cond a (cond b (Ok x) (Err f)) (Err g) → x ≡ p
same_packet true true x p f g e = cc
same_packet true false x p f g e = absurd cc
same_packet false b x p f g e = absurd cc

-- a self-ID packet of a node stands at a place within the list, and the quadlet there shows it
pub record Here (k : ℕ) (q : List ℕ) (p : PhyPacket) : Type 0 where
  pub inside : k < length q
  pub packet : packet_of (get_or q k 0) ≡ p

pub here : (at id k : ℕ) (q : List ℕ) (p : PhyPacket) → Ok p ≡ owned_at at id (drop k q) →
    Here k q p
unfolding owned_at
here at id zero [] p e = absurd cc
here at id (suc k) [] p e = absurd cc
here at id zero (x ∷ xs) p e = record { inside = omega arith; packet = same_packet _ _ (packet_of x) p _ _ e }
here at id (suc k) (x ∷ xs) p e = let h = here at id k xs p e in record { inside = omega (arith, h.inside); packet = h.packet }

-- a packet in its place is of its kind
pub zero_or_not : (p : PhyPacket) → is_in_order 0 p ≡ true →
    ((id : ℕ) (link : Bool) (gap speed delay : ℕ) (contender : Bool) (power p0 p1 p2 : ℕ) (initiated more : Bool) → p ≡ SelfZero id link gap speed delay contender power p0 p1 p2 initiated more → ⊥) → ⊥
zero_or_not (SelfZero id link gap speed delay contender power p0 p1 p2 initiated more) order not = not id link gap speed delay contender power p0 p1 p2 initiated more refl
zero_or_not (SelfMore id n kept fields r more) order not = cc
zero_or_not (Config root force set_gap gap rest) order not = cc
zero_or_not (LinkOn id rest) order not = cc
zero_or_not (Extended word) order not = cc
zero_or_not (Other word) order not = cc

pub further_or_not : (p : PhyPacket) (j : ℕ) → is_in_order (suc j) p ≡ true →
    ((id n kept fields : ℕ) (r more : Bool) → p ≡ SelfMore id n kept fields r more → ⊥) → ⊥
further_or_not (SelfMore id n kept fields r more) j order not = not id n kept fields r more refl
further_or_not (SelfZero id link gap speed delay contender power p0 p1 p2 initiated more) j order not = cc
further_or_not (Config root force set_gap gap rest) j order not = cc
further_or_not (LinkOn id rest) j order not = cc
further_or_not (Extended word) j order not = cc
further_or_not (Other word) j order not = cc

-- what a quadlet shows was read
pub shown : {A : Type 0} (x y : A) (r : Result A GroupFault) → x ≡ y → Ok y ≡ r → Ok x ≡ r
shown x y r e ok = rw e ok
