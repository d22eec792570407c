-- A packet that is taken in two steps is taken.
use Rattle.std.proofs.Common.{◌≡◌, ℕ, Bool, true, false, cond, List, drop, Result, Ok, Err, refl, ◌<◌, ◌≤◌, length, get_or, drop-cons}
use Rattle.std.proofs.Math.ListN.{drop_of_length-le}
use Rattle.phy_packet.proofs.Lemmas.{packet_of}
use Rattle.phy_packet.specs.declared.packet.PhyPacket.{PhyPacket}
use Rattle.self_id.specs.declared.fault.GroupFault.{GroupFault}
use Rattle.self_id.specs.declared.fault.GroupFault.TheVariants.{Cut}
use Rattle.self_id.specs.codings.Reading.{owned, owned_at, and_then}

-- a part that was taken from a packet, or the packet's fault
pub data TakenAs {A : Type 0} (r : Result PhyPacket GroupFault) (part : PhyPacket → A) (a : Result A GroupFault) : Type 0 where
  whole : (p : PhyPacket) → r ≡ Ok p → a ≡ Ok (part p) → TakenAs r part a
  fault : (f : GroupFault) → r ≡ Err f → a ≡ Err f → TakenAs r part a

last_test : {A : Type 0} (v : Bool) (d : PhyPacket → Bool) (p : PhyPacket) (f : GroupFault) (part : PhyPacket → A) →
    d p ≡ v → TakenAs (cond (d p) (Ok p) (Err f)) part (cond (d p) (Ok (part p)) (Err f))
last_test true d p f part e = whole p (rw e refl) (rw e refl)
last_test false d p f part e = fault f (rw e refl) (rw e refl)

pub tests : {A : Type 0} (b c : Bool) (d : PhyPacket → Bool) (p : PhyPacket) (f g h : GroupFault) (part : PhyPacket → A) →
    TakenAs (cond b (cond c (cond (d p) (Ok p) (Err f)) (Err g)) (Err h)) part (and_then (cond b (cond c (Ok p) (Err g)) (Err h)) (λ x. cond (d x) (Ok (part x)) (Err f)))
tests true true d p f g h part = last_test (d p) d p f part refl
tests true false d p f g h part = fault g refl refl
tests false c d p f g h part = fault h refl refl

-- a packet at a place of a list
pub owned_here : (l : List ℕ) (at id q : ℕ) → at < length l → get_or l at 0 ≡ q →
    owned_at at id (drop at l) ≡ owned at id (packet_of q)
unfolding owned_at
owned_here l at id q lt is = rw (drop-cons l at 0, is) refl

pub owned_end : (l : List ℕ) (at id : ℕ) → length l ≤ at → owned_at at id (drop at l) ≡ Err (Cut at)
unfolding owned_at
owned_end l at id le = rw (drop_of_length-le l le) refl
