-- What plugging and pulling do to the cables.
use Rattle.std.proofs.Common.{◌≡◌, ◌≢◌, Some, None}
use Rattle.cabling.specs.declared.cable.End.{End}
use Rattle.cabling.specs.Wiring.{Wiring, IsCabling, HasEnd, far}
use Rattle.cabling.specs.Change.{SameBut, Added, TakenOut, plug_fault}
use Rattle.cabling.proofs.Lemmas.{one_other, none_some, added_by_writes, taken_by_writes, plugged as has-end, Pluggable, pluggable, other_there}
use Rattle.cable_world.specs.World.{put}

-- A cable is put at two ends, or taken there, and both nodes reset the bus. No other cable has one
-- of these ends, and this one isn't there both before and afterwards.
pub record Cabled (old c : Wiring) (a b : End) : Type 0 where
  pub has_a : HasEnd old a
  pub has_b : HasEnd old b
  pub apart : a.node ≢ b.node
  pub others : SameBut old c a b
  pub from_a : (z : End) → far c a ≡ Some z → z ≡ b
  pub from_b : (z : End) → far c b ≡ Some z → z ≡ a
  pub once_a : (z : End) → far old a ≡ Some z → far c a ≡ Some z → ⊥
  pub once_b : (z : End) → far old b ≡ Some z → far c b ≡ Some z → ⊥

abbrev pub with_cable : End → End → Wiring → Wiring
with_cable a b c = put b (Some a) (put a (Some b) c)

abbrev pub without_cable : End → End → Wiring → Wiring
without_cable a b c = put b None (put a None c)

pub plug-cabled :
    (a b : End) (c : Wiring) → plug_fault c a b ≡ None → Cabled c (with_cable a b c) a b
plug-cabled a b c none =
    let may : Pluggable c a b = pluggable c a b none in
    let new : Wiring = with_cable a b c in
    let added : Added c new a b = added_by_writes c a b may.has_a may.has_b may.free_a may.free_b may.apart in
    record {
      has_a = may.has_a;
      has_b = may.has_b;
      apart = may.apart;
      others = added.others;
      from_a = λ z e. one_other (far new a) z b e added.joined;
      from_b = λ z e. one_other (far new b) z a e added.back;
      once_a = λ z e h. none_some (far c a) z may.free_a e;
      once_b = λ z e h. none_some (far c b) z may.free_b e;
    }

pub pull-cabled :
    (a b : End) (c : Wiring) → IsCabling c → far c a ≡ Some b → Cabled c (without_cable a b c) a b
pull-cabled a b c is at =
    let new : Wiring = without_cable a b c in
    let taken : TakenOut c new a b = taken_by_writes c a b is at in
    record {
      has_a = has-end c a b at;
      has_b = other_there c a b is at;
      apart = is.two_nodes a b at;
      others = taken.others;
      from_a = λ z e. absurd (none_some (far new a) z taken.free_a e);
      from_b = λ z e. absurd (none_some (far new b) z taken.free_b e);
      once_a = λ z h e. none_some (far new a) z taken.free_a e;
      once_b = λ z h e. none_some (far new b) z taken.free_b e;
    }
