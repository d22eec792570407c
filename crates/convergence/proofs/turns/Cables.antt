-- The two ends of a cable are there.
use Rattle.std.proofs.Common.{◌≡◌, List, Some}
use Rattle.convergence.proofs.Common.{End, far, CableWorld, PlacedHold, with_holds, AreJoined}
use Rattle.cable_world.specs.Lawful.{IsWellFormed}
use Rattle.cable_world.proofs.Lemmas.{CableEnd, cable-end}

pub joined-of :
    (w : CableWorld) (a b : End) → IsWellFormed w → far w.cabling a ≡ Some b → AreJoined w a b
joined-of w a b f e =
    let near : CableEnd w a = cable-end w a b f e in
    let other : CableEnd w b = cable-end w b a f (f.cabling.both_ways a b e) in
    record {
      joined = e;
      near = near.node;
      near_at = near.node_at;
      other = other.node;
      other_at = other.node_at;
    }

-- holds leave them as they are
abbrev pub joined-held :
    (holds : List PlacedHold) (w : CableWorld) (a b : End) → AreJoined w a b →
    AreJoined (with_holds holds w) a b
joined-held holds w a b e = record {
  joined = e.joined;
  near = e.near;
  near_at = e.near_at;
  other = e.other;
  other_at = e.other_at;
}
