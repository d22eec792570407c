-- What plugging and pulling do, and when they are refused.
use Rattle.std.specs.Prelude.{◌≡◌, ◌≢◌, ◌==◌, Bool, not, Option, Some, None, length, map, is_some, nat_lt, if◌then◌else◌}
use Rattle.cabling.specs.declared.cable.End.{End}
use Rattle.cabling.specs.declared.cable.CableFault.{CableFault}
use Rattle.cabling.specs.declared.cable.CableFault.TheVariants.{NoNode, NoPort, InUse, SameNode, NotPlugged}
use Rattle.cabling.specs.Wiring.{Wiring, ports_of, far}

-- the ports are the same, and at each other end there is what there was
pub record SameBut (old new : Wiring) (a b : End) : Type 0 where
  pub ports : map length new ≡ map length old
  pub others : (end : End) → end ≢ a → end ≢ b → far new end ≡ far old end

-- the cable from `a` to `b`, and nothing else, was added
pub record Added (old new : Wiring) (a b : End) : Type 0 where
  pub free_a : far old a ≡ None
  pub free_b : far old b ≡ None
  pub joined : far new a ≡ Some b
  pub back : far new b ≡ Some a
  pub others : SameBut old new a b

-- the cable from `a` to `b`, and nothing else, was taken out
pub record TakenOut (old new : Wiring) (a b : End) : Type 0 where
  pub joined : far old a ≡ Some b
  pub free_a : far new a ≡ None
  pub free_b : far new b ≡ None
  pub others : SameBut old new a b

abbrev pub has_node : Wiring → End → Bool
has_node c end = nat_lt end.node (length c)

abbrev pub has_port : Wiring → End → Bool
has_port c end = nat_lt end.port (length (ports_of c end.node))

abbrev pub is_plugged : Wiring → End → Bool
is_plugged c end = is_some (far c end)

-- why no cable can be plugged into these two ends: the first reason that applies
abbrev pub plug_fault : Wiring → End → End → Option CableFault
plug_fault c a b =
    if not (has_node c a) then Some (NoNode a)
    else (if not (has_node c b) then Some (NoNode b)
    else (if not (has_port c a) then Some (NoPort a)
    else (if not (has_port c b) then Some (NoPort b)
    else (if is_plugged c a then Some (InUse a)
    else (if is_plugged c b then Some (InUse b)
    else (if a.node == b.node then Some (SameNode a.node)
    else None))))))

-- why no cable can be pulled out of this end
abbrev pub pull_fault : Wiring → End → Option CableFault
pull_fault c end =
    if not (has_node c end) then Some (NoNode end)
    else (if not (has_port c end) then Some (NoPort end)
    else (if is_plugged c end then None
    else Some (NotPlugged end)))
