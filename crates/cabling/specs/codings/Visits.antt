-- The nodes of a tree in the order of its walk, each with the port by which it is come to: how the
-- walk is found. No public contract cites this file.
use Rattle.std.specs.Prelude.{ℕ, ◌+◌, Bool, false, ◌==◌, if◌then◌else◌, Option, Some, None, List, [], ◌∷◌, ◌++◌}
use Rattle.topology_stack.specs.Tree.{Tree, branch, Slots, absent, unplugged, up, down}
use Rattle.cabling.specs.declared.cable.End.{End}
use Rattle.cabling.specs.declared.visits.Visit.{Visit}
use Rattle.cabling.specs.Wiring.{Wiring, ports_of}

abbrev mutual
  pub visits : Wiring → Visit → Tree → List Visit
  visits c v (branch a s) = visits_below c (ports_of c v.node) s ++ v ∷ []

  pub visits_below : Wiring → List (Option End) → Slots → List Visit
  visits_below c (Some far ∷ ports) (down t s) =
      visits c (record { node = far.node; from = Some far.port }) t ++ visits_below c ports s
  visits_below c (port ∷ ports) (absent s) = visits_below c ports s
  visits_below c (port ∷ ports) (unplugged s) = visits_below c ports s
  visits_below c (port ∷ ports) (up s) = visits_below c ports s
  visits_below c ports s = []

-- a node was come to by this port
abbrev pub is_from : Option ℕ → ℕ → Bool
is_from None p = false
is_from (Some q) p = q == p

-- the visit by one port of a node that was come to by a port or by none
abbrev pub by_port : Option ℕ → ℕ → Option End → List Visit
by_port from p None = []
by_port from p (Some far) =
    if is_from from p then [] else (record { node = far.node; from = Some far.port }) ∷ []

-- the visits by the ports from a number on
abbrev pub next_visits : Option ℕ → ℕ → List (Option End) → List Visit
next_visits from p [] = []
next_visits from p (port ∷ ports) = by_port from p port ++ next_visits from (p + 1) ports

-- the visits that follow one: those by the ports of its node
abbrev pub visits_after : Wiring → Visit → List Visit
visits_after c v = next_visits v.from 0 (ports_of c v.node)

-- the first visit
abbrev pub at_root : ℕ → Visit
at_root root = record { node = root; from = None }
