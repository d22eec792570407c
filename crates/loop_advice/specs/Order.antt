-- The order of cables.
use Rattle.std.specs.Prelude.{◌≡◌, ◌⊎◌, ◌<◌, List, [], ◌∷◌}
use Rattle.cabling.specs.declared.cable.End.{End}
use Rattle.cabling.specs.declared.cable.Cable.{Cable}
use Rattle.cabling.specs.Wiring.{Wiring}
use Rattle.cabling.specs.NodeSet.{Nodes}
use Rattle.loop_advice.specs.Cables.{HoldsEachOnce}

-- ends stand in the order of their nodes, and those of a node in the order of their ports
abbrev pub ComesBefore : End → End → Type 0
ComesBefore a b = (a.node < b.node) ⊎ ((a.node ≡ b.node) × (a.port < b.port))

-- the end comes before the first end of each cable
abbrev pub ComesBeforeAll : End → List Cable → Type 0
ComesBeforeAll end [] = Unit {0}
ComesBeforeAll end (x ∷ xs) = ComesBefore end x.a × ComesBeforeAll end xs

-- each cable has its end at the lower node first, and these ends rise
abbrev pub AreRising : List Cable → Type 0
AreRising [] = Unit {0}
AreRising (x ∷ xs) = (x.a.node < x.b.node) × ComesBeforeAll x.a xs × AreRising xs

-- the cables of a set of nodes, each once, in the order of their lower ends
pub record AreInOrder (c : Wiring) (set : Nodes) (cables : List Cable) : Type 0 where
  pub each : HoldsEachOnce c set cables
  pub rising : AreRising cables
