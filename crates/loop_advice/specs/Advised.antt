-- Which cables are advised for pulling.
use Rattle.std.specs.Prelude.{◌≡◌, ◌↔◌, ◌<◌, Bool, List, ◌++◌}
use Rattle.cabling.specs.declared.cable.Cable.{Cable}
use Rattle.cabling.specs.Wiring.{Wiring, NodeNumber}
use Rattle.cabling.specs.NodeSet.{Nodes}
use Rattle.loop_advice.specs.Cables.{Lists, IsCableOf, HoldsEachOnce}
use Rattle.loop_advice.specs.Order.{ComesBefore, AreRising}

-- a cable of the set, its end at the lower node first
pub record IsLowFirst (c : Wiring) (set : Nodes) (x : Cable) : Type 0 where
  pub of_set : IsCableOf c set x
  pub low : x.a.node < x.b.node

-- none of the set's cables before this one leads out of the set of nodes that pass the test
abbrev pub NoneBeforeLeadsOut : Wiring → Nodes → Cable → (NodeNumber → Bool) → Type 0
NoneBeforeLeadsOut c set x test =
    (y : Cable) → IsLowFirst c set y → ComesBefore y.a x.a → test y.a.node ≡ test y.b.node

-- A path of cables that all stand before this one joins its two nodes: every set out of which none
-- of them leads has both nodes or neither.
abbrev pub IsAdvised : Wiring → Nodes → Cable → Type 0
IsAdvised c set x =
    (test : NodeNumber → Bool) → NoneBeforeLeadsOut c set x test → test x.a.node ≡ test x.b.node

-- The pulls are the advised cables of the set and the kept ones the others, each once, in the order
-- of their lower ends.
pub record AreAdvised (c : Wiring) (set : Nodes) (pulls kept : List Cable) : Type 0 where
  pub each : HoldsEachOnce c set (pulls ++ kept)
  pub pulls_rise : AreRising pulls
  pub kept_rise : AreRising kept
  pub pulled : (x : Cable) → IsLowFirst c set x → Lists pulls x ↔ IsAdvised c set x
  pub left : (x : Cable) → IsLowFirst c set x → Lists kept x ↔ (IsAdvised c set x → ⊥)
