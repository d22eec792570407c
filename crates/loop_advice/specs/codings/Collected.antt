-- The cables of a set of nodes, as far as they were looked for.
use Rattle.std.specs.Prelude.{◌≡◌, ℕ, ◌<◌, Some, List, [], ◌∷◌}
use Rattle.cabling.specs.declared.cable.End.{End}
use Rattle.cabling.specs.declared.cable.Cable.{Cable}
use Rattle.cabling.specs.Wiring.{Wiring, far}
use Rattle.cabling.specs.NodeSet.{Nodes, Holds}
use Rattle.loop_advice.specs.Cables.{Lists, IsCableOf}
use Rattle.loop_advice.specs.Order.{ComesBefore, AreRising}

-- the first end of each cable comes before this end
abbrev pub AllComeBefore : List Cable → End → Type 0
AllComeBefore [] end = Unit {0}
AllComeBefore (x ∷ xs) end = ComesBefore x.a end × AllComeBefore xs end

-- the cables of the set with their lower ends before this place
pub record Collected (c : Wiring) (set : Nodes) (node port : ℕ) (cables : List Cable) : Type 0 where
  pub rising : AreRising cables
  pub before : AllComeBefore cables (record { node = node; port = port })
  pub valid : (x : Cable) → Lists cables x → IsCableOf c set x
  pub all :
      (a b : End) → far c a ≡ Some b → Holds set a.node → a.node < b.node →
      ComesBefore a (record { node = node; port = port }) →
      Lists cables (record { a = a; b = b })

-- the cable at this end, which is its lower one
pub record StartsAt (c : Wiring) (end : End) (x : Cable) : Type 0 where
  pub first : x.a ≡ end
  pub joined : far c end ≡ Some x.b
  pub low : end.node < x.b.node

-- no cable has its lower end here
abbrev pub NoneStartsAt : Wiring → End → Type 0
NoneStartsAt c end = (b : End) → far c end ≡ Some b → end.node < b.node → ⊥
