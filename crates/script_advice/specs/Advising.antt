-- What an advice needs to be shown and carried out.
use Rattle.std.specs.Prelude.{◌≡◌, ℕ, ◌<◌, List, [], ◌∷◌, All, Some, Ok, length}
use Rattle.cabling.specs.declared.cable.Cable.{Cable}
use Rattle.cabling.specs.Wiring.{Wiring, NodeNumber, far}
use Rattle.cabling.specs.NodeSet.{Holds}
use Rattle.cabling.specs.Component.{IsComponent}
use Rattle.loop_advice.specs.Cables.{Lists}
use Rattle.settle.specs.declared.report.Part.{Part}
use Rattle.script_advice.specs.declared.advice.LoopAdvice.{LoopAdvice}
use Rattle.script_text.specs.ReportText.{Names, AreNamed}
use Rattle.script_told.specs.Bus.{Bus}
use Rattle.script_told.specs.Step.{LineAnswer, DoesSettle}
use Rattle.script_told.specs.Script.{Stage, bus_of}
use Rattle.script_advice.specs.Advice.{RunsTo, Advises}

-- the nodes of a part are a component
pub record IsPartOf (c : Wiring) (part : Part) : Type 0 where
  pub node : NodeNumber
  pub component : IsComponent c node part.nodes
  pub there : (k : NodeNumber) → Holds part.nodes k → k < length c

-- the nodes of a cable have names
abbrev pub IsNamedCable : Names → Cable → Type 0
IsNamedCable names x = (x.a.node < length names) × (x.b.node < length names)

pub record IsNamedAdvice (names : Names) (a : LoopAdvice) : Type 0 where
  pub nodes : AreNamed names a.nodes
  pub cables : All (IsNamedCable names) a.advice.pulls

-- each of these cables is plugged in, and is there once
abbrev pub ArePullable : Wiring → List Cable → Type 0
ArePullable c [] = Unit {0}
ArePullable c (x ∷ cables) =
    (far c x.a ≡ Some x.b) × (Lists cables x → ⊥) × ArePullable c cables

-- the bus settles at a stage, and this comes of the advice then
abbrev pub IsAdvised : Stage → LineAnswer → Type 0
IsAdvised stage answer =
    (bus : Bus) × (text : List ℕ) × DoesSettle (bus_of stage) (Ok (bus, text)) × Advises bus answer

-- the script runs to its end, and this is the text of its advice
abbrev pub EndsWith : List ℕ → List ℕ → Type 0
EndsWith bytes text =
    (bus : Bus) × (after : Bus) × RunsTo bytes bus × Advises bus (Ok (after, text))
