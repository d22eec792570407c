-- A world by its parts: what a lawful one gives to the code, and what comes of an act.
use Rattle.std.proofs.Common.{◌≡◌, ℕ, List, map, refl, sym, ◌∙◌, ap, subst}
use Rattle.std.specs.Prelude.{Result, Ok, Err}
use Rattle.std.specs.declared.alloc.AllocError.{AllocError}
use Rattle.std.proofs.Math.Logic.{∥∥₁_elim}
use Rattle.cabling.specs.Wiring.{Wiring}
use Rattle.cabling.specs.declared.cable.CableFault.{CableFault}
use Rattle.port_state.specs.declared.timing.Timing.{Timing}
use Rattle.port_state.specs.Machine.{PortNode}
use Rattle.cable_world.specs.declared.act.ActStop.{ActStop}
use Rattle.cable_world.specs.declared.act.ActStop.TheVariants.{Fault, Memory}
use Rattle.cable_world.specs.Answer.{IfFault, IsMemory}
use Rattle.cable_world.specs.Wire.{Wire}
use Rattle.cable_world.specs.World.{CableWorld}
use Rattle.cable_world.specs.Lawful.{IsLawful}
use Rattle.cable_world.specs.StaysLawful.{ReachedIsLawful}
use Rattle.cable_world.specs.Run.{IsReached}
use Rattle.cable_world.specs.Parts.{world_record}
use Rattle.cable_world.proofs.Lemmas.{lawful_prop}

pub lawful-now : (w : CableWorld) → ReachedIsLawful → ∥ IsReached w ∥₁ → IsLawful w
lawful-now w law r = ∥∥₁_elim r (lawful_prop w) (law w)

-- nothing was changed
pub parts-same :
    {M : Type 0} → (f : M → PortNode) (d : ℕ) (most : Timing) (c k : Wiring) (t : ℕ) (ms nms : List M) (ws nws : List (List Wire)) (cs ncs : List ℕ) →
    (k ≡ c) × (map f nms ≡ map f ms) × (nws ≡ ws) × (ncs ≡ cs) → world_record d most k (map f nms) nws ncs t ≡ world_record d most c (map f ms) ws cs t
parts-same f d most c k t ms nms ws nws cs ncs same = rw (same.0, same.1, same.2, same.3) refl

-- what holds of two lists of nodes, holds of lists that are the same
pub moved :
    {A : Type 0} → (P : A → A → Type 0) (x was y is : A) → x ≡ was → y ≡ is → P x y → P was is
moved P x was y is e h p = subst (λ z. P z is) e (subst (λ z. P x z) h p)

-- what a refusal says
pub IfFault-weaker :
    {A : Type 0} → (r : Result A ActStop) (P Q : CableFault → Type 0) →
    ((f : CableFault) → P f → Q f) → IfFault r P → IfFault r Q
IfFault-weaker (Ok x) P Q h p = tt
IfFault-weaker (Err (Fault f)) P Q h p = h f p
IfFault-weaker (Err (Memory e)) P Q h p = tt

-- what want of memory says
pub memory-of :
    {A : Type 0} → (r : Result A ActStop) (s : ActStop) (e : AllocError) (Q : Type 0) → r ≡ Err s → s ≡ Memory e → (IsMemory r → Q) → Q
memory-of r s e Q is at h = h (subst IsMemory (sym (is ∙ ap Err at)) tt)
