-- A bus that is left alone settles, and each can be left alone.
use Rattle.std.proofs.Common.{◌≡◌, ℕ, ◌≤◌, length, ◌∙◌, ap, subst, arith}
use Rattle.convergence.specs.Turns.{turns_to_settle}
use Rattle.outcomes.proofs.Common.{Wiring, IsComponent, CableWorld, turns_after, after-length, comes-lawful}
use Rattle.cable_world.proofs.Lemmas.{rests-cabling, turns-rest}
use Rattle.outcomes.specs.Settled.{EveryQuietRunSettles}
use Rattle.outcomes.specs.Headline.{IsLeftAlone, EveryBusSettles, AnyBusCanBeLeftAlone}
use Rattle.outcomes.proofs.settled.QuietRuns.{ComesBy, comes-by}

-- the components of the world that it comes to are those that it had
pub every-bus : EveryQuietRunSettles → EveryBusSettles
every-bus every w v r h node set there comp =
    let c : ComesBy w v h.turns = comes-by h.rests in
    let nodes : length v.nodes ≡ length w.nodes =
    ap (λ (u : CableWorld). length u.nodes) c.is
    ∙ after-length c.schedule w (comes-lawful w r) h.turns in
    every w v h.turns node set r h.rests h.long (omega (arith, there, nodes))
    (subst (λ (d : Wiring). IsComponent d node set) (rests-cabling h.rests) comp)

-- ---- turns alone

pub left-alone :
    (w : CableWorld) (k : ℕ) → turns_to_settle w ≤ k → IsLeftAlone w (turns_after k w)
left-alone w k long = record { turns = k; rests = turns-rest k w; long = long }

pub can-be-left-alone : AnyBusCanBeLeftAlone
can-be-left-alone w =
    let k : ℕ = turns_to_settle w in
    (turns_after k w, left-alone w k (omega arith))
