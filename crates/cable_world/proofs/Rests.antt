-- Quiet turns one after the other, and runs without an act.
use Rattle.std.proofs.Common.{◌≡◌, ℕ, zero, suc, ◌+◌, List, [], ◌∷◌, None, refl, sym, ◌∙◌, subst, arith}
use Rattle.cabling.specs.declared.cable.End.{End}
use Rattle.cable_world.specs.World.{CableWorld, slack}
use Rattle.cable_world.specs.Turn.{turn, turns_after}
use Rattle.cable_world.specs.Act.{hold, hold_fault}
use Rattle.cable_world.specs.Run.{ComesOf, IsReached, held, turned, Rests, still, hold_first, turn_first}
use Rattle.cable_world.specs.Events.{Event, acts, holds, turns, Runs, HasNoAct, turn_count}
use Rattle.cable_world.proofs.turns.ByNumber.{cabling-after}
use Rattle.cable_world.proofs.tables.Slack.{turn-slack}
use Rattle.cable_world.proofs.StaysLawful.{reached-lawful, reached-runs}

-- one hold, and one turn
pub one-hold :
    (end : End) (n : ℕ) (w : CableWorld) → hold_fault end w ≡ None → Rests 0 w (hold end n w)
one-hold end n w none = hold_first end n none still

pub one-turn : (w : CableWorld) → Rests 1 w (turn w)
one-turn w = turn_first still

-- more after them
pub rests-then :
    {j k : ℕ} {w u v : CableWorld} → Rests j w u → Rests k u v → Rests (j + k) w v
rests-then {k = k} {w = w} {v = v} still more =
    let z : k ≡ 0 + k = omega arith in subst (λ n. Rests n w v) z more
rests-then (hold_first end n none first) more = hold_first end n none (rests-then first more)
rests-then {k = k} {w = w} {v = v} (turn_first {n = i} first) more =
    let z : suc (i + k) ≡ suc i + k = omega arith in
    subst (λ n. Rests n w v) z (turn_first (rests-then first more))

-- turns alone
pub turns-rest : (k : ℕ) (w : CableWorld) → Rests k w (turns_after k w)
unfolding turns_after
turns-rest zero w = still
turns-rest (suc k) w = turn_first (turns-rest k (turn w))

-- what comes of the first world is what comes of the second
pub rests-come :
    {S : CableWorld → Type 0} {k : ℕ} {w v : CableWorld} → Rests k w v → ComesOf S w → ComesOf S v
rests-come still r = r
rests-come {w = w} (hold_first end n none rests) r = rests-come rests (held end n w none r)
rests-come {w = w} (turn_first rests) r = rests-come rests (turned w r)

pub rests-cabling : {k : ℕ} {w v : CableWorld} → Rests k w v → v.cabling ≡ w.cabling
rests-cabling still = refl
rests-cabling (hold_first end n none rests) = rests-cabling rests
rests-cabling {w = w} (turn_first rests) = rests-cabling rests ∙ cabling-after w

-- and the slack of a world that runs stays as it is
pub rests-slack : {k : ℕ} {w v : CableWorld} → Rests k w v → IsReached w → slack v ≡ slack w
rests-slack still r = refl
rests-slack {w = w} (hold_first end n none rests) r = rests-slack rests (held end n w none r)
rests-slack {w = w} (turn_first rests) r =
    rests-slack rests (turned w r) ∙ turn-slack w (reached-lawful w r).well_formed (reached-runs w r).regular

-- a run without an act
pub quiet-run :
    (events : List Event) (w v : CableWorld) → HasNoAct events → Runs events w v →
    Rests (turn_count events) w v
quiet-run [] w v none run = subst (Rests 0 w) (sym run) still
quiet-run (acts a ∷ events) w v none run = absurd none
quiet-run (holds end n ∷ events) w v none run =
    hold_first end n run.1.0
    (subst (λ (u : CableWorld). Rests (turn_count events) u v) run.1.1
    (quiet-run events run.0 v none run.2))
quiet-run (turns ∷ events) w v none run =
    turn_first (subst (λ (u : CableWorld). Rests (turn_count events) u v) run.1
    (quiet-run events run.0 v none run.2))
