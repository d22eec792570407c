-- Quiet turns, with the holds between them in a schedule.
use Rattle.std.proofs.Common.{◌≡◌, ℕ, zero, suc, ◌≤◌, [], ◌∷◌, sym, ◌∙◌, ap, subst}
use Rattle.convergence.specs.Turns.{turns_to_settle}
use Rattle.outcomes.proofs.Common.{CableWorld, IsSettled, turn, ComesOfPowerOn, PlacedHold, HoldSchedule, with_holds, quiet_after, no-quiet}
use Rattle.cable_world.specs.Quiet.{no_holds, with_hold}
use Rattle.cable_world.specs.Run.{Rests, still, hold_first, turn_first}
use Rattle.cable_world.proofs.Lemmas.{holds-are-calls, quiet-first}
use Rattle.outcomes.proofs.settled.Components.{Part}
use Rattle.outcomes.proofs.settled.QuietTurns.{settles-at-last}

-- ---- schedules

-- a hold before all others
abbrev held_first : PlacedHold → HoldSchedule → HoldSchedule
held_first h hs zero = h ∷ hs zero
held_first h hs (suc k) = hs (suc k)

-- a turn before all of them
abbrev turned_first : HoldSchedule → HoldSchedule
turned_first hs zero = []
turned_first hs (suc k) = hs k

quiet-held :
    (h : PlacedHold) (hs : HoldSchedule) (k : ℕ) (w : CableWorld) →
    quiet_after (held_first h hs) k w ≡ quiet_after hs k (with_hold h w)
unfolding quiet_after
quiet-held h hs zero w = (holds-are-calls h (hs 0) w).1
quiet-held h hs (suc k) w =
    ap (λ (v : CableWorld). with_holds (hs (suc k)) (turn v)) (quiet-held h hs k w)

-- ---- quiet turns

-- a world comes of another one by so many quiet turns
pub record ComesBy (w v : CableWorld) (k : ℕ) : Type 0 where
  pub schedule : HoldSchedule
  pub is : v ≡ quiet_after schedule k w

after-turn : (w v : CableWorld) (k : ℕ) → ComesBy (turn w) v k → ComesBy w v (suc k)
after-turn w v k c = record {
  schedule = turned_first c.schedule;
  is = c.is ∙ sym (quiet-first (turned_first c.schedule) k w);
}

after-hold : (h : PlacedHold) (w v : CableWorld) (k : ℕ) → ComesBy (with_hold h w) v k →
    ComesBy w v k
after-hold h w v k c = record {
  schedule = held_first h c.schedule;
  is = c.is ∙ sym (quiet-held h c.schedule k w);
}

pub comes-by : {k : ℕ} {w v : CableWorld} → Rests k w v → ComesBy w v k
comes-by {w = w} still = record { schedule = no_holds; is = sym (no-quiet no_holds w) }
comes-by {k = k} {w = w} {v = v} (hold_first end n none rests) =
    let h : PlacedHold = record { end = end; turns = n } in
    after-hold h w v k
    (subst (λ (u : CableWorld). ComesBy u v k) (sym ((holds-are-calls h [] w).2 none))
    (comes-by rests))
comes-by {w = w} {v = v} (turn_first {n = k} rests) = after-turn w v k (comes-by rests)

-- so every component settles in them
pub rests-settled :
    (w v : CableWorld) (k : ℕ) (p : Part w) → ComesOfPowerOn w → Rests k w v →
    turns_to_settle w ≤ k → IsSettled v p.set
rests-settled w v k p r rests enough =
    let c : ComesBy w v k = comes-by rests in
    subst (λ (u : CableWorld). IsSettled u p.set) (sym c.is)
    (settles-at-last c.schedule w r p k enough)
