-- Turns to come in which nothing happens: what is known of them, and the first of them.
use Rattle.std.proofs.Common.{◌≡◌, ℕ, suc, ◌+◌, ◌<◌, ◌≤◌, List, All, length, map, get_or, ◌∙◌, refl, arith}
use Rattle.std.proofs.lemmas.List.Elements.{All-map, All-weaker}
use Rattle.cabling.specs.Wiring.{Wiring}
use Rattle.port_state.specs.declared.timing.Timing.{Timing}
use Rattle.port_state.specs.Machine.{PortNode}
use Rattle.port_state.specs.Idle.{IsIdleFor, after_ticks}
use Rattle.cable_world.specs.Wire.{Wire}
use Rattle.cable_world.specs.World.{CableWorld}
use Rattle.cable_world.specs.Turn.{turn}
use Rattle.cable_world.specs.Parts.{world_record}
use Rattle.cable_world.specs.Still.{AreSilent, IsStillFor, after_still, StillTurnsPass}
use Rattle.cable_world.proofs.Lemmas.{idle-less, still-silent}
use Rattle.world_agenda.specs.Clock.{caught_up}
use Rattle.world_agenda.proofs.Late.{still-idle, idle-then, idle-none}
use Rattle.world_agenda.proofs.Turns.{one-turn}

-- ---- what is known

pub none-still : (w : CableWorld) → IsStillFor 0 w
none-still w = record { silent = λ some. absurd (omega (arith, some)); idle = λ i d inside. idle-none (get_or w.nodes i d) }

-- no signal is under way, and no node's idle ticks are over
pub still-for :
    {N : Type 0} → (r : N → PortNode) (clock idle : N → ℕ) (rests : (n : N) → IsIdleFor (idle n) (r n)) (turns k : ℕ) (nodes : List N)
    (d : ℕ) (most : Timing) (c : Wiring) (wires : List (List Wire)) (changed : List ℕ) → (0 < k → AreSilent wires) → (0 < k → All (λ n. clock n ≤ turns) nodes) →
    (0 < k → All (λ n. turns + k ≤ clock n + idle n) nodes) →
    IsStillFor k (world_record d most c (map (λ n. caught_up turns (clock n) (r n)) nodes) wires changed turns)
still-for r clock idle rests turns k nodes d most c wires changed silent behind few = record {
  silent = silent;
  idle = All-map (λ x. IsIdleFor k x) (λ n. caught_up turns (clock n) (r n)) nodes (λ i e inside. λ j below.
      let some : 0 < k = omega (arith, below) in
      let n = get_or nodes i e in
      still-idle k turns (clock n) (idle n) (r n) (behind some i e inside) (few some i e inside) (rests n) j below);
}

-- so are fewer turns
pub still-fewer : (k n : ℕ) (w : CableWorld) → k ≤ n → IsStillFor n w → IsStillFor k w
still-fewer k n w few h = record {
  silent = λ some. h.silent (omega (arith, some, few));
  idle = All-weaker (λ x. IsIdleFor n x) (λ x. IsIdleFor k x) (λ x i. idle-less k n x few i) w.nodes h.idle;
}

-- ---- the first of such turns

pub still-first : (k : ℕ) (w : CableWorld) → IsStillFor (suc k) w → IsStillFor 1 w
still-first k w h = record {
  silent = λ some. h.silent (omega arith);
  idle = All-weaker (λ x. IsIdleFor (suc k) x) (λ x. IsIdleFor 1 x) (λ x i. idle-less 1 (suc k) x (omega arith) i) w.nodes h.idle;
}

pub still-turn : StillTurnsPass → (w : CableWorld) → length w.nodes ≡ length w.cabling → IsStillFor 1 w →
    turn w ≡ after_still 1 w
still-turn law w e h = one-turn w (turn w) refl ∙ law 1 w e h

-- the others are such turns after it
pub still-later : (k : ℕ) (w : CableWorld) → IsStillFor (suc k) w → IsStillFor k (after_still 1 w)
still-later k w h = record {
  silent = λ some. still-silent 1 w.wires (h.silent (omega arith));
  idle = All-map (λ x. IsIdleFor k x) (after_ticks 1) w.nodes
      (All-weaker (λ x. IsIdleFor (suc k) x) (λ x. IsIdleFor k (after_ticks 1 x)) (λ x i. idle-then 1 (suc k) k x (omega arith) i) w.nodes h.idle);
}
