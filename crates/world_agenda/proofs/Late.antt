-- A machine that stands at an earlier turn: the ticks since then were idle.
use Rattle.std.proofs.Common.{◌≡◌, ℕ, zero, suc, ◌+◌, ◌-◌, ◌≤◌, true, List, [], ◌∷◌, All, map, refl, sym, subst, ◌∙◌, ap, arith, append-nil, if◌then◌else◌}
use Rattle.std.specs.Prelude.{nat_eq}
use Rattle.std.specs.Cmp.Lexicographic.{pointwise}
use Rattle.std.proofs.lemmas.Bool.{eq-eqb}
use Rattle.std.proofs.lemmas.List.Elements.{All-head, All-tail}
use Rattle.port_state.specs.declared.states.NodeState.{NodeState}
use Rattle.port_state.specs.Sends.{PortSignal}
use Rattle.port_state.specs.Names.{timer, without}
use Rattle.port_state.specs.Machine.{PortNode, node_tick}
use Rattle.port_state.specs.Idle.{IsIdleTick, IsIdleFor, after_ticks}
use Rattle.cable_world.specs.Wire.{Wire, add_signals}
use Rattle.cable_world.specs.Turn.{node_turn, wires_after_sends, same_list}
use Rattle.world_agenda.specs.Clock.{caught_up}
use Rattle.cable_world.proofs.Lemmas.{idle-less, no-sends}

-- ---- ticks, one after the other

after-more : (i j : ℕ) (n : PortNode) → after_ticks (i + j) n ≡ after_ticks i (after_ticks j n)
after-more zero j n = let e : 0 + j ≡ j = omega arith in ap (λ k. after_ticks k n) e
after-more (suc i) j n =
    let e : suc i + j ≡ suc (i + j) = omega arith in
    ap (λ k. after_ticks k n) e ∙ ap (λ (m : PortNode). (node_tick m).node) (after-more i j n)

-- after some of the idle ticks
pub idle-then : (j k i : ℕ) (n : PortNode) → i + j ≤ k → IsIdleFor k n →
    IsIdleFor i (after_ticks j n)
idle-then j k i n few h = λ m below. subst IsIdleTick (after-more m j n) (h (m + j) (omega (arith, few, below)))

-- they change nothing but the timer
pub idle-keeps : (k : ℕ) (n : PortNode) → IsIdleFor k n →
    without timer (after_ticks k n).state ≡ without timer n.state
idle-keeps zero n h = refl
idle-keeps (suc k) n h = (h k (omega arith)).state ∙ idle-keeps k n (idle-less k (suc k) n (omega arith) h)

pub idle-none : (n : PortNode) → IsIdleFor 0 n
idle-none n = λ i below. absurd (omega (arith, below))

-- ---- a clock that is behind

pub on-time : (turns clock : ℕ) (n : PortNode) → turns ≤ clock → caught_up turns clock n ≡ n
on-time turns clock n h = let e : turns - clock ≡ 0 = omega (arith, h) in ap (λ k. after_ticks k n) e

pub one-later :
    (turns clock : ℕ) (n : PortNode) → clock ≤ turns →
    caught_up (turns + 1) clock n ≡ (node_tick (caught_up turns clock n)).node
one-later turns clock n h = let e : turns + 1 - clock ≡ suc (turns - clock) = omega (arith, h) in ap (λ k. after_ticks k n) e

pub some-later :
    (count turns clock : ℕ) (n : PortNode) → clock ≤ turns →
    caught_up (turns + count) clock n ≡ after_ticks count (caught_up turns clock n)
some-later count turns clock n h =
    let e : turns + count - clock ≡ count + (turns - clock) = omega (arith, h) in
    ap (λ k. after_ticks k n) e ∙ after-more count (turns - clock) n

-- the turns to come until its idle ticks are over are idle
pub still-idle :
    (count turns clock idle : ℕ) (n : PortNode) → clock ≤ turns → turns + count ≤ clock + idle → IsIdleFor idle n →
    IsIdleFor count (caught_up turns clock n)
still-idle count turns clock idle n behind few h =
    idle-then (turns - clock) idle count n (omega (arith, behind, few)) h

pub keeps-late :
    (turns clock idle : ℕ) (n : PortNode) → turns ≤ clock + idle → IsIdleFor idle n →
    without timer (caught_up turns clock n).state ≡ without timer n.state
keeps-late turns clock idle n few h = idle-keeps (turns - clock) n (idle-less (turns - clock) idle n (omega (arith, few)) h)

-- what the node shows by then: its timer, and for the rest what it showed
pub view-late :
    (turns clock : ℕ) (n : PortNode) → without timer (caught_up turns clock n).state ≡ without timer n.state →
    record n.state.view { timer = (after_ticks (turns - clock) n).state.view.timer } ≡ (caught_up turns clock n).state.view
view-late turns clock n same =
    let late = caught_up turns clock n in
    ap (λ (x : NodeState). record x.view { timer = late.state.view.timer }) (sym same)

-- many nodes, whose clocks aren't ahead
pub all-later :
    {X : Type 0} → (f : X → PortNode) (clock : X → ℕ) (count turns : ℕ) (xs : List X) → All (λ x. clock x ≤ turns) xs →
    map (λ x. caught_up (turns + count) (clock x) (f x)) xs ≡ map (after_ticks count) (map (λ x. caught_up turns (clock x) (f x)) xs)
all-later f clock count turns [] h = refl
all-later f clock count turns (x ∷ xs) h =
    ap (λ y. y ∷ map (λ z. caught_up (turns + count) (clock z) (f z)) xs) (some-later count turns (clock x) (f x) (All-head (λ z. clock z ≤ turns) x xs h))
    ∙ ap (λ ys. after_ticks count (caught_up turns (clock x) (f x)) ∷ ys) (all-later f clock count turns xs (All-tail (λ z. clock z ≤ turns) x xs h))

-- clocks that are as late as the turns
pub all-now :
    {X : Type 0} → (f : X → PortNode) (clock : X → ℕ) (turns : ℕ) (xs : List X) → All (λ x. clock x ≡ turns) xs →
    map (λ x. caught_up turns (clock x) (f x)) xs ≡ map f xs
all-now f clock turns [] h = refl
all-now f clock turns (x ∷ xs) h =
    let e : turns ≤ clock x = omega (arith, All-head (λ z. clock z ≡ turns) x xs h) in
    ap (λ y. y ∷ map (λ z. caught_up turns (clock z) (f z)) xs) (on-time turns (clock x) (f x) e)
    ∙ ap (λ ys. f x ∷ ys) (all-now f clock turns xs (All-tail (λ z. clock z ≡ turns) x xs h))

-- ---- the turn of a node that hears nothing and isn't due

same-text : (xs : List ℕ) → pointwise nat_eq xs xs ≡ true
same-text [] = refl
same-text (x ∷ xs) = rw (eq-eqb x x refl) (same-text xs)

none-sent : (w : Wire) → add_signals [] w ≡ w
none-sent w = rw (append-nil w.signals) refl

module _ (turns clock idle : ℕ) (n : PortNode) (behind : clock ≤ turns) (few : turns + 1 ≤ clock + idle) (rests : IsIdleFor idle n) where
  abbrev pub was : PortNode
  was = caught_up turns clock n

  tick-idle : IsIdleTick was
  tick-idle = still-idle 1 turns clock idle n behind few rests 0 (omega arith)

  pub quiet-node : (signals : List PortSignal) → signals ≡ [] →
      caught_up (turns + 1) clock n ≡ (node_turn signals was).node
  quiet-node signals none = one-later turns clock n behind ∙ sym (ap (λ ss. (node_turn ss was).node) none)

  pub quiet-wires : (signals : List PortSignal) (wires : List Wire) → signals ≡ [] →
      wires ≡ wires_after_sends 0 (node_turn signals was).sends wires
  quiet-wires signals wires none =
      sym (ap (λ ss. wires_after_sends 0 (node_turn ss was).sends wires) none
      ∙ ap (λ ss. wires_after_sends 0 ss wires) tick-idle.sends ∙ no-sends 0 wires)

  pub quiet-list : (last now : ℕ) →
      last ≡ (if same_list was (caught_up (turns + 1) clock n) then last else now)
  quiet-list last now =
      sym (ap (λ b. if b then last else now)
      (ap (same_list was) (one-later turns clock n behind)
      ∙ ap (λ l. pointwise nat_eq was.state.list.items l) (ap (λ s. s.list.items) tick-idle.state)
      ∙ same-text was.state.list.items))
