-- Even clocks: which nodes have them stays as it is, and they tick in each turn.
use Rattle.std.proofs.Common.{◌≡◌, ℕ, zero, suc, ◌<◌, ◌≤◌, Bool, true, false, not, List, [], ◌∷◌, All, Some, length, map, get_or, slice_get, refl, sym, ◌∙◌, ap, subst, inl, inr, arith}
use Rattle.std.proofs.lemmas.Bool.{cases_eq}
use Rattle.std.proofs.lemmas.List.{get_or-map, length-map}
use Rattle.std.proofs.lemmas.Option.{slice_get_within, slice_get-get_or, get_or_from_slice_get}
use Rattle.cabling.specs.NodeSet.{Holds, AgreeBut}
use Rattle.cabling.proofs.Lemmas.{none_of_zero}
use Rattle.port_state.specs.Clock.{Clock, even, slow, every, is_even, misses, clock_after, clock_on, TicksFor}
use Rattle.port_state.specs.Machine.{PortNode}
use Rattle.port_state.specs.Idle.{after_ticks}
use Rattle.port_state.proofs.Lemmas.{after-clock, still-even}
use Rattle.cable_world.specs.declared.act.Act.{Act}
use Rattle.cable_world.specs.World.{CableWorld}
use Rattle.cable_world.specs.Turn.{turn}
use Rattle.cable_world.specs.Act.{ActLeads}
use Rattle.cable_world.specs.Lawful.{IsWellFormed}
use Rattle.cable_world.proofs.Lemmas.{act-keeps, act-timed, nodes-after, turn-timed}
use Rattle.world_agenda.specs.Alone.{TickBut}
use Rattle.world_agenda.specs.Slow.{HasSlow}
use Rattle.world_agenda.proofs.Blend.{some-at}

-- ---- an even clock

even-later : (count : ℕ) (c : Clock) → is_even c ≡ true → is_even (clock_on count c) ≡ true
even-later zero c h = h
even-later (suc k) c h = still-even (clock_on k c) (even-later k c h)

pub even-ticks : (count : ℕ) (c : Clock) → is_even c ≡ true → TicksFor count c
even-ticks count even h = tt
even-ticks count (slow k next) h = absurd cc
even-ticks count (every gap k) h = absurd cc

pub even-misses : (c : Clock) → is_even c ≡ true → misses c ≡ false
even-misses even h = refl
even-misses (slow k next) h = absurd cc
even-misses (every gap k) h = absurd cc

-- ---- in turns and acts

pub slow-turn : (set : ℕ) (w : CableWorld) → IsWellFormed w → HasSlow set w.nodes → HasSlow set (turn w).nodes
slow-turn set w f h = record {
  near = λ k has. let low = h.near k has in omega (arith, low, nodes-after w f.count);
  evens = turn-timed (λ k t c. (Holds set k → ⊥) → is_even c ≡ true) w (λ k t c e out. still-even c (e out)) f h.evens;
}

pub slow-act : (set : ℕ) (a : Act) (w v : CableWorld) → ActLeads a w v → HasSlow set w.nodes → HasSlow set v.nodes
slow-act set a w v led h = record {
  near = λ k has. let low = h.near k has in omega (arith, low, (act-keeps a w v led).nodes);
  evens = act-timed (λ k t c. (Holds set k → ⊥) → is_even c ≡ true) a w v led h.evens;
}

-- the node of a table that is made from another
pub made-of :
    {N : Type 0} → (f : N → PortNode) (nodes : List N) (k : ℕ) (x : PortNode) (n : N) →
    slice_get (map f nodes) k ≡ Some x → n ≡ get_or nodes k n → f n ≡ x
made-of f nodes k x n at is =
    let inside : k < length nodes = omega (arith, slice_get_within (map f nodes) k x at, length-map nodes f) in
    ap f is ∙ sym (get_or-map f nodes k n x inside) ∙ get_or_from_slice_get (map f nodes) k x x at

pub slow-passed :
    (set count : ℕ) (nodes : List PortNode) → HasSlow set nodes → HasSlow set (map (after_ticks count) nodes)
slow-passed set count nodes h = record {
  near = λ k has. let low = h.near k has in omega (arith, low, length-map nodes (after_ticks count));
  evens = λ k x at out.
      let inside : k < length nodes = omega (arith, slice_get_within (map (after_ticks count) nodes) k x at, length-map nodes (after_ticks count)) in
      let found = some-at nodes k inside in
      let n = found.0 in
      let there : slice_get nodes k ≡ Some n = slice_get-get_or nodes k n inside ∙ ap Some found.1 in
      let is : after_ticks count n ≡ x = made-of (after_ticks count) nodes k x n at (sym found.1) in
      ap (λ (y : PortNode). is_even y.clock) (sym is) ∙ ap is_even (after-clock count n)
      ∙ even-later count n.clock (h.evens k n there out);
}

-- ---- the nodes of a table, one by one

-- what holds of each node by its number
pub each-of : (P : PortNode → Type 0) (nodes : List PortNode) →
    ((k : ℕ) (x : PortNode) → slice_get nodes k ≡ Some x → P x) → All P nodes
each-of P nodes h k d inside = h k (get_or nodes k d) (slice_get-get_or nodes k d inside)

-- a node that is noted, and the others
pub still-out :
    (old new at k : ℕ) → AgreeBut old new at → (Holds new at → ⊥) → (Holds new k → ⊥) → (k ≡ at → ⊥) → (Holds old k → ⊥)
still-out old new at k agree gone out ne = λ has. out ((agree k ne).1 has)

-- not noted, and so not so
pub not-noted : (b : Bool) (A : Type 0) → (b ≡ true → A) → (A → ⊥) → b ≡ false
not-noted true A h out = absurd (out (h refl))
not-noted false A h out = refl

pub not-slow : (b : Bool) (A : Type 0) → (not b ≡ true → A) → (A → ⊥) → b ≡ true
not-slow true A h out = refl
not-slow false A h out = absurd (out (h refl))
