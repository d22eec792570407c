-- Two nodes that contend while the wire that leaves the first is held again and again, so that the
-- second does each step a turn later, or hears a step later. The first draws 0 and 0, the second 0
-- and 1.
use Rattle.port_state.specs.Clock.{even}
use Rattle.std.proofs.Common.{inl, ◌≡◌, List, map, ℕ, false, [], ◌∷◌, refl, arith}
use Rattle.port_state.specs.declared.signal.Phase.TheVariants.{Contend}
use Rattle.convergence.proofs.Common.{NodeState, enter, on_signal, tick, PortNode, CableWorld, world_of_nodes, hold, turn, turns_after, plain_node, at, after_plug, last_coin, AddsDraw, DrewTogether, DrawsAgree, IsAhead, HaveMet, AreMutual, AreUnequal, WinsOver}
use Rattle.port_state.specs.Coins.{coins_of_bits}
use Rattle.convergence.specs.Drawers.{CountsAreClose}
use Rattle.convergence.proofs.worked.TwoNodes.{node_in}

abbrev pub start : CableWorld
start =
    let second : PortNode = record (plain_node 0) { coins = coins_of_bits 2 2; clock = even } in
    after_plug (at 0 0) (at 1 0) (world_of_nodes 4 (plain_node 0 ∷ second ∷ []))

-- the wire is held for so many turns from now, and so many turns are done
abbrev held_for : ℕ → ℕ → CableWorld → CableWorld
held_for held count w = turns_after count (hold (at 0 0) held w)

-- after 260 turns, held in turns 257 and 259: the first has just drawn, the second hasn't yet
abbrev ahead : CableWorld
ahead = held_for 1 2 (held_for 1 2 (turns_after 256 start))

-- after 261 turns, held in the last: the second still hears the first ask, and has drawn too
abbrev pub met : CableWorld
met = held_for 1 1 ahead

-- after 274 turns, held in turn 273: both asked again, and drew once more
abbrev pub again : CableWorld
again = held_for 1 2 (turns_after 11 met)

-- after 306 turns, held in turns 287 to 289: the long wait of the second is over
abbrev pub over : CableWorld
over = held_for 3 20 (turns_after 12 again)

-- how many coins a node drew, which, its wait, and its timer
abbrev coins : CableWorld → List (ℕ × ℕ × ℕ × ℕ)
coins w = map (λ (x : PortNode). (x.state.view.draws, x.state.view.first_draws, x.state.view.wait, x.state.view.timer)) w.nodes

ahead-coins : coins ahead ≡ (1, 0, 12, 0) ∷ (0, 0, 0, 2) ∷ []
unfolding turn turns_after enter tick on_signal
ahead-coins = refl

met-coins : coins met ≡ (1, 0, 12, 1) ∷ (1, 0, 12, 0) ∷ []
unfolding turn turns_after enter tick on_signal
met-coins = refl

again-coins : coins again ≡ (2, 0, 12, 0) ∷ (2, 2, 32, 0) ∷ []
unfolding turn turns_after enter tick on_signal
again-coins = refl

-- ---- counts differ by one at most

ahead-mutual : AreMutual ahead (at 0 0) (at 1 0)
unfolding turn turns_after enter tick on_signal
ahead-mutual = record {
  ends = record { joined = refl; near = node_in ahead 0; near_at = refl; other = node_in ahead 1; other_at = refl };
  here = refl;
  there = refl;
}

-- a node that drew its first coin, a 0
drew-0 :
    (x : NodeState) (draws first : ℕ) → draws ≡ 0 → first ≡ 0 → x.view.draws ≡ 1 →
    x.view.first_draws ≡ 0 →
    last_coin x ≡ false → AddsDraw draws first x
drew-0 x draws first none no-coin one no-one last = record { count = rw (none, one) refl; coins = rw (none, no-coin, no-one, last) refl }

ahead-is : IsAhead (node_in ahead 0).state 0 (node_in ahead 1).state
unfolding turn turns_after enter tick on_signal
ahead-is = record { drew = drew-0 (node_in ahead 0).state (node_in ahead 1).state.view.draws (node_in ahead 1).state.view.first_draws refl refl refl refl refl; shown = refl }

ahead-counts : ((node_in ahead 0).state.view.draws ≡ 1) × ((node_in ahead 1).state.view.draws ≡ 0)
unfolding turn turns_after enter tick on_signal
ahead-counts = (refl, refl)

ahead-close : CountsAreClose (node_in ahead 0).state (node_in ahead 1).state
ahead-close = (omega (arith, ahead-counts.0, ahead-counts.1), omega (arith, ahead-counts.0, ahead-counts.1))

-- ---- both wait, and their waits began less than d turns apart

met-timers : ((node_in met 0).state.view.timer ≡ 1) × ((node_in met 1).state.view.timer ≡ 0)
unfolding turn turns_after enter tick on_signal
met-timers = (refl, refl)

met-phases : ((node_in met 0).state.view.phase ≡ Contend)
    × ((node_in met 1).state.view.phase ≡ Contend)
unfolding turn turns_after enter tick on_signal
met-phases = (refl, refl)

met-drew : DrewTogether (node_in met 0).state (node_in met 1).state
unfolding turn turns_after enter tick on_signal
met-drew = record {
  draws = 0;
  first = 0;
  here = drew-0 (node_in met 0).state 0 0 refl refl refl refl refl;
  there = drew-0 (node_in met 1).state 0 0 refl refl refl refl refl;
}

met-is : HaveMet 4 (node_in met 0).state even (node_in met 1).state even
met-is = record {
  here = met-phases.0;
  there = met-phases.1;
  drew = met-drew;
  near = inl (omega (arith, met-timers.0, met-timers.1));
  far = inl (omega (arith, met-timers.0, met-timers.1));
}

-- ---- equal draws but for the last

again-draws :
    ((node_in again 0).state.view.draws ≡ 2)
    × ((node_in again 0).state.view.first_draws ≡ 0)
    × ((node_in again 1).state.view.first_draws ≡ 2)
unfolding turn turns_after enter tick on_signal
again-draws = (refl, refl, refl)

again-agree : DrawsAgree (node_in again 0).state (node_in again 1).state
again-agree j below here there =
    let first : j ≡ 0 = omega (arith, here, again-draws.0) in
    rw (first, again-draws.1, again-draws.2) refl

pub again-unequal : AreUnequal again 1 0
unfolding turn turns_after enter tick on_signal
again-unequal = record {
  near = node_in again 1;
  near_at = refl;
  other = node_in again 0;
  other_at = refl;
  here = refl;
  there = refl;
  long = refl;
  short = refl;
}

-- ---- the end with the long wait wins

pub won : WinsOver over 1 0
unfolding turn turns_after enter tick on_signal
won = (
  at 1 0,
  at 0 0,
  refl,
  refl,
  record {
    ends = record { joined = refl; near = node_in over 1; near_at = refl; other = node_in over 0; other_at = refl };
    child = refl;
    root = refl;
  },
)
