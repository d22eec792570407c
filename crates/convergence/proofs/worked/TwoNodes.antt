-- Two nodes that contend: what the definitions say of them in turns 260 to 292.
use Rattle.std.proofs.Common.{◌≡◌, ℕ, true, false, refl}
use Rattle.std.specs.Prelude.{slice_index_or}
use Rattle.convergence.proofs.Common.{enter, on_signal, tick, PortNode, CableWorld, turn, turns_after, plain_node, at, turns_to_done, turns_to_trees, turns_to_decision, last_coin, AreUnequal, WinsOver}
use Rattle.cable_world.proofs.Lemmas.{start}
use Rattle.convergence.specs.Turns.{turns_to_over, turns_to_loops, turns_to_settle}

abbrev pub node_in : CableWorld → ℕ → PortNode
node_in w k = slice_index_or w.nodes k (plain_node 0)

-- by which turns two nodes reach each milestone at the latest, where d is 4
shares :
    (turns_to_over start ≡ 8) × (turns_to_done start ≡ 332) × (turns_to_trees start ≡ 1364)
    × (turns_to_loops start ≡ 2381) × (turns_to_decision start ≡ 3133)
    × (turns_to_settle start ≡ 4393)
unfolding enter
shares = (refl, refl, refl, refl, refl, refl)

-- and with a timeout that is longer than all else
slow : CableWorld
slow = record start { longest = record start.longest { timeout = 60000 } }

slow-shares : (turns_to_loops slow ≡ 60333) × (turns_to_settle slow ≡ 60333)
unfolding enter slow
slow-shares = (refl, refl)

-- in turn 260 both contend; the second drew 1
unequal : AreUnequal (turns_after 260 start) 1 0
unfolding turn turns_after enter tick on_signal
unequal = record {
  near = node_in (turns_after 260 start) 1;
  near_at = refl;
  other = node_in (turns_after 260 start) 0;
  other_at = refl;
  here = refl;
  there = refl;
  long = refl;
  short = refl;
}

-- its wait is over in turn 292: the first is its child, and it has no parent
won : WinsOver (turns_after 292 start) 1 0
unfolding turn turns_after enter tick on_signal
won = (
  at 1 0,
  at 0 0,
  refl,
  refl,
  record {
    ends = record {
      joined = refl;
      near = node_in (turns_after 292 start) 1;
      near_at = refl;
      other = node_in (turns_after 292 start) 0;
      other_at = refl;
    };
    child = refl;
    root = refl;
  },
)

-- the coins stand in the waits
coins :
    (last_coin (node_in (turns_after 260 start) 0).state ≡ false)
    × (last_coin (node_in (turns_after 260 start) 1).state ≡ true)
unfolding turn turns_after enter tick on_signal
coins = (refl, refl)
