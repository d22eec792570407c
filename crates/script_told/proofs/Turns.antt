-- What turns leave as it is. A bus is given some to settle.
use Rattle.std.proofs.Common.{◌≡◌, ◌∙◌, ℕ, zero, suc, ◌+◌, ◌*◌, ◌≤◌, length, refl, sym, ap, arith}
use Rattle.std.proofs.Math.Nat.{le-max_left}
use Rattle.cable_world.specs.World.{CableWorld}
use Rattle.cable_world.specs.Turn.{turn, turns_after}
use Rattle.cable_world.proofs.Lemmas.{turns-counted, delay-after, longest-after, nodes-after, cabling-after}
use Rattle.cable_world.specs.Run.{quiet_turns}
use Rattle.convergence.specs.Turns.{turns_to_settle}
use Rattle.settle.specs.Report.{quiet_turns_of}

some : (d x : ℕ) → 1 ≤ d → 1 ≤ x → 1 ≤ d * x
some zero x p q = omega (arith, p)
some (suc d) x p q = omega (arith, q)

pub some-quiet : (w : CableWorld) → 1 ≤ w.delay → 1 ≤ quiet_turns_of w
some-quiet w p =
    let first : 1 ≤ quiet_turns (length w.cabling) w.delay = some w.delay _ p (omega arith) in
    omega (arith, first, le-max_left (quiet_turns (length w.cabling) w.delay) (turns_to_settle w))

-- what so many turns leave as it is
pub record AfterTurns (k : ℕ) (w v : CableWorld) : Type 0 where
  pub turns : v.turns ≡ w.turns + k
  pub delay : v.delay ≡ w.delay
  pub longest : v.longest ≡ w.longest
  pub cabling : v.cabling ≡ w.cabling

pub after-turns : (k : ℕ) (w : CableWorld) → AfterTurns k w (turns_after k w)
unfolding turns_after
after-turns zero w = record { turns = omega arith; delay = refl; longest = refl; cabling = refl }
after-turns (suc k) w =
    let rest = after-turns k (turn w) in
    record {
      turns = omega (arith, rest.turns, turns-counted w);
      delay = rest.delay ∙ delay-after w;
      longest = rest.longest ∙ longest-after w;
      cabling = rest.cabling ∙ cabling-after w;
    }

pub nodes-after-turns : (k : ℕ) (w : CableWorld) → length w.nodes ≡ length w.cabling →
    length (turns_after k w).nodes ≡ length w.nodes
unfolding turns_after
nodes-after-turns zero w e = refl
nodes-after-turns (suc k) w e =
    let one = nodes-after w e in
    nodes-after-turns k (turn w) (one ∙ e ∙ sym (ap length (cabling-after w))) ∙ one
