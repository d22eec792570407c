-- A node has to be able to count its times. Its timer stays at 65,535: so a node whose hold is
-- longer by one never leaves its reset.
use Rattle.port_state.specs.Clock.{even}
use Rattle.std.proofs.Common.{◌≡◌, ℕ, zero, suc, ◌+◌, ◌<◌, true, false, [], ◌∷◌, min, nat_le, refl, subst, sym, arith}
use Rattle.port_state.specs.declared.timing.Timing.{Timing}
use Rattle.port_state.specs.Timing.{usual_timing}
use Rattle.port_state.specs.PowerOn.{power_on}
use Rattle.port_state.specs.Coins.{coins_of_bits}
use Rattle.port_state.specs.Tick.{tick}
use Rattle.port_state.specs.Machine.{PortNode}
use Rattle.cable_world.specs.Times.{Suits, CanBeForced, longest_in_range}
use Rattle.cable_world.specs.World.{CableWorld, world_with_times}
use Rattle.cable_world.specs.Turn.{turn}
use Rattle.cable_world.specs.Quiet.{quiet_after}
use Rattle.cable_world.proofs.worked.Summary.{attrs}
use Rattle.cable_world.proofs.worked.NeverSettles.{NeverSettles, IsOpen, always, open-fresh, comes-round}

-- ---- times that suit but for the greatest

abbrev longest : ℕ → Timing
longest hold = record (longest_in_range 1) { hold = hold }

abbrev times : ℕ → Timing
times hold = record (usual_timing 1) { hold = hold }

suit-with-65535 : Suits 1 (longest 65535) (times 65535)
suit-with-65535 = record {
  counted = record { hold = omega arith; force = omega arith; timeout = omega arith; short = omega arith; long = omega arith };
  hold_least = omega arith;
  hold_most = omega arith;
  force_most = omega arith;
  timeout_most = omega arith;
  short_least = omega arith;
  short_most = omega arith;
  long_least = omega arith;
  long_most = omega arith;
}

unsuited : Suits 1 (longest 65536) (times 65536) → ⊥
unsuited s = let most = s.counted.hold in omega (arith, most)

can-be-forced : CanBeForced 1 (longest 65536) (times 65536)
can-be-forced = record { enough = omega arith }

-- ---- a node alone

abbrev node : PortNode
node = record { state = power_on 1 (attrs true 2 false) false (times 65536); coins = coins_of_bits 0 1; clock = even }

abbrev start : CableWorld
start = world_with_times 1 (longest 65536) (node ∷ [])

-- so many turns are done, and its timer is at so much
abbrev holding : ℕ → ℕ → CableWorld
holding t timer = record start {
  nodes = record node { state = record node.state { view = record node.state.view { timer = timer } } } ∷ [];
  turns = t;
}

Start : CableWorld → Type 0
Start w = (t timer : ℕ) × (w ≡ holding t timer)

too-long : (timer : ℕ) → nat_le 65536 (min (timer + 1) 65535) ≡ false
too-long timer = grind arith

again : (t timer : ℕ) → Start (quiet_after (always []) 1 (holding t timer))
unfolding turn quiet_after tick Start
again t timer = (t + 1, min (timer + 1) 65535, rw (too-long timer) refl)

opens : (t timer i : ℕ) → i < 1 → IsOpen (quiet_after (always []) i (holding t timer))
unfolding quiet_after
opens t timer zero l = open-fresh (quiet_after (always []) 0 (holding t timer)) refl
opens t timer (suc i) l = absurd (omega (arith, l))

never : NeverSettles [] start
unfolding Start
never =
    comes-round [] Start 1 (omega arith) (λ w s. refl)
    (λ w s. subst (λ v. Start (quiet_after (always []) 1 v)) (sym s.2) (again s.0 s.1))
    (λ w i s l. subst (λ v. IsOpen (quiet_after (always []) i v)) (sym s.2) (opens s.0 s.1 i l))
    start (0, 0, refl)
