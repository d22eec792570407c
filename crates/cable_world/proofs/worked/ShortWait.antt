-- A short wait has to be longer than a signal's way there and back. In a line of three nodes a
-- cable delays by up to three turns, and node 2 waits for four turns only. Then it still shows a
-- Parent that node 1 sent before it began to wait too. So it takes node 1 for its child and grants
-- it, while node 1 waits on and doesn't hear the Grant. Nobody ever gets an ID. (Five turns would
-- be enough here, since a node hears what arrives before its clock ticks; the inequality asks for
-- seven.)
use Rattle.port_state.specs.Clock.{even}
use Rattle.std.proofs.Common.{◌≡◌, ℕ, zero, suc, ◌+◌, ◌<◌, Bool, true, false, List, [], ◌∷◌, Option, Some, None, map, min, refl, subst, sym, arith}
use Rattle.self_id.specs.Group.{group}
use Rattle.port_state.specs.declared.ports.PortView.{PortView}
use Rattle.port_state.specs.declared.signal.Level.{Level}
use Rattle.port_state.specs.declared.signal.Level.TheVariants as level
use Rattle.port_state.specs.declared.signal.Phase.TheVariants.{ChildShake, Contend, SelfIdent, Ready}
use Rattle.port_state.specs.declared.timing.Timing.{Timing}
use Rattle.port_state.specs.Timing.{usual_timing}
use Rattle.port_state.specs.PowerOn.{power_on}
use Rattle.port_state.specs.Coins.{coins_of_bits}
use Rattle.port_state.specs.Entry.{enter}
use Rattle.port_state.specs.Heard.{on_signal}
use Rattle.port_state.specs.Tick.{tick}
use Rattle.port_state.specs.Machine.{PortNode}
use Rattle.cable_world.specs.Times.{Suits, CanBeForced, longest_in_range}
use Rattle.cable_world.specs.Wire.{empty_wire}
use Rattle.cable_world.specs.World.{CableWorld, world_of_nodes}
use Rattle.cable_world.specs.Turn.{turn, turns_after}
use Rattle.cable_world.specs.Act.{hold}
use Rattle.cable_world.specs.Quiet.{quiet_after}
use Rattle.cable_world.proofs.worked.Summary.{attrs, at, after_plug, summaries, summary, story}
use Rattle.cable_world.specs.Run.{ComesOf, starts}
use Rattle.cable_world.proofs.StaysReached.{all-turned}
use Rattle.cable_world.proofs.worked.ComesOf.{comes-plugged, comes-held}
use Rattle.cable_world.proofs.worked.NeverSettles.{NeverSettles, IsOpen, always, open-fresh, comes-round}

-- ---- times that suit but for one short wait

abbrev times : ℕ → Timing
times short = record (usual_timing 3) { short = short }

suit-with-7 : Suits 3 (longest_in_range 3) (times 7)
suit-with-7 = record {
  counted = record { hold = omega arith; force = omega arith; timeout = omega arith; short = omega arith; long = omega arith };
  hold_least = omega arith;
  hold_most = omega arith;
  force_most = omega arith;
  timeout_most = omega arith;
  short_least = omega arith;
  short_most = omega arith;
  long_least = omega arith;
  long_most = omega arith;
}

unsuited : Suits 3 (longest_in_range 3) (times 4) → ⊥
unsuited s = let least = s.short_least in omega (arith, least)

can-be-forced : CanBeForced 3 (longest_in_range 3) (times 4)
can-be-forced = record { enough = omega arith }

-- ---- the run

abbrev node : ℕ → Timing → ℕ → PortNode
node ports t coin = record { state = power_on ports (attrs true 2 false) false t; coins = coins_of_bits coin 1; clock = even }

abbrev bare : ℕ → CableWorld
bare short = world_of_nodes 3 (node 1 (usual_timing 3) 0 ∷ node 2 (usual_timing 3) 1 ∷ node 1 (times short) 0 ∷ [])

abbrev one : ℕ → CableWorld
one short = after_plug (at 0 0) (at 1 0) (bare short)

abbrev line : ℕ → CableWorld
line short = after_plug (at 1 1) (at 2 0) (one short)

-- after 194 turns, when nodes 0 and 2 have asked node 1, what the second of them sent is held for a
-- turn: so node 1 asks it
abbrev asked : ℕ → CableWorld
asked short = turns_after 2 (hold (at 2 0) 1 (turns_after 194 (line short)))

-- after 196 turns the Idle of node 2, which waits now, is held: so node 1 waits too as soon as its
-- child, node 0, shows Idle
abbrev both_wait : ℕ → CableWorld
both_wait short = turns_after 2 (hold (at 2 0) 2 (asked short))

-- after 198 turns the Idle of node 1 is held
abbrev held : ℕ → CableWorld
held short = hold (at 1 1) 2 (both_wait short)

comes : (n : ℕ) → ComesOf (λ w. w ≡ bare 4) (turns_after n (held 4))
unfolding turn turns_after enter tick on_signal
comes n =
    all-turned n (held 4) (comes-held (both_wait 4) (at 1 1) 2 refl
    (all-turned 2 (hold (at 2 0) 2 (asked 4)) (comes-held (asked 4) (at 2 0) 2 refl
    (all-turned 2 (hold (at 2 0) 1 (turns_after 194 (line 4)))
    (comes-held (turns_after 194 (line 4)) (at 2 0) 1 refl
    (all-turned 194 (line 4) (comes-plugged (one 4) (at 1 1) (at 2 0) refl
    (comes-plugged (bare 4) (at 0 0) (at 1 0) refl (starts (bare 4) refl)))))))))

-- after 198 turns both wait; after 200 node 2 has taken node 1 for its child; after 202 it is root,
-- and after 203 it has granted it; after 223 node 1 has done its wait and has found its parent
runs : story summaries (2 ∷ 2 ∷ 1 ∷ 20 ∷ []) (held 4) ≡
    (summary SelfIdent 0 (Some 0) (false ∷ []) None [] ∷ summary Contend 1 (Some 1) (true ∷ false ∷ []) None [] ∷ summary Contend 1 (Some 0) (false ∷ []) None [] ∷ []) ∷
    (summary SelfIdent 0 (Some 0) (false ∷ []) None [] ∷ summary Contend 1 (Some 1) (true ∷ false ∷ []) None [] ∷ summary ChildShake 1 None (true ∷ []) None [] ∷ []) ∷
    (summary SelfIdent 0 (Some 0) (false ∷ []) None [] ∷ summary Contend 1 (Some 1) (true ∷ false ∷ []) None [] ∷ summary SelfIdent 1 None (true ∷ []) None [] ∷ []) ∷
    (summary SelfIdent 0 (Some 0) (false ∷ []) None [] ∷ summary Contend 1 (Some 1) (true ∷ false ∷ []) None [] ∷ summary SelfIdent 1 None (true ∷ []) None [] ∷ []) ∷
    (summary SelfIdent 0 (Some 0) (false ∷ []) None [] ∷ summary SelfIdent 1 (Some 1) (true ∷ false ∷ []) None [] ∷ summary SelfIdent 1 None (true ∷ []) None [] ∷ []) ∷ []
unfolding turn turns_after enter tick on_signal
runs = refl

-- ---- it stays as it is

abbrev port_in : Level → Bool → Bool → PortView
port_in shown child asked = record { connected = true; shown = shown; child = child; asked = asked; named = false }

-- a node in self identify: its timer and wait, its ports, its parent port, whether it is granted,
-- its coins and its resets
abbrev waiting : PortNode → ℕ → ℕ → List PortView → Option ℕ → Bool → ℕ → ℕ → ℕ → PortNode
waiting x timer wait ports parent granted draws first resets = record x {
  state = record x.state {
    view = record x.state.view {
      phase = SelfIdent;
      timer = timer;
      wait = wait;
      ports = ports;
      parent = parent;
      granted = granted;
      draws = draws;
      first_draws = first;
      resets = resets;
    };
  };
}

-- nothing is under way; so many turns are done, and timers have risen so far
abbrev stuck : ℕ → ℕ → ℕ → ℕ → CableWorld
stuck t a b c = record (line 4) {
  nodes =
      waiting (node 1 (usual_timing 3) 0) a 0 (port_in level.Child false false ∷ []) (Some 0) false 0 0 2 ∷
      waiting (node 2 (usual_timing 3) 1) b 24 (port_in level.Idle true false ∷ port_in level.Child false false ∷ []) (Some 1) false 1 1 3 ∷
      waiting (node 1 (times 4) 0) c 4 (port_in level.Idle true true ∷ []) None true 1 0 2 ∷ [];
  wires = (empty_wire ∷ []) ∷ (empty_wire ∷ empty_wire ∷ []) ∷ (empty_wire ∷ []) ∷ [];
  turns = t;
}

lost : turns_after 27 (held 4) ≡ stuck 225 32 27 29
unfolding turn turns_after enter tick on_signal
lost = refl

Start : CableWorld → Type 0
Start w = (t a b c : ℕ) × (w ≡ stuck t a b c)

again : (t a b c : ℕ) → Start (quiet_after (always []) 1 (stuck t a b c))
unfolding turn quiet_after enter tick on_signal Start
again t a b c = (t + 1, min (a + 1) 65535, min (b + 1) 65535, min (c + 1) 65535, refl)

opens : (t a b c i : ℕ) → i < 1 → IsOpen (quiet_after (always []) i (stuck t a b c))
unfolding turn quiet_after enter tick on_signal
opens t a b c zero l = open-fresh (quiet_after (always []) 0 (stuck t a b c)) refl
opens t a b c (suc i) l = absurd (omega (arith, l))

never : NeverSettles [] (turns_after 27 (held 4))
unfolding Start
never =
    comes-round [] Start 1 (omega arith) (λ w s. refl)
    (λ w s. subst (λ v. Start (quiet_after (always []) 1 v)) (sym s.4) (again s.0 s.1 s.2 s.3))
    (λ w i s l. subst (λ v. IsOpen (quiet_after (always []) i v)) (sym s.4) (opens s.0 s.1 s.2 s.3 i l))
    (turns_after 27 (held 4)) (225, 32, 27, 29, lost)

-- ---- where node 2 waits for a turn more

-- it hears the Idle of node 1 in time and asks again, and node 1, whose wait is long, becomes root
settles :
    (map (λ (x : PortNode). x.state.view.phase) (turns_after 32 (held 5)).nodes ≡ Ready ∷ Ready ∷ Ready ∷ [])
    × (map (λ (x : PortNode). x.state.view.parent) (turns_after 32 (held 5)).nodes ≡ Some 0 ∷ None ∷ Some 0 ∷ [])
unfolding turn turns_after enter tick on_signal group
settles = (refl, refl)
