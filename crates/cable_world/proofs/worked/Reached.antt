-- The worked runs are runs as the definition has it, from the power-on world by events that none
-- refuses; and where components are fresh.
use Rattle.std.proofs.Common.{sym, ◌≡◌, ◌≢◌, ℕ, zero, suc, ◌<◌, ◌≤◌, ◌+◌, ap, Bool, true, false, List, [], ◌∷◌, None, Some, length, slice_get, refl, subst, arith}
use Rattle.self_id.specs.Group.{group}
use Rattle.port_state.specs.declared.signal.Phase.TheVariants.{ResetStart, ResetWait}
use Rattle.port_state.specs.Timing.{InRange, usual_timing}
use Rattle.port_state.specs.Entry.{enter}
use Rattle.port_state.specs.Heard.{on_signal}
use Rattle.port_state.specs.Tick.{tick}
use Rattle.port_state.specs.Machine.{PortNode}
use Rattle.port_state.proofs.Lemmas.{valid-power_on}
use Rattle.cabling.specs.declared.cable.CableFault.TheVariants.{NoNode, InUse, NotPlugged}
use Rattle.cable_world.specs.declared.act.Act.TheVariants.{Plug, Pull}
use Rattle.port_state.specs.Clock.{even, is_even, IsRegular}
use Rattle.cable_world.specs.Times.{CanBeForced, KeepsTime, longest_in_range}
use Rattle.cable_world.specs.World.{CableWorld, IsNodeAtPowerOn, slack_of, world_of_nodes}
use Rattle.cable_world.specs.Turn.{turn, turns_after}
use Rattle.cable_world.specs.Act.{act_fault, hold, hold_fault}
use Rattle.cable_world.specs.Run.{IsReached, starts}
use Rattle.cable_world.specs.Outcome.{AtView}
use Rattle.cable_world.specs.Fresh.{IsFresh}
use Rattle.cable_world.proofs.StaysReached.{all-turned}
use Rattle.cable_world.proofs.tables.Slack.{even-slack}
use Rattle.cable_world.proofs.worked.Summary.{node_of, attrs, at, after_plug}
use Rattle.cable_world.proofs.worked.ComesOf.{comes-plugged, comes-pulled, comes-held}
use Rattle.cable_world.proofs.Options.{some-same}
use Rattle.cable_world.proofs.Times.{in-range-forced, powered-in-range}
use Rattle.cable_world.proofs.worked.Settled.{each-held}
use Rattle.cable_world.proofs.worked.TwoNodes as pair
use Rattle.cable_world.proofs.worked.Desk as desk

-- ---- from power-on

usual-4 : InRange 4 (usual_timing 4)
usual-4 = record { hold_least = omega arith; hold_most = omega arith; force = refl; timeout = refl; short_least = omega arith; short_most = omega arith; long_least = omega arith; long_most = omega arith }

powered-on :
    (ports speed coin : ℕ) (link contender : Bool) → 1 ≤ ports → ports ≤ 16 → speed < 4 →
    IsNodeAtPowerOn 4 (node_of ports (attrs link speed contender) coin).state
    × ((node_of ports (attrs link speed contender) coin).clock ≡ even)
powered-on ports speed coin link contender some few slow = (
  record {
    is = refl;
    valid = valid-power_on ports (attrs link speed contender) false (usual_timing 4) some few (record { gap = omega arith; speed = slow; delay = omega arith; power = omega arith }) refl;
    timing = usual-4;
  },
  refl,
)

abbrev AllOn : List PortNode → Type 0
AllOn [] = Unit {0}
AllOn (x ∷ xs) = (IsNodeAtPowerOn 4 x.state × (x.clock ≡ even)) × AllOn xs

all-at :
    (nodes : List PortNode) → AllOn nodes → (k : ℕ) (x : PortNode) → slice_get nodes k ≡ Some x →
    IsNodeAtPowerOn 4 x.state × (x.clock ≡ even)
all-at [] a k x e = absurd cc
all-at (y ∷ ys) a zero x e = subst (λ (z : PortNode). IsNodeAtPowerOn 4 z.state × (z.clock ≡ even)) (some-same y x e) a.0
all-at (y ∷ ys) a (suc k) x e = all-at ys a.1 k x e

reached-first :
    (nodes : List PortNode) → AllOn nodes → length nodes ≤ 63 → IsReached (world_of_nodes 4 nodes)
reached-first nodes a few = starts (world_of_nodes 4 nodes) (
  record { some_delay = omega arith; few_nodes = few; nodes = λ k x e. powered-in-range 4 x.state (omega arith) (omega arith) (all-at nodes a k x e).0; clocks = λ k x e. subst (λ c. KeepsTime (longest_in_range 4) x.state.timing c) (sym (all-at nodes a k x e).1) tt; is = refl },
  record {
    short_delay = omega arith;
    forced = λ k x e.
        let none : 4 ≡ 4 + slack_of nodes = omega (arith, even-slack nodes (λ j y at. ap is_even (all-at nodes a j y at).1)) in
        subst (λ d. CanBeForced d (longest_in_range 4) x.state.timing) none (in-range-forced 4 x.state.timing (omega arith) (all-at nodes a k x e).0.timing);
    regular = λ k x e. subst IsRegular (sym (all-at nodes a k x e).1) tt;
  },
)

-- ---- the worked runs

pair-reached : IsReached (turns_after 299 pair.start)
pair-reached =
    all-turned 299 pair.start (comes-plugged (world_of_nodes 4 pair.nodes) (at 0 0) (at 1 0) refl
    (reached-first pair.nodes (powered-on 3 2 0 true false (omega arith) (omega arith) (omega arith), (powered-on 3 2 1 true false (omega arith) (omega arith) (omega arith), tt)) (omega arith)))

-- the desk: no act and no hold of it is refused
desk-on : AllOn desk.nodes
desk-on = (
  powered-on 3 2 0 true true (omega arith) (omega arith) (omega arith),
  (
    powered-on 6 2 1 false false (omega arith) (omega arith) (omega arith),
    (
      powered-on 2 2 0 true false (omega arith) (omega arith) (omega arith),
      (
        powered-on 1 0 0 true false (omega arith) (omega arith) (omega arith),
        (powered-on 2 0 0 true false (omega arith) (omega arith) (omega arith), tt),
      ),
    ),
  ),
)

abbrev hub_in : CableWorld
hub_in = after_plug (at desk.computer 0) (at desk.hub 0) (world_of_nodes 4 desk.nodes)

abbrev disk_in : CableWorld
disk_in = after_plug (at desk.disk 0) (at desk.hub 1) (turns_after 300 hub_in)

abbrev camera_in : CableWorld
camera_in = after_plug (at desk.camera 0) (at desk.hub 4) (turns_after 10 disk_in)

hub-free :
    act_fault (Plug (at desk.computer 0) (at desk.hub 0)) (world_of_nodes 4 desk.nodes) ≡ None
hub-free = refl

disk-free : act_fault (Plug (at desk.disk 0) (at desk.hub 1)) (turns_after 300 hub_in) ≡ None
unfolding turn turns_after enter tick on_signal group
disk-free = refl

camera-free : act_fault (Plug (at desk.camera 0) (at desk.hub 4)) (turns_after 10 disk_in) ≡ None
unfolding turn turns_after enter tick on_signal group
camera-free = refl

tape-free : act_fault (Plug (at desk.tape 0) (at desk.hub 2)) camera_in ≡ None
unfolding turn turns_after enter tick on_signal group
tape-free = refl

hold-there : hold_fault (at desk.hub 0) desk.before ≡ None
unfolding turn turns_after enter tick on_signal group
hold-there = refl

camera-there : act_fault (Pull (at desk.camera 0)) (hold (at desk.hub 0) 3 desk.before) ≡ None
unfolding turn turns_after enter tick on_signal group
camera-there = refl

plugged-reached : IsReached desk.plugged_in
plugged-reached =
    comes-plugged camera_in (at desk.tape 0) (at desk.hub 2) tape-free
    (comes-plugged (turns_after 10 disk_in) (at desk.camera 0) (at desk.hub 4) camera-free (all-turned 10 disk_in
    (comes-plugged (turns_after 300 hub_in) (at desk.disk 0) (at desk.hub 1) disk-free (all-turned 300 hub_in
    (comes-plugged (world_of_nodes 4 desk.nodes) (at desk.computer 0) (at desk.hub 0) hub-free (reached-first desk.nodes desk-on (omega arith)))))))

desk-reached : IsReached (turns_after 290 desk.camera_out)
desk-reached =
    all-turned 290 desk.camera_out (comes-pulled (hold (at desk.hub 0) 3 desk.before) (at desk.camera 0) camera-there
    (comes-held desk.before (at desk.hub 0) 3 hold-there (all-turned 270 desk.plugged_in plugged-reached)))

-- a cable can't be plugged twice, and none can be pulled where none is
in-use :
    (act_fault (Plug (at 0 0) (at 1 1)) pair.start ≡ Some (InUse (at 0 0)))
    × (act_fault (Pull (at 0 1)) pair.start ≡ Some (NotPlugged (at 0 1)))
    × (hold_fault (at 2 0) pair.start ≡ Some (NoNode (at 2 0)))
unfolding enter
in-use = (refl, refl, refl)

-- ---- fresh components

-- before its first turn the pair is fresh, and afterwards no more
pair-fresh : IsFresh pair.start 3
unfolding enter
pair-fresh = record {
  node = 0;
  holds = refl;
  resets = refl;
  begins = each-held (λ k. AtView pair.start k (λ v. v.phase ≡ ResetStart → v.timer ≡ 0)) 3 (0 ∷ 1 ∷ []) refl ((λ r. refl), ((λ r. refl), tt));
  waits = each-held (λ k. AtView pair.start k (λ v. v.phase ≢ ResetWait)) 3 (0 ∷ 1 ∷ []) refl ((λ r. absurd cc), ((λ r. absurd cc), tt));
}

pair-stale : IsFresh (turn pair.start) 3 → ⊥
unfolding turn enter tick on_signal
pair-stale h = let t : 1 ≡ 0 = h.begins 0 refl refl in omega (arith, t)
