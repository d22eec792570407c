-- Worked runs: two nodes are plugged together at power-on, of which the second is forced. Resets go
-- both ways, and the second node becomes the root.
use Rattle.port_state.specs.Clock.{even}
use Rattle.std.proofs.Common.{◌≡◌, ◌≢◌, ℕ, zero, suc, Bool, true, false, List, [], ◌∷◌, None, Some, slice_get, refl, subst, arith}
use Rattle.self_id.specs.Group.{group}
use Rattle.topology_stack.specs.Tree.{Tree, branch, no_more, unplugged, up, down}
use Rattle.port_state.specs.declared.signal.Signal.{Signal}
use Rattle.port_state.specs.declared.signal.Signal.TheVariants as signal
use Rattle.port_state.specs.Entry.{enter}
use Rattle.port_state.specs.Heard.{on_signal}
use Rattle.port_state.specs.PowerOn.{power_on}
use Rattle.port_state.specs.Coins.{coins_of_bits}
use Rattle.port_state.specs.Timing.{InRange, usual_timing}
use Rattle.port_state.specs.Tick.{tick}
use Rattle.port_state.specs.Machine.{PortNode}
use Rattle.port_state.proofs.Lemmas.{valid-power_on}
use Rattle.cabling.specs.declared.cable.End.{End}
use Rattle.cabling.specs.Wiring.{Wiring, far}
use Rattle.cabling.specs.NodeSet.{Holds}
use Rattle.cabling.specs.Component.{IsComponent}
use Rattle.cabling.specs.Labels.{labels}
use Rattle.cable_world.specs.declared.act.Act.TheVariants.{Plug}
use Rattle.cable_world.specs.World.{CableWorld, IsNodeAtPowerOn, IsPowerOnWorld, world_of_nodes}
use Rattle.cable_world.specs.Turn.{turn, turns_after}
use Rattle.cable_world.specs.Act.{hold}
use Rattle.cable_world.specs.Quiet.{no_holds, quiet_after}
use Rattle.cable_world.specs.Events.{Event, acts, turns, Runs}
use Rattle.cable_world.specs.Outcome.{AtView, IsTree}
use Rattle.cable_world.proofs.Lemmas.{some-same, each-held, no-core, no-loop, attrs, at, after_plug, after_pull}
use Rattle.outcomes.specs.Forced.{waits_due}
use Rattle.world_laws.specs.Arrival.{heard_in}
use Rattle.world_laws.specs.Freshness.{RunsAtOnce, HasOneWaiting}
use Rattle.convergence.specs.Turns.{turns_to_settle}
use Rattle.cable_world.proofs.Lemmas.{act-forced, in-range-forced, powered-in-range}
use Rattle.world_laws.proofs.Freshness.{first-roots}
use Rattle.cable_world.specs.Times.{KeepsTime, longest_in_range}

-- with 3 ports, a link, S400 and no contender; forced or not
abbrev node : Bool → PortNode
node force = record { state = power_on 3 (attrs true 2 false) force (usual_timing 4); coins = coins_of_bits 0 1; clock = even }

abbrev nodes : List PortNode
nodes = node false ∷ node true ∷ []

abbrev alone : CableWorld
alone = world_of_nodes 4 nodes

abbrev plugged : CableWorld
plugged = after_plug (at 0 0) (at 1 0) alone

-- ---- a Reset is heard at the far end

abbrev quiet : ℕ → List Event
quiet zero = []
quiet (suc n) = turns ∷ quiet n

abbrev run : (n : ℕ) (w : CableWorld) → Runs (quiet n) w (turns_after n w)
unfolding turns_after
run zero w = refl
run (suc n) w = (turn w, refl, run n (turn w))

abbrev heard : ℕ → CableWorld → List Signal
heard n w = heard_in (at 1 0) (quiet n) w (turns_after n w) (run n w)

-- at once where the wire isn't held, and after d turns where it is
heard-in-time :
    (heard 1 plugged ≡ signal.Reset ∷ [])
    × (heard 3 (hold (at 0 0) 9 plugged) ≡ [])
    × (heard 4 (hold (at 0 0) 9 plugged) ≡ signal.Reset ∷ [])
unfolding turn turns_after enter tick on_signal group
heard-in-time = (refl, refl, refl)

-- not where the cable is pulled first
lost : heard 4 (after_pull (at 0 0) (hold (at 0 0) 9 plugged)) ≡ []
unfolding turn turns_after enter tick on_signal group
lost = refl

-- ---- the second node, which alone is forced, becomes the root

usual-4 : InRange 4 (usual_timing 4)
usual-4 = record { hold_least = omega arith; hold_most = omega arith; force = refl; timeout = refl; short_least = omega arith; short_most = omega arith; long_least = omega arith; long_most = omega arith }

powered-on : (force : Bool) → IsNodeAtPowerOn 4 (node force).state
powered-on force = record {
  is = refl;
  valid = valid-power_on 3 (attrs true 2 false) force (usual_timing 4) (omega arith) (omega arith) (record { gap = omega arith; speed = omega arith; delay = omega arith; power = omega arith }) refl;
  timing = usual-4;
}

each-on : (k : ℕ) (x : PortNode) → slice_get nodes k ≡ Some x → IsNodeAtPowerOn 4 x.state
each-on zero x e = subst (λ (z : PortNode). IsNodeAtPowerOn 4 z.state) (some-same (node false) x e) (powered-on false)
each-on (suc zero) x e = subst (λ (z : PortNode). IsNodeAtPowerOn 4 z.state) (some-same (node true) x e) (powered-on true)
each-on (suc (suc k)) x e = absurd cc

each-clock : (k : ℕ) (x : PortNode) → slice_get nodes k ≡ Some x → KeepsTime (longest_in_range 4) x.state.timing x.clock
each-clock zero x e = subst (λ (z : PortNode). KeepsTime (longest_in_range 4) z.state.timing z.clock) (some-same (node false) x e) tt
each-clock (suc zero) x e = subst (λ (z : PortNode). KeepsTime (longest_in_range 4) z.state.timing z.clock) (some-same (node true) x e) tt
each-clock (suc (suc k)) x e = absurd cc

first-world : IsPowerOnWorld alone
first-world = record { some_delay = omega arith; few_nodes = omega arith; nodes = λ k x e. powered-in-range 4 x.state (omega arith) (omega arith) (each-on k x e); clocks = each-clock; is = refl }

at-once : RunsAtOnce alone plugged (acts (Plug (at 0 0) (at 1 0)) ∷ [])
at-once = record { run = (plugged, (tt, refl, refl), refl); no_turn = refl }

abbrev one_cable : Wiring
one_cable = (Some (at 1 0) ∷ None ∷ None ∷ []) ∷ (Some (at 0 0) ∷ None ∷ None ∷ []) ∷ []

cables : plugged.cabling ≡ one_cable
cables = refl

-- the other node of the cable
leads-back : (n p : ℕ) (b : End) → far one_cable (at n p) ≡ Some b → Holds 3 b.node
leads-back zero zero b e = subst (λ (z : End). Holds 3 z.node) (some-same (at 1 0) b e) refl
leads-back zero (suc zero) b e = absurd cc
leads-back zero (suc (suc zero)) b e = absurd cc
leads-back zero (suc (suc (suc p))) b e = absurd cc
leads-back (suc zero) zero b e = subst (λ (z : End). Holds 3 z.node) (some-same (at 0 0) b e) refl
leads-back (suc zero) (suc zero) b e = absurd cc
leads-back (suc zero) (suc (suc zero)) b e = absurd cc
leads-back (suc zero) (suc (suc (suc p))) b e = absurd cc
leads-back (suc (suc n)) p b e = absurd cc

pair-component : IsComponent one_cable 0 3
pair-component = record {
  holds = refl;
  closed = λ a b e h. leads-back a.node a.port b e;
  least = λ other has closed. each-held (λ k. Holds other k) 3 (0 ∷ 1 ∷ []) refl (has, (closed (at 0 0) (at 1 0) refl has, tt));
}

abbrev seen : Tree
seen = branch (labels [] 1) (down (branch (labels [] 0) (up (unplugged (unplugged no_more)))) (unplugged (unplugged no_more)))

one-waits : HasOneWaiting plugged 0 3 1
unfolding enter
one-waits = record {
  component = pair-component;
  no_loop = no-loop plugged one_cable 3 refl (no-core one_cable (labels []) 1 3 seen (refl, refl, ((λ e. absurd cc), (refl, refl, (refl, tt)), tt)) refl);
  alone = record {
    holds = refl;
    waits = refl;
    others = each-held (λ k. k ≢ 1 → AtView plugged k (λ v. waits_due v ≡ false)) 3 (0 ∷ 1 ∷ []) refl ((λ ne. refl), ((λ ne. absurd (ne refl)), tt));
  };
  enough = act-forced (Plug (at 0 0) (at 1 0)) alone plugged refl (λ k x e. in-range-forced 4 x.state.timing (omega arith) (each-on k x e).timing) 1;
}

pub second-is-root : (t : Tree) × IsTree (quiet_after no_holds (turns_to_settle plugged) plugged) 3 1 t
second-is-root = first-roots no_holds alone plugged (acts (Plug (at 0 0) (at 1 0)) ∷ []) (turns_to_settle plugged) 0 3 1 first-world at-once one-waits (omega arith)
