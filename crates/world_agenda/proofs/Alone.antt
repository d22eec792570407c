-- Nodes that hear nothing in the next turn and aren't due: the turn leaves them alone.
use Rattle.std.proofs.Common.{◌≡◌, ◌⊎◌, inl, inr, Bool, true, false, ℕ, suc, ◌+◌, ◌<◌, ◌≤◌, ◌++◌, List, [], ◌∷◌, All, Option, Some, None, length, map, get_or, slice_get, slice_index_or, refl, sym, ◌∙◌, ap, subst, arith, if◌then◌else◌}
use Rattle.std.proofs.lemmas.List.{get_or-map, length-map}
use Rattle.std.proofs.lemmas.Option.{slice_get_within, get_or_from_slice_get}
use Rattle.cabling.specs.NodeSet.{Holds}
use Rattle.cabling.specs.declared.cable.End.{End}
use Rattle.cabling.specs.Wiring.{Wiring, ports_of, far, IsCabling}
use Rattle.port_state.specs.declared.timing.Timing.{Timing}
use Rattle.port_state.specs.declared.signal.Signal.{Signal}
use Rattle.port_state.specs.Names.{timer, KeepsBut}
use Rattle.port_state.specs.Sends.{PortSignal}
use Rattle.port_state.specs.Clock.{misses}
use Rattle.port_state.specs.Machine.{PortNode}
use Rattle.port_state.specs.Idle.{IsIdleTick, IsIdleFor}
use Rattle.cable_world.specs.declared.wire.Travelling.{Travelling}
use Rattle.cable_world.specs.Wire.{Wire, age_signal, age_wire, gives, arrives}
use Rattle.cable_world.specs.World.{CableWorld, wire_of}
use Rattle.cable_world.specs.Turn.{signals_from, inbox, node_turn}
use Rattle.cable_world.specs.running.Hearing.{on_one}
use Rattle.cable_world.specs.Parts.{world_record}
use Rattle.world_agenda.specs.Clock.{caught_up}
use Rattle.world_agenda.specs.Agenda.{IdlesBut}
use Rattle.world_agenda.specs.Heard.{AwaitNoneBut}
use Rattle.world_agenda.specs.Alone.{TurnLeavesAlone, LeavesAloneBut, TickBut}
use Rattle.world_agenda.proofs.Late.{still-idle}
use Rattle.world_agenda.proofs.Blend.{some-at}

-- ---- nothing is heard

-- nothing arrives from a wire on which nothing is under way
none-arrives : (d : ℕ) (w : Wire) → w.signals ≡ [] → arrives d w ≡ []
none-arrives d w h = go (gives d (age_wire w)) w.signals h
  where
    go : (given : Bool) (ts : List Travelling) → ts ≡ [] →
        (if given then map (λ (t : Travelling). t.signal) (map age_signal ts) else []) ≡ []
    go true ts e = ap (λ (us : List Travelling). map (λ (t : Travelling). t.signal) (map age_signal us)) e
    go false ts e = refl

none-in :
    (w : CableWorld) (p : ℕ) (ports : List (Option End)) →
    ((i : ℕ) → signals_from w (slice_index_or ports i None) ≡ []) → inbox w p ports ≡ []
none-in w p [] h = refl
none-in w p (end ∷ ports) h =
    ap (λ (ss : List Signal). on_one p ss ++ inbox w (p + 1) ports) (h 0) ∙ none-in w (p + 1) ports (λ i. h (suc i))

-- at a node to which nothing is under way
none-awaited :
    (w : CableWorld) (set k : ℕ) → IsCabling w.cabling → AwaitNoneBut set w.wires w.cabling → (Holds set k → ⊥) →
    inbox w 0 (ports_of w.cabling k) ≡ []
none-awaited w set k is none out =
    none-in w 0 (ports_of w.cabling k) (λ i. from i (far w.cabling (record { node = k; port = i })) refl)
  where
    from : (i : ℕ) (o : Option End) → far w.cabling (record { node = k; port = i }) ≡ o → signals_from w o ≡ []
    from i None e = refl
    from i (Some other) e =
        none-arrives w.delay (wire_of w other)
        (none other.node other.port (record { node = k; port = i }) (is.both_ways (record { node = k; port = i }) other e) out)

-- ---- a node that hears nothing, and whose tick is idle

left-alone :
    (w : CableWorld) (k : ℕ) (x : PortNode) → inbox w 0 (ports_of w.cabling k) ≡ [] → misses x.clock ≡ false →
    IsIdleTick x → TurnLeavesAlone w k x
left-alone w k x none tick idle = record {
  ticks = tick;
  sends = ap (λ (ss : List PortSignal). (node_turn ss x).sends) none ∙ idle.sends;
  state = subst (λ (ss : List PortSignal). KeepsBut (timer ∷ []) x.state (node_turn ss x).node.state) (sym none) idle.state;
}

-- ---- all nodes but some

module _ {N : Type 0} (r : N → PortNode) (clock idle : N → ℕ) (rests : (n : N) → IsIdleFor (idle n) (r n))
    (turns : ℕ) (nodes : List N) (behind : All (λ n. clock n ≤ turns) nodes)
  where
    abbrev now : N → PortNode
    now n = caught_up turns (clock n) (r n)

    -- such a node, which isn't due
    idle-node :
        (due k : ℕ) (x : PortNode) → IdlesBut due (turns + 1) (map (λ n. clock n + idle n) nodes) →
        slice_get (map now nodes) k ≡ Some x → (Holds due k → ⊥) → IsIdleTick x
    idle-node due k x idles at out =
        let inside : k < length nodes = omega (arith, slice_get_within (map now nodes) k x at, length-map nodes now) in
        let found = some-at nodes k inside in
        let n = found.0 in
        let ended : get_or (map (λ n. clock n + idle n) nodes) k 0 ≡ clock n + idle n =
        get_or-map (λ n. clock n + idle n) nodes k n 0 inside ∙ ap (λ n. clock n + idle n) found.1 in
        let there = idles k (omega (arith, length-map nodes (λ n. clock n + idle n), inside)) out in
        let low : clock n ≤ turns = (let b = behind k n inside in omega (arith, b, ap clock found.1)) in
        let is : now n ≡ x = ap now (sym found.1) ∙ sym (get_or-map now nodes k n x inside) ∙ get_or_from_slice_get (map now nodes) k x x at in
        subst IsIdleTick is
        (still-idle 1 turns (clock n) (idle n) (r n) low (omega (arith, there, ended)) (rests n) 0 (omega arith))

    pub alone-but :
        (due awaiting missing all d : ℕ) (most : Timing) (c : Wiring) (wires : List (List Wire)) (changed : List ℕ) → IsCabling c →
        IdlesBut due (turns + 1) (map (λ n. clock n + idle n) nodes) → AwaitNoneBut awaiting wires c →
        TickBut missing (map now nodes) →
        ((k : ℕ) → (Holds due k ⊎ Holds awaiting k) ⊎ Holds missing k → Holds all k) →
        LeavesAloneBut all (world_record d most c (map now nodes) wires changed turns)
    alone-but due awaiting missing all d most c wires changed is idles none tick within k x at out =
        let w = world_record d most c (map now nodes) wires changed turns in
        left-alone w k x (none-awaited w awaiting k is none (λ has. out (within k (inl (inr has)))))
        (tick k x at (λ has. out (within k (inr has))))
        (idle-node due k x idles at (λ has. out (within k (inl (inl has)))))
