-- The tables of a world at power-on.
use Rattle.std.proofs.Common.{◌≡◌, ℕ, zero, suc, ◌+◌, ◌≤◌, List, [], ◌∷◌, All, map, length, replicate, get_or, Some, slice_get, refl, sym, subst, ◌∙◌, ap, arith}
use Rattle.std.proofs.lemmas.List.{length-replicate}
use Rattle.std.proofs.lemmas.List.Elements.{All-map}
use Rattle.cabling.specs.Wiring.{Wiring, ArePortCounts, without_cables}
use Rattle.port_state.specs.declared.timing.Timing.{Timing}
use Rattle.port_state.specs.Valid.{IsValid}
use Rattle.port_state.specs.Clock.{even}
use Rattle.port_state.specs.Machine.{PortNode}
use Rattle.cable_world.specs.Times.{CanBeForced, KeepsTime, longest_in_range}
use Rattle.cable_world.specs.Wire.{Wire, empty_wire}
use Rattle.cable_world.specs.World.{IsNodeAtPowerOn, IsPowered, IsPowerOnWorld, no_wires, slack_of, world_with_times}
use Rattle.cable_world.specs.Parts.{world_record}
use Rattle.cable_world.proofs.Options.{some-same}
use Rattle.cable_world.proofs.Times.{in-range-even, in-range-forced}
use Rattle.cable_world.proofs.tables.Slack.{even-slack}

abbrev ports : PortNode → ℕ
ports x = x.state.ports

-- what holds of each machine, holds of each node by its number
abbrev EachNode : (PortNode → Type 0) → List PortNode → Type 0
EachNode P nodes = (k : ℕ) (x : PortNode) → slice_get nodes k ≡ Some x → P x

each-at : (P : PortNode → Type 0) (nodes : List PortNode) → All P nodes → EachNode P nodes
each-at P [] h k x e = absurd cc
each-at P (y ∷ nodes) h zero x e = subst P (some-same y x e) (h 0 y (omega arith))
each-at P (y ∷ nodes) h (suc k) x e = each-at P nodes (λ j z lt. h (suc j) z (omega arith)) k x e

pub each-node :
    {M : Type 0} → (P : PortNode → Type 0) (f : M → PortNode) (machines : List M) →
    All (λ m. P (f m)) machines → EachNode P (map f machines)
each-node P f machines h = each-at P (map f machines) (All-map P f machines h)

-- a clock that misses no turn keeps time
pub even-paced :
    (longest : Timing) (nodes : List PortNode) → EachNode (λ x. x.clock ≡ even) nodes →
    EachNode (λ x. KeepsTime longest x.state.timing x.clock) nodes
even-paced longest nodes h k x at = subst (KeepsTime longest x.state.timing) (sym (h k x at)) tt

-- where times are in their ranges all clocks are even, and each node can be forced
pub forced-in-range :
    {M : Type 0} → (f : M → PortNode) (d : ℕ) (machines : List M) → 1 ≤ d →
    All (λ m. IsNodeAtPowerOn d (f m).state) machines →
    All (λ m. KeepsTime (longest_in_range d) (f m).state.timing (f m).clock) machines →
    All (λ m. CanBeForced (d + slack_of (map f machines)) (longest_in_range d) (f m).state.timing) machines
forced-in-range f d machines some on keeps k m inside =
    let even : slack_of (map f machines) ≡ 0 =
    even-slack (map f machines) (λ j x at. in-range-even d x.state.timing x.clock
    (each-node (λ (y : PortNode). IsNodeAtPowerOn d y.state) f machines on j x at).timing
    (each-node (λ (y : PortNode). KeepsTime (longest_in_range d) y.state.timing y.clock) f machines keeps j x at)) in
    let none : d ≡ d + slack_of (map f machines) = omega (arith, even) in
    let t = (f (get_or machines k m)).state.timing in
    subst (λ e. CanBeForced e (longest_in_range d) t) none (in-range-forced d t some (on k m inside).timing)

pub are-counts : (nodes : List PortNode) → EachNode (λ x. IsValid x.state) nodes → ArePortCounts (map ports nodes)
are-counts [] h i lt = absurd (omega arith)
are-counts (x ∷ nodes) h zero lt = let v = h 0 x refl in (v.bounded.some_port, v.bounded.few_ports)
are-counts (x ∷ nodes) h (suc i) lt = are-counts nodes (λ k y e. h (suc k) y e) i (omega arith)

pub rows-are : (nodes : List PortNode) →
    map (λ count. replicate count empty_wire) (map ports nodes) ≡ map no_wires nodes
rows-are [] = refl
rows-are (x ∷ nodes) = ap (λ rows. no_wires x ∷ rows) (rows-are nodes)

-- rows that were made for the same counts are as long
pub as-long :
    {A B : Type 0} → (a : A) (b : B) (counts : List ℕ) →
    map length (map (λ count. replicate count a) counts) ≡ map length (map (λ count. replicate count b) counts)
as-long a b [] = refl
as-long a b (n ∷ counts) =
    ap (λ k. k ∷ map length (map (λ count. replicate count a) counts)) (length-replicate n a ∙ sym (length-replicate n b))
    ∙ ap (λ ks. length (replicate n b) ∷ ks) (as-long a b counts)

pub start-is :
    (d : ℕ) (longest : Timing) (n : ℕ) (nodes : List PortNode) (counts : List ℕ) (c : Wiring) (wires : List (List Wire))
    (changed : List ℕ) → counts ≡ map ports nodes → c ≡ without_cables counts →
    wires ≡ map (λ count. replicate count empty_wire) counts → changed ≡ replicate n 0 → n ≡ length nodes →
    world_record d longest c nodes wires changed 0 ≡ world_with_times d longest nodes
start-is d longest n nodes counts c wires changed p cc_is w k long =
    let cables : c ≡ without_cables (map ports nodes) = cc_is ∙ ap without_cables p in
    let rows : wires ≡ map no_wires nodes = w ∙ ap (map (λ count. replicate count empty_wire)) p ∙ rows-are nodes in
    let none : changed ≡ replicate (length nodes) 0 = k ∙ ap (λ m. replicate m 0) long in
    rw (cables, rows, none) refl

pub power-on :
    (d : ℕ) (longest : Timing) (nodes : List PortNode) → 1 ≤ d → length nodes ≤ 63 →
    EachNode (λ x. IsPowered d longest x.state) nodes →
    EachNode (λ x. KeepsTime longest x.state.timing x.clock) nodes →
    IsPowerOnWorld (world_with_times d longest nodes)
power-on d longest nodes one few h paced = record { some_delay = one; few_nodes = few; nodes = h; clocks = paced; is = refl }
