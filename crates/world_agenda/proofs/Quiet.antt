-- The nodes that hear nothing and aren't due: a turn changes nothing but their timers.
use Rattle.std.proofs.Common.{◌≡◌, ℕ, ◌+◌, ◌<◌, ◌≤◌, List, [], All, length, map, get_or, sym, ◌∙◌, ap, arith}
use Rattle.std.proofs.lemmas.List.{get_or-map, get_or_default, length-map}
use Rattle.cabling.specs.NodeSet.{Holds, IsWithin}
use Rattle.cabling.specs.Wiring.{Wiring, ports_of}
use Rattle.port_state.specs.Machine.{PortNode, NodeStep}
use Rattle.port_state.specs.Idle.{IsIdleFor}
use Rattle.cable_world.specs.Wire.{Wire}
use Rattle.cable_world.specs.Turn.{node_turn, wires_after_sends, all_wires_after_sends, last_changes}
use Rattle.cable_world.specs.running.Hearing.{Arriving, inbox_of}
use Rattle.cable_world.specs.running.Steps.{turns_of}
use Rattle.cable_world.proofs.Lemmas.{steps-length, changes-length, step-at, row-at, change-at}
use Rattle.world_agenda.specs.Clock.{caught_up}
use Rattle.world_agenda.specs.declared.heard.Heard.{Heard}
use Rattle.world_agenda.specs.Agenda.{IdlesBut}
use Rattle.world_agenda.specs.Heard.{AreSparedBut}
use Rattle.world_agenda.proofs.Hears.{none-heard}
use Rattle.world_agenda.proofs.Late.{quiet-node, quiet-wires, quiet-list}
use Rattle.world_agenda.proofs.Blend.{some-at}

module _ {N : Type 0} (r : N → PortNode) (clock idle : N → ℕ) (rests : (n : N) → IsIdleFor (idle n) (r n))
    (turns : ℕ) (heard : Heard) (visited : ℕ) (table : Arriving) (cabling : Wiring) (first : List N)
    (behind : All (λ n. clock n ≤ turns) first) (due : IdlesBut visited (turns + 1) (map (λ n. clock n + idle n) first))
    (spared : AreSparedBut heard table cabling) (within : IsWithin heard.nodes visited) (size : length first ≡ length cabling)
  where
    abbrev was : N → PortNode
    was n = caught_up turns (clock n) (r n)

    abbrev later : N → PortNode
    later n = caught_up (turns + 1) (clock n) (r n)

    abbrev olds : List PortNode
    olds = map was first

    abbrev steps : List NodeStep
    steps = turns_of table cabling olds

    abbrev news : List PortNode
    news = map (λ (s : NodeStep). s.node) steps

    sized : length olds ≡ length cabling
    sized = length-map first was ∙ size

    many : length steps ≡ length first
    many = steps-length table cabling olds sized ∙ length-map first was

    -- such a node, and its step
    record At (k : ℕ) : Type 0 where
      n : N
      is : n ≡ get_or first k n
      none : inbox_of table 0 (ports_of cabling k) ≡ []
      low : clock n ≤ turns
      few : turns + 1 ≤ clock n + idle n
      step : get_or steps k (node_turn (inbox_of table 0 (ports_of cabling k)) (was n)) ≡ node_turn (inbox_of table 0 (ports_of cabling k)) (was n)

    at : (k : ℕ) → k < length first → (Holds visited k → ⊥) → At k
    at k inside out =
        let found = some-at first k inside in
        let x = found.0 in
        let is : x ≡ get_or first k x = sym found.1 in
        let ended : get_or (map (λ n. clock n + idle n) first) k 0 ≡ clock x + idle x =
        get_or-map (λ n. clock n + idle n) first k x 0 inside ∙ ap (λ n. clock n + idle n) found.1 in
        let there = due k (omega (arith, length-map first (λ n. clock n + idle n), inside)) out in
        let old : was x ≡ get_or olds k (was x) = sym (get_or-map was first k x (was x) inside ∙ ap was found.1) in
        record {
          n = x;
          is = is;
          none = none-heard heard table cabling k spared (λ has. out (within k has));
          low = let b = behind k x inside in omega (arith, b, ap clock found.1);
          few = omega (arith, there, ended);
          step = step-at table cabling olds k (was x) (node_turn (inbox_of table 0 (ports_of cabling k)) (was x)) sized
              (omega (arith, length-map first was, inside)) old;
        }

    pub quiet-nodes : (k : ℕ) (d : PortNode) → k < length (map later first) → (Holds visited k → ⊥) →
        get_or (map later first) k d ≡ get_or news k d
    quiet-nodes k d there out =
        let inside : k < length first = omega (arith, length-map first later, there) in
        let a = at k inside out in
        let step = node_turn (inbox_of table 0 (ports_of cabling k)) (was a.n) in
        get_or-map later first k a.n d inside ∙ ap later (sym a.is)
        ∙ quiet-node turns (clock a.n) (idle a.n) (r a.n) a.low a.few (rests a.n) (inbox_of table 0 (ports_of cabling k)) a.none
        ∙ sym (ap (λ (s : NodeStep). s.node) a.step)
        ∙ sym (get_or-map (λ (s : NodeStep). s.node) steps k step d (omega (arith, many, inside)))

    pub quiet-rows : (wires : List (List Wire)) → length wires ≡ length cabling → (k : ℕ) (d : List Wire) → k < length wires → (Holds visited k → ⊥) →
        get_or wires k d ≡ get_or (all_wires_after_sends steps wires) k d
    quiet-rows wires rows k d there out =
        let inside : k < length first = omega (arith, size, rows, there) in
        let a = at k inside out in
        let step = node_turn (inbox_of table 0 (ports_of cabling k)) (was a.n) in
        let row = get_or wires k d in
        let is : row ≡ get_or wires k row = get_or_default wires k d row there in
        quiet-wires turns (clock a.n) (idle a.n) (r a.n) a.low a.few (rests a.n) (inbox_of table 0 (ports_of cabling k)) row a.none
        ∙ ap (λ (s : NodeStep). wires_after_sends 0 s.sends row) (sym a.step)
        ∙ sym (row-at steps wires k step row d (omega (arith, many, inside)) there is)

    pub quiet-changes : (changed : List ℕ) → length changed ≡ length cabling → (k d : ℕ) → k < length changed → (Holds visited k → ⊥) →
        get_or changed k d ≡ get_or (last_changes (turns + 1) olds news changed) k d
    quiet-changes changed marks k d there out =
        let inside : k < length first = omega (arith, size, marks, there) in
        let a = at k inside out in
        let c = get_or changed k d in
        let is : c ≡ get_or changed k c = get_or_default changed k d c there in
        let x = was a.n in
        let y = later a.n in
        let is_x : x ≡ get_or olds k x = sym (get_or-map was first k a.n x inside ∙ ap was (sym a.is)) in
        let is_y : y ≡ get_or news k y =
        sym (sym (quiet-nodes k y (omega (arith, length-map first later, inside)) out) ∙ get_or-map later first k a.n y inside ∙ ap later (sym a.is)) in
        let fits : length news ≡ length olds = length-map steps (λ (s : NodeStep). s.node) ∙ many ∙ sym (length-map first was) in
        let last : length (last_changes (turns + 1) olds news changed) ≡ length changed = changes-length (turns + 1) olds news changed in
        quiet-list turns (clock a.n) (idle a.n) (r a.n) a.low a.few (rests a.n) c (turns + 1)
        ∙ sym (change-at (turns + 1) olds news changed k x y c (omega (arith, length-map first was, inside)) fits (omega (arith, marks, sized)) is_x is_y is)
        ∙ get_or_default (last_changes (turns + 1) olds news changed) k 0 d (omega (arith, last, there))
