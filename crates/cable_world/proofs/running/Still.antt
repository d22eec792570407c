-- Turns in which nothing happens: nothing arrives, every node ticks idly, and nothing is sent.
use Rattle.std.proofs.Common.{◌≡◌, ℕ, zero, suc, ◌+◌, ◌-◌, ◌≤◌, Bool, true, false, List, [], ◌∷◌, ◌++◌, All, map, length, Option, Some, None, slice_index_or, take, refl, sym, ◌∙◌, ap, arith, add-one, if◌then◌else◌}
use Rattle.std.specs.Prelude.{nat_eq}
use Rattle.std.specs.Cmp.Lexicographic.{pointwise}
use Rattle.std.proofs.lemmas.List.{length-map}
use Rattle.std.proofs.lemmas.List.Elements.{All-head, All-tail, All-cons, All-map, All-weaker}
use Rattle.cabling.specs.declared.cable.End.{End}
use Rattle.cabling.specs.Wiring.{Wiring}
use Rattle.port_state.specs.Machine.{PortNode, NodeStep, node_tick}
use Rattle.port_state.specs.Idle.{IsIdleTick, IsIdleFor, after_ticks}
use Rattle.cable_world.specs.Wire.{Travelling, Wire, empty_wire, age_signal, age_wire, gives, arrives, stays}
use Rattle.cable_world.specs.World.{CableWorld, wire_of}
use Rattle.cable_world.specs.Turn.{signals_from, inbox, node_turn, node_turns, wires_after_sends, all_wires_after_sends, same_list, last_changes, turn, turns_after}
use Rattle.cable_world.specs.Still.{IsSilent, AreSilent, IsStillFor, hold_less, after_still, StillTurnsPass}
use Rattle.cable_world.proofs.turns.ByNumber.{no-turns, one-more}
use Rattle.cable_world.proofs.running.Sending.{no-sends}
use Rattle.cable_world.proofs.running.Acting.{same-itself}

-- ---- nothing arrives

silent-row : (row : List Wire) (p : ℕ) → All IsSilent row →
    IsSilent (slice_index_or row p empty_wire)
silent-row [] p h = refl
silent-row (v ∷ row) zero h = h 0 v (omega arith)
silent-row (v ∷ row) (suc p) h = silent-row row p (All-tail IsSilent v row h)

silent-at : (rows : List (List Wire)) (k p : ℕ) → AreSilent rows →
    IsSilent (slice_index_or (slice_index_or rows k []) p empty_wire)
silent-at [] k p h = refl
silent-at (r ∷ rows) zero p h = silent-row r p (h 0 r (omega arith))
silent-at (r ∷ rows) (suc k) p h = silent-at rows k p (All-tail (λ row. All IsSilent row) r rows h)

nothing-arrives : (d : ℕ) (v : Wire) → IsSilent v → arrives d v ≡ []
nothing-arrives d v h = go (gives d (age_wire v)) v.signals h
  where
    go : (b : Bool) (ts : List Travelling) → ts ≡ [] → (if b then map (λ (t : Travelling). t.signal) (map age_signal ts) else []) ≡ []
    go true ts e = ap (λ (us : List Travelling). map (λ (t : Travelling). t.signal) (map age_signal us)) e
    go false ts e = refl

none-from : (w : CableWorld) (end : Option End) → AreSilent w.wires → signals_from w end ≡ []
none-from w None h = refl
none-from w (Some far) h = nothing-arrives w.delay (wire_of w far) (silent-at w.wires far.node far.port h)

nothing-heard : (w : CableWorld) (p : ℕ) (ports : List (Option End)) → AreSilent w.wires →
    inbox w p ports ≡ []
nothing-heard w p [] h = refl
nothing-heard w p (end ∷ ports) h =
    ap (λ ss. map (λ s. (p, s)) ss ++ inbox w (p + 1) ports) (none-from w end h) ∙ nothing-heard w (p + 1) ports h

-- ---- every node ticks

steps-are :
    (w : CableWorld) (rows : Wiring) (nodes : List PortNode) → AreSilent w.wires → length nodes ≡ length rows →
    node_turns w rows nodes ≡ map node_tick nodes
steps-are w [] [] h e = refl
steps-are w [] (x ∷ nodes) h e = absurd (omega (arith, e))
steps-are w (r ∷ rows) [] h e = refl
steps-are w (r ∷ rows) (x ∷ nodes) h e =
    ap (λ ss. node_turn ss x ∷ node_turns w rows nodes) (nothing-heard w 0 r h)
    ∙ ap (λ steps. node_tick x ∷ steps) (steps-are w rows nodes h (omega (arith, e)))

abbrev next : PortNode → PortNode
next x = (node_tick x).node

nodes-are : (nodes : List PortNode) →
    map (λ (s : NodeStep). s.node) (map node_tick nodes) ≡ map next nodes
nodes-are [] = refl
nodes-are (x ∷ nodes) = ap (λ l. next x ∷ l) (nodes-are nodes)

-- ---- nothing is sent

stays-silent : (d : ℕ) (v : Wire) → IsSilent v → stays d v ≡ hold_less 1 v
stays-silent d v h = ap (λ ts. record v { signals = ts; held = v.held - 1 }) (go (gives d (age_wire v)) v.signals h)
  where
    go : (b : Bool) (ts : List Travelling) → ts ≡ [] → (if b then [] else map age_signal ts) ≡ ts
    go true ts e = sym e
    go false ts e = ap (map age_signal) e ∙ sym e

row-stays : (d : ℕ) (row : List Wire) → All IsSilent row → map (stays d) row ≡ map (hold_less 1) row
row-stays d [] h = refl
row-stays d (v ∷ row) h =
    ap (λ u. u ∷ map (stays d) row) (stays-silent d v (h 0 v (omega arith)))
    ∙ ap (λ r. hold_less 1 v ∷ r) (row-stays d row (All-tail IsSilent v row h))

rows-stay : (d : ℕ) (rows : List (List Wire)) → AreSilent rows →
    map (map (stays d)) rows ≡ map (map (hold_less 1)) rows
rows-stay d [] h = refl
rows-stay d (r ∷ rows) h =
    ap (λ row. row ∷ map (map (stays d)) rows) (row-stays d r (h 0 r (omega arith)))
    ∙ ap (λ l. map (hold_less 1) r ∷ l) (rows-stay d rows (All-tail (λ row. All IsSilent row) r rows h))

nothing-sent : (nodes : List PortNode) (rows : List (List Wire)) → All IsIdleTick nodes →
    all_wires_after_sends (map node_tick nodes) rows ≡ rows
nothing-sent [] rows h = refl
nothing-sent (x ∷ nodes) [] h = refl
nothing-sent (x ∷ nodes) (r ∷ rows) h =
    ap (λ ss. wires_after_sends 0 ss r ∷ all_wires_after_sends (map node_tick nodes) rows) (h 0 x (omega arith)).sends
    ∙ ap (λ row. row ∷ all_wires_after_sends (map node_tick nodes) rows) (no-sends 0 r)
    ∙ ap (λ l. r ∷ l) (nothing-sent nodes rows (All-tail IsIdleTick x nodes h))

-- ---- no list changes

list-stays : (x : PortNode) → IsIdleTick x → same_list x (next x) ≡ true
list-stays x h = ap (λ l. pointwise nat_eq x.state.list.items l) (ap (λ s. s.list.items) h.state) ∙ same-itself x

nothing-changed : (t : ℕ) (nodes : List PortNode) (changed : List ℕ) → All IsIdleTick nodes →
    last_changes t nodes (map next nodes) changed ≡ changed
nothing-changed t [] changed h = refl
nothing-changed t (x ∷ nodes) [] h = refl
nothing-changed t (x ∷ nodes) (c ∷ changed) h =
    ap (λ b. (if b then c else t) ∷ last_changes t nodes (map next nodes) changed) (list-stays x (h 0 x (omega arith)))
    ∙ ap (λ cs. c ∷ cs) (nothing-changed t nodes changed (All-tail IsIdleTick x nodes h))

-- ---- a turn, and turns

abbrev ticked : CableWorld → CableWorld
ticked w = record w {
  nodes = map next w.nodes;
  wires = map (map (hold_less 1)) w.wires;
  turns = w.turns + 1;
}

still-turn : (w : CableWorld) → length w.nodes ≡ length w.cabling → AreSilent w.wires →
    All IsIdleTick w.nodes → turn w ≡ ticked w
unfolding turn
still-turn w e s h =
    let steps = steps-are w w.cabling w.nodes s e in
    let nodes = ap (λ l. map (λ (s : NodeStep). s.node) l) steps ∙ nodes-are w.nodes in
    let wires : all_wires_after_sends (node_turns w w.cabling w.nodes) (map (map (stays w.delay)) w.wires) ≡ map (map (hold_less 1)) w.wires =
    ap (λ l. all_wires_after_sends l (map (map (stays w.delay)) w.wires)) steps ∙ nothing-sent w.nodes (map (map (stays w.delay)) w.wires) h
    ∙ rows-stay w.delay w.wires s in
    let changed : last_changes (w.turns + 1) w.nodes (map (λ (s : NodeStep). s.node) (node_turns w w.cabling w.nodes)) w.changed ≡ w.changed =
    ap (λ l. last_changes (w.turns + 1) w.nodes l w.changed) nodes ∙ nothing-changed (w.turns + 1) w.nodes w.changed h in
    ap (λ l. record w { nodes = map (λ (s : NodeStep). s.node) (node_turns w w.cabling w.nodes); wires = l; changed = last_changes (w.turns + 1) w.nodes (map (λ (s : NodeStep). s.node) (node_turns w w.cabling w.nodes)) w.changed; turns = w.turns + 1 }) wires
    ∙ ap (λ l. record w { nodes = map (λ (s : NodeStep). s.node) (node_turns w w.cabling w.nodes); wires = map (map (hold_less 1)) w.wires; changed = l; turns = w.turns + 1 }) changed
    ∙ ap (λ l. record w { nodes = l; wires = map (map (hold_less 1)) w.wires; turns = w.turns + 1 }) nodes

-- after no turn
same-nodes : (nodes : List PortNode) → map (after_ticks 0) nodes ≡ nodes
same-nodes [] = refl
same-nodes (x ∷ nodes) = ap (λ l. x ∷ l) (same-nodes nodes)

same-hold : (v : Wire) → hold_less 0 v ≡ v
same-hold v = let e : v.held - 0 ≡ v.held = omega arith in ap (λ n. record v { held = n }) e

same-wires : (row : List Wire) → map (hold_less 0) row ≡ row
same-wires [] = refl
same-wires (v ∷ row) = ap (λ u. u ∷ map (hold_less 0) row) (same-hold v) ∙ ap (λ r. v ∷ r) (same-wires row)

same-rows : (rows : List (List Wire)) → map (map (hold_less 0)) rows ≡ rows
same-rows [] = refl
same-rows (r ∷ rows) = ap (λ row. row ∷ map (map (hold_less 0)) rows) (same-wires r) ∙ ap (λ l. r ∷ l) (same-rows rows)

none-passes : (w : CableWorld) → after_still 0 w ≡ w
none-passes w =
    let t : w.turns + 0 ≡ w.turns = omega arith in
    ap (λ l. record w { nodes = l; wires = map (map (hold_less 0)) w.wires; turns = w.turns + 0 }) (same-nodes w.nodes)
    ∙ ap (λ l. record w { wires = l; turns = w.turns + 0 }) (same-rows w.wires)
    ∙ ap (λ n. record w { turns = n }) t

-- after one more
more-nodes : (k : ℕ) (nodes : List PortNode) →
    map next (map (after_ticks k) nodes) ≡ map (after_ticks (suc k)) nodes
more-nodes k [] = refl
more-nodes k (x ∷ nodes) = ap (λ l. after_ticks (suc k) x ∷ l) (more-nodes k nodes)

more-hold : (k : ℕ) (v : Wire) → hold_less 1 (hold_less k v) ≡ hold_less (suc k) v
more-hold k v = let e : v.held - k - 1 ≡ v.held - suc k = omega arith in ap (λ n. record v { held = n }) e

more-wires : (k : ℕ) (row : List Wire) →
    map (hold_less 1) (map (hold_less k) row) ≡ map (hold_less (suc k)) row
more-wires k [] = refl
more-wires k (v ∷ row) =
    ap (λ u. u ∷ map (hold_less 1) (map (hold_less k) row)) (more-hold k v) ∙ ap (λ r. hold_less (suc k) v ∷ r) (more-wires k row)

more-rows : (k : ℕ) (rows : List (List Wire)) →
    map (map (hold_less 1)) (map (map (hold_less k)) rows) ≡ map (map (hold_less (suc k))) rows
more-rows k [] = refl
more-rows k (r ∷ rows) =
    ap (λ row. row ∷ map (map (hold_less 1)) (map (map (hold_less k)) rows)) (more-wires k r)
    ∙ ap (λ l. map (hold_less (suc k)) r ∷ l) (more-rows k rows)

one-passes : (k : ℕ) (w : CableWorld) → ticked (after_still k w) ≡ after_still (suc k) w
one-passes k w =
    let t : w.turns + k + 1 ≡ w.turns + suc k = omega arith in
    ap (λ l. record w { nodes = l; wires = map (map (hold_less 1)) (map (map (hold_less k)) w.wires); turns = w.turns + k + 1 }) (more-nodes k w.nodes)
    ∙ ap (λ l. record w { nodes = map (after_ticks (suc k)) w.nodes; wires = l; turns = w.turns + k + 1 }) (more-rows k w.wires)
    ∙ ap (λ n. record w { nodes = map (after_ticks (suc k)) w.nodes; wires = map (map (hold_less (suc k))) w.wires; turns = n }) t

pub still-silent : (k : ℕ) (rows : List (List Wire)) → AreSilent rows →
    AreSilent (map (map (hold_less k)) rows)
still-silent k rows h =
    All-map (λ row. All IsSilent row) (map (hold_less k)) rows
    (All-weaker (λ row. All IsSilent row) (λ row. All IsSilent (map (hold_less k) row)) (λ row r. All-map IsSilent (hold_less k) row r) rows h)

idle-then : (k : ℕ) (nodes : List PortNode) → All (λ x. IsIdleFor (suc k) x) nodes →
    All IsIdleTick (map (after_ticks k) nodes)
idle-then k nodes h =
    All-map IsIdleTick (after_ticks k) nodes
    (All-weaker (λ x. IsIdleFor (suc k) x) (λ x. IsIdleTick (after_ticks k x)) (λ x i. i k (omega arith)) nodes h)

pub idle-less : (j k : ℕ) (x : PortNode) → j ≤ k → IsIdleFor k x → IsIdleFor j x
idle-less j k x few h = λ i below. h i (omega (arith, few, below))

pub still-turns : StillTurnsPass
still-turns zero w e h = no-turns w ∙ sym (none-passes w)
still-turns (suc k) w e h =
    let less : IsStillFor k w = record {
      silent = λ some. h.silent (omega arith);
      idle = All-weaker (λ x. IsIdleFor (suc k) x) (λ x. IsIdleFor k x) (λ x i. idle-less k (suc k) x (omega arith) i) w.nodes h.idle;
    } in
    ap (λ n. turns_after n w) (sym (add-one k)) ∙ one-more k w ∙ ap turn (still-turns k w e less)
    ∙ still-turn (after_still k w) (length-map w.nodes (after_ticks k) ∙ e) (still-silent k w.wires (h.silent (omega arith))) (idle-then k w.nodes h.idle)
    ∙ one-passes k w

-- ---- machines that are asked one after the other
pub all-taken : {X : Type 0} → (P : X → Type 0) (k : ℕ) (xs : List X) → length xs ≤ k →
    All P (take k xs) → All P xs
all-taken P zero [] few h = h
all-taken P (suc k) [] few h = h
all-taken P zero (x ∷ xs) few h = absurd (omega arith)
all-taken P (suc k) (x ∷ xs) few h =
    All-cons P x xs (All-head P x (take k xs) h) (all-taken P k xs (omega arith) (All-tail P x (take k xs) h))
