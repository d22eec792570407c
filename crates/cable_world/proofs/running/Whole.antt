-- A world by its parts: what a lawful one gives to the code, and its turn.
use Rattle.std.proofs.Common.{◌≡◌, Bool, true, ℕ, ◌+◌, ◌-◌, ◌<◌, ◌≤◌, List, [], ◌∷◌, All, map, length, slice_index_or, slice_set, is_some, None, get_or, refl, sym, ◌∙◌, ap, arith, subst, true≢false}
use Rattle.std.specs.Coded.{le_prop}
use Rattle.std.specs.List.{AllByRecursion}
use Rattle.std.specs.Prelude.{Vec, Result, Ok, Err, ◌↔◌, IsTrue, IsFalse, OnOk}
use Rattle.std.specs.Vec.{with_items}
use Rattle.std.proofs.lemmas.List.{get_or_default, length-map, length-set, set-get_or, with_items_is}
use Rattle.std.proofs.Math.Seq.{map-set_same}
use Rattle.std.proofs.lemmas.Bool.{lt-ltb}
use Rattle.std.proofs.lemmas.List.Elements.{All-from_recursion}
use Rattle.std.proofs.Math.Logic.{∥∥₁_elim}
use Rattle.cabling.specs.declared.cable.End.{End}
use Rattle.cabling.specs.Wiring.{Wiring, ports_of, far}
use Rattle.cabling.specs.Change.{pull_fault}
use Rattle.cabling.specs.declared.cable.CableFault.{CableFault}
use Rattle.port_state.specs.declared.timing.Timing.{Timing}
use Rattle.port_state.specs.Machine.{PortNode, NodeStep}
use Rattle.cable_world.specs.declared.act.ActStop.{ActStop}
use Rattle.cable_world.specs.declared.act.ActStop.TheVariants.{Fault, Memory}
use Rattle.cable_world.specs.Answer.{IfFault, IsMemory}
use Rattle.cable_world.specs.Wire.{Travelling, Wire, empty_wire, arrives, stays}
use Rattle.cable_world.specs.World.{CableWorld, put, wire_of}
use Rattle.cable_world.specs.Turn.{node_turns, all_wires_after_sends, last_changes, turn}
use Rattle.cable_world.specs.Lawful.{AgesFall, IsWellFormed, IsLawful}
use Rattle.cable_world.specs.Run.{IsReached}
use Rattle.cable_world.specs.running.Ages.{AreYoung}
use Rattle.cable_world.specs.running.Hearing.{Arriving}
use Rattle.cable_world.specs.running.Steps.{turns_of, HasItsPorts}
use Rattle.cable_world.specs.Parts.{world_record}
use Rattle.cable_world.proofs.OneProof.{lawful_prop}
use Rattle.cable_world.proofs.StaysLawful.{reached-lawful, reached-runs}
use Rattle.cable_world.proofs.tables.TablesInSteps.{sent-length}
use Rattle.cable_world.proofs.running.AllNodes.{turns-are}

pub lawful-now : (w : CableWorld) → ∥ IsReached w ∥₁ → IsLawful w
lawful-now w r = ∥∥₁_elim r (lawful_prop w) (reached-lawful w)

pub short-now : (w : CableWorld) → ∥ IsReached w ∥₁ → w.delay ≤ 16
short-now w r = ∥∥₁_elim r le_prop (λ h. (reached-runs w h).short_delay)

-- ---- what the code asks of it

pub young-from : (most : ℕ) (ts : List Travelling) → most ≤ 15 → AgesFall most ts →
    AllByRecursion (λ (t : Travelling). t.age < 255) ts
young-from most [] few h = tt
young-from most (t ∷ ts) few h = (omega (arith, h.0, few), young-from t.age ts (omega (arith, h.0, few)) h.1)

pub all-young : (w : CableWorld) → w.delay ≤ 16 → IsWellFormed w → All (λ row. All AreYoung row) w.wires
all-young w short f = λ k e inside p u within.
    let row : get_or w.wires k e ≡ slice_index_or w.wires k [] = get_or_default w.wires k e [] inside in
    let there : get_or (get_or w.wires k e) p u ≡ wire_of w (record { node = k; port = p }) =
    get_or_default (get_or w.wires k e) p u empty_wire within ∙ ap (λ r. slice_index_or r p empty_wire) row in
    let ages = f.ages (record { node = k; port = p }) in
    let few : w.delay - 1 ≤ 15 = omega (arith, short) in
    subst AreYoung (sym there) (All-from_recursion (λ (t : Travelling). t.age < 255) _ (young-from (w.delay - 1) _ few ages))

pub has-its-ports : (w : CableWorld) → IsWellFormed w → HasItsPorts w.cabling w.nodes
has-its-ports w f k x at = (f.nodes k x at).ports

-- ---- its turn

pub turn-is :
    (w : CableWorld) (table : Arriving) (nodes : List PortNode) (old wires : List (List Wire)) (changed : List ℕ) →
    table ≡ map (map (arrives w.delay)) w.wires → old ≡ map (map (stays w.delay)) w.wires →
    nodes ≡ map (λ (s : NodeStep). s.node) (turns_of table w.cabling w.nodes) →
    changed ≡ last_changes (w.turns + 1) w.nodes nodes w.changed →
    wires ≡ all_wires_after_sends (turns_of table w.cabling w.nodes) old →
    record w { nodes = nodes; wires = wires; changed = changed; turns = w.turns + 1 } ≡ turn w
unfolding turn
turn-is w table nodes old wires changed t o n c v =
    let steps = turns-are w table t w.cabling w.nodes in
    let now : List NodeStep = node_turns w w.cabling w.nodes in
    let is_nodes : nodes ≡ map (λ (s : NodeStep). s.node) now = n ∙ ap (λ ss. map (λ (s : NodeStep). s.node) ss) steps in
    let is_wires : wires ≡ all_wires_after_sends now (map (map (stays w.delay)) w.wires) =
    v ∙ ap (λ ss. all_wires_after_sends ss old) steps ∙ ap (λ r. all_wires_after_sends now r) o in
    rw (is_wires, c, is_nodes) refl

-- rows of a table stay as long
pub rows-long : {A B : Type 0} → (f : A → B) (rows : List (List A)) →
    map length (map (map f) rows) ≡ map length rows
rows-long f [] = refl
rows-long f (r ∷ rows) = ap (λ n. n ∷ map length (map (map f) rows)) (length-map r f) ∙ ap (λ ns. length r ∷ ns) (rows-long f rows)

pub sent-long : (steps : List NodeStep) (rows : List (List Wire)) →
    map length (all_wires_after_sends steps rows) ≡ map length rows
sent-long (s ∷ steps) (r ∷ rows) =
    ap (λ n. n ∷ map length (all_wires_after_sends steps rows)) (sent-length 0 s.sends r) ∙ ap (λ ns. length r ∷ ns) (sent-long steps rows)
sent-long steps rows = refl

-- ---- its lists, as vectors keep them

pub parts-are :
    {M Z : Type 0} → (f : M → PortNode) (d : ℕ) (most : Timing) (c : Wiring) (t : ℕ)
    (machines : Vec M Z) (wires : Vec (List Wire) Z) (changed : Vec ℕ Z) (ms : List M) (ws : List (List Wire)) (cs : List ℕ) →
    length ms ≡ machines.len → length ws ≡ wires.len → length cs ≡ changed.len →
    world_record d most c (map f (with_items machines ms).items) (with_items wires ws).items (with_items changed cs).items t
    ≡ world_record d most c (map f ms) ws cs t
parts-are f d most c t machines wires changed ms ws cs m w k =
    rw (with_items_is machines ms m, with_items_is wires ws w, with_items_is changed cs k) refl

-- a row that is put in its own place
pub put-back : {X : Type 0} → (xs : List X) (i : ℕ) (x y : X) → x ≡ get_or xs i x → y ≡ x → slice_set xs i y ≡ xs
put-back xs i x y at same = ap (slice_set xs i) (same ∙ at) ∙ set-get_or xs i x

-- ---- a hold

pub may-hold :
    (c : Wiring) (end : End) → end.node < length c → end.port < length (ports_of c end.node) → is_some (far c end) ≡ true →
    pull_fault c end ≡ None
may-hold c end n p there = rw (lt-ltb end.node (length c) n, lt-ltb end.port (length (ports_of c end.node)) p, there) refl

pub held-is :
    (rows : List (List Wire)) (end : End) (turns : ℕ) (row new : List Wire) → end.node < length rows → row ≡ get_or rows end.node row →
    new ≡ slice_set row end.port (record (slice_index_or row end.port empty_wire) { held = turns }) →
    slice_set rows end.node new
    ≡ put end (record (slice_index_or (slice_index_or rows end.node []) end.port empty_wire) { held = turns }) rows
held-is rows end turns row new h at made =
    ap (slice_set rows end.node)
    (made ∙ ap (λ r. slice_set r end.port (record (slice_index_or r end.port empty_wire) { held = turns })) (at ∙ get_or_default rows end.node row [] h))

pub put-long : (rows : List (List Wire)) (end : End) (v : Wire) →
    map length (put end v rows) ≡ map length rows
put-long rows end v = map-set_same length rows end.node (slice_set (slice_index_or rows end.node []) end.port v) [] (length-set (slice_index_or rows end.node []) end.port v)

-- what holds of the slices before and after a call, holds of the vectors
pub vectors-related :
    {M Z : Type 0} → (P : CableWorld → CableWorld → Type 0) (f h : M → PortNode) (d : ℕ) (most : Timing) (c k : Wiring) (t s : ℕ)
    (machines : Vec M Z) (wires : Vec (List Wire) Z) (changed : Vec ℕ Z)
    (ms nms : List M) (ws nws : List (List Wire)) (cs ncs : List ℕ) →
    (ms ≡ machines.items) × (length ms ≡ machines.len) × (length nms ≡ length ms) →
    (ws ≡ wires.items) × (length ws ≡ wires.len) × (length nws ≡ length ws) →
    (cs ≡ changed.items) × (length cs ≡ changed.len) × (length ncs ≡ length cs) →
    P (world_record d most c (map f ms) ws cs t) (world_record d most k (map h nms) nws ncs s) →
    P (world_record d most c (map f machines.items) wires.items changed.items t)
    (world_record d most k (map h (with_items machines nms).items) (with_items wires nws).items (with_items changed ncs).items s)
vectors-related P f h d most c k t s machines wires changed ms nms ws nws cs ncs m w e p =
    let before : world_record d most c (map f ms) ws cs t ≡ world_record d most c (map f machines.items) wires.items changed.items t =
    ap (λ xs. world_record d most c (map f xs) ws cs t) m.0 ∙ ap (λ rows. world_record d most c (map f machines.items) rows cs t) w.0
    ∙ ap (λ ns. world_record d most c (map f machines.items) wires.items ns t) e.0 in
    let after = parts-are h d most k s machines wires changed nms nws ncs (m.2 ∙ m.1) (w.2 ∙ w.1) (e.2 ∙ e.1) in
    subst (λ u. P u (world_record d most k (map h (with_items machines nms).items) (with_items wires nws).items (with_items changed ncs).items s)) before
    (subst (λ v. P (world_record d most c (map f ms) ws cs t) v) (sym after) p)

-- the world that stays in the vectors, where their slices did the turn
pub vectors-turn :
    {M Z : Type 0} → (f : M → PortNode) (d : ℕ) (most : Timing) (c : Wiring) (t : ℕ)
    (machines : Vec M Z) (wires : Vec (List Wire) Z) (changed : Vec ℕ Z)
    (ms nms : List M) (ws nws : List (List Wire)) (cs ncs : List ℕ) →
    (ms ≡ machines.items) × (length ms ≡ machines.len) × (length nms ≡ length ms) →
    (ws ≡ wires.items) × (length ws ≡ wires.len) × (length nws ≡ length ws) →
    (cs ≡ changed.items) × (length cs ≡ changed.len) × (length ncs ≡ length cs) →
    world_record d most c (map f nms) nws ncs (t + 1) ≡ turn (world_record d most c (map f ms) ws cs t) →
    world_record d most c (map f (with_items machines nms).items) (with_items wires nws).items (with_items changed ncs).items (t + 1)
    ≡ turn (world_record d most c (map f machines.items) wires.items changed.items t)
vectors-turn f d most c t machines wires changed ms nms ws nws cs ncs m w e done =
    vectors-related (λ u v. v ≡ turn u) f f d most c c t (t + 1) machines wires changed ms nms ws nws cs ncs m w e done

-- nothing was changed
pub vectors-same :
    {M Z : Type 0} → (f : M → PortNode) (d : ℕ) (most : Timing) (c k : Wiring) (t : ℕ)
    (machines : Vec M Z) (wires : Vec (List Wire) Z) (changed : Vec ℕ Z)
    (ms nms : List M) (ws nws : List (List Wire)) (cs ncs : List ℕ) →
    (ms ≡ machines.items) × (length ms ≡ machines.len) × (length nms ≡ length ms) →
    (ws ≡ wires.items) × (length ws ≡ wires.len) × (length nws ≡ length ws) →
    (cs ≡ changed.items) × (length cs ≡ changed.len) × (length ncs ≡ length cs) →
    (k ≡ c) × (nms ≡ ms) × (nws ≡ ws) × (ncs ≡ cs) →
    world_record d most k (map f (with_items machines nms).items) (with_items wires nws).items (with_items changed ncs).items t
    ≡ world_record d most c (map f machines.items) wires.items changed.items t
vectors-same f d most c k t machines wires changed ms nms ws nws cs ncs m w h same =
    let e : world_record d most k (map f nms) nws ncs t ≡ world_record d most c (map f ms) ws cs t =
    ap (λ z. world_record d most z (map f nms) nws ncs t) same.0 ∙ ap (λ xs. world_record d most c (map f xs) nws ncs t) same.1
    ∙ ap (λ rows. world_record d most c (map f ms) rows ncs t) same.2 ∙ ap (λ ns. world_record d most c (map f ms) ws ns t) same.3 in
    vectors-related (λ u v. v ≡ u) f f d most c k t t machines wires changed ms nms ws nws cs ncs m w h e

-- an act that found memory was done, or it was refused
pub settled :
    {A D N L S Q : Type 0} → (r : Result A ActStop) (spent : Bool) →
    (IsMemory r ↔ IsTrue spent) → IsFalse spent →
    OnOk r D → OnOk r N → OnOk r L → IfFault r (λ f. S) → (D → N → L → Q) → (S → Q) → Q
settled (Ok x) spent memory fine d n l s done same = done d n l
settled (Err (Fault f)) spent memory fine d n l s done same = same s
settled (Err (Memory e)) spent memory fine d n l s done same =
    absurd (true≢false (sym (memory.0 tt) ∙ fine))

-- what a refusal says
pub fault-of :
    {A : Type 0} → (r : Result A ActStop) (s : ActStop) (f : CableFault) (P : CableFault → Type 0) → r ≡ Err s → s ≡ Fault f →
    IfFault r P → P f
fault-of r s f P is at h = subst (λ z. IfFault z P) (is ∙ ap Err at) h
