-- Each list that a bus tree emits is read as its walk, each other list has the one fault that is answered, and no list has two trees.
use Rattle.std.proofs.Common.{◌≡◌, ℕ, suc, ◌+◌, ◌-◌, ◌<◌, ◌≤◌, true, false, eqb, ltb, ◌&&◌, List, [], ◌∷◌, ◌++◌, length, Ok, Err, refl, sym, ap, ◌∙◌, append_assoc, arith, length-append}
use Rattle.std.proofs.lemmas.List.{append-nil}
use Rattle.std.proofs.lemmas.Bool.{le-ltb, lt-ltb}
use Rattle.self_id.specs.declared.fault.GroupFault.{GroupFault}
use Rattle.topology_stack.specs.declared.fault.TreeFault.{TreeFault}
use Rattle.topology_stack.specs.declared.fault.TreeFault.TheVariants.{Group, Empty, TooFewChildren, TreesLeft, AfterRoot, NoRoot, TooMany}
use Rattle.self_id.specs.declared.standard.Standard.{Standard}
use Rattle.self_id.specs.Node.{Node, IsNode, IsOf, ups, downs}
use Rattle.self_id.specs.Group.{group}
use Rattle.self_id.proofs.Lemmas.{read_at, read_at-group, read_at-refused, length-group}
use Rattle.topology_stack.specs.Tree.{Tree, branch, statuses, node_of, walk, walk_below, IsBusTreeOf, groups, emits}
use Rattle.topology_stack.specs.Forest.{walks, Forest}
use Rattle.topology_stack.specs.Refused.{Refused}
use Rattle.topology_stack.proofs.ReadFrom.{read_from, read}
use Rattle.topology_stack.proofs.Loop.{next, one_more, after_root, full, end_read, ended_unrooted}
use Rattle.topology_stack.proofs.Stack.{groups-append, groups-snoc, AreOf-parts}
use Rattle.topology_stack.proofs.Run.{step, run_parts, run_trees}

-- ---- bus trees

root_step : (standard : Standard) (room at found : ℕ) (n : Node) (ns : List Node) (rest : List ℕ) →
    IsNode n → IsOf standard n → length ns ≤ 62 → found ≡ downs n.ports → ups n.ports ≡ 0 →
    read_from standard (1 + room) at found false ns (groups (length ns) (n ∷ []) ++ rest) ≡ read_from standard room (at + length (group n (length ns))) 1 true (ns ++ n ∷ []) rest
root_step standard room at found n ns rest h is_of lt all no_up =
    let room' : 1 + room ≡ suc room = omega arith in
    let none_left : ltb (downs n.ports) found ≡ false = le-ltb _ _ (omega (arith, all)) in
    let test : (eqb (ups n.ports) 0 && ltb (downs n.ports) found) ≡ false = rw (no_up, none_left) refl in
    let one : found - downs n.ports + 1 ≡ 1 = omega (arith, all) in
    let root : eqb (ups n.ports) 0 ≡ true = rw no_up refl in
    let alone : groups (length ns) (n ∷ []) ≡ group n (length ns) = append-nil (group n (length ns)) in
    ap (λ (k : ℕ). read_from standard k at found false ns (groups (length ns) (n ∷ []) ++ rest)) room'
    ∙ ap (λ (x : List ℕ). read_from standard (suc room) at found false ns (x ++ rest)) alone
    ∙ step standard room at found n ns rest h is_of lt (omega (arith, all)) test ∙ rw (one, root) refl

bus_read : (standard : Standard) (t : Tree) (rest : List ℕ) → IsBusTreeOf standard t →
    read standard (emits t ++ rest) ≡ read_from standard (63 - length (walk t)) (length (emits t)) 1 true (walk t) rest
bus_read standard (branch a s) rest h =
    let bus = h.bus in
    let both = AreOf-parts standard (walk_below s) (node_of a s ∷ []) h.nodes in
    let n = node_of a s in
    let room = 63 - length (walk (branch a s)) in
    let len : length (walk (branch a s)) ≡ length (walk_below s) + 1 = length-append (walk_below s) (n ∷ []) in
    let whole : 63 ≡ length (walk_below s) + (1 + room) = omega (arith, bus.small, len) in
    let parts : emits (branch a s) ++ rest ≡ groups 0 (walk_below s) ++ (groups (0 + length (walk_below s)) (n ∷ []) ++ rest) =
    ap (λ (x : List ℕ). x ++ rest) (groups-append 0 (walk_below s) (n ∷ [])) ∙ append_assoc (groups 0 (walk_below s)) (groups (0 + length (walk_below s)) (n ∷ [])) rest in
    let zero_plus : 0 + length (walk_below s) ≡ length (walk_below s) = omega arith in
    let place : 0 + length (groups 0 (walk_below s)) + length (group n (length (walk_below s))) ≡ length (emits (branch a s)) =
    omega (arith, ap length (groups-snoc (walk_below s) n), length-append (groups 0 (walk_below s)) (group n (length (walk_below s)))) in
    ap (read standard) parts
    ∙ ap (λ (k : ℕ). read_from standard k 0 0 false [] (groups 0 (walk_below s) ++ (groups (0 + length (walk_below s)) (n ∷ []) ++ rest))) whole
    ∙ run_parts standard s (1 + room) 0 0 [] (groups (0 + length (walk_below s)) (n ∷ []) ++ rest) bus.whole.2 both.0 (omega (arith, bus.small, len))
    ∙ ap (λ (k : ℕ). read_from standard (1 + room) (0 + length (groups 0 (walk_below s))) (0 + downs (statuses s)) false (walk_below s) (groups k (n ∷ []) ++ rest)) zero_plus
    ∙ root_step standard room (0 + length (groups 0 (walk_below s))) (0 + downs (statuses s)) n (walk_below s) rest bus.whole.0 both.1.0 (omega (arith, bus.small, len)) (omega arith) bus.whole.1
    ∙ ap (λ (k : ℕ). read_from standard room k 1 true (walk_below s ++ n ∷ []) rest) place

pub emits_again : (standard : Standard) (t : Tree) → IsBusTreeOf standard t →
    read standard (emits t) ≡ Ok (walk t)
emits_again standard t bus = ap (read standard) (sym (append-nil (emits t))) ∙ bus_read standard t [] bus ∙ end_read standard (63 - length (walk t)) (length (emits t)) 1 true (walk t)

-- ---- faults

forest_read : (standard : Standard) (ts : List Tree) (room : ℕ) (l front rest : List ℕ) →
    Forest standard ts front → l ≡ front ++ rest → room + length (walks ts) ≡ 63 →
    read standard l ≡ read_from standard room (length front) (length ts) false (walks ts) rest
forest_read standard ts room l front rest forest parts full =
    let whole : 63 ≡ length (walks ts) + room = omega (arith, full) in
    let place : 0 + length (groups 0 (walks ts)) ≡ length front = omega (arith, ap length forest.emitted) in
    ap (read standard) (parts ∙ ap (λ (x : List ℕ). x ++ rest) forest.emitted)
    ∙ ap (λ (k : ℕ). read_from standard k 0 0 false [] (groups 0 (walks ts) ++ rest)) whole
    ∙ run_trees standard ts room rest forest.waiting forest.are_of (omega (arith, full))
    ∙ ap (λ (k : ℕ). read_from standard room k (length ts) false (walks ts) rest) place

group_fault : (standard : Standard) (room at found : ℕ) (ns : List Node) (rest : List ℕ) (f : GroupFault) →
    0 < length rest → read_at standard at (length ns) rest ≡ Err f →
    read_from standard (1 + room) at found false ns rest ≡ Err (Group f)
group_fault standard room at found ns rest f lt e = let k : 1 + room ≡ suc room = omega arith in rw k (one_more standard room at found ns rest lt ∙ rw e refl)

-- a whole group comes next
group_next : (standard : Standard) (room at found : ℕ) (n : Node) (ns : List Node) (rest : List ℕ) →
    IsNode n → IsOf standard n → length ns ≤ 62 →
    read_from standard (1 + room) at found false ns (group n (length ns) ++ rest) ≡ next standard room at found ns (group n (length ns) ++ rest) n
group_next standard room at found n ns rest h is_of lt =
    let k : 1 + room ≡ suc room = omega arith in
    let some : 0 < length (group n (length ns) ++ rest) = omega (arith, length-append (group n (length ns)) rest, (length-group n (length ns) h).0) in
    rw k (one_more standard room at found ns (group n (length ns) ++ rest) some ∙ rw (read_at-group standard n at (length ns) rest h is_of lt) refl)

too_few : (standard : Standard) (room at found : ℕ) (n : Node) (ns : List Node) (rest : List ℕ) →
    IsNode n → IsOf standard n → length ns ≤ 62 → found < downs n.ports →
    read_from standard (1 + room) at found false ns (group n (length ns) ++ rest) ≡ Err (TooFewChildren at found (downs n.ports))
too_few standard room at found n ns rest h is_of lt few = group_next standard room at found n ns rest h is_of lt ∙ rw (lt-ltb _ _ few) refl

trees_left : (standard : Standard) (room at found : ℕ) (n : Node) (ns : List Node) (rest : List ℕ) →
    IsNode n → IsOf standard n → length ns ≤ 62 → downs n.ports < found → ups n.ports ≡ 0 →
    read_from standard (1 + room) at found false ns (group n (length ns) ++ rest) ≡ Err (TreesLeft at found (downs n.ports))
trees_left standard room at found n ns rest h is_of lt left no_up =
    let enough : ltb found (downs n.ports) ≡ false = le-ltb _ _ (omega arith) in
    let test : (eqb (ups n.ports) 0 && ltb (downs n.ports) found) ≡ true = rw (no_up, lt-ltb _ _ left) refl in
    group_next standard room at found n ns rest h is_of lt ∙ rw (enough, test) refl

empty_read : (standard : Standard) → read standard [] ≡ Err Empty
unfolding read_from
empty_read standard = refl

pub refused_again : (standard : Standard) (l : List ℕ) (f : TreeFault) → Refused standard l f →
    read standard l ≡ Err f
refused_again standard l (Group f) (ts, front, rest, at, g, fault) =
    let room : 1 + (62 - length (walks ts)) + length (walks ts) ≡ 63 = omega (arith, g.few) in
    forest_read standard ts (1 + (62 - length (walks ts))) l front rest g.forest g.parts room
    ∙ ap (λ (k : ℕ). read_from standard (1 + (62 - length (walks ts))) k (length ts) false (walks ts) rest) (sym g.place)
    ∙ group_fault standard (62 - length (walks ts)) at (length ts) (walks ts) rest f g.more (read_at-refused standard at (length (walks ts)) rest f g.few fault)
refused_again standard l Empty h = ap (read standard) h ∙ empty_read standard
refused_again standard l (TooFewChildren at found wanted) (ts, n, k, few) =
    let g = k.goes_on in
    let room : 1 + (62 - length (walks ts)) + length (walks ts) ≡ 63 = omega (arith, g.few) in
    forest_read standard ts (1 + (62 - length (walks ts))) l k.front (group n (length (walks ts)) ++ k.rest) g.forest g.parts room
    ∙ too_few standard (62 - length (walks ts)) (length k.front) (length ts) n (walks ts) k.rest k.is_node k.is_of g.few (omega (arith, k.found_is, k.wanted_is))
    ∙ rw (g.place, k.found_is, k.wanted_is) refl
refused_again standard l (TreesLeft at found wanted) (ts, n, k, no_up, left) =
    let g = k.goes_on in
    let room : 1 + (62 - length (walks ts)) + length (walks ts) ≡ 63 = omega (arith, g.few) in
    forest_read standard ts (1 + (62 - length (walks ts))) l k.front (group n (length (walks ts)) ++ k.rest) g.forest g.parts room
    ∙ trees_left standard (62 - length (walks ts)) (length k.front) (length ts) n (walks ts) k.rest k.is_node k.is_of g.few (omega (arith, k.found_is, k.wanted_is)) no_up
    ∙ rw (g.place, k.found_is, k.wanted_is) refl
refused_again standard l (AfterRoot at) (t, rest, bus, parts, more, place) =
    ap (read standard) parts ∙ bus_read standard t rest bus ∙ after_root standard (63 - length (walk t)) (length (emits t)) 1 (walk t) rest more ∙ rw place refl
refused_again standard l (NoRoot at) (ts, forest, some, few, place) =
    let room : 63 - length (walks ts) + length (walks ts) ≡ 63 = omega arith in
    forest_read standard ts (63 - length (walks ts)) l l [] forest (sym (append-nil l)) room ∙ end_read standard (63 - length (walks ts)) (length l) (length ts) false (walks ts) ∙ ended_unrooted (length l) false (walks ts) refl some ∙ rw place refl
refused_again standard l (TooMany at) (ts, front, rest, g, count) =
    forest_read standard ts 0 l front rest g.forest g.parts (omega arith) ∙ full standard (length front) (length ts) (walks ts) rest g.more ∙ rw g.place refl
