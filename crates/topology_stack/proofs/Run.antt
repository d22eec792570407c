-- What trees emit is read as their walks.
use Rattle.std.proofs.Common.{◌≡◌, ℕ, suc, ◌+◌, ◌-◌, ◌<◌, ◌≤◌, false, eqb, ltb, ◌&&◌, List, [], ◌∷◌, ◌++◌, length, Result, refl, sym, ap, ◌∙◌, append_assoc, arith, length-append}
use Rattle.std.proofs.lemmas.List.{append-nil, drop_at}
use Rattle.std.proofs.lemmas.Bool.{le-ltb}
use Rattle.topology_stack.specs.declared.fault.TreeFault.{TreeFault}
use Rattle.self_id.specs.declared.standard.Standard.{Standard}
use Rattle.self_id.specs.Node.{Node, IsNode, IsOf, ups, downs}
use Rattle.self_id.specs.Group.{group}
use Rattle.self_id.proofs.Lemmas.{read_at-group, length-group}
use Rattle.topology_stack.specs.Tree.{Tree, branch, Slots, no_more, absent, unplugged, up, down, statuses, node_of, walk, walk_below, IsPart, AreParts, AreOf, groups}
use Rattle.topology_stack.proofs.ReadFrom.{read_from}
use Rattle.topology_stack.specs.Forest.{AreWaiting, walks}
use Rattle.topology_stack.proofs.Loop.{one_more}
use Rattle.topology_stack.proofs.Stack.{groups-append, AreOf-parts}

-- one more node, not behind a root
pub step : (standard : Standard) (room at found : ℕ) (n : Node) (ns : List Node) (rest : List ℕ) →
    IsNode n → IsOf standard n → length ns ≤ 62 → downs n.ports ≤ found →
    (eqb (ups n.ports) 0 && ltb (downs n.ports) found) ≡ false →
    read_from standard (suc room) at found false ns (group n (length ns) ++ rest) ≡ read_from standard room (at + length (group n (length ns))) (found - downs n.ports + 1) (eqb (ups n.ports) 0) (ns ++ n ∷ []) rest
step standard room at found n ns rest h is_of lt enough test =
    let g = group n (length ns) in
    let some : 0 < length (g ++ rest) = omega (arith, length-append g rest, (length-group n (length ns) h).0) in
    one_more standard room at found ns (g ++ rest) some
    ∙ rw (read_at-group standard n at (length ns) rest h is_of lt, le-ltb _ _ enough, test, drop_at g rest (length g) refl) refl

-- where reading stands after nodes
abbrev pub after : Standard → ℕ → ℕ → ℕ → List Node → List Node → List ℕ → Result (List Node) TreeFault
after standard room at found ns more rest = read_from standard room (at + length (groups (length ns) more)) found false (ns ++ more) rest

abbrev from : Standard → ℕ → ℕ → ℕ → List Node → List Node → List ℕ → Result (List Node) TreeFault
from standard room at found ns more rest = read_from standard (length more + room) at found false ns (groups (length ns) more ++ rest)

-- two stretches one after the other
pub joins : (standard : Standard) (room at a b c : ℕ) (ns xs ys : List Node) (rest : List ℕ) →
    from standard (length ys + room) at a ns xs (groups (length ns + length xs) ys ++ rest) ≡ after standard (length ys + room) at b ns xs (groups (length ns + length xs) ys ++ rest) →
    from standard room (at + length (groups (length ns) xs)) b (ns ++ xs) ys rest ≡ after standard room (at + length (groups (length ns) xs)) c (ns ++ xs) ys rest →
    from standard room at a ns (xs ++ ys) rest ≡ after standard room at c ns (xs ++ ys) rest
joins standard room at a b c ns xs ys rest first second =
    let e1 : length (xs ++ ys) + room ≡ length xs + (length ys + room) = omega (arith, length-append xs ys) in
    let e2 : groups (length ns) (xs ++ ys) ++ rest ≡ groups (length ns) xs ++ (groups (length ns + length xs) ys ++ rest) = ap (λ (l : List ℕ). l ++ rest) (groups-append (length ns) xs ys) ∙ append_assoc (groups (length ns) xs) (groups (length ns + length xs) ys) rest in
    let e3 : length (ns ++ xs) ≡ length ns + length xs = length-append ns xs in
    let e4 : at + length (groups (length ns) xs) + length (groups (length (ns ++ xs)) ys) ≡ at + length (groups (length ns) (xs ++ ys)) =
    omega (arith, ap length (groups-append (length ns) xs ys), length-append (groups (length ns) xs) (groups (length ns + length xs) ys), ap (λ (k : ℕ). length (groups k ys)) e3) in
    let start : from standard room at a ns (xs ++ ys) rest ≡ from standard (length ys + room) at a ns xs (groups (length ns + length xs) ys ++ rest) =
    ap (λ (k : ℕ). read_from standard k at a false ns (groups (length ns) (xs ++ ys) ++ rest)) e1 ∙ ap (λ (l : List ℕ). read_from standard (length xs + (length ys + room)) at a false ns l) e2 in
    let middle : after standard (length ys + room) at b ns xs (groups (length ns + length xs) ys ++ rest) ≡ from standard room (at + length (groups (length ns) xs)) b (ns ++ xs) ys rest =
    ap (λ (k : ℕ). read_from standard (length ys + room) (at + length (groups (length ns) xs)) b false (ns ++ xs) (groups k ys ++ rest)) (sym e3) in
    let end : after standard room (at + length (groups (length ns) xs)) c (ns ++ xs) ys rest ≡ after standard room at c ns (xs ++ ys) rest =
    ap (λ (k : ℕ). read_from standard room k c false ((ns ++ xs) ++ ys) rest) e4 ∙ ap (λ (l : List Node). read_from standard room (at + length (groups (length ns) (xs ++ ys))) c false l rest) (append_assoc ns xs ys) in
    start ∙ first ∙ middle ∙ second ∙ end

nothing_read : (standard : Standard) (room at found : ℕ) (ns : List Node) (rest : List ℕ) →
    from standard room at found ns [] rest ≡ after standard room at found ns [] rest
nothing_read standard room at found ns rest =
    let e : at + 0 ≡ at = omega arith in
    let r : 0 + room ≡ room = omega arith in
    rw (append-nil ns, e, r) refl

-- the last node of a part
last_node : (standard : Standard) (room at found : ℕ) (n : Node) (ns : List Node) (rest : List ℕ) →
    IsNode n → IsOf standard n → ups n.ports ≡ 1 → length ns ≤ 62 →
    from standard room at (found + downs n.ports) ns (n ∷ []) rest ≡ after standard room at (found + 1) ns (n ∷ []) rest
last_node standard room at found n ns rest h is_of one lt =
    let test : (eqb (ups n.ports) 0 && ltb (downs n.ports) (found + downs n.ports)) ≡ false = rw one refl in
    let no_root : eqb (ups n.ports) 0 ≡ false = rw one refl in
    let left : found + downs n.ports - downs n.ports + 1 ≡ found + 1 = omega arith in
    let room_is : 1 + room ≡ suc room = omega arith in
    let alone : groups (length ns) (n ∷ []) ≡ group n (length ns) = append-nil (group n (length ns)) in
    let read_one : read_from standard room (at + length (group n (length ns))) (found + downs n.ports - downs n.ports + 1) (eqb (ups n.ports) 0) (ns ++ n ∷ []) rest ≡ read_from standard room (at + length (group n (length ns))) (found + 1) false (ns ++ n ∷ []) rest = rw (left, no_root) refl in
    ap (λ (k : ℕ). read_from standard k at (found + downs n.ports) false ns (groups (length ns) (n ∷ []) ++ rest)) room_is
    ∙ ap (λ (x : List ℕ). read_from standard (suc room) at (found + downs n.ports) false ns (x ++ rest)) alone
    ∙ step standard room at (found + downs n.ports) n ns rest h is_of lt (omega arith) test ∙ read_one
    ∙ ap (λ (x : List ℕ). read_from standard room (at + length x) (found + 1) false (ns ++ n ∷ []) rest) (sym alone)

mutual
  pub run_part : (standard : Standard) (t : Tree) (room at found : ℕ) (ns : List Node) (rest : List ℕ) →
      IsPart t → AreOf standard (walk t) → length ns + length (walk t) ≤ 63 →
      from standard room at found ns (walk t) rest ≡ after standard room at (found + 1) ns (walk t) rest
  run_part standard (branch a s) room at found ns rest h are small =
      let both = AreOf-parts standard (walk_below s) (node_of a s ∷ []) are in
      joins standard room at found (found + downs (statuses s)) (found + 1) ns (walk_below s) (node_of a s ∷ []) rest
      (run_parts standard s (1 + room) at found ns (groups (length ns + length (walk_below s)) (node_of a s ∷ []) ++ rest) h.2 both.0 (omega (arith, small, length-append (walk_below s) (node_of a s ∷ []))))
      (last_node standard room (at + length (groups (length ns) (walk_below s))) found (node_of a s) (ns ++ walk_below s) rest h.0 both.1.0 h.1 (omega (arith, small, length-append (walk_below s) (node_of a s ∷ []), length-append ns (walk_below s))))

  pub run_parts : (standard : Standard) (s : Slots) (room at found : ℕ) (ns : List Node) (rest : List ℕ) →
      AreParts s → AreOf standard (walk_below s) → length ns + length (walk_below s) ≤ 63 →
      from standard room at found ns (walk_below s) rest ≡ after standard room at (found + downs (statuses s)) ns (walk_below s) rest
  run_parts standard no_more room at found ns rest h are small = nothing_read standard room at found ns rest ∙ ap (λ (k : ℕ). after standard room at k ns [] rest) (omega arith)
  run_parts standard (absent s) room at found ns rest h are small = run_parts standard s room at found ns rest h are small
  run_parts standard (unplugged s) room at found ns rest h are small = run_parts standard s room at found ns rest h are small
  run_parts standard (up s) room at found ns rest h are small = run_parts standard s room at found ns rest h are small
  run_parts standard (down t s) room at found ns rest h are small =
      let both = AreOf-parts standard (walk t) (walk_below s) are in
      joins standard room at found (found + 1) (found + (downs (statuses s) + 1)) ns (walk t) (walk_below s) rest
      (run_part standard t (length (walk_below s) + room) at found ns (groups (length ns + length (walk t)) (walk_below s) ++ rest) h.0 both.0 (omega (arith, small, length-append (walk t) (walk_below s))))
      (run_parts standard s room (at + length (groups (length ns) (walk t))) (found + 1) (ns ++ walk t) rest h.1 both.1 (omega (arith, small, length-append (walk t) (walk_below s), length-append ns (walk t)))
      ∙ ap (λ (k : ℕ). after standard room (at + length (groups (length ns) (walk t))) k (ns ++ walk t) (walk_below s) rest) (omega arith))

-- trees that wait, from the start of the list
pub run_trees : (standard : Standard) (ts : List Tree) (room : ℕ) (rest : List ℕ) → AreWaiting ts →
    AreOf standard (walks ts) → length (walks ts) ≤ 63 →
    from standard room 0 0 [] (walks ts) rest ≡ after standard room 0 (length ts) [] (walks ts) rest
run_trees standard [] room rest h are small = nothing_read standard room 0 0 [] rest
run_trees standard (t ∷ ts) room rest h are small =
    let both = AreOf-parts standard (walks ts) (walk t) are in
    joins standard room 0 0 (length ts) (suc (length ts)) [] (walks ts) (walk t) rest
    (run_trees standard ts (length (walk t) + room) (groups (0 + length (walks ts)) (walk t) ++ rest) h.1 both.0 (omega (arith, small, length-append (walks ts) (walk t))))
    (run_part standard t room (0 + length (groups 0 (walks ts))) (length ts) (walks ts) rest h.0 both.1 (omega (arith, small, length-append (walks ts) (walk t)))
    ∙ ap (λ (k : ℕ). after standard room (0 + length (groups 0 (walks ts))) k (walks ts) (walk t) rest) (omega arith))
