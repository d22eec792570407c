-- Reading a list from left to right, with the first fault that is met.
use Rattle.std.specs.Prelude.{ℕ, zero, suc, ◌+◌, ◌-◌, Bool, true, false, ◌&&◌, ◌==◌, nat_lt, if◌then◌else◌, List, [], ◌∷◌, ◌++◌, length, drop, Result, Ok, Err}
use Rattle.self_id.specs.declared.fault.GroupFault.{GroupFault}
use Rattle.self_id.specs.declared.standard.Standard.{Standard}
use Rattle.self_id.specs.Node.{Node, ups, downs}
use Rattle.self_id.specs.Group.{group}
use Rattle.self_id.proofs.Lemmas.{read_at}
use Rattle.topology_stack.specs.declared.fault.TreeFault.{TreeFault}
use Rattle.topology_stack.specs.declared.fault.TreeFault.TheVariants.{Group, Empty, TooFewChildren, TreesLeft, AfterRoot, NoRoot, TooMany}

-- what follows the group
abbrev pub in_group : {A : Type 0} → Result Node GroupFault → (Node → Result A TreeFault) → Result A TreeFault
in_group (Ok n) f = f n
in_group (Err e) f = Err (Group e)

-- at the end of the list
abbrev pub ended : ℕ → Bool → List Node → Result (List Node) TreeFault
ended at true ns = Ok ns
ended at false [] = Err Empty
ended at false (n ∷ ns) = Err (NoRoot at)

-- what is read where the list goes on
abbrev pub unless_ended : ℕ → Bool → List Node → List ℕ → Result (List Node) TreeFault → Result (List Node) TreeFault
unless_ended at rooted ns [] more = ended at rooted ns
unless_ended at rooted ns (q ∷ qs) more = if rooted then Err (AfterRoot at) else more

-- With room for so many more groups, at a place, with so many trees that wait for a parent, after
-- a root or not, and after these nodes: the nodes of all of the list.
unfoldable pub read_from : Standard → ℕ → ℕ → ℕ → Bool → List Node → List ℕ → Result (List Node) TreeFault
read_from standard zero at found rooted ns rest = unless_ended at rooted ns rest (Err (TooMany at))
read_from standard (suc room) at found rooted ns rest =
    unless_ended at rooted ns rest
    (in_group (read_at standard at (length ns) rest) (λ n.
    if nat_lt found (downs n.ports) then Err (TooFewChildren at found (downs n.ports))
    else if (ups n.ports == 0) && nat_lt (downs n.ports) found then Err (TreesLeft at found (downs n.ports))
    else read_from standard room (at + length (group n (length ns))) (found - downs n.ports + 1) (ups n.ports == 0) (ns ++ n ∷ []) (drop (length (group n (length ns))) rest)))

abbrev pub read : Standard → List ℕ → Result (List Node) TreeFault
read standard quads = read_from standard 63 0 0 false [] quads
