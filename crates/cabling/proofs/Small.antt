-- From each node of a component whose core is empty a tree is seen that has each node of it once.
use Rattle.std.proofs.Common.{ℕ, suc, ◌^◌, ◌<◌, ◌≤◌, None, length, arith}
use Rattle.topology_stack.specs.Tree.{Label, Tree}
use Rattle.cabling.specs.Wiring.{Wiring, IsCabling}
use Rattle.cabling.specs.NodeSet.{Holds}
use Rattle.cabling.specs.Component.{IsComponent}
use Rattle.cabling.specs.Looped.{IsCore}
use Rattle.cabling.specs.Sees.{Sees, numbers, SmallTree}
use Rattle.cabling.proofs.Bits.{below}
use Rattle.cabling.proofs.Cascade.{NoLoop}
use Rattle.cabling.proofs.Rank.{Ranked, ranked}
use Rattle.cabling.proofs.Seen.{Down, down_root, seen_from}
use Rattle.cabling.proofs.Once.{In, Once, Context, in_tree, once_tree}
use Rattle.cabling.proofs.Counting.{few}

-- what is known of a component without a loop
pub record Loopless (c : Wiring) (root set : ℕ) : Type 0 where
  pub cabling : IsCabling c
  pub there : root < length c
  pub component : IsComponent c root set
  pub small : set < 2 ^ 63
  pub no_loop : NoLoop c set

pub loopless : (c : Wiring) (root set core : ℕ) → IsCabling c → root < length c →
    IsComponent c root set → set < 2 ^ 63 → IsCore c set core → ((x : ℕ) → Holds core x → ⊥) →
    Loopless c root set
loopless c root set core is there component small core_is empty = record {
  cabling = is;
  there = there;
  component = component;
  small = small;
  no_loop = λ part x within looped h. empty x ((core_is x).1 (part, within, looped, h));
}

pub rank_of : (c : Wiring) (root set : ℕ) → Loopless c root set →
    (rank : ℕ → ℕ) × Ranked c set root rank
rank_of c root set l = ranked (suc set) c set set root l.cabling l.no_loop (omega arith) l.small (λ x h. h) l.component.holds

pub context_of : (c : Wiring) (root set : ℕ) (l : Loopless c root set) →
    Context c (rank_of c root set l).0 set root
context_of c root set l = record { cabling = l.cabling; closed = l.component.closed; ranked = (rank_of c root set l).1 }

pub down_of : (c : Wiring) (root set : ℕ) (l : Loopless c root set) →
    Down c (rank_of c root set l).0 set root None
down_of c root set l = down_root c (rank_of c root set l).0 set root l.cabling l.component.closed (rank_of c root set l).1 l.component.holds

-- each node of a seen tree is in the component
pub tree_within : (c : Wiring) (label : ℕ → Label) (root set : ℕ) (t : Tree) → Loopless c root set →
    Sees c label root None t → (x : ℕ) → In x (numbers c root t) → Holds set x
tree_within c label root set t l h x i = (in_tree c label (rank_of c root set l).0 set root root None t (context_of c root set l) (down_of c root set l) h x i).here

pub tree_once : (c : Wiring) (label : ℕ → Label) (root set : ℕ) (t : Tree) → Loopless c root set →
    Sees c label root None t → Once (numbers c root t)
tree_once c label root set t l h = once_tree c label (rank_of c root set l).0 set root root None t (context_of c root set l) (down_of c root set l) h

pub tree_few : (c : Wiring) (label : ℕ → Label) (root set : ℕ) (t : Tree) → Loopless c root set →
    Sees c label root None t → length (numbers c root t) ≤ 63
tree_few c label root set t l h = few 63 (numbers c root t) (tree_once c label root set t l h) (λ x i. below set x l.small (tree_within c label root set t l h x i))

pub small_tree : (c : Wiring) (label : ℕ → Label) (root set : ℕ) → Loopless c root set →
    SmallTree c label root
small_tree c label root set l =
    let r = rank_of c root set l in
    let t = seen_from (suc (r.0 root)) c label r.0 set root root None l.cabling l.component.closed r.1 l.there (omega arith) (down_of c root set l) in
    record { tree = t.0; seen = t.1; few = tree_few c label root set t.0 l t.1 }
