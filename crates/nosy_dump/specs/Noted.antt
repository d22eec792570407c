-- What is noted behind the resets of a dump so far: the tree that was heard last, and what is counted.
use Rattle.std.specs.Prelude.{false, is_none, Option, Some, None, List, []}
use Rattle.topology_stack.specs.Tree.{Tree}
use Rattle.reset_list.specs.declared.counts.Counts.{Counts}
use Rattle.reset_list.specs.declared.counts.Tally.{Tally}
use Rattle.reset_list.specs.Counts.{counted, tallied_by}

pub record Noted : Type 0 where
  pub tree : Option Tree
  pub counts : Counts
  pub tallies : List Tally

abbrev pub nothing : Noted
nothing = record { tree = None; counts = record { resets = 0; refused = 0 }; tallies = [] }

-- the tree that was heard last
abbrev pub last_heard : Option Tree → Option Tree → Option Tree
last_heard before None = before
last_heard before (Some t) = Some t

-- behind a reset, the tree that it is heard as if it is; a dump is of one card, which is counted as card 0
abbrev pub after : Noted → Option Tree → Noted
after n heard = record {
  tree = last_heard n.tree heard;
  counts = counted false (is_none heard) n.counts;
  tallies = tallied_by 0 heard n.tallies;
}
