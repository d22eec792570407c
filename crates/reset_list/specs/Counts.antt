-- What is counted of resets: how many they are, how many lists are refused, and which nodes began them.
use Rattle.std.specs.Prelude.{ℕ, ◌+◌, ◌-◌, ◌^◌, ◌==◌, ◌&&◌, min, nat_le, Bool, if◌then◌else◌, Option, Some, None, List, [], ◌∷◌}
use Rattle.io_edges.specs.Faults.{next_count}
use Rattle.self_id.specs.Node.{Node}
use Rattle.topology_stack.specs.Tree.{Tree, walk}
use Rattle.reset_list.specs.declared.counts.Counts.{Counts}
use Rattle.reset_list.specs.declared.counts.Tally.{Tally}
use Rattle.reset_list.specs.Update.{updated}

-- a count of 64 bits stays at its last value
abbrev pub capped : ℕ → ℕ
capped n = min n (2 ^ 64 - 1)

-- it is one more, unless it is the last one by its other event, and one more that is refused
abbrev pub counted : (second refused : Bool) → Counts → Counts
counted second refused c = record {
  resets = if second then c.resets else next_count c.resets;
  refused = if refused then next_count c.refused else c.refused;
}

abbrev pub is_tally : ℕ → ℕ → Tally → Bool
is_tally card node t = (t.card == card) && (t.node == node)

abbrev pub one_more_of : ℕ → ℕ → Option Tally → Tally
one_more_of card node None = record { card = card; node = node; count = 1 }
one_more_of card node (Some t) =
    record { card = card; node = node; count = next_count t.count }

abbrev pub tallied_if : Bool → ℕ → ℕ → List Tally → List Tally
tallied_if initiated card node ts =
    if initiated then updated (is_tally card node) (one_more_of card node) ts else ts

-- each node that began the reset
abbrev pub tallied : ℕ → ℕ → List Node → List Tally → List Tally
tallied card node [] ts = ts
tallied card node (n ∷ ns) ts =
    tallied card (node + 1) ns (tallied_if n.attrs.initiated card node ts)

abbrev pub tallied_by : ℕ → Option Tree → List Tally → List Tally
tallied_by card None ts = ts
tallied_by card (Some t) ts = tallied card 0 (walk t) ts

-- ---- who began most resets

abbrev pub greater : Option Tally → Tally → Tally
greater None t = t
greater (Some best) t = if nat_le t.count best.count then best else t

-- the first of those that began most
abbrev pub most_of : Option Tally → List Tally → Option Tally
most_of best [] = best
most_of best (t ∷ ts) = most_of (Some (greater best t)) ts
