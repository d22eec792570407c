-- What the nodes of a cabling say of themselves.
use Rattle.std.specs.Prelude.{ℕ, false, List, slice_index_or}
use Rattle.self_id.specs.declared.node.Attrs.{Attrs}
use Rattle.topology_stack.specs.Tree.{Label}

-- attributes that say nothing; no node of a cabling has them for want of an entry
abbrev pub no_attrs : Attrs
no_attrs = record {
  link = false;
  gap = 0;
  speed = 0;
  delay = 0;
  contender = false;
  power = 0;
  initiated = false;
}

-- each node has its own attributes, by its number, and carries no other bits
abbrev pub labels : List Attrs → ℕ → Label
labels attrs node = record { attrs = slice_index_or attrs node no_attrs; kept_a = 0; kept_b = 0 }
