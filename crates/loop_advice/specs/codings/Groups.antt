-- Nodes in groups: two nodes are in one group where they have the same group number.
use Rattle.std.specs.Prelude.{◌==◌, ℕ, if◌then◌else◌, slice_index}
use Rattle.cabling.specs.Wiring.{NodeNumber}
use Rattle.loop_advice.specs.declared.groups.Groups.{Groups}

abbrev pub group : Groups → NodeNumber → ℕ
group g node = slice_index g.of node

-- the number of a group after the group `from` was taken into the group `into`
abbrev pub merged : ℕ → ℕ → ℕ → ℕ
merged from into number = if number == from then into else number
