use Rattle.std.proofs.Common.{◌≡◌, map, replicate, take}
use Rattle.cable_world.specs.Wire.{empty_wire}
use Rattle.cable_world.proofs.start.wire_rows.Given as goal

abbrev pub invariant-loop-count : goal.invariant-loop-count
invariant-loop-count l = l.rows.items ≡ map (λ count. replicate count empty_wire) (take l.count-index l.ports)
