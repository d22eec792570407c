use Rattle.std.proofs.Common.{◌≡◌, ◌≤◌, drop}
use Rattle.bus_manager.specs.codings.Reach.{above}
use Rattle.bus_manager.proofs.paths.above.Given as goal

abbrev pub invariant-loop-place : goal.invariant-loop-place
invariant-loop-place l = (l.reach ≡ above (drop l.place l.children)) × (l.reach.depth ≤ 62)
