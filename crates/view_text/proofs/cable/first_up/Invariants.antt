use Rattle.std.proofs.Common.{◌≡◌, drop}
use Rattle.view_text.specs.Cable.{first_up}
use Rattle.view_text.proofs.cable.first_up.Given as goal

abbrev pub invariant-loop-slot : goal.invariant-loop-slot
invariant-loop-slot l = first_up l.slot (drop l.slot l.ports) ≡ first_up 0 l.ports
