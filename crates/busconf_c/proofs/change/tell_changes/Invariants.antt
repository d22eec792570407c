use Rattle.std.proofs.Common.{◌≡◌, ◌++◌, take, drop, map}
use Rattle.busconf_c.specs.Changes.{change_record}
use Rattle.busconf_c.proofs.change.tell_changes.Given as goal

abbrev pub invariant-loop-i : goal.invariant-loop-i
invariant-loop-i l = l.place ≡ map change_record (take l.i l.list) ++ drop l.i l.initial.place
