use Rattle.std.proofs.Common.{List, map, subst}
use Rattle.bus_diff.specs.declared.change.Change.{Change}
use Rattle.bus_diff.specs.Difference.{AreDifferences}
use Rattle.c_border.specs.Places.{IsCopied}
use Rattle.busconf_c.specs.Changes.{change_record, told}
use Rattle.busconf_c.proofs.diff.tell_difference.Goals as goal

pub returns-in-Ok-clause-answer : goal.returns-in-Ok-clause-answer
returns-in-Ok-clause-answer c =
    let found = c.in-Ok.ensures in
    let differ : AreDifferences c.args.old.now c.args.new.now c.in-Ok.found.changes.items = record {
      pairs = c.in-Ok.found.pairs.items;
      matching = found.matching;
      list = found.list;
      exact = (found.told, found.all);
      alike = found.alike;
      same = found.same;
    } in
    told c.in-Ok.found.changes.items differ
    (subst (λ (l : List Change). IsCopied (map change_record l) c.args.place.now c.tell_changes.new.place c.tell_changes.new.needed c.tell_changes.result) c.as_slice.ensures.value c.tell_changes.ensures)
