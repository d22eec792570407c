use Rattle.bus_diff.specs.Difference.{AreDifferences}
use Rattle.diff_form.proofs.difference.compared.Goals as goal

pub returns : goal.returns
returns c =
    let found = c.in_ok-found.ensures in
    let differ : AreDifferences c.args.old.now c.args.new.now c.in_ok-found.found.changes.items = record {
      pairs = c.in_ok-found.found.pairs.items;
      matching = found.matching;
      list = found.list;
      exact = (found.told, found.all);
      alike = found.alike;
      same = found.same;
    } in
    record {
      told = c.in_ok-found.found.changes.items;
      differ = differ;
      text_is = cc c.in_ok-text.ensures;
      outcome_is = (cc);
    }
