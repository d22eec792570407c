use Rattle.reset_log.proofs.InJson.{written_on}
use Rattle.reset_log.proofs.log.LogReader.put_totals.Goals as goal

pub returns-clause-json : goal.returns-clause-json
returns-clause-json g c =
    let whole = rw c.deref.ensures.value at c.in_ok-put.ensures.ok in
    written_on c.args.form _ _ c.in_ok-text.text.items c.in_ok-text.ensures.json whole.appended
