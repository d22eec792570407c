use Rattle.report_views.proofs.Components.{component_written}
use Rattle.report_views.proofs.line.put_component.Goals as goal

pub returns : goal.returns
returns c =
    let one = c.in_ok-put_outcome.ensures in
    record {
      outcome = one.members;
      told = one.told;
      is = component_written c.args.names.now c.args.part.now one.members c.args.out.now _ _ _ _ _ _ c.in_ok-open_object.ensures
          (rw c.from.ensures at c.in_ok-number_member.ensures) (rw c.from-2.ensures at c.in_ok-number_member-2.ensures)
          c.in_ok-key.ensures c.in_ok-put_set.ensures one.is;
    }
