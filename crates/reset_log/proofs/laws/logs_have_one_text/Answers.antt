use Rattle.reset_log.proofs.OneText.{one_text}
use Rattle.reset_log.proofs.SomeText.{some_text}
use Rattle.reset_log.proofs.ToldInOrder.{in_order}
use Rattle.reset_log.proofs.laws.logs_have_one_text.Goals as goal

pub returns-clause-one : goal.returns-clause-one
returns-clause-one c = one_text

pub returns-clause-some : goal.returns-clause-some
returns-clause-some c = some_text

pub returns-clause-told : goal.returns-clause-told
returns-clause-told c =
    in_order c.lists_are_judged_as_read.ensures.heard c.lists_are_judged_as_read.ensures.refused
    c.losses_are_counted.ensures c.shortest_times_are_kept.ensures
