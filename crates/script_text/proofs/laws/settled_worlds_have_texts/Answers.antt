use Rattle.script_text.proofs.SomeText.{some-report-text}
use Rattle.script_text.proofs.laws.settled_worlds_have_texts.Goals as goal

pub returns-clause-settled : goal.returns-clause-settled
returns-clause-settled c = some-report-text c.reports_are_read_back.ensures.lists c.reports_exist.ensures c.quiet_turns_settle.ensures.reached

pub returns-clause-quiet : goal.returns-clause-quiet
returns-clause-quiet c = λ w v names number r quiet enough.
    some-report-text c.reports_are_read_back.ensures.lists c.reports_exist.ensures c.quiet_turns_settle.ensures.reached v names number (c.quiet_turns_settle.ensures.plain w v r quiet) enough
