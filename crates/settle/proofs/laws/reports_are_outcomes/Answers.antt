use Rattle.settle.proofs.ReportedOutcome.{reported-is}
use Rattle.settle.proofs.laws.reports_are_outcomes.Goals as goal

pub returns : goal.returns
returns c = reported-is
