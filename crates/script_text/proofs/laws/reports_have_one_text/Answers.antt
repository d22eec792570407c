use Rattle.script_text.proofs.OneText.{one-text}
use Rattle.script_text.proofs.laws.reports_have_one_text.Goals as goal

pub returns : goal.returns
returns c = one-text c.one_tree.ensures
