use Rattle.script_text.proofs.SomeText.{some-text}
use Rattle.script_text.proofs.laws.reports_have_texts.Goals as goal

pub returns : goal.returns
returns c = some-text
