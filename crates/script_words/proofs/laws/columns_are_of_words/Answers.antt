use Rattle.script_words.proofs.WordColumns.{columns_of_words}
use Rattle.script_words.proofs.laws.columns_are_of_words.Goals as goal

pub returns : goal.returns
returns c = columns_of_words
