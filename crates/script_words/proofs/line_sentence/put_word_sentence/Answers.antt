use Rattle.script_words.proofs.line_sentence.put_word_sentence.Goals as goal

pub returns-in-None : goal.returns-in-None
returns-in-None c = rw (← c.in-None.ensures.value, ← c.requires.are) c.put_form_sentence.ensures
