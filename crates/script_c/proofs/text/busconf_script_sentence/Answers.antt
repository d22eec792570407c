use Rattle.std.proofs.Common.{◌≡◌, ℕ, List, subst}
use Rattle.script_lines.specs.declared.kind.ScriptFault.{ScriptFault}
use Rattle.script_words.specs.Sentence.{sentence}
use Rattle.c_border.specs.Places.{Tells}
use Rattle.script_c.proofs.text.busconf_script_sentence.Goals as goal

pub returns-clause-sentence : goal.returns-clause-sentence
returns-clause-sentence c = λ few some known.
    subst (λ (f : ScriptFault). Tells (λ text. text ≡ sentence c.args.bytes.now f) c.args.place.now c.tell_sentence.new.place c.args.needed.now c.tell_sentence.new.needed c.tell_sentence.result)
    c.fault_in.ensures c.tell_sentence.ensures
