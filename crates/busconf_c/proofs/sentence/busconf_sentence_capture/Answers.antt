use Rattle.std.proofs.Common.{refl, sym, subst, ◌∙◌}
use Rattle.c_border.specs.Places.{some, no_memory}
use Rattle.busconf_c.specs.Sentences.{IsCaptureSentence, by_standard}
use Rattle.busconf_c.proofs.sentence.busconf_sentence_capture.Goals as goal

pub returns-in-Ok-clause-sentence : goal.returns-in-Ok-clause-sentence
returns-in-Ok-clause-sentence c = λ kind few. by_standard c.in-Some.standard (sym c.standard_of.ensures ∙ c.in-Some.is) (some c.as_slice.result.now (subst (IsCaptureSentence c.in-Some.standard c.args.bytes.now c.args.fault.now) (sym c.as_slice.ensures.value) c.in-Ok.ensures) c.tell_bytes.ensures)

pub returns-in-Err-clause-sentence : goal.returns-in-Err-clause-sentence
returns-in-Err-clause-sentence c = λ kind few. by_standard c.in-Some.standard (sym c.standard_of.ensures ∙ c.in-Some.is) (no_memory refl refl refl)
