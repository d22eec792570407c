use Rattle.std.proofs.Common.{◌≡◌, ℕ, Option, sym, subst, ◌∙◌}
use Rattle.std.specs.Prelude.{slice_index_or}
use Rattle.c_records.specs.Sentences.{IsSentence}
use Rattle.heapless_c.specs.Sentences.{IsListSentence, by_standard}
use Rattle.heapless_c.proofs.fault.busconf_sentence.Goals as goal

pub returns-clause-sentence : goal.returns-clause-sentence
returns-clause-sentence c = λ kind few.
    let quads = c.args.quads.now in
    let fault = c.args.fault.now in
    let standard = c.in-Some.standard in
    let text = c.record_sentence-text.result in
    let quad = subst (λ (q : ℕ). IsSentence standard q c.quad_before.result fault text) c.quad_at-quad.ensures c.record_sentence-text.ensures in
    let prior = subst (λ (o : Option ℕ). IsSentence standard (slice_index_or quads fault.at 0) o fault text) c.quad_before.ensures quad in
    by_standard standard c.as_bytes.result.now (sym c.standard_of.ensures ∙ c.in-Some.is) (subst (IsListSentence standard quads fault) (sym c.as_bytes.ensures) prior) c.tell_bytes.ensures
