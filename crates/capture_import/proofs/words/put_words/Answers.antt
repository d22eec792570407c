use Rattle.std.proofs.Common.{◌≡◌, ◌∙◌, [], ◌∷◌, false, arith}
use Rattle.std.specs.Prelude.{filter}
use Rattle.std.proofs.lemmas.Grind.{common_steps}
use Rattle.line_words.specs.Words.{is_some_text}
use Rattle.capture_import.specs.Words.{all_spelled, words_of}
use Rattle.capture_import.proofs.Front.{stopped}
use Rattle.capture_import.proofs.words.put_words.Goals as goal

pub returns-then-not-branch-clause-bytes : goal.returns-then-not-branch-clause-bytes
returns-then-not-branch-clause-bytes c =
    let fails : all_spelled (filter is_some_text (c.in-Some.part.now ∷ [])) ≡ false =
    grind (arith, common_steps) in
    stopped _ (filter is_some_text (c.in-Some.part.now ∷ [])) (words_of c.in-Some.behind.now) _ _ c.in-Some.ensures.cut fails c.in_ok-put_part.ensures.bytes
    ∙ c.loop-part.invariant.bytes
