-- Words that are too few or too many for the form.
use Rattle.std.proofs.Common.{ℕ, ◌<◌, ◌≤◌, List, [], ◌∷◌, length, arith}
use Rattle.flawed_form.specs.Form.{AreAllWordsOf}
use Rattle.flawed_form.specs.declared.form.FlawedForm.{FlawedForm}

pub too_few : (form : FlawedForm) (words : List (List ℕ)) → length words < 4 →
    AreAllWordsOf form words → ⊥
unfolding AreAllWordsOf
too_few form (a ∷ b ∷ c ∷ d ∷ []) few is = omega (arith, few)
too_few form (a ∷ b ∷ c ∷ d ∷ e ∷ []) few is = omega (arith, few)
too_few form _ few is = is

pub too_many : (form : FlawedForm) (words : List (List ℕ)) → 6 ≤ length words →
    AreAllWordsOf form words → ⊥
unfolding AreAllWordsOf
too_many form (a ∷ b ∷ c ∷ d ∷ []) many is = omega (arith, many)
too_many form (a ∷ b ∷ c ∷ d ∷ e ∷ []) many is = omega (arith, many)
too_many form _ many is = is
