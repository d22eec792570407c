-- All words and bytes have one status and one text.
use Rattle.std.specs.Prelude.{◌≡◌, ℕ, ◌<◌, All, List, String}
use Rattle.std.specs.Global.{Global}
use Rattle.bus_cli.specs.Answer.{Answers}

abbrev pub EachInputHasAnAnswer : Type 0
EachInputHasAnAnswer =
    (words : List (String Global)) (bytes : List ℕ) → All (λ b. b < 256) bytes →
    (status : ℕ) × (text : List ℕ) × Answers words bytes status text

abbrev pub NoInputHasTwoAnswers : Type 0
NoInputHasTwoAnswers =
    (words : List (String Global)) (bytes : List ℕ) (s r : ℕ) (a b : List ℕ) →
    Answers words bytes s a → Answers words bytes r b → (s ≡ r) × (a ≡ b)
