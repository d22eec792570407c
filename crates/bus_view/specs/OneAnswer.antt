-- All words and bytes have one answer.
use Rattle.std.specs.Prelude.{◌≡◌, ℕ, ◌<◌, All, List, String}
use Rattle.std.specs.Global.{Global}
use Rattle.bus_view.specs.Answer.{Answers}

abbrev pub EachInputHasAView : Type 0
EachInputHasAView =
    (words : List (String Global)) (bytes : List ℕ) → All (λ b. b < 256) bytes →
    (status : ℕ) × (text : List ℕ) × Answers words bytes status text

abbrev pub NoInputHasTwoViews : Type 0
NoInputHasTwoViews =
    (words : List (String Global)) (bytes : List ℕ) (s r : ℕ) (a b : List ℕ) →
    Answers words bytes s a → Answers words bytes r b → (s ≡ r) × (a ≡ b)
