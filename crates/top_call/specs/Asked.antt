-- What is asked for, and what is answered. `Asks` says of a thing whether it is asked for.
use Rattle.std.specs.Prelude.{◌≡◌, ◌⊎◌, ℕ, ◌<◌, All, List, []}

-- something is asked for
abbrev pub AsksSome : {A : Type 0} → (A → Type 0) → Type 0
AsksSome Asks = (asked : _) × Asks asked

-- something is asked for, for which no bytes are read
abbrev pub AsksUnread : {A : Type 0} → (A → Type 0) → (A → Type 0) → Type 0
AsksUnread Asks IsUnread = (asked : _) × Asks asked × IsUnread asked

-- The status and the text for the bytes: what is asked for is answered, and where nothing is the
-- status is 2 and there is no text.
abbrev pub AnswersAsked : {A : Type 0} →
    (A → Type 0) → (A → List ℕ → ℕ → List ℕ → Type 0) → List ℕ → ℕ → List ℕ → Type 0
AnswersAsked Asks Answers bytes status text =
    ((asked : _) × Asks asked × Answers asked bytes status text)
    ⊎ ((¬ AsksSome Asks) × (status ≡ 2) × (text ≡ []))

-- all bytes have an answer
abbrev pub EachHasAnAnswer : (List ℕ → ℕ → List ℕ → Type 0) → Type 0
EachHasAnAnswer Answers = (bytes : List ℕ) → All (λ b. b < 256) bytes →
    (status : ℕ) × (text : List ℕ) × Answers bytes status text

-- none have two
abbrev pub NoneHasTwoAnswers : (List ℕ → ℕ → List ℕ → Type 0) → Type 0
NoneHasTwoAnswers Answers = (bytes : List ℕ) (s r : ℕ) (a b : List ℕ) →
    Answers bytes s a → Answers bytes r b → (s ≡ r) × (a ≡ b)
