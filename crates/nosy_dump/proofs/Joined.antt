-- Texts that were appended one after the other.
use Rattle.std.proofs.Common.{◌≡◌, ◌∙◌, ℕ, List, ◌++◌, ap, append_assoc}

pub two : (new mid out a b : List ℕ) → mid ≡ out ++ a → new ≡ mid ++ b → new ≡ out ++ (a ++ b)
two new mid out a b e f = f ∙ ap (λ (l : List ℕ). l ++ b) e ∙ append_assoc out a b

pub three : (new next mid out a b c : List ℕ) → mid ≡ out ++ a → next ≡ mid ++ b → new ≡ next ++ c →
    new ≡ out ++ (a ++ (b ++ c))
three new next mid out a b c e f g = two new mid out a (b ++ c) e (two new next mid b c f g)
