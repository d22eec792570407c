-- What is told of items one after the other.
use Rattle.std.specs.Prelude.{◌≡◌, ℕ, ◌+◌, ◌||◌, Bool, false, List, [], ◌∷◌, ◌++◌}

-- What is told of items that are numbered from here on, where this is known before them; whether one of
-- them is at fault, and what is known behind them. Of each item `IsTold` says the same.
abbrev pub AreTold :
    {X S : Type 0} → (ℕ → S → X → List ℕ → Bool → S → Type 0) →
    ℕ → S → List X → List ℕ → Bool → S → Type 0
AreTold IsTold number s [] text bad next = (text ≡ []) × (bad ≡ false) × (next ≡ s)
AreTold {S = S} IsTold number s (x ∷ xs) text bad next =
    (first rest : List ℕ) × (here later : Bool) × (mid : S)
    × IsTold number s x first here mid
    × AreTold IsTold (number + 1) mid xs rest later next
    × (text ≡ first ++ rest) × (bad ≡ here || later)
