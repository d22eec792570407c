-- The lines of cables by a list of ends. No public contract cites this file.
use Rattle.std.specs.Prelude.{ℕ, suc, List, [], ◌∷◌}
use Rattle.rand_pcg.specs.Lcg.{Lcg}
use Rattle.script_made.specs.declared.made.End.{End}
use Rattle.script_made.specs.Made.{word, end_at, end_of, for_each, plug_line, pull_line, turn_line}

-- the ends at which the first so many cables plug
abbrev pub ends_below : Lcg → ℕ → List End
ends_below g cables = for_each cables (λ k. end_of g k ∷ [])

-- the lines that plug the first so many cables of a list
abbrev pub plugged : List End → ℕ → List (List ℕ)
plugged ends cables = for_each cables (λ k. plug_line (end_at ends k) (suc k) ∷ [])

-- the lines that pull them and plug them again
abbrev pub plugged_again : List End → Lcg → ℕ → List (List ℕ)
plugged_again ends g cables =
    for_each cables (λ k. pull_line (suc k) ∷ turn_line (word g k)
    ∷ plug_line (end_at ends k) (suc k) ∷ [])
