-- Which verb a word comes near to.
use Rattle.std.specs.Prelude.{ℕ, ◌==◌, ◌&&◌, ◌||◌, Bool, true, false, List, [], ◌∷◌, map, codes, if◌then◌else◌}
use Rattle.std.specs.Char.{to_ascii_lowercase}
use Rattle.std.specs.Str.{bytes_eq}
use Rattle.script_lines.specs.Words.{words_of}
use Rattle.script_lines.specs.Form.{word_at}
use Rattle.script_words.specs.Usage.{usages}

abbrev pub is_none : List ℕ → Bool
is_none [] = true
is_none (c ∷ cs) = false

-- the texts are two characters in turned order, and then the same
abbrev pub is_turned : List ℕ → List ℕ → Bool
is_turned (a ∷ b ∷ cs) (c ∷ d ∷ ds) = a == d && (b == c && bytes_eq cs ds)
is_turned one other = false

-- the texts are the same but for the first character of one or of both, or but for the turn of two
abbrev pub differs_once : List ℕ → List ℕ → Bool
differs_once [] [] = true
differs_once [] (d ∷ ds) = is_none ds
differs_once (c ∷ cs) [] = is_none cs
differs_once (c ∷ cs) (d ∷ ds) =
    bytes_eq cs ds || (bytes_eq (c ∷ cs) ds || (bytes_eq cs (d ∷ ds) || is_turned (c ∷ cs) (d ∷ ds)))

-- behind what they begin with alike, two texts differ once at most
abbrev pub is_near : List ℕ → List ℕ → Bool
is_near (c ∷ cs) (d ∷ ds) =
    if c == d then is_near cs ds else differs_once (c ∷ cs) (d ∷ ds)
is_near one other = differs_once one other

-- the first word of the first usage that begins near to a word
abbrev pub nearest_of : List ℕ → List (List ℕ) → List ℕ
nearest_of word [] = []
nearest_of word (u ∷ us) =
    if is_near word (word_at (words_of u) 0) then word_at (words_of u) 0 else nearest_of word us

-- the verb that a word comes near to, capitals or not, or none; who writes `unplug` wants to pull
unfoldable pub nearest : List ℕ → List ℕ
nearest word =
    let small : List ℕ = map to_ascii_lowercase word in
    if bytes_eq small (codes "unplug") then codes "pull" else nearest_of small usages
