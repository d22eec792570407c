-- Which words of a call are options, and which are the command's own and files.
use Rattle.std.specs.Prelude.{◌≡◌, ℕ, ◌+◌, ◌==◌, ◌&&◌, not, Bool, false, List, [], ◌∷◌, ◌++◌, All, take, drop, filter, length, codes, string_bytes, string_cmp, String, IsPermutation, IsSorted, if◌then◌else◌}
use Rattle.std.specs.Global.{Global}
use Rattle.std.specs.Str.{bytes_eq}

-- the word `--`
abbrev pub is_end : List ℕ → Bool
is_end word = bytes_eq word (codes "--")

abbrev pub begins_with_dash : List ℕ → Bool
begins_with_dash [] = false
begins_with_dash (c ∷ cs) = c == 45

-- a word that begins with `-`, and isn't `-` alone, which stands for standard input
abbrev pub is_option : List ℕ → Bool
is_option word = begins_with_dash word && not (bytes_eq word (codes "-"))

abbrev pub is_option_word : String Global → Bool
is_option_word word = is_option (string_bytes word)

abbrev pub is_other_word : String Global → Bool
is_other_word word = not (is_option (string_bytes word))

-- the words before the first `--`, or all if there is none
abbrev pub before_end : List (String Global) → List (String Global)
before_end [] = []
before_end (word ∷ words) = if is_end (string_bytes word) then [] else word ∷ before_end words

-- the words behind it, or none
abbrev pub behind_end : List (String Global) → List (String Global)
behind_end [] = []
behind_end (word ∷ words) = if is_end (string_bytes word) then words else behind_end words

-- The words that are no options, in their order. The first is the command, whatever it is; behind `--`
-- none is an option.
abbrev pub plain_words : List (String Global) → List (String Global)
plain_words [] = []
plain_words (command ∷ words) =
    command ∷ (filter is_other_word (before_end words) ++ behind_end words)

-- those that are
abbrev pub option_words : List (String Global) → List (String Global)
option_words [] = []
option_words (command ∷ words) = filter is_option_word (before_end words)

-- Of the words of a call so many behind the command belong to it. These are the form's own: the command and what
-- belongs to it, so many in all, and behind them its options by the alphabet. What is left are its files.
pub record AreSorted (behind : ℕ) (words own : List (String Global)) (plain : ℕ)
    (files : List (String Global)) : Type 0 where
  pub options : List (String Global)
  pub own_are : own ≡ take (behind + 1) (plain_words words) ++ options
  pub plain_is : plain ≡ length (take (behind + 1) (plain_words words))
  pub options_are : IsPermutation (option_words words) options
  pub alphabet : IsSorted string_cmp options
  pub files_are : files ≡ drop (behind + 1) (plain_words words)

-- No word before `--` is a file that begins with `-`, but `-` alone: such as are no options come first, and behind
-- them what ends the words behind `--`.
pub record AreNoOptions (words files : List (String Global)) : Type 0 where
  pub front : List (String Global)
  pub skipped : ℕ
  pub files_are : files ≡ front ++ drop skipped (behind_end (drop 1 words))
  pub no_options : All (λ file. is_option (string_bytes file) ≡ false) front
