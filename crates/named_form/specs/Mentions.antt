-- A text with the names of the nodes that it mentions.
use Rattle.std.specs.Prelude.{ℕ, suc, List, [], ◌∷◌, ◌++◌, take, drop, codes, Option, Some, None, if◌then◌else◌}
use Rattle.std.specs.Char.{is_ascii_digit}
use Rattle.line_words.specs.Digits.{of_digits}
use Rattle.named_form.specs.File.{begins, name_of}

-- how many digits a text begins with
abbrev pub digits_len : List ℕ → ℕ
digits_len [] = 0
digits_len (c ∷ text) = if is_ascii_digit c then suc (digits_len text) else 0

-- the node that a text begins with a mention of: `node` and a number
abbrev pub mentioned : List ℕ → Option ℕ
mentioned text =
    if begins (codes "node ") text then of_digits 10 2 (take (digits_len (drop 5 text)) (drop 5 text))
    else None

-- what comes before it: the node's name, if it has one
abbrev pub before_mention : List (List ℕ) → List ℕ → List ℕ
before_mention lines text = of_node (mentioned text)
  where
    of_name : Option (List ℕ) → List ℕ
    of_name None = []
    of_name (Some name) = name ++ codes ": "

    of_node : Option ℕ → List ℕ
    of_node None = []
    of_node (Some id) = of_name (name_of id lines)

-- the text with a name before each mention of a node that has one
abbrev pub with_names : List (List ℕ) → List ℕ → List ℕ
with_names lines [] = []
with_names lines (c ∷ text) = before_mention lines (c ∷ text) ++ (c ∷ with_names lines text)
