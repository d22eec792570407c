-- What a word of a line has to be, and what is wrong with one that isn't.
use Rattle.std.specs.Prelude.{ℕ, ◌&&◌, not, nat_le, Bool, true, false, List, [], ◌∷◌, codes, Option, Some, None, if◌then◌else◌}
use Rattle.std.specs.Option.{option_or}
use Rattle.std.specs.Str.{bytes_eq}
use Rattle.script_lines.specs.declared.kind.Kind.{Kind}
use Rattle.script_lines.specs.declared.kind.Kind.TheVariants.{Number, Name, Range}
use Rattle.script_lines.specs.Number.{number_of}
use Rattle.script_lines.specs.Name.{is_name}

pub data Shape : Type 0 where
  -- this text
  the : List ℕ → Shape
  -- a name
  a_name : Shape
  -- a number from the first to the second
  a_number : ℕ → ℕ → Shape
  -- the same, and no `-`
  a_given : ℕ → ℕ → Shape

-- a number that may be any
abbrev pub any_number : Shape
any_number = a_number 0 4294967295

-- whether a word may stand where the shape is wanted; if it then isn't what it has to be, that is a
-- fault of its own
abbrev pub fits : Shape → List ℕ → Bool
fits (the text) word = bytes_eq word text
fits a_name word = true
fits (a_number least most) word = true
fits (a_given least most) word = not (bytes_eq word (codes "-"))

-- as many words as shapes, each of which fits
abbrev pub fit : List Shape → List (List ℕ) → Bool
fit [] [] = true
fit [] (word ∷ words) = false
fit (shape ∷ shapes) [] = false
fit (shape ∷ shapes) (word ∷ words) = fits shape word && fit shapes words

abbrev pub wrong_name : List ℕ → Option Kind
wrong_name word = if is_name word then None else Some Name

-- what is wrong with a number that has to lie in a range
abbrev pub out_of : ℕ → ℕ → Option ℕ → Option Kind
out_of least most None = Some Number
out_of least most (Some n) = if nat_le least n && nat_le n most then None else Some Range

abbrev pub wrong_number : ℕ → ℕ → List ℕ → Option Kind
wrong_number least most word = out_of least most (number_of word)

-- what is wrong with a word
abbrev pub wrong : Shape → List ℕ → Option Kind
wrong (the text) word = None
wrong a_name word = wrong_name word
wrong (a_number least most) word = wrong_number least most word
wrong (a_given least most) word = wrong_number least most word

-- what is wrong with the first word that is at fault
abbrev pub first_wrong : List Shape → List (List ℕ) → Option Kind
first_wrong [] words = None
first_wrong (shape ∷ shapes) [] = None
first_wrong (shape ∷ shapes) (word ∷ words) =
    option_or (wrong shape word) (first_wrong shapes words)
