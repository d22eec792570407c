-- What parts a text. No public contract cites this file.
use Rattle.std.specs.Prelude.{ℕ, ◌==◌, Bool}
use Rattle.script_lines.specs.Words.{is_blank}
use Rattle.script_words.specs.declared.text.Mark.{Mark}
use Rattle.script_words.specs.declared.text.Mark.TheVariants.{Blank, Feed}

abbrev pub is_mark : Mark → ℕ → Bool
is_mark Blank = is_blank
is_mark Feed = λ c. c == 10
