-- Which cable is in a port, by the lines of a script.
use Rattle.std.specs.Prelude.{ℕ, ◌+◌, ◌==◌, ◌&&◌, ◌||◌, unwrap_or, Bool, false, List, [], ◌∷◌, codes, Option, Some, None, if◌then◌else◌}
use Rattle.std.specs.Str.{bytes_eq}
use Rattle.script_lines.specs.Number.{number_of}
use Rattle.script_lines.specs.Form.{word_at}
use Rattle.script_words.specs.Before.{words_in}

-- an end of a cable: the name of a node, and the number of its port
abbrev pub End : Type 0
End = List ℕ × ℕ

-- the end that the words of a line name at a place and behind it
abbrev pub end_at : List (List ℕ) → ℕ → End
end_at words place = (word_at words place, unwrap_or (number_of (word_at words (place + 1))) 0)

abbrev pub is_same : End → End → Bool
is_same one other = bytes_eq one.0 other.0 && one.1 == other.1

abbrev pub is_far : End → Option End → Bool
is_far end None = false
is_far end (Some far) = is_same end far

-- the far end of the cable in a port behind a `plug` of two ends
abbrev pub plugged : End → Option End → End → End → Option End
plugged port far one other =
    if is_same port one then Some other else if is_same port other then Some one else far

-- and behind a `pull` at an end, which may be either of the cable
abbrev pub pulled : End → Option End → End → Option End
pulled port far end = if is_same port end || is_far end far then None else far

-- and behind the words of any line
abbrev pub far_behind : End → Option End → List (List ℕ) → Option End
far_behind port far words =
    if bytes_eq (word_at words 0) (codes "plug") then plugged port far (end_at words 1) (end_at words 3)
    else if bytes_eq (word_at words 0) (codes "pull") then pulled port far (end_at words 1)
    else far

-- and behind all of these lines
abbrev pub far_end : End → Option End → List (List ℕ) → Option End
far_end port far [] = far
far_end port far (line ∷ lines) = far_end port (far_behind port far (words_in line)) lines
