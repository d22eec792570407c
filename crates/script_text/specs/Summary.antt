-- What a run that was made is worth: its last report, without the lines of nodes.
use Rattle.std.specs.Prelude.{ℕ, ◌==◌, ◌||◌, not, Bool, List, [], ◌∷◌, ◌++◌, cond, codes}
use Rattle.std.specs.List.{onto_first, starts_with, list_any}

abbrev pub is_feed : ℕ → Bool
is_feed c = c == 10

-- the lines of a text, each with its line feed
abbrev pub lines_of : List ℕ → List (List ℕ)
lines_of [] = []
lines_of (c ∷ cs) = cond (is_feed c) ((c ∷ []) ∷ lines_of cs) (onto_first c (lines_of cs))

abbrev pub begins_with : List ℕ → List ℕ → Bool
begins_with word line = starts_with (λ x y. x == y) line word

abbrev pub is_report_line : List ℕ → Bool
is_report_line line = begins_with (codes "report ") line

abbrev pub is_node_line : List ℕ → Bool
is_node_line line = begins_with (codes "node ") line

-- from the last line that begins a report, and nothing where no line does
abbrev pub from_last_report : List (List ℕ) → List (List ℕ)
from_last_report [] = []
from_last_report (line ∷ lines) =
    cond (list_any is_report_line lines || not (is_report_line line))
    (from_last_report lines) (line ∷ lines)

-- without the lines of nodes
abbrev pub without_nodes : List (List ℕ) → List ℕ
without_nodes [] = []
without_nodes (line ∷ lines) = cond (is_node_line line) [] line ++ without_nodes lines

abbrev pub summary : List ℕ → List ℕ
summary text = without_nodes (from_last_report (lines_of text))
