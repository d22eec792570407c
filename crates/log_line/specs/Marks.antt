-- The marks of a line that may be shown, by which other lines are passed over.
use Rattle.std.specs.Prelude.{ℕ, ◌==◌, ◌||◌, is_some, Bool, true, false, List, [], ◌∷◌, if◌then◌else◌, codes}
use Rattle.log_line.specs.Words.{is_blank, behind}

-- what stands behind an underscore in each of the events' and the drivers' names
abbrev pub is_mark : List ℕ → Bool
is_mark text =
    is_some (behind (codes "complete:") text) || is_some (behind (codes "handle:") text)
    || is_some (behind (codes "core") text) || is_some (behind (codes "ohci") text)

abbrev pub has_mark : List ℕ → Bool
has_mark [] = false
has_mark (c ∷ cs) = if c == 95 then (if is_mark cs then true else has_mark cs) else has_mark cs

-- `C` stands first in the first word, as in `CPU:2 [LOST 12 EVENTS]`
abbrev pub begins_loss : List ℕ → Bool
begins_loss [] = false
begins_loss (c ∷ cs) = if is_blank c then begins_loss cs else c == 67
