-- What is shown of a log: of its lines in order, with the trees that are known at each.
use Rattle.std.specs.Prelude.{ℕ, ◌≡◌, ◌==◌, Bool, if◌then◌else◌, Option, List, [], ◌∷◌, ◌++◌}
use Rattle.std.specs.Io.KnownBytes.{Appends}
use Rattle.reset_list.specs.declared.form.LogForm.{LogForm}
use Rattle.reset_log.specs.Noted.{Noted, nothing}
use Rattle.reset_log.specs.Shown.{totals_text, IsLineShown}
use Rattle.reset_list.specs.InOrder.{AreTold}

-- whole lines, each of which a line feed ends, and what stands behind the last one
pub record Parted : Type 0 where
  pub lines : List (List ℕ)
  pub open_line : List ℕ

abbrev pub onto_first : ℕ → List (List ℕ) → List ℕ → Parted
onto_first b [] rest = record { lines = []; open_line = b ∷ rest }
onto_first b (line ∷ lines) rest = record { lines = (b ∷ line) ∷ lines; open_line = rest }

abbrev pub with_byte : ℕ → Parted → Parted
with_byte b p =
    if b == 10 then record { lines = [] ∷ p.lines; open_line = p.open_line }
    else onto_first b p.lines p.open_line

unfoldable pub parted : List ℕ → Parted
parted [] = record { lines = []; open_line = [] }
parted (b ∷ bytes) = with_byte b (parted bytes)

-- a last line may lack its line feed
abbrev pub open_lines : List ℕ → List (List ℕ)
open_lines [] = []
open_lines (b ∷ bytes) = (b ∷ bytes) ∷ []

abbrev pub lines_of : List ℕ → List (List ℕ)
lines_of bytes = (parted bytes).lines ++ open_lines (parted bytes).open_line

-- What is shown of lines that are numbered from here on, where this is noted before them; whether one of them
-- is at fault, and what is noted behind them.
abbrev pub AreLinesShown : LogForm → ℕ → Noted → List (List ℕ) → List ℕ → Bool → Noted → Type 0
AreLinesShown form = AreTold (IsLineShown form)

-- what is shown of a log, of its lines and behind them in all, and whether one of its lines is at fault
pub record IsLogShown (form : LogForm) (lines : List (List ℕ)) (text : List ℕ) (bad : Bool) :
    Type 0 where
  pub known : Noted
  pub told : List ℕ
  pub shown : AreLinesShown form 1 nothing lines told bad known
  pub text_is : text ≡ told ++ totals_text form known

-- what was written is what is shown of these lines
pub record AreWritten (form : LogForm) (old new : Option (List ℕ))
    (lines : List (List ℕ)) (bad : Bool) : Type 0 where
  pub text : List ℕ
  pub is_shown : IsLogShown form lines text bad
  pub wrote : Appends old new text

-- what was written is what is shown of these lines, which others may follow
pub record AreBegun (form : LogForm) (old new : Option (List ℕ)) (lines : List (List ℕ))
    (bad : Bool) : Type 0 where
  pub text : List ℕ
  pub known : Noted
  pub shown : AreLinesShown form 1 nothing lines text bad known
  pub wrote : Appends old new text
