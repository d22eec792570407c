-- What is written of a log of which one reset is wanted.
use Rattle.std.specs.Prelude.{◌≡◌, ℕ, ◌==◌, true, false, List, ◌++◌, codes, decimal}
use Rattle.reset_list.specs.Judged.{capture_by}
use Rattle.reset_log.specs.declared.notes.Pending.{Pending}
use Rattle.reset_log.specs.Log.{lines_of}
use Rattle.reset_log.specs.Entries.{entries_of}
use Rattle.log_import.specs.Reset.{IsNth, HasFewer}
use Rattle.log_import.specs.declared.outcome.Place.{Place}
use Rattle.log_import.specs.declared.outcome.Outcome.{Outcome}
use Rattle.log_import.specs.declared.outcome.Outcome.TheVariants.{Written, TooFew, IsError, PacketsMissing}
use Rattle.log_import.specs.declared.finder.Search.{Search}
use Rattle.log_import.specs.declared.finder.Search.TheVariants.{Found, Fewer}

-- ---- the lines of refusals

-- `refused reset K TooFew found N`
abbrev pub too_few : ℕ → ℕ → List ℕ
too_few k n =
    codes "refused reset " ++ (decimal k ++ (codes " TooFew found " ++ (decimal n ++ codes "\n")))

-- `refused line N IsError`: the controller says that it failed
abbrev pub is_error : ℕ → List ℕ
is_error line = codes "refused line " ++ (decimal line ++ codes " IsError\n")

-- `refused line N PacketsMissing M`: so many packets of the reset aren't in the log
abbrev pub packets_missing : ℕ → ℕ → List ℕ
packets_missing line count =
    codes "refused line "
    ++ (decimal line ++ (codes " PacketsMissing " ++ (decimal count ++ codes "\n")))

-- ---- what is written

-- what a search of the log comes to: its reset with this number, or there are fewer
abbrev pub IsSearch : ℕ → List ℕ → Search → Type 0
IsSearch k log (Found p) = IsNth k (entries_of (lines_of log)) p
IsSearch k log (Fewer n) = HasFewer k (entries_of (lines_of log)) n

-- the line that begins a reset, and its card
abbrev pub place_of : Pending → Place
place_of p = record { line = p.number; card = p.reset.card }

-- of a reset that is judged the capture of its list, and else why it isn't
abbrev pub IsWritten : Pending → List ℕ → Outcome → Type 0
IsWritten p text (Written at) =
    (p.reset.is_error ≡ false) × ((p.left == 0) ≡ true) × (at ≡ place_of p)
    × (text ≡ capture_by p.reset.origin p.reset.list)
IsWritten p text (IsError at) =
    (p.reset.is_error ≡ true) × (at ≡ place_of p) × (text ≡ is_error p.number)
IsWritten p text (PacketsMissing at count) =
    (p.reset.is_error ≡ false) × ((p.left == 0) ≡ false) × (at ≡ place_of p) × (count ≡ p.left)
    × (text ≡ packets_missing p.number count)
IsWritten p text (TooFew n) = ⊥

abbrev pub IsSearchWritten : ℕ → Search → List ℕ → Outcome → Type 0
IsSearchWritten k (Found p) text outcome = IsWritten p text outcome
IsSearchWritten k (Fewer n) text outcome = (outcome ≡ TooFew n) × (text ≡ too_few k n)

-- the log's reset with this number is written, or that it isn't to be had
abbrev pub IsResetImport : ℕ → List ℕ → List ℕ → Outcome → Type 0
IsResetImport k log text outcome =
    (search : Search) × IsSearch k log search × IsSearchWritten k search text outcome
