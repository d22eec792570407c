-- The reset with a number in a log: the resets are counted as `resets` counts them, each once, from 1.
use Rattle.std.specs.Prelude.{◌≡◌, ℕ, ◌+◌, ◌<◌, true, List, [], ◌∷◌, ◌++◌, count_by}
use Rattle.self_id.specs.declared.standard.Standard.TheVariants.{Ieee2000}
use Rattle.reset_list.specs.declared.form.LogForm.{LogForm}
use Rattle.reset_list.specs.declared.form.LogForm.TheVariants.{Json}
use Rattle.reset_log.specs.declared.notes.Pending.{Pending}
use Rattle.reset_log.specs.Noted.{last_of}
use Rattle.reset_log.specs.Entries.{Entry, a_reset}
use Rattle.reset_log.specs.Told.{Telling, IsResetTelling, AreTellings, cards_after, counts}

-- resets are told by IEEE 1394a-2000, one a line
abbrev pub form : LogForm
form = Json Ieee2000

-- a reset, the line that begins it, and how many packets of it the log lacks, as an entry of the log
abbrev pub entry : Pending → Entry
entry p = a_reset p.number p.left p.reset

-- the reset is counted, and with those before it there are so many
pub record IsNth (k : ℕ) (entries : List Entry) (p : Pending) : Type 0 where
  pub before : List Entry
  pub behind : List Entry
  pub entries_are : entries ≡ before ++ entry p ∷ behind
  pub tellings : List Telling
  pub told : AreTellings form [] before tellings
  pub telling : Telling
  pub tells :
      IsResetTelling form p.number p.left (last_of p.reset.card (cards_after [] before tellings))
      p.reset telling
  pub is_counted : counts telling ≡ true
  pub number_is : k ≡ count_by counts tellings + 1

-- so many are counted in all, and they are fewer
pub record HasFewer (k : ℕ) (entries : List Entry) (n : ℕ) : Type 0 where
  pub tellings : List Telling
  pub told : AreTellings form [] entries tellings
  pub count_is : n ≡ count_by counts tellings
  pub fewer : n < k
