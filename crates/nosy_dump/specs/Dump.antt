-- What is shown of a dump.
use Rattle.std.specs.Prelude.{◌≡◌, ℕ, ◌-◌, ◌||◌, Bool, is_some, is_none, Option, List, ◌++◌, length, take}
use Rattle.std.specs.Io.KnownBytes.{Appends}
use Rattle.reset_list.specs.declared.form.LogForm.{LogForm}
use Rattle.reset_list.specs.declared.form.LogForm.TheVariants.{Text, Short, Json}
use Rattle.topology_stack.specs.Tree.{Tree}
use Rattle.log_line.specs.declared.line.Origin.TheVariants.{Core}
use Rattle.reset_list.specs.InOrder.{AreTold}
use Rattle.reset_list.specs.Shown.{IsListShown, IsListShort}
use Rattle.nosy_dump.specs.declared.record.DumpReset.{DumpReset}
use Rattle.nosy_dump.specs.declared.record.DumpFault.{DumpFault}
use Rattle.nosy_dump.specs.Record.{dump_of, AreSized, IsOpen, EndsSo}
use Rattle.nosy_dump.specs.Resets.{resets_from}
use Rattle.nosy_dump.specs.Noted.{Noted, nothing, after}
use Rattle.nosy_dump.specs.Texts.{head, end_text}
use Rattle.nosy_dump.specs.Json.{IsResetTold, end_lines}

-- ---- in a form: as text, as one line for each reset, or as lines of JSON

-- what is shown of the reset with this number, and the tree that its list is heard as, if it is
abbrev pub IsJudged :
    LogForm → ℕ → Option Tree → DumpReset → List ℕ → Option Tree → Type 0
IsJudged (Text standard) number before r text heard =
    IsListShown standard Core (head number r) r.list before text heard
IsJudged (Short standard) number before r text heard =
    IsListShort standard Core (head number r) r.list text heard
IsJudged (Json standard) number before r text heard =
    IsResetTold standard number r text heard

-- what is shown behind the last reset
abbrev pub last_text : LogForm → ℕ → Option DumpFault → Noted → List ℕ
last_text (Text standard) byte fault n = end_text byte fault n
last_text (Short standard) byte fault n = end_text byte fault n
last_text (Json standard) byte fault n = end_lines byte fault n

-- ---- a dump

-- what is shown of the reset with this number, whether its list is refused, and what is noted behind it
pub record IsResetShown (form : LogForm) (number : ℕ) (before : Noted) (r : DumpReset)
    (text : List ℕ) (bad : Bool) (next : Noted) : Type 0 where
  pub heard : Option Tree
  pub shown : IsJudged form number before.tree r text heard
  pub bad_is : bad ≡ is_none heard
  pub next_is : next ≡ after before heard

-- what is shown of a dump: of its resets in order, of its fault if it has one, and what was counted in all
pub record IsDumpShown (form : LogForm) (dump text : List ℕ) (bad : Bool) : Type 0 where
  pub records : List (List ℕ)
  pub rest : List ℕ
  pub fault : Option DumpFault
  pub dump_is : dump ≡ dump_of records ++ rest
  pub sized : AreSized records
  pub ends : EndsSo rest fault
  pub resets_text : List ℕ
  pub is_refused : Bool
  pub known : Noted
  pub told :
      AreTold (IsResetShown form) 1 nothing (resets_from 0 records) resets_text is_refused known
  pub text_is : text ≡ resets_text ++ last_text form (length (dump_of records)) fault known
  pub bad_is : bad ≡ is_refused || is_some fault

-- what was written is what is shown of this dump
pub record IsDumpWritten (form : LogForm) (old new : Option (List ℕ)) (dump : List ℕ)
    (bad : Bool) : Type 0 where
  pub text : List ℕ
  pub is_shown : IsDumpShown form dump text bad
  pub wrote : Appends old new text

-- all but the last one
abbrev pub but_last : List DumpReset → List DumpReset
but_last rs = take (length rs - 1) rs

-- what is shown of a dump while it goes on: of each reset that another one followed
pub record IsBegun (form : LogForm) (dump text : List ℕ) : Type 0 where
  pub records : List (List ℕ)
  pub rest : List ℕ
  pub dump_is : dump ≡ dump_of records ++ rest
  pub sized : AreSized records
  pub is_open : IsOpen rest
  pub bad : Bool
  pub known : Noted
  pub told :
      AreTold (IsResetShown form) 1 nothing (but_last (resets_from 0 records)) text bad known

-- what was written is what is shown of this front of a dump
pub record IsBegunWritten (form : LogForm) (old new : Option (List ℕ)) (dump : List ℕ) :
    Type 0 where
  pub text : List ℕ
  pub is_shown : IsBegun form dump text
  pub wrote : Appends old new text
