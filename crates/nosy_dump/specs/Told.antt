-- Each reset of a dump is told once, in the order of the dump, and judged as `busconf read` judges; and the totals
-- count what is told.
use Rattle.std.specs.Prelude.{◌≡◌, ◌<◌, ℕ, ◌+◌, ◌||◌, Bool, true, false, is_some, All, Option, Some, None, List, [], ◌∷◌, ◌++◌, length, count_by}
use Rattle.bus_json.specs.Bus.{tree_members}
use Rattle.bus_json.specs.Text.{json_line}
use Rattle.quad_lanes.specs.Capture.{capture}
use Rattle.self_id.specs.declared.standard.Standard.{Standard}
use Rattle.topology_stack.specs.Tree.{Tree, walk}
use Rattle.capture_reading.specs.declared.fault.CaptureFault.{CaptureFault}
use Rattle.capture_reading.specs.Capture.{Spells, CaptureRefused}
use Rattle.log_line.specs.declared.line.Origin.TheVariants.{Core}
use Rattle.reset_list.specs.declared.counts.Tally.{Tally}
use Rattle.reset_list.specs.declared.form.LogForm.{LogForm}
use Rattle.reset_list.specs.declared.form.LogForm.TheVariants.{Text, Short, Json}
use Rattle.reset_list.specs.Counts.{capped, tallied}
use Rattle.reset_list.specs.Form.{standard_of}
use Rattle.reset_list.specs.Json.{list_fault}
use Rattle.reset_list.specs.Sentence.{IsRefusalShown}
use Rattle.reset_list.specs.Shown.{IsTreeShown}
use Rattle.reset_list.specs.Texts.{numbers, refused as refused_lines}
use Rattle.nosy_dump.specs.declared.record.DumpReset.{DumpReset}
use Rattle.nosy_dump.specs.declared.record.DumpFault.{DumpFault}
use Rattle.nosy_dump.specs.Record.{dump_of, AreSized, EndsSo}
use Rattle.nosy_dump.specs.Resets.{resets_from}
use Rattle.nosy_dump.specs.Noted.{Noted}
use Rattle.nosy_dump.specs.Texts.{head}
use Rattle.nosy_dump.specs.Json.{reset_value}
use Rattle.nosy_dump.specs.Dump.{last_text, IsDumpShown}

-- ---- a reset

-- the list of a reset is that of a tree, or has a fault
pub data Verdict : Type 0 where
  spelt : Tree → Verdict
  refused : CaptureFault → Verdict

pub record Telling : Type 0 where
  pub verdict : Verdict
  pub text : List ℕ

-- as `read` or `read95` judges the capture of its packets
abbrev pub IsVerdict : Standard → DumpReset → Verdict → Type 0
IsVerdict standard r (spelt t) = Spells standard (capture r.list) t
IsVerdict standard r (refused f) = CaptureRefused standard (capture r.list) f

abbrev pub IsSpeltText : LogForm → ℕ → Option Tree → DumpReset → Tree → List ℕ → Type 0
IsSpeltText (Text standard) number before r t text = IsTreeShown (head number r) before t text
IsSpeltText (Short standard) number before r t text = text ≡ head number r ++ numbers t
IsSpeltText (Json standard) number before r t text =
    text ≡ json_line (reset_value number r (tree_members [] t))

abbrev pub IsRefusedText : LogForm → ℕ → DumpReset → CaptureFault → List ℕ → Type 0
IsRefusedText (Text standard) number r f text =
    IsRefusalShown standard Core (head number r) r.list f text
IsRefusedText (Short standard) number r f text = text ≡ refused_lines (head number r) f
IsRefusedText (Json standard) number r f text =
    text ≡ json_line (reset_value number r (list_fault f))

abbrev pub IsVerdictText : LogForm → ℕ → Option Tree → DumpReset → Verdict → List ℕ → Type 0
IsVerdictText form number before r (spelt t) text = IsSpeltText form number before r t text
IsVerdictText form number before r (refused f) text = IsRefusedText form number r f text

-- what is told of the reset with this number, where this tree was heard last before it
pub record IsTelling (form : LogForm) (number : ℕ) (before : Option Tree) (r : DumpReset)
    (t : Telling) : Type 0 where
  pub verdict : IsVerdict (standard_of form) r t.verdict
  pub shown : IsVerdictText form number before r t.verdict t.text

-- ---- resets in order

abbrev pub tree_behind : Option Tree → Verdict → Option Tree
tree_behind before (spelt t) = Some t
tree_behind before (refused f) = before

-- what is told of resets that are numbered from here on: something of each, in their order
abbrev pub AreTellings : LogForm → ℕ → Option Tree → List DumpReset → List Telling → Type 0
AreTellings form number before [] [] = Unit {0}
AreTellings form number before [] (t ∷ ts) = ⊥
AreTellings form number before (r ∷ rs) [] = ⊥
AreTellings form number before (r ∷ rs) (t ∷ ts) =
    IsTelling form number before r t
    × AreTellings form (number + 1) (tree_behind before t.verdict) rs ts

-- ---- in all

abbrev pub texts : List Telling → List ℕ
texts [] = []
texts (t ∷ ts) = t.text ++ texts ts

abbrev pub has_fault : Verdict → Bool
has_fault (spelt t) = false
has_fault (refused f) = true

abbrev pub refuses : Telling → Bool
refuses t = has_fault t.verdict

abbrev pub some_refused : List Telling → Bool
some_refused [] = false
some_refused (t ∷ ts) = refuses t || some_refused ts

-- which nodes began how many resets, by the trees that were heard
abbrev pub tallies_by : Verdict → List Tally → List Tally
tallies_by (spelt t) ts = tallied 0 0 (walk t) ts
tallies_by (refused f) ts = ts

abbrev pub tallies_after : List Tally → List Telling → List Tally
tallies_after tallies [] = tallies
tallies_after tallies (t ∷ ts) = tallies_after (tallies_by t.verdict tallies) ts

-- What is told of a dump: its resets in order, its fault if it has one, and the totals. It is at fault where it has a
-- fault or a list is refused. The totals tell how many resets there are, how many lists were refused, and who began
-- most resets.
pub record IsToldInOrder (form : LogForm) (dump text : List ℕ) (bad : Bool) : Type 0 where
  pub records : List (List ℕ)
  pub rest : List ℕ
  pub fault : Option DumpFault
  pub dump_is : dump ≡ dump_of records ++ rest
  pub sized : AreSized records
  pub ends : EndsSo rest fault
  pub tellings : List Telling
  pub known : Noted
  pub each : AreTellings form 1 None (resets_from 0 records) tellings
  pub text_is : text ≡ texts tellings ++ last_text form (length (dump_of records)) fault known
  pub bad_is : bad ≡ some_refused tellings || is_some fault
  pub resets_are : known.counts.resets ≡ capped (length tellings)
  pub refused_are : known.counts.refused ≡ capped (count_by refuses tellings)
  pub tallies_are : known.tallies ≡ tallies_after [] tellings

abbrev pub DumpsAreToldInOrder : Type 0
DumpsAreToldInOrder =
    (form : LogForm) (dump text : List ℕ) (bad : Bool) → All (λ b. b < 256) dump →
    IsDumpShown form dump text bad → IsToldInOrder form dump text bad
