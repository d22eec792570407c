-- Each reset of a log is told once, in the order of the log, and judged as `busconf read` judges; and the totals
-- count what is told.
use Rattle.std.specs.Prelude.{◌≡◌, ℕ, ◌==◌, ◌||◌, ◌&&◌, not, Bool, true, false, Option, Some, None, List, [], ◌∷◌, ◌++◌, map, count_by, All}
use Rattle.bus_json.specs.Bus.{tree_members}
use Rattle.bus_json.specs.Text.{json_line}
use Rattle.self_id.specs.declared.standard.Standard.{Standard}
use Rattle.topology_stack.specs.Tree.{Tree, walk}
use Rattle.capture_reading.specs.declared.fault.CaptureFault.{CaptureFault}
use Rattle.capture_reading.specs.Capture.{Spells, CaptureRefused}
use Rattle.log_line.specs.declared.line.Reset.{Reset}
use Rattle.reset_list.specs.declared.counts.Tally.{Tally}
use Rattle.reset_list.specs.declared.form.LogForm.{LogForm}
use Rattle.reset_list.specs.declared.form.LogForm.TheVariants.{Text, Short, Json}
use Rattle.reset_list.specs.Counts.{capped, tallied}
use Rattle.reset_list.specs.Form.{standard_of}
use Rattle.reset_list.specs.Json.{list_fault}
use Rattle.reset_list.specs.Judged.{capture_by}
use Rattle.reset_list.specs.Lost.{Step, all_lost, PortCount, count_of, summary}
use Rattle.reset_list.specs.Shortest.{IsShortest}
use Rattle.reset_list.specs.Sentence.{IsRefusalShown}
use Rattle.reset_list.specs.Shown.{IsTreeShown}
use Rattle.reset_list.specs.Texts.{numbers, refused as refused_lines}
use Rattle.reset_list.specs.Update.{updated}
use Rattle.reset_log.specs.declared.cards.Known.{Known}
use Rattle.reset_log.specs.Noted.{Noted, is_of, is_repeated, is_second, last_of, compared, known_by, forgotten}
use Rattle.reset_log.specs.Texts.{head}
use Rattle.reset_log.specs.Json.{reset_value}
use Rattle.reset_log.specs.Shown.{unjudged_text, lacking_text, garbled_text, lost_text, told_text, totals_text}
use Rattle.reset_log.specs.Log.{lines_of, IsLogShown}
use Rattle.reset_log.specs.Entries.{Entry, a_reset, a_loss, a_saying, a_garble, entries_of, cut_off_in}

-- ---- what becomes of an entry

-- A reset is passed over where its other event was heard already, it isn't judged where the controller failed or
-- packets are missing, and else its list is that of a tree or has a fault. Other entries are garbled or not.
pub data Verdict : Type 0 where
  passed_over : Verdict
  failed : Verdict
  lacking : Verdict
  spelt : Tree → Verdict
  refused : CaptureFault → Verdict
  garbled : Verdict
  no_reset : Verdict

pub record Telling : Type 0 where
  pub verdict : Verdict
  -- the reset is the card's last one by its other event
  pub second : Bool
  pub text : List ℕ

-- it is judged
pub record IsWhole (before : Option Known) (lacks : ℕ) (r : Reset) : Type 0 where
  pub fresh : is_repeated before r ≡ false
  pub fine : r.is_error ≡ false
  pub all : (lacks == 0) ≡ true

-- as `read` or `read95` judges the capture of its list
abbrev pub IsVerdict : Standard → Option Known → ℕ → Reset → Verdict → Type 0
IsVerdict standard before lacks r passed_over = is_repeated before r ≡ true
IsVerdict standard before lacks r failed = (is_repeated before r ≡ false) × (r.is_error ≡ true)
IsVerdict standard before lacks r lacking =
    (is_repeated before r ≡ false) × (r.is_error ≡ false) × ((lacks == 0) ≡ false)
IsVerdict standard before lacks r (spelt t) =
    IsWhole before lacks r × Spells standard (capture_by r.origin r.list) t
IsVerdict standard before lacks r (refused f) =
    IsWhole before lacks r × CaptureRefused standard (capture_by r.origin r.list) f
IsVerdict standard before lacks r garbled = ⊥
IsVerdict standard before lacks r no_reset = ⊥

-- ---- its text

abbrev pub IsSpeltText : LogForm → ℕ → Option Known → Reset → Tree → List ℕ → Type 0
IsSpeltText (Text standard) number before r t text =
    IsTreeShown (head number before r) (compared before r) t text
IsSpeltText (Short standard) number before r t text = text ≡ head number before r ++ numbers t
IsSpeltText (Json standard) number before r t text =
    text ≡ json_line (reset_value number before r (tree_members [] t))

abbrev pub IsRefusedText : LogForm → ℕ → Option Known → Reset → CaptureFault → List ℕ → Type 0
IsRefusedText (Text standard) number before r f text =
    IsRefusalShown standard r.origin (head number before r) r.list f text
IsRefusedText (Short standard) number before r f text =
    text ≡ refused_lines (head number before r) f
IsRefusedText (Json standard) number before r f text =
    text ≡ json_line (reset_value number before r (list_fault f))

abbrev pub IsVerdictText : LogForm → ℕ → ℕ → Option Known → Reset → Verdict → List ℕ → Type 0
IsVerdictText form number lacks before r passed_over text = text ≡ []
IsVerdictText form number lacks before r failed text = text ≡ unjudged_text form number before r
IsVerdictText form number lacks before r lacking text =
    text ≡ lacking_text form number before r lacks
IsVerdictText form number lacks before r (spelt t) text = IsSpeltText form number before r t text
IsVerdictText form number lacks before r (refused f) text = IsRefusedText form number before r f text
IsVerdictText form number lacks before r garbled text = ⊥
IsVerdictText form number lacks before r no_reset text = ⊥

-- ---- entries in order

-- what is told of a reset, by the card's last reset before it
pub record IsResetTelling (form : LogForm) (number lacks : ℕ) (before : Option Known) (r : Reset)
    (t : Telling) : Type 0 where
  pub verdict : IsVerdict (standard_of form) before lacks r t.verdict
  pub second : t.second ≡ is_second before r
  pub shown : IsVerdictText form number lacks before r t.verdict t.text

abbrev pub plain : Verdict → List ℕ → Telling
plain verdict text = record { verdict = verdict; second = false; text = text }

-- what is told of an entry, where these are the cards' last resets before it
abbrev pub IsTelling : LogForm → List Known → Entry → Telling → Type 0
IsTelling form cards (a_reset number lacks r) t =
    IsResetTelling form number lacks (last_of r.card cards) r t
IsTelling form cards (a_loss number) t = t ≡ plain no_reset (lost_text form number)
IsTelling form cards (a_saying number time words) t =
    t ≡ plain no_reset (told_text form number time words)
IsTelling form cards (a_garble number) t = t ≡ plain garbled (garbled_text form number)

-- the cards' last resets behind one
abbrev pub cards_with : Reset → Option Tree → List Known → List Known
cards_with r heard cards = updated (is_of r.card) (known_by r heard) cards

abbrev pub cards_by : Reset → Verdict → List Known → List Known
cards_by r passed_over cards = cards
cards_by r failed cards = cards_with r None cards
cards_by r lacking cards = cards_with r None cards
cards_by r (spelt t) cards = cards_with r (Some t) cards
cards_by r (refused f) cards = cards_with r None cards
cards_by r garbled cards = cards
cards_by r no_reset cards = cards

abbrev pub cards_behind : List Known → Entry → Telling → List Known
cards_behind cards (a_reset number lacks r) t = cards_by r t.verdict cards
cards_behind cards (a_loss number) t = map forgotten cards
cards_behind cards (a_saying number time words) t = cards
cards_behind cards (a_garble number) t = cards

abbrev pub cards_after : List Known → List Entry → List Telling → List Known
cards_after cards [] ts = cards
cards_after cards (e ∷ es) [] = cards
cards_after cards (e ∷ es) (t ∷ ts) = cards_after (cards_behind cards e t) es ts

-- what is told of entries: something of each, in their order
abbrev pub AreTellings : LogForm → List Known → List Entry → List Telling → Type 0
AreTellings form cards [] [] = Unit {0}
AreTellings form cards [] (t ∷ ts) = ⊥
AreTellings form cards (e ∷ es) [] = ⊥
AreTellings form cards (e ∷ es) (t ∷ ts) =
    IsTelling form cards e t × AreTellings form (cards_behind cards e t) es ts

-- ---- in all

abbrev pub texts : List Telling → List ℕ
texts [] = []
texts (t ∷ ts) = t.text ++ texts ts

abbrev pub has_fault : Verdict → Bool
has_fault passed_over = false
has_fault failed = false
has_fault lacking = false
has_fault (spelt t) = false
has_fault (refused f) = true
has_fault garbled = false
has_fault no_reset = false

abbrev pub is_garbled : Verdict → Bool
is_garbled passed_over = false
is_garbled failed = false
is_garbled lacking = false
is_garbled (spelt t) = false
is_garbled (refused f) = false
is_garbled garbled = true
is_garbled no_reset = false

-- a reset of which something is told
abbrev pub is_shown : Verdict → Bool
is_shown passed_over = false
is_shown failed = true
is_shown lacking = true
is_shown (spelt t) = true
is_shown (refused f) = true
is_shown garbled = false
is_shown no_reset = false

-- a reset is counted once, by the first of its events
abbrev pub counts : Telling → Bool
counts t = is_shown t.verdict && not t.second

abbrev pub refuses : Telling → Bool
refuses t = has_fault t.verdict

abbrev pub some_bad : List Telling → Bool
some_bad [] = false
some_bad (t ∷ ts) = (has_fault t.verdict || is_garbled t.verdict) || some_bad ts

-- which nodes began how many resets, by the trees that were heard
abbrev pub tallies_by : ℕ → Verdict → List Tally → List Tally
tallies_by card passed_over ts = ts
tallies_by card failed ts = ts
tallies_by card lacking ts = ts
tallies_by card (spelt t) ts = tallied card 0 (walk t) ts
tallies_by card (refused f) ts = ts
tallies_by card garbled ts = ts
tallies_by card no_reset ts = ts

abbrev pub tallies_behind : List Tally → Entry → Telling → List Tally
tallies_behind ts (a_reset number lacks r) t = tallies_by r.card t.verdict ts
tallies_behind ts (a_loss number) t = ts
tallies_behind ts (a_saying number time words) t = ts
tallies_behind ts (a_garble number) t = ts

abbrev pub tallies_after : List Tally → List Entry → List Telling → List Tally
tallies_after tallies [] ts = tallies
tallies_after tallies (e ∷ es) [] = tallies
tallies_after tallies (e ∷ es) (t ∷ ts) = tallies_after (tallies_behind tallies e t) es ts

-- a reset is a step from the tree that its own is compared with to its own, where they are known
abbrev pub step_of : Reset → Option Known → Option Tree → Step
step_of r before heard =
    record { card = r.card; time = r.time; old = compared before r; new = heard }

-- it is one, unless it is passed over
abbrev pub steps_by : Reset → Option Known → Verdict → List Step
steps_by r before passed_over = []
steps_by r before failed = step_of r before None ∷ []
steps_by r before lacking = step_of r before None ∷ []
steps_by r before (spelt t) = step_of r before (Some t) ∷ []
steps_by r before (refused f) = step_of r before None ∷ []
steps_by r before garbled = []
steps_by r before no_reset = []

abbrev pub steps_at : List Known → Entry → Telling → List Step
steps_at cards (a_reset number lacks r) t = steps_by r (last_of r.card cards) t.verdict
steps_at cards (a_loss number) t = []
steps_at cards (a_saying number time words) t = []
steps_at cards (a_garble number) t = []

abbrev pub steps_in : List Known → List Entry → List Telling → List Step
steps_in cards [] ts = []
steps_in cards (e ∷ es) [] = []
steps_in cards (e ∷ es) (t ∷ ts) = steps_at cards e t ++ steps_in (cards_behind cards e t) es ts

-- which ports lost the node that hung on them, and at how many of these resets; the short form alone tells it
abbrev pub losses_in_all : LogForm → List Known → List Entry → List Telling → List PortCount
losses_in_all (Text standard) cards es ts = []
losses_in_all (Short standard) cards es ts = summary (all_lost (steps_in cards es ts))
losses_in_all (Json standard) cards es ts = []

-- What is told of a log: its entries in order, and then the totals. The log is at fault where a list is refused or
-- an event is garbled. The totals tell how many resets were counted, how many lists were refused, how many cards
-- there are, who began most resets, in the short form which ports lost nodes and how soon they had one again, and
-- the resets that still wait for packets at the log's end.
pub record IsToldInOrder (form : LogForm) (lines : List (List ℕ)) (text : List ℕ) (bad : Bool) :
    Type 0 where
  pub tellings : List Telling
  pub known : Noted
  pub each : AreTellings form [] (entries_of lines) tellings
  pub text_is : text ≡ texts tellings ++ totals_text form known
  pub bad_is : bad ≡ some_bad tellings
  pub resets_are : known.counts.resets ≡ capped (count_by counts tellings)
  pub refused_are : known.counts.refused ≡ capped (count_by refuses tellings)
  pub cards_are : known.cards ≡ cards_after [] (entries_of lines) tellings
  pub tallies_are : known.tallies ≡ tallies_after [] (entries_of lines) tellings
  pub losses_are : map count_of known.losses ≡ losses_in_all form [] (entries_of lines) tellings
  pub shortest_are : All (IsShortest (steps_in [] (entries_of lines) tellings)) known.losses
  pub cut_off : known.pending ≡ cut_off_in lines

abbrev pub LogsAreToldInOrder : Type 0
LogsAreToldInOrder =
    (form : LogForm) (log text : List ℕ) (bad : Bool) → IsLogShown form (lines_of log) text bad →
    IsToldInOrder form (lines_of log) text bad
