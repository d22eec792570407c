-- Where the search for a reset stands.
use Rattle.std.specs.Prelude.{◌≡◌, ℕ, ◌+◌, ◌<◌, ◌≤◌, Bool, Option, Some, None, option_map, List, [], ◌++◌, count_by, length}
use Rattle.std.specs.BTreeMap.{get}
use Rattle.std.specs.Ordering.{nat_cmp}
use Rattle.log_line.specs.declared.line.Reset.{Reset}
use Rattle.reset_log.specs.declared.cards.Known.{Known}
use Rattle.reset_log.specs.declared.notes.Pending.{Pending}
use Rattle.reset_log.specs.Noted.{last_of, forgotten}
use Rattle.reset_log.specs.Log.{lines_of}
use Rattle.reset_log.specs.Entries.{Entry, entries_from, entries_of}
use Rattle.reset_log.specs.Told.{Telling, AreTellings, cards_after, counts}
use Rattle.log_import.specs.Reset.{form, IsNth}
use Rattle.log_import.specs.declared.judge.Judge.{Judge}
use Rattle.log_import.specs.declared.finder.Finder.{Finder}

-- the card's last reset, without its tree
abbrev pub plain : Reset → Bool → Known
plain r heard = record {
  card = r.card;
  generation = r.generation;
  origin = r.origin;
  time = r.time;
  is_heard = heard;
  tree = None;
}

-- these entries are told, the last resets of the cards are known, and the reset that is wanted comes later
pub record Stands (j : Judge) (entries : List Entry) : Type 0 where
  pub tellings : List Telling
  pub told : AreTellings form [] entries tellings
  pub known :
      (card : ℕ) → get nat_cmp j.last card
      ≡ option_map forgotten (last_of card (cards_after [] entries tellings))
  pub counted_is : j.counted ≡ count_by counts tellings
  pub below : j.counted < j.wanted

-- more entries are told, or the reset that is wanted is among them
abbrev pub Advances : Judge → Judge → List Entry → Option Pending → Type 0
Advances old new entries None =
    (new.wanted ≡ old.wanted) × ((done : List Entry) → Stands old done → Stands new (done ++ entries))
Advances old new entries (Some p) =
    (done : List Entry) → Stands old done → IsNth old.wanted (done ++ entries) p

-- of a log this is left, and the reset that is wanted isn't in what came before
pub record Searches (wanted : ℕ) (log rest : List ℕ) (f : Finder) : Type 0 where
  pub done : List Entry
  pub entries_are :
      entries_of (lines_of log) ≡ done ++ entries_from f.number f.waiting.entries (lines_of rest)
  pub stands : Stands f.judge done
  pub wanted_is : f.judge.wanted ≡ wanted
  pub number_is : f.number + length rest ≤ length log + 1
