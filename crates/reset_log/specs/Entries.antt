-- What a log tells, entry by entry: each of its resets once, and the other lines of which something is shown.
use Rattle.std.specs.Prelude.{ℕ, ◌+◌, ◌==◌, Bool, true, false, Option, Some, None, List, [], ◌∷◌, ◌++◌}
use Rattle.std.specs.BTreeMap.{is_at, insert_entry}
use Rattle.std.specs.Map.{lookup, remove_entry}
use Rattle.std.specs.Ordering.{nat_cmp}
use Rattle.log_line.specs.declared.line.Reset.{Reset}
use Rattle.log_line.specs.declared.line.LogLine.{LogLine}
use Rattle.log_line.specs.declared.line.LogLine.TheVariants.{Other, Lost, Said, Begins, Packet, Garbled, OfReset}
use Rattle.log_line.specs.Line.{line_of}
use Rattle.reset_log.specs.declared.notes.Pending.{Pending}
use Rattle.reset_log.specs.Noted.{begun_at, with_packet}

-- a reset by the line with this number, of which the log lacks so many packets; events that are lost; words of the
-- kernel; or an event that is garbled
pub data Entry : Type 0 where
  a_reset : (number lacks : ℕ) → Reset → Entry
  a_loss : (number : ℕ) → Entry
  a_saying : (number : ℕ) → (time : Option ℕ) → (words : List ℕ) → Entry
  a_garble : (number : ℕ) → Entry

-- ---- the resets that wait for their packets, by card

abbrev pub waits : ℕ → List (ℕ × Pending) → Option Pending
waits card held = lookup (is_at (nat_cmp card)) held

abbrev pub without : ℕ → List (ℕ × Pending) → List (ℕ × Pending)
without card held = remove_entry (is_at (nat_cmp card)) held

-- another one waits, and no other one of its card
abbrev pub with_one : Pending → List (ℕ × Pending) → List (ℕ × Pending)
with_one p held = insert_entry nat_cmp (without p.reset.card held) p.reset.card p

-- ---- the entries of a line

-- a reset that waits no more
abbrev pub entry_of : Option Pending → List Entry
entry_of None = []
entry_of (Some p) = a_reset p.number p.left p.reset ∷ []

-- a reset is told once none of its packets is still to come, and until then it waits
abbrev pub entry_if : Bool → Pending → List Entry
entry_if false p = []
entry_if true p = entry_of (Some p)

abbrev pub waiting_if : Bool → Pending → List (ℕ × Pending) → List (ℕ × Pending)
waiting_if false p held = with_one p held
waiting_if true p held = without p.reset.card held

-- a packet is of the reset of its card that waits, if one does
abbrev pub entry_by : Option Pending → ℕ → List Entry
entry_by None quad = []
entry_by (Some p) quad = entry_if ((with_packet quad p).left == 0) (with_packet quad p)

abbrev pub waiting_by : Option Pending → ℕ → List (ℕ × Pending) → List (ℕ × Pending)
waiting_by None quad held = held
waiting_by (Some p) quad held =
    waiting_if ((with_packet quad p).left == 0) (with_packet quad p) held

-- where a reset begins, that of its card which waited has no more packets
abbrev pub entries_at : ℕ → List (ℕ × Pending) → LogLine → List Entry
entries_at number held Other = []
entries_at number held Lost = a_loss number ∷ []
entries_at number held (Said time words) = a_saying number time words ∷ []
entries_at number held Garbled = a_garble number ∷ []
entries_at number held (Begins b) =
    entry_of (waits b.card held) ++ entry_if (b.count == 0) (begun_at number b)
entries_at number held (Packet card quad) = entry_by (waits card held) quad
entries_at number held (OfReset r) = a_reset number 0 r ∷ []

abbrev pub waiting_at : ℕ → List (ℕ × Pending) → LogLine → List (ℕ × Pending)
waiting_at number held (Begins b) =
    waiting_if (b.count == 0) (begun_at number b) (without b.card held)
waiting_at number held (Packet card quad) = waiting_by (waits card held) quad (without card held)
waiting_at number held Other = held
waiting_at number held Lost = held
waiting_at number held (Said time words) = held
waiting_at number held Garbled = held
waiting_at number held (OfReset r) = held

-- ---- the entries of lines

-- of lines that are numbered from here on, where these resets wait before them
abbrev pub entries_from : ℕ → List (ℕ × Pending) → List (List ℕ) → List Entry
entries_from number held [] = []
entries_from number held (line ∷ lines) =
    entries_at number held (line_of line)
    ++ entries_from (number + 1) (waiting_at number held (line_of line)) lines

abbrev pub waiting_behind : ℕ → List (ℕ × Pending) → List (List ℕ) → List (ℕ × Pending)
waiting_behind number held [] = held
waiting_behind number held (line ∷ lines) =
    waiting_behind (number + 1) (waiting_at number held (line_of line)) lines

-- of a log, and the resets that wait at its end
abbrev pub entries_of : List (List ℕ) → List Entry
entries_of lines = entries_from 1 [] lines

abbrev pub cut_off_in : List (List ℕ) → List (ℕ × Pending)
cut_off_in lines = waiting_behind 1 [] lines
