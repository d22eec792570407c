-- A file of names: a line `ID NAME` for each node that has one.
use Rattle.std.specs.Prelude.{ℕ, suc, ◌+◌, ◌-◌, ◌==◌, ◌&&◌, ◌||◌, not, nat_lt, nat_le, Bool, false, List, [], ◌∷◌, length, take, drop, codes, Option, Some, None, slice_index, if◌then◌else◌}
use Rattle.std.specs.List.{list_all, list_any, slice_split, starts_with}
use Rattle.line_words.specs.Digits.{of_digits}
use Rattle.named_form.specs.declared.fault.NamesFault.{NamesFault}
use Rattle.named_form.specs.declared.fault.NamesFaultKind.{NamesFaultKind}
use Rattle.named_form.specs.declared.fault.NamesFaultKind.TheVariants.{BadId, BadName, Twice}

-- ---- the parts of a line

abbrev pub is_feed : ℕ → Bool
is_feed c = c == 10

abbrev pub is_blank : ℕ → Bool
is_blank c = (c == 32) || (c == 9)

abbrev pub begins : List ℕ → List ℕ → Bool
begins front text = starts_with (λ a b. a == b) text front

-- a line without the carriage return at its end
abbrev pub ends_in_return : List ℕ → Bool
ends_in_return line = not (length line == 0) && (slice_index line (length line - 1) == 13)

abbrev pub without_return : List ℕ → List ℕ
without_return line = if ends_in_return line then take (length line - 1) line else line

abbrev pub behind_blanks : List ℕ → List ℕ
behind_blanks [] = []
behind_blanks (c ∷ line) = if is_blank c then behind_blanks line else c ∷ line

-- how many characters come before the first blank
abbrev pub word_len : List ℕ → ℕ
word_len [] = 0
word_len (c ∷ line) = if is_blank c then 0 else suc (word_len line)

-- what a line says: it, without blanks before and a return behind
abbrev pub said_in : List ℕ → List ℕ
said_in line = behind_blanks (without_return line)

-- nothing, or a remark
abbrev pub is_remark : List ℕ → Bool
is_remark said = (length said == 0) || begins (codes "#") said

-- its first word is a number of one or two digits
abbrev pub id_in : List ℕ → Option ℕ
id_in said = of_digits 10 2 (take (word_len said) said)

-- and all behind that and the blanks after it is the name
abbrev pub name_in : List ℕ → List ℕ
name_in said = behind_blanks (drop (word_len said) said)

-- ---- names

-- a character that can be printed and stand in a label: neither a quotation mark nor a backslash
abbrev pub is_permitted : ℕ → Bool
is_permitted c = (nat_le 32 c && nat_le c 126) && (not (c == 34) && not (c == 92))

abbrev pub is_name : List ℕ → Bool
is_name name = not (length name == 0) && (nat_le (length name) 64 && list_all is_permitted name)

-- ---- what a line names

-- a line names this node
abbrev pub names_id : ℕ → List ℕ → Bool
names_id id line = not (is_remark (said_in line)) && is_id (id_in (said_in line))
  where
    is_id : Option ℕ → Bool
    is_id None = false
    is_id (Some n) = n == id

-- the name of a node: that of the first line which names it
abbrev pub name_of : ℕ → List (List ℕ) → Option (List ℕ)
name_of id [] = None
name_of id (line ∷ lines) =
    if names_id id line then Some (name_in (said_in line)) else name_of id lines

-- ---- what is wrong with a file

-- what is wrong with a line by itself: its first word is no ID of a node, or what comes behind is no name
abbrev pub line_fault : List ℕ → Option NamesFaultKind
line_fault line = if is_remark (said_in line) then None else judged (id_in (said_in line))
  where
    judged : Option ℕ → Option NamesFaultKind
    judged None = Some BadId
    judged (Some id) =
        if nat_lt 62 id then Some BadId
        else if is_name (name_in (said_in line)) then None else Some BadName

-- a later line names the node again that this one names
abbrev pub is_named_again : List ℕ → List (List ℕ) → Bool
is_named_again line lines = not (is_remark (said_in line)) && again (id_in (said_in line))
  where
    again : Option ℕ → Bool
    again None = false
    again (Some id) = list_any (names_id id) lines

-- the fault of a file: that of its first line which has one, by itself or by a later one. Lines are counted from 1.
abbrev pub fault_from : ℕ → List (List ℕ) → Option NamesFault
fault_from number [] = None
fault_from number (line ∷ lines) = by_line (line_fault line) (fault_from (number + 1) lines)
  where
    by_line : Option NamesFaultKind → Option NamesFault → Option NamesFault
    by_line (Some kind) later = Some (record { line = number; kind = kind })
    by_line None later =
        if is_named_again line lines then Some (record { line = number; kind = Twice }) else later

abbrev pub lines_of : List ℕ → List (List ℕ)
lines_of file = slice_split is_feed file

abbrev pub fault_of : List ℕ → Option NamesFault
fault_of file = fault_from 1 (lines_of file)
