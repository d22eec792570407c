-- What a reader takes from a Value Change Dump (IEEE Std 1364-2005, 18.2): a line gives a value to the
-- variable with its code, and a variable has its last value.
use Rattle.std.specs.Prelude.{ℕ, ◌==◌, ◌||◌, Bool, List, [], ◌∷◌, Option, None, Some, if◌then◌else◌}
use Rattle.std.specs.List.{slice_split}
use Rattle.std.specs.Option.{option_or}
use Rattle.std.specs.Str.{bytes_eq}

-- 0, 1, x or z: a value of one digit, behind which the code stands at once
abbrev pub is_digit : ℕ → Bool
is_digit c = c == 48 || c == 49 || c == 120 || c == 122

-- b, r or s: a value of several digits, a number or a word, and behind a blank the code
abbrev pub is_kind : ℕ → Bool
is_kind c = c == 98 || c == 114 || c == 115

-- what stands up to the first blank of a line, and what behind it
abbrev pub up_to_blank : List ℕ → List ℕ
up_to_blank [] = []
up_to_blank (c ∷ line) = c ∷ (if c == 32 then [] else up_to_blank line)

abbrev pub behind_blank : List ℕ → List ℕ
behind_blank [] = []
behind_blank (c ∷ line) = if c == 32 then line else behind_blank line

-- this value, where this is the code
abbrev pub value_if : List ℕ → List ℕ → List ℕ → Option (List ℕ)
value_if code named value = if bytes_eq named code then Some value else None

-- the value that a line gives to the variable with a code; a line that begins otherwise gives none, as
-- that of a time and those of the head
abbrev pub value_for : List ℕ → List ℕ → Option (List ℕ)
value_for code [] = None
value_for code (c ∷ line) =
    if is_digit c then value_if code line (c ∷ [])
    else if is_kind c then value_if code (behind_blank line) (c ∷ up_to_blank line)
    else None

-- the time that a line tells: `#T`
abbrev pub time_in : List ℕ → Option (List ℕ)
time_in [] = None
time_in (c ∷ line) = if c == 35 then Some line else None

-- the last thing that lines tell, where a line tells it so
abbrev pub last_told : (List ℕ → Option (List ℕ)) → List (List ℕ) → Option (List ℕ)
last_told told [] = None
last_told told (line ∷ lines) = option_or (last_told told lines) (told line)

-- lines end with a line feed
abbrev pub last_in : (List ℕ → Option (List ℕ)) → List ℕ → Option (List ℕ)
last_in told text = last_told told (slice_split (λ c. c == 10) text)

-- the last value of the variable with a code, and the last time
abbrev pub last_value : List ℕ → List ℕ → Option (List ℕ)
last_value code text = last_in (value_for code) text

abbrev pub last_time : List ℕ → Option (List ℕ)
last_time text = last_in time_in text
