-- The first driver that a line names, with the time of the line.
use Rattle.std.specs.Prelude.{ℕ, List, [], ◌∷◌, Option, Some, None, if◌then◌else◌}
use Rattle.log_line.specs.Said.{is_driver, is_record}
use Rattle.log_line.specs.Time.{or_time, front_time, record_time}

-- the time that a driver's word has itself, in a record of /dev/kmsg, and else the one before it
abbrev pub time_at : List ℕ → Option ℕ → Option ℕ
time_at word before = if is_record word then or_time (record_time word) before else before

-- the time, the last before the driver's name, and the words behind it
abbrev pub driver : Option ℕ → List (List ℕ) → Option (Option ℕ × List (List ℕ))
driver time [] = None
driver time (word ∷ words) =
    if is_driver word then Some (time_at word time, words) else driver (or_time (front_time word) time) words
