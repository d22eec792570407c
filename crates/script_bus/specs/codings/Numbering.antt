-- Names by their numbers. No public contract cites this file.
use Rattle.std.specs.Prelude.{◌≡◌, ◌<◌, ℕ, false, List, [], length, get_or}
use Rattle.std.specs.Str.{bytes_eq}
use Rattle.script_text.specs.ReportText.{Names}

-- no two are the same
abbrev pub AreDistinct : Names → Type 0
AreDistinct names =
    (j k : ℕ) → j < k → k < length names → bytes_eq (get_or names k []) (get_or names j []) ≡ false
