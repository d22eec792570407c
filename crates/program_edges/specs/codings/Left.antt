-- What is still to be sorted of the words behind a command, where `--` stood among those before or not. No public
-- contract cites this file.
use Rattle.std.specs.Prelude.{Bool, true, false, List, [], ◌++◌, filter, String}
use Rattle.std.specs.Global.{Global}
use Rattle.program_edges.specs.Words.{is_option_word, is_other_word, before_end, behind_end}

-- those that are no options
abbrev pub plain_left : Bool → List (String Global) → List (String Global)
plain_left true words = words
plain_left false words = filter is_other_word (before_end words) ++ behind_end words

-- those that are
abbrev pub options_left : Bool → List (String Global) → List (String Global)
options_left true words = []
options_left false words = filter is_option_word (before_end words)
