-- How many files a form takes.
use Rattle.std.specs.Prelude.{◌≡◌, ◌≢◌, ◌⊎◌, ⊤, ◌≤◌, List, [], ◌∷◌, codes, string_bytes, String, length}
use Rattle.std.specs.Global.{Global}
use Rattle.program_edges.specs.declared.files.FileCount.{FileCount}
use Rattle.program_edges.specs.declared.files.FileCount.TheVariants as count

-- two files, of which one at most is standard input
abbrev pub AreTwoFiles : List (String Global) → Type 0
AreTwoFiles (a ∷ b ∷ []) = (string_bytes a ≢ codes "-") ⊎ (string_bytes b ≢ codes "-")
AreTwoFiles _ = ⊥

-- a form takes these files
abbrev pub AreTaken : FileCount → List (String Global) → Type 0
AreTaken count.None files = length files ≡ 0
AreTaken count.One files = length files ≤ 1
AreTaken count.Two files = AreTwoFiles files
AreTaken count.Named files = AreTwoFiles files
AreTaken count.Many files = ⊤
