-- The line of a script's fault.
use Rattle.std.specs.Prelude.{ℕ, List, ◌++◌, codes, decimal}
use Rattle.script_lines.specs.declared.kind.Kind.{Kind}
use Rattle.script_lines.specs.declared.kind.Kind.TheVariants.{Word, Number, Name, Twice, Late, TooManyNodes, NoNode, NoPort, InUse, SameNode, NotPlugged, Range, NotSettled, NoManager, NotManager, TooManyTurns, TooManyMaps}
use Rattle.script_lines.specs.declared.kind.ScriptFault.{ScriptFault}

-- the word of a kind of fault of a script
abbrev pub kind_word : Kind → List ℕ
kind_word Word = codes "Word"
kind_word Number = codes "Number"
kind_word Name = codes "Name"
kind_word Twice = codes "Twice"
kind_word Late = codes "Late"
kind_word TooManyNodes = codes "TooManyNodes"
kind_word NoNode = codes "NoNode"
kind_word NoPort = codes "NoPort"
kind_word InUse = codes "InUse"
kind_word SameNode = codes "SameNode"
kind_word NotPlugged = codes "NotPlugged"
kind_word Range = codes "Range"
kind_word NotSettled = codes "NotSettled"
kind_word NoManager = codes "NoManager"
kind_word NotManager = codes "NotManager"
kind_word TooManyTurns = codes "TooManyTurns"
kind_word TooManyMaps = codes "TooManyMaps"

-- the line of a script's fault: `refused line L KIND`
unfoldable pub script_line : ScriptFault → List ℕ
script_line f =
    codes "refused line "
    ++ (decimal f.line ++ (codes " " ++ (kind_word f.kind ++ codes "\n")))
