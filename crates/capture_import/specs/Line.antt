-- The line of a refusal: `refused quadlet Q KIND`.
use Rattle.std.specs.Prelude.{ℕ, List, ◌++◌, codes, decimal}
use Rattle.capture_import.specs.declared.fault.FaultKind.{FaultKind}
use Rattle.capture_import.specs.declared.fault.FaultKind.TheVariants.{BadWord, SecondList, BadLength, Empty, BadInverse, NotSelfId, BadCrc, BadCounts}
use Rattle.capture_import.specs.declared.fault.ImportFault.{ImportFault}

abbrev pub kind_word : FaultKind → List ℕ
kind_word BadWord = codes "BadWord"
kind_word SecondList = codes "SecondList"
kind_word Empty = codes "Empty"
kind_word BadLength = codes "BadLength"
kind_word BadInverse = codes "BadInverse"
kind_word NotSelfId = codes "NotSelfId"
kind_word BadCrc = codes "BadCrc"
kind_word BadCounts = codes "BadCounts"

abbrev pub refusal_line : ImportFault → List ℕ
refusal_line f =
    codes "refused quadlet " ++ (decimal f.quadlet ++ (codes " " ++ (kind_word f.kind ++ codes "\n")))
