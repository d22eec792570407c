use Rattle.std.proofs.Common.{◌≡◌, ◌++◌, length}
use Rattle.std.specs.List.{slice_split}
use Rattle.script_words.specs.codings.Marks.{is_mark}
use Rattle.script_words.proofs.text.parts_of.Given as goal

abbrev pub invariant-loop-part : goal.invariant-loop-part
invariant-loop-part l =
    l.parts.items ++ slice_split (is_mark l.mark) l.rest ≡ slice_split (is_mark l.mark) l.initial.rest

abbrev pub decreases-loop-part : goal.decreases-loop-part
decreases-loop-part l = length l.rest
