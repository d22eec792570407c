use Rattle.std.proofs.Common.{◌≡◌, ◌+◌, drop, get_or}
use Rattle.script_words.specs.Column.{begins, columns}
use Rattle.script_words.proofs.column.column.Given as goal

abbrev pub invariant-loop-i : goal.invariant-loop-i
invariant-loop-i l =
    get_or (begins (l.i + 1) l.blank (drop l.i l.line)) l.left 0 ≡ get_or (columns l.line) l.place 0
