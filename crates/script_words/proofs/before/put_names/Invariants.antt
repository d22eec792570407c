use Rattle.std.proofs.Common.{◌≡◌, ◌++◌, drop}
use Rattle.script_words.specs.Before.{names_in}
use Rattle.script_words.proofs.before.put_names.Given as goal

abbrev pub invariant-loop-line : goal.invariant-loop-line
invariant-loop-line l =
    l.out.items ++ names_in (drop l.line-index l.lines) ≡ l.initial.out.items ++ names_in l.lines
