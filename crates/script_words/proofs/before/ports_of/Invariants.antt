use Rattle.std.proofs.Common.{◌≡◌, drop}
use Rattle.script_words.specs.Before.{ports_of}
use Rattle.script_words.proofs.before.ports_of.Given as goal

abbrev pub invariant-loop-line : goal.invariant-loop-line
invariant-loop-line l = ports_of (drop l.line-index l.lines) l.name ≡ ports_of l.lines l.name
