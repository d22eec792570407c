use Rattle.std.proofs.Common.{◌≡◌, ◌++◌, drop}
use Rattle.std.specs.Prelude.{filter}
use Rattle.line_words.specs.Words.{is_some_text}
use Rattle.script_words.proofs.text.some_of.Given as goal

abbrev pub invariant-loop-part : goal.invariant-loop-part
invariant-loop-part l =
    l.words.items ++ filter is_some_text (drop l.part-index l.parts)
    ≡ filter is_some_text l.parts
