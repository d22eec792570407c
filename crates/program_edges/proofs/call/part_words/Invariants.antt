use Rattle.std.proofs.Common.{◌≡◌, ◌++◌}
use Rattle.std.specs.Vec.Iter.{into_iter_items}
use Rattle.program_edges.specs.Words.{plain_words, option_words}
use Rattle.program_edges.specs.codings.Left.{plain_left, options_left}
use Rattle.program_edges.proofs.call.part_words.Given as goal

-- what is sorted so far, and then what is left, is the whole
abbrev pub invariant-loop-word : goal.invariant-loop-word
invariant-loop-word l = record {
  plain : l.plain.items ++ plain_left l.ended (into_iter_items l.word-iterator) ≡ plain_words l.fn.words.items;
  options : l.options.items ++ options_left l.ended (into_iter_items l.word-iterator) ≡ option_words l.fn.words.items;
}
