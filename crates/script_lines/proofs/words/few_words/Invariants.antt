use Rattle.std.proofs.Common.{◌≡◌, ◌++◌, length}
use Rattle.std.specs.List.{list_all}
use Rattle.script_lines.specs.Words.{is_permitted, words_of}
use Rattle.script_lines.proofs.words.few_words.Given as goal

abbrev pub invariant-loop-part : goal.invariant-loop-part
invariant-loop-part l = record {
  words : l.words.items ++ words_of l.rest ≡ l.initial.words.items ++ words_of l.initial.rest;
  permitted : list_all is_permitted l.initial.rest ≡ list_all is_permitted l.rest;
}

abbrev pub decreases-loop-part : goal.decreases-loop-part
decreases-loop-part l = length l.rest
