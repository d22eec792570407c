use Rattle.std.proofs.Common.{◌≡◌, ◌++◌, length}
use Rattle.capture_import.specs.Words.{words_of, all_spelled, spelled_front}
use Rattle.capture_import.proofs.words.put_words.Given as goal

-- what is spelled so far, and then what the rest spells, is what all spells
abbrev pub invariant-loop-part : goal.invariant-loop-part
invariant-loop-part l =
    record {
      bytes : l.out.items ++ spelled_front (words_of l.rest)
          ≡ l.fn.out.items ++ spelled_front (words_of l.text);
      fine : all_spelled (words_of l.rest) ≡ all_spelled (words_of l.text);
    }

abbrev pub decreases-loop-part : goal.decreases-loop-part
decreases-loop-part l = length l.rest
