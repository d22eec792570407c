use Rattle.std.proofs.Common.{◌≡◌, ◌++◌}
use Rattle.script_made.specs.Made.{words_from, text_of}
use Rattle.script_made.specs.codings.Plugged.{plugged_again}
use Rattle.script_made.proofs.made.put_plugs_again.Given as goal

abbrev pub invariant-loop-end : goal.invariant-loop-end
invariant-loop-end l = record {
  node : l.node ≡ l.end-index;
  words : l.words ≡ words_from l.initial.words l.end-index;
  text : l.out.items
      ≡ l.initial.out.items ++ text_of (plugged_again l.ends l.initial.words l.end-index);
}
