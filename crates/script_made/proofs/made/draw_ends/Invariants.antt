use Rattle.std.proofs.Common.{◌≡◌}
use Rattle.script_made.specs.Made.{words_from, free_ends}
use Rattle.script_made.specs.codings.Plugged.{ends_below}
use Rattle.script_made.proofs.made.draw_ends.Given as goal

abbrev pub invariant-loop-cable : goal.invariant-loop-cable
invariant-loop-cable l = record {
  words : l.words ≡ words_from l.initial.words l.cable;
  free : l.free.items ≡ free_ends l.initial.words l.cable;
  ends : l.ends.items ≡ ends_below l.initial.words l.cable;
}
