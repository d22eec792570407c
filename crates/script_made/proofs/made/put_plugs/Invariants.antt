use Rattle.std.proofs.Common.{◌≡◌, ◌++◌}
use Rattle.script_made.specs.Made.{text_of}
use Rattle.script_made.specs.codings.Plugged.{plugged}
use Rattle.script_made.proofs.made.put_plugs.Given as goal

abbrev pub invariant-loop-end : goal.invariant-loop-end
invariant-loop-end l = record {
  node : l.node ≡ l.end-index;
  text : l.out.items ≡ l.initial.out.items ++ text_of (plugged l.ends l.end-index);
}
