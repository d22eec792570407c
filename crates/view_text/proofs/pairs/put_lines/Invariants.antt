use Rattle.std.proofs.Common.{◌≡◌, ◌+◌, ◌*◌, ◌++◌, length}
use Rattle.quad_lanes.specs.Pairs.{pairs, firsts}
use Rattle.view_text.specs.Pairs.{ArePacketsOf, lines}
use Rattle.view_text.proofs.pairs.put_lines.Given as goal

abbrev pub invariant-loop-rest : goal.invariant-loop-rest
invariant-loop-rest l = record {
  text : l.out.items ++ lines l.number (pairs l.rest) l.left l.note.pair l.note.text.items ≡ l.fn.out.items ++ lines 0 (pairs l.quads) l.packets l.note.pair l.note.text.items;
  shown : ArePacketsOf (firsts l.rest) l.left;
  place : 2 * l.number + length l.rest ≡ length l.quads;
}

abbrev pub decreases-loop-rest : goal.decreases-loop-rest
decreases-loop-rest l = length l.rest
