use Rattle.std.proofs.Common.{◌≡◌, ◌*◌, ◌≤◌, length}
use Rattle.flawed_capture.specs.SeededBus.{first_nodes}
use Rattle.flawed_capture.proofs.made.planned_list.Given as goal

-- no more trees wait than nodes were made, each has four packets at most, and they are those that the words make
abbrev pub invariant-loop-id : goal.invariant-loop-id
invariant-loop-id l = record {
  waiting : l.waiting ≤ l.id;
  few : length l.list ≤ 4 * l.id;
  list : l.list ≡ (first_nodes l.plan l.initial.words l.id).list;
  trees : l.waiting ≡ (first_nodes l.plan l.initial.words l.id).waiting;
  words : l.words ≡ (first_nodes l.plan l.initial.words l.id).words;
}
