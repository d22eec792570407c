use Rattle.std.proofs.Common.{◌≡◌, ◌≤◌, ◌+◌, ◌%◌, ◌<◌, ℕ}
use Rattle.flawed_capture.specs.Draws.{behind, behind_all}
use Rattle.flawed_capture.specs.Flaw.{HasFlaw, least_nodes}
use Rattle.flawed_capture.specs.SeededFlaw.{tried}
use Rattle.flawed_capture.specs.Spoilt.{ComesAt, IsListOfBus}
use Rattle.flawed_capture.proofs.flawed.spoilt_list.Given as goal

-- no place was tried at which the flaw comes, no bytes that were tried have it, and each step took a word
abbrev pub invariant-loop-step : goal.invariant-loop-step
invariant-loop-step l = record {
  places :
      (nodes : ℕ) → IsListOfBus l.standard nodes l.list → least_nodes l.flaw ≤ nodes → (k : ℕ) → k < l.step →
      ComesAt l.standard l.flaw l.list ((l.first + k) % l.count) → ⊥;
  none : (k : ℕ) → k < l.step → HasFlaw l.standard (tried l.standard l.flaw l.list l.fn.words k) l.flaw → ⊥;
  words : l.words ≡ behind_all l.step (behind l.fn.words);
}
