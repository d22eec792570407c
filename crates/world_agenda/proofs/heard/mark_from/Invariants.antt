use Rattle.std.proofs.Common.{◌≡◌, ◌-◌, ◌<◌, ℕ, [], Some, None, length, get_or}
use Rattle.cabling.specs.declared.cable.End.{End}
use Rattle.cabling.specs.Wiring.{ports_of}
use Rattle.world_agenda.specs.Agenda.{AreBelow}
use Rattle.world_agenda.specs.Heard.{IsHeard, StayHeard}
use Rattle.world_agenda.proofs.heard.mark_from.Given as goal

abbrev pub invariant-loop-next : goal.invariant-loop-next
invariant-loop-next l = record {
  gives : (port : ℕ) (end : End) → port < l.port → get_or (ports_of l.cabling l.node) port None ≡ Some end → (IsHeard l.heard end → ⊥) →
      get_or l.row port [] ≡ [];
  kept : StayHeard l.initial.heard l.heard;
  below : AreBelow l.heard.nodes (length l.cabling);
}

abbrev pub decreases-loop-next : goal.decreases-loop-next
decreases-loop-next l = 16 - l.port
