use Rattle.std.proofs.Common.{◌≡◌, ◌<◌, ℕ, [], Some, None, get_or}
use Rattle.cabling.specs.declared.cable.End.{End}
use Rattle.cabling.specs.NodeSet.{Holds, IsWithin}
use Rattle.cabling.specs.Wiring.{ports_of}
use Rattle.cable_world.specs.Wire.{empty_wire}
use Rattle.world_agenda.proofs.heard.mark_awaiting.Given as goal

abbrev pub invariant-loop-port : goal.invariant-loop-port
invariant-loop-port l = record {
  sends : (port : ℕ) (end : End) → port < l.port → get_or (ports_of l.cabling l.node) port None ≡ Some end → (Holds l.nodes end.node → ⊥) →
      (get_or l.row port empty_wire).signals ≡ [];
  kept : IsWithin l.initial.nodes l.nodes;
}
