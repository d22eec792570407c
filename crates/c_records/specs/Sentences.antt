-- The sentence of a fault, by its record: what was found and what was wanted.
use Rattle.std.specs.Prelude.{◌≡◌, ℕ, Option, Some, None, List}
use Rattle.phy_packet.specs.declared.packet.PhyPacket.{PhyPacket}
use Rattle.phy_packet.specs.Packet.{IsQuadletOf}
use Rattle.self_id.specs.declared.standard.Standard.{Standard}
use Rattle.view_text.specs.Sentence.{tree_sentence}
use Rattle.c_records.specs.declared.records.FaultRecord.{FaultRecord}
use Rattle.c_records.specs.Faults.{tree_fault_in}

-- the packet that a quadlet shows, if there is one
abbrev pub IsPacketOf : Option ℕ → Option PhyPacket → Type 0
IsPacketOf None packet = packet ≡ None
IsPacketOf (Some quad) packet = (p : PhyPacket) × IsQuadletOf quad p × (packet ≡ Some p)

-- the sentence of a list's fault by a standard, of the quadlet at its place and the one before, if there is one
pub record IsSentence (s : Standard) (quad : ℕ) (prior : Option ℕ) (r : FaultRecord) (text : List ℕ) : Type 0 where
  pub before : Option PhyPacket
  pub shown : IsPacketOf prior before
  pub text_is : text ≡ tree_sentence s quad before (tree_fault_in r)
