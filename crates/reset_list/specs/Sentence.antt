-- What was found and what was wanted where a list is refused: the sentence below the line of its fault.
use Rattle.std.specs.Prelude.{◌≡◌, ◌<◌, ◌≤◌, ◌⊎◌, ℕ, ◌-◌, ◌/◌, nat_lt, if◌then◌else◌, Option, Some, None, List, ◌++◌, length, slice_index}
use Rattle.phy_packet.specs.Packet.{IsQuadletOf}
use Rattle.phy_packet.specs.declared.packet.PhyPacket.{PhyPacket}
use Rattle.self_id.specs.declared.standard.Standard.{Standard}
use Rattle.view_text.specs.Sentence.{first_at, second_at, length_sentence, inverse_sentence, tree_sentence}
use Rattle.log_line.specs.declared.line.Origin.{Origin}
use Rattle.log_line.specs.declared.line.Origin.TheVariants.{Controller, Core}
use Rattle.capture_reading.specs.declared.fault.CaptureFault.{CaptureFault}
use Rattle.capture_reading.specs.declared.fault.CaptureFault.TheVariants.{BadLength, BadInverse, Tree as OfTree}
use Rattle.capture_reading.specs.Line.{refusal_of}
use Rattle.reset_list.specs.Texts.{refused}

-- how many packets are whole in a list: a controller's has a pair for each, the kernel's a quadlet
abbrev pub packet_count : Origin → List ℕ → ℕ
packet_count Controller list = length list / 2
packet_count Core list = length list

-- the quadlet of the packet at a place, where there is one, and else 0
abbrev pub quad_at : Origin → List ℕ → ℕ → ℕ
quad_at Controller list at = first_at list at
quad_at Core list at = if nat_lt at (length list) then slice_index list at else 0

-- the packet before a place, if there is one
abbrev pub IsBefore : Origin → List ℕ → ℕ → Option PhyPacket → Type 0
IsBefore origin list at None = (at ≡ 0) ⊎ (packet_count origin list < at)
IsBefore origin list at (Some p) =
    (0 < at) × (at ≤ packet_count origin list) × IsQuadletOf (quad_at origin list (at - 1)) p

-- by a standard, with the packet before the place of the fault
abbrev pub sentence : Standard → Origin → List ℕ → Option PhyPacket → CaptureFault → List ℕ
sentence standard origin list before (BadLength pair) = length_sentence
sentence standard origin list before (BadInverse pair) =
    inverse_sentence (first_at list pair) (second_at list pair)
sentence standard origin list before (OfTree f) =
    tree_sentence standard (quad_at origin list (refusal_of (OfTree f)).pair) before f

-- the head of a reset whose list has this fault, the line of the fault, and the sentence
pub record IsRefusalShown (standard : Standard) (origin : Origin) (head list : List ℕ)
    (f : CaptureFault) (text : List ℕ) : Type 0 where
  pub before : Option PhyPacket
  pub is_before : IsBefore origin list (refusal_of f).pair before
  pub text_is : text ≡ refused head f ++ sentence standard origin list before f
