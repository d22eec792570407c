-- What was found and what was wanted where a capture is refused: the line of the fault and a sentence.
use Rattle.std.specs.Prelude.{ℕ, zero, suc, Option, None, List, ◌++◌, slice_get}
use Rattle.phy_packet.specs.declared.packet.PhyPacket.{PhyPacket}
use Rattle.self_id.specs.declared.standard.Standard.{Standard}
use Rattle.capture_reading.specs.declared.fault.CaptureFault.{CaptureFault}
use Rattle.capture_reading.specs.declared.fault.CaptureFault.TheVariants.{BadLength, BadInverse, Tree}
use Rattle.capture_reading.specs.Line.{refusal_of, fault_line}
use Rattle.capture_hint.specs.Hint.{hint}
use Rattle.view_text.specs.Sentence.{first_at, second_at, length_sentence, inverse_sentence, tree_sentence}

-- the packet before this place, if there is one
abbrev pub before_at : List PhyPacket → ℕ → Option PhyPacket
before_at packets zero = None
before_at packets (suc k) = slice_get packets k

-- below which pair the line of a fault stands
abbrev pub place : CaptureFault → ℕ
place f = (refusal_of f).pair

-- by a standard, for quadlets, two a pair, and the packets of the pairs' first ones
abbrev pub sentence : Standard → List ℕ → List PhyPacket → CaptureFault → List ℕ
sentence s quads packets (BadLength pair) = length_sentence
sentence s quads packets (BadInverse pair) =
    inverse_sentence (first_at quads pair) (second_at quads pair)
sentence s quads packets (Tree f) =
    tree_sentence s (first_at quads (place (Tree f))) (before_at packets (place (Tree f))) f

-- the line of a fault and the sentence, and a hint where the bytes look like something else
abbrev pub note : Standard → List ℕ → List ℕ → List PhyPacket → CaptureFault → List ℕ
note s bytes quads packets f = fault_line f ++ (sentence s quads packets f ++ hint bytes)
