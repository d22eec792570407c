-- The pairs of a capture, a line each, and a note below one of them.
use Rattle.std.specs.Prelude.{ℕ, ◌+◌, ◌*◌, ◌/◌, ◌==◌, nat_le, if◌then◌else◌, List, [], ◌∷◌, ◌++◌, length, drop, codes}
use Rattle.quad_lanes.specs.Pairs.{pairs, quads_of}
use Rattle.phy_packet.specs.Packet.{IsQuadletOf}
use Rattle.phy_packet.specs.declared.packet.PhyPacket.{PhyPacket}
use Rattle.topology_stack.specs.Hex.{hex}
use Rattle.view_text.specs.Packet.{field, packet_text}

-- the packets that quadlets show, one each
abbrev pub ArePacketsOf : List ℕ → List PhyPacket → Type 0
ArePacketsOf [] [] = Unit {0}
ArePacketsOf [] (p ∷ ps) = ⊥
ArePacketsOf (q ∷ qs) [] = ⊥
ArePacketsOf (q ∷ qs) (p ∷ ps) = IsQuadletOf q p × ArePacketsOf qs ps

-- `pair P QUADLET QUADLET`: its number from 0, the packet's quadlet, its inverse
unfoldable pub pair_quads : ℕ → ℕ → ℕ → List ℕ
pair_quads number first second =
    field (codes "pair ") number ++ (codes " " ++ (hex 8 first ++ (codes " " ++ hex 8 second)))

-- and behind them the packet
abbrev pub pair_line : ℕ → ℕ → ℕ → PhyPacket → List ℕ
pair_line number first second p =
    pair_quads number first second ++ (codes " " ++ (packet_text p ++ codes "\n"))

-- the note, where it stands below this pair
abbrev pub below : ℕ → ℕ → List ℕ → List ℕ
below number at note = if number == at then note else []

-- the lines of pairs, whose numbers are counted from `number`
abbrev pub lines : ℕ → List (ℕ × ℕ) → List PhyPacket → ℕ → List ℕ → List ℕ
lines number [] packets at note = []
lines number (pair ∷ rest) [] at note = []
lines number (pair ∷ rest) (p ∷ ps) at note =
    pair_line number pair.0 pair.1 p ++ (below number at note ++ lines (number + 1) rest ps at note)

-- bytes in hexadecimal digits
abbrev pub bytes_text : List ℕ → List ℕ
bytes_text [] = []
bytes_text (b ∷ bytes) = hex 2 b ++ bytes_text bytes

-- `pair P BYTES cut`: the bytes behind the last whole pair, where there are any
unfoldable pub cut_line : ℕ → List ℕ → List ℕ
cut_line number [] = []
cut_line number (b ∷ bytes) =
    field (codes "pair ") number
    ++ (codes " " ++ (bytes_text (b ∷ bytes) ++ codes " cut\n"))

-- the note, where no more pairs are whole than come before it
abbrev pub at_end : ℕ → ℕ → List ℕ → List ℕ
at_end count at note = if nat_le count at then note else []

-- All pairs of bytes, with the packets of their first quadlets. The note stands below the pair `at`, or at
-- the end where there is no such pair.
abbrev pub pairs_text : List ℕ → List PhyPacket → ℕ → List ℕ → List ℕ
pairs_text bytes packets at note =
    lines 0 (pairs (quads_of bytes)) packets at note
    ++ (cut_line (length bytes / 8) (drop (8 * (length bytes / 8)) bytes)
    ++ at_end (length bytes / 8) at note)
