-- What a capture spells: bytes that are pairs of quadlets, each packet's quadlet before its bitwise
-- inverse, as IEEE Std 1394 sends a PHY packet.
use Rattle.std.specs.Prelude.{◌≡◌, ◌≢◌, ℕ, ◌/◌, ◌%◌, ◌^◌, ◌<◌, All, List, length, Some}
use Rattle.quad_lanes.specs.Capture.{capture}
use Rattle.quad_lanes.specs.Pairs.{quads_of, first_bad_pair}
use Rattle.self_id.specs.declared.standard.Standard.{Standard}
use Rattle.topology_stack.specs.Tree.{Tree, IsBusTreeOf, emits}
use Rattle.topology_stack.specs.Refused.{Refused}
use Rattle.capture_reading.specs.declared.fault.CaptureFault.{CaptureFault}
use Rattle.capture_reading.specs.declared.fault.CaptureFault.TheVariants.{BadLength, BadInverse, Tree as TreeRefused}

-- the bytes are the capture of packets with these quadlets
pub record IsCaptureOf (quads bytes : List ℕ) : Type 0 where
  pub fit : All (λ q. q < 2 ^ 32) quads
  pub bytes_are : bytes ≡ capture quads

-- the bytes are the capture of the list that the bus tree of a standard emits
pub record Spells (standard : Standard) (bytes : List ℕ) (t : Tree) : Type 0 where
  pub bus : IsBusTreeOf standard t
  pub captured : IsCaptureOf (emits t) bytes

-- Which fault bytes have by a standard: first their length, then the first bad pair, then the packets' list.
abbrev pub CaptureRefused : Standard → List ℕ → CaptureFault → Type 0
CaptureRefused standard bytes (BadLength pair) = (length bytes % 8 ≢ 0) × (pair ≡ length bytes / 8)
CaptureRefused standard bytes (BadInverse pair) =
    (length bytes % 8 ≡ 0) × (first_bad_pair (quads_of bytes) ≡ Some pair)
CaptureRefused standard bytes (TreeRefused f) =
    (quads : List ℕ) × IsCaptureOf quads bytes × Refused standard quads f
