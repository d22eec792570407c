-- The image of a topology map among quadlets.
use Rattle.std.specs.Prelude.{◌≡◌, ℕ, ◌+◌, ◌/◌, ◌^◌, List, take, slice_index}
use Rattle.topology_map.specs.declared.fault.ImageFault.{ImageFault}
use Rattle.topology_map.specs.declared.fault.ImageFault.TheVariants.{Length, Crc, Counts, Memory}
use Rattle.topology_map.specs.Map.{IsMap, Refused}
use Rattle.capture_import.specs.declared.fault.FaultKind.{FaultKind}
use Rattle.capture_import.specs.declared.fault.FaultKind.TheVariants.{BadCrc, BadCounts}

-- the image without what is behind it, by the length that its first quadlet tells
abbrev pub image_of : List ℕ → List ℕ
image_of quads = take (slice_index quads 0 / 2 ^ 16 + 1) quads

-- it has this list, in some generation
pub record HasList (quads list : List ℕ) : Type 0 where
  pub generation : ℕ
  pub nodes : ℕ
  pub map : IsMap generation nodes list (image_of quads)

-- what is at fault, and at which quadlet
abbrev pub kind_of : ImageFault → FaultKind
kind_of (Length found) = BadCounts
kind_of (Crc kept computed) = BadCrc
kind_of (Counts kept found) = BadCounts
kind_of (Memory error) = BadCounts

abbrev pub place_of : ImageFault → ℕ
place_of (Length found) = 0
place_of (Crc kept computed) = 0
place_of (Counts kept found) = 2
place_of (Memory error) = 0

pub record IsBadImage (quads : List ℕ) (kind : FaultKind) (at : ℕ) : Type 0 where
  pub fault : ImageFault
  pub refused : Refused (image_of quads) fault
  pub kind_is : kind ≡ kind_of fault
  pub place_is : at ≡ place_of fault
