-- The records of a dump, as `nosy-dump --output` of the Linux kernel writes them: a length, and so many bytes.
use Rattle.std.specs.Prelude.{◌≡◌, ◌≢◌, ℕ, ◌+◌, ◌/◌, ◌%◌, ◌^◌, ◌<◌, ◌==◌, ◌&&◌, nat_lt, nat_le, Bool, true, false, if◌then◌else◌, Option, Some, None, List, [], ◌∷◌, ◌++◌, length, slice_index}
use Rattle.std.specs.Int.{w32, from_le_bytes, to_le_bytes}
use Rattle.quad_lanes.specs.Pairs.{inverse}
use Rattle.nosy_dump.specs.declared.record.Record.{Record}
use Rattle.nosy_dump.specs.declared.record.Record.TheVariants.{Reset, SelfId, Other}
use Rattle.nosy_dump.specs.declared.record.DumpFault.{DumpFault}
use Rattle.nosy_dump.specs.declared.record.DumpFault.TheVariants.{Cut, BadLength}

-- the quadlet at a byte, the lowest byte first
abbrev pub quad_at : List ℕ → ℕ → ℕ
quad_at bytes at =
    from_le_bytes w32
    (slice_index bytes at ∷ slice_index bytes (at + 1) ∷ slice_index bytes (at + 2)
    ∷ slice_index bytes (at + 3) ∷ [])

-- a record as it stands in a dump: how many bytes it has, and they
abbrev pub record_bytes : List ℕ → List ℕ
record_bytes r = to_le_bytes w32 (length r) ++ r

-- records one after the other
abbrev pub dump_of : List (List ℕ) → List ℕ
dump_of [] = []
dump_of (r ∷ rs) = record_bytes r ++ dump_of rs

-- how many bytes a record may have: whole quadlets, at least one
abbrev pub is_size : ℕ → Bool
is_size n = nat_lt 0 n && (nat_le n 65536 && (n % 4 == 0))

abbrev pub AreSized : List (List ℕ) → Type 0
AreSized [] = Unit {0}
AreSized (r ∷ rs) = (is_size (length r) ≡ true) × AreSized rs

-- ---- what a record tells

-- a self-ID packet and its inverse
abbrev pub is_self_id : ℕ → ℕ → Bool
is_self_id quad second = (second == inverse quad) && (quad / 2 ^ 30 == 2)

-- A time stamp alone is a bus reset. A PHY packet is a time stamp, the packet, its inverse, and how it
-- was acknowledged.
unfoldable pub record_of : List ℕ → Record
record_of r =
    if length r == 4 then Reset (quad_at r 0)
    else (if (length r == 16) && is_self_id (quad_at r 4) (quad_at r 8) then SelfId (quad_at r 4)
    else Other)

-- ---- what stands behind the last whole record

-- the length of the record that bytes begin, where it is there
abbrev pub size_of : List ℕ → Option ℕ
size_of (a ∷ b ∷ c ∷ d ∷ bytes) = Some (from_le_bytes w32 (a ∷ b ∷ c ∷ d ∷ []))
size_of _ = None

abbrev pub IsBelow : Option ℕ → ℕ → Type 0
IsBelow None count = Unit {0}
IsBelow (Some size) count = (is_size size ≡ true) × (count < size + 4)

-- a record may go on behind these bytes
abbrev pub IsOpen : List ℕ → Type 0
IsOpen bytes = IsBelow (size_of bytes) (length bytes)

-- a dump ends behind its whole records, within a record, or has a length that can't be
abbrev pub EndsSo : List ℕ → Option DumpFault → Type 0
EndsSo rest None = rest ≡ []
EndsSo rest (Some Cut) = (rest ≢ []) × IsOpen rest
EndsSo rest (Some (BadLength size)) = (size_of rest ≡ Some size) × (is_size size ≡ false)
