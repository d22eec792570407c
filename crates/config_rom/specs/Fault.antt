-- Which rule bytes break first that are no configuration ROM.
use Rattle.std.specs.Prelude.{ℕ, ◌/◌, ◌%◌, ◌==◌, nat_lt, not, if◌then◌else◌, Option, Some, None, List, length, slice_index}
use Rattle.quad_lanes.specs.Pairs.{quads_of}
use Rattle.config_rom.specs.declared.fault.RomFault.{RomFault}
use Rattle.config_rom.specs.declared.fault.RomFault.TheVariants.{RomLength, RomTooLong, RomEmpty, NoInfo, Minimal, RomCut, BusName}
use Rattle.config_rom.specs.Layout.{info_len_of, root_of, end_of}

-- of whole quadlets
abbrev pub quads_fault : List ℕ → Option RomFault
quads_fault quads =
    if nat_lt 256 (length quads) then Some (RomTooLong 256)
    else (if length quads == 0 then Some (RomEmpty 0)
    else (if info_len_of quads == 0 then Some (NoInfo 0)
    else (if info_len_of quads == 1 then Some (Minimal 0)
    else (if nat_lt (length quads) (root_of quads) then Some (RomCut (length quads))
    else (if not (slice_index quads 1 == 0x31333934) then Some (BusName 1 (slice_index quads 1))
    else (if nat_lt (length quads) (end_of quads (root_of quads)) then Some (RomCut (length quads))
    else None))))))

-- the length of the bytes comes first
abbrev pub rom_fault : List ℕ → Option RomFault
rom_fault bytes =
    if not (length bytes % 4 == 0) then Some (RomLength (length bytes / 4))
    else quads_fault (quads_of bytes)
