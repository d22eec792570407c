-- The texts of a dump's resets and of its fault.
use Rattle.std.specs.Prelude.{ℕ, Option, Some, None, List, [], ◌++◌, codes}
use Rattle.view_text.specs.Packet.{field}
use Rattle.reset_list.specs.declared.counts.Tally.{Tally}
use Rattle.reset_list.specs.Counts.{most_of}
use Rattle.nosy_dump.specs.Noted.{Noted}
use Rattle.nosy_dump.specs.declared.record.DumpReset.{DumpReset}
use Rattle.nosy_dump.specs.declared.record.DumpFault.{DumpFault}
use Rattle.nosy_dump.specs.declared.record.DumpFault.TheVariants.{Cut, BadLength}

-- `reset N byte B time T`
unfoldable pub head : ℕ → DumpReset → List ℕ
head number r =
    field (codes "reset ") number ++ (field (codes " byte ") r.byte ++ field (codes " time ") r.time)

-- `refused byte B KIND`, and what was found and wanted
unfoldable pub cut_text : ℕ → List ℕ
cut_text byte =
    field (codes "refused byte ") byte
    ++ codes " Cut\nFound the end of the input inside this record, wanted its length and its bytes.\n"

unfoldable pub length_text : ℕ → ℕ → List ℕ
length_text byte size =
    field (codes "refused byte ") byte
    ++ (field (codes " BadLength\nFound a record of length ") size
    ++ codes ", wanted 4 to 65536 bytes and a multiple of 4.\n")

abbrev pub fault_text : ℕ → Option DumpFault → List ℕ
fault_text byte None = []
fault_text byte (Some Cut) = cut_text byte
fault_text byte (Some (BadLength size)) = length_text byte size

-- ---- the end of a dump

unfoldable pub begun : Tally → List ℕ
begun t = field (codes ", most begun by node ") t.node ++ field (codes ": ") t.count

abbrev pub most : Option Tally → List ℕ
most None = []
most (Some t) = begun t

-- `resets N refused M`, and `, most begun by node I: K`
unfoldable pub totals : Noted → List ℕ
totals n =
    field (codes "resets ") n.counts.resets
    ++ (field (codes " refused ") n.counts.refused ++ (most (most_of None n.tallies) ++ codes "\n"))

-- the fault at this byte if there is one, and what was counted in all
unfoldable pub end_text : ℕ → Option DumpFault → Noted → List ℕ
end_text byte fault n = fault_text byte fault ++ totals n
