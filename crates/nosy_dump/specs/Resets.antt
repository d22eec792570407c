-- The bus resets of a dump's records.
use Rattle.std.specs.Prelude.{ℕ, ◌+◌, List, [], ◌∷◌, length}
use Rattle.nosy_dump.specs.declared.record.Record.{Record}
use Rattle.nosy_dump.specs.declared.record.Record.TheVariants.{Reset, SelfId, Other}
use Rattle.nosy_dump.specs.declared.record.DumpReset.{DumpReset}
use Rattle.nosy_dump.specs.Record.{record_of}

-- the self-ID packets' quadlets in front of the next reset
abbrev pub packets_by : Record → List ℕ → List ℕ
packets_by (Reset time) more = []
packets_by (SelfId quad) more = quad ∷ more
packets_by Other more = more

abbrev pub packets : List (List ℕ) → List ℕ
packets [] = []
packets (r ∷ rs) = packets_by (record_of r) (packets rs)

-- a reset has the place of its record, its time stamp, and the packets up to the next reset
abbrev pub resets_by : Record → ℕ → List ℕ → List DumpReset → List DumpReset
resets_by (Reset time) byte list more = record { byte = byte; time = time; list = list } ∷ more
resets_by (SelfId quad) byte list more = more
resets_by Other byte list more = more

-- the resets of records, the first of which stands at this byte of the dump
abbrev pub resets_from : ℕ → List (List ℕ) → List DumpReset
resets_from byte [] = []
resets_from byte (r ∷ rs) =
    resets_by (record_of r) byte (packets rs) (resets_from (byte + (4 + length r)) rs)
