-- The line of a ROM's fault: `refused quadlet Q KIND`.
use Rattle.std.specs.Prelude.{ℕ, List, [], ◌∷◌, ◌++◌, slice_index_or, codes, decimal}
use Rattle.config_rom.specs.declared.fault.RomFault.{RomFault}
use Rattle.config_rom.specs.declared.fault.RomFault.TheVariants.{RomLength, RomTooLong, RomEmpty, NoInfo, Minimal, RomCut, BusName, Outside, SelfTarget}
use Rattle.config_rom.specs.declared.refusal.RomRefusal.{RomRefusal}

abbrev pub refusal_with : ℕ → ℕ → ℕ → RomRefusal
refusal_with number at found = record { at = at; found = found; number = number }

-- why a ROM is refused, as each text and record of it says: the number of its fault's kind, the
-- quadlet at fault, and what was found in place of the bus's name, or 0
abbrev pub rom_refusal : RomFault → RomRefusal
rom_refusal (RomLength at) = refusal_with 1 at 0
rom_refusal (RomTooLong at) = refusal_with 2 at 0
rom_refusal (RomEmpty at) = refusal_with 3 at 0
rom_refusal (NoInfo at) = refusal_with 4 at 0
rom_refusal (Minimal at) = refusal_with 5 at 0
rom_refusal (RomCut at) = refusal_with 6 at 0
rom_refusal (BusName at found) = refusal_with 7 at found
rom_refusal (Outside at) = refusal_with 8 at 0
rom_refusal (SelfTarget at) = refusal_with 9 at 0

-- the words of the kinds by their numbers; no kind has 0
abbrev pub rom_words : List (List ℕ)
rom_words =
    [] ∷ codes "RomLength" ∷ codes "RomTooLong" ∷ codes "RomEmpty" ∷ codes "NoInfo" ∷ codes "Minimal"
    ∷ codes "RomCut" ∷ codes "BusName" ∷ codes "Outside" ∷ codes "SelfTarget" ∷ []

abbrev pub rom_word : ℕ → List ℕ
rom_word number = slice_index_or rom_words number []

unfoldable pub refusal_line : RomRefusal → List ℕ
refusal_line r =
    codes "refused quadlet " ++ (decimal r.at ++ (codes " " ++ (rom_word r.number ++ codes "\n")))

-- the line of a ROM's fault
unfoldable pub rom_line : RomFault → List ℕ
rom_line f = refusal_line (rom_refusal f)
