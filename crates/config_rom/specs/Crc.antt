-- What is known of a CRC that is kept (IEEE Std 1212).
use Rattle.std.specs.Prelude.{◌≡◌, ◌≢◌, ℕ, ◌<◌, ◌≤◌, List, length, take, drop}
use Rattle.topology_map.specs.Crc.{IsCrc}
use Rattle.config_rom.specs.declared.crc.CrcState.{CrcState}
use Rattle.config_rom.specs.declared.crc.CrcState.TheVariants.{Good, Bad, Past}
use Rattle.config_rom.specs.Rom.{Parts, rom_quads}

-- of the CRC that is kept for these quadlets
abbrev pub IsCrcState : List ℕ → ℕ → CrcState → Type 0
IsCrcState quads kept Good = IsCrc quads kept
IsCrcState quads kept (Bad k computed) = (k ≡ kept) × IsCrc quads computed × (kept ≢ computed)
IsCrcState quads kept Past = ⊥

-- of the CRC in quadlet 0, which is over the first crc_length quadlets behind it
abbrev pub IsInfoCrc : Parts → CrcState → Type 0
IsInfoCrc v Past = length (drop 1 (rom_quads v)) < v.crc_length
IsInfoCrc v state =
    (v.crc_length ≤ length (drop 1 (rom_quads v)))
    × IsCrcState (take v.crc_length (drop 1 (rom_quads v))) v.crc state
