-- A register of sixteen bits, the highest first, that divides by shifting. No public contract cites
-- this file: public clauses speak of the division.
use Rattle.std.specs.Prelude.{Bool, false, List, [], ◌∷◌, ◌++◌}
use Rattle.topology_map.specs.Crc.{xor, plus, times_bit, below_x16}

-- the register after one more bit
abbrev pub after_bit : List Bool → Bool → List Bool
after_bit [] b = []
after_bit (top ∷ low) b = plus (low ++ false ∷ []) (times_bit (xor top b) below_x16)

-- and after some more
abbrev pub after_bits : List Bool → List Bool → List Bool
after_bits r [] = r
after_bits r (b ∷ bs) = after_bits (after_bit r b) bs
