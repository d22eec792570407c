-- Fields of a quadlet as the standard draws them: from the top bit on, each with its width in bits.
use Rattle.std.specs.Prelude.{ℕ, ◌+◌, ◌*◌, ◌^◌, ◌<◌, Bool, true, false, List, [], ◌∷◌}

pub record Field : Type 0 where
  pub width : ℕ
  pub value : ℕ

abbrev pub bits : ℕ → ℕ → Field
bits width value = record { width = width; value = value }

abbrev pub bit : Bool → ℕ
bit false = 0
bit true = 1

-- one bit
abbrev pub flag : Bool → Field
flag b = bits 1 (bit b)

-- how many bits the fields take
abbrev pub total_width : List Field → ℕ
total_width [] = 0
total_width (f ∷ fs) = f.width + total_width fs

-- the number that the fields spell
abbrev pub spelled : List Field → ℕ
spelled [] = 0
spelled (f ∷ fs) = f.value * 2 ^ total_width fs + spelled fs

-- each value fits its field
abbrev pub AllFit : List Field → Type 0
AllFit [] = Unit {0}
AllFit (f ∷ fs) = (f.value < 2 ^ f.width) × AllFit fs
