-- The CRC of quadlets as IEEE Std 1212 has it: what a division of polynomials leaves. The
-- coefficients of a polynomial are bits, that of the highest power first, and are added without
-- carry.
use Rattle.std.specs.Prelude.{◌≡◌, ℕ, zero, suc, ◌^◌, ◌<◌, Bool, true, false, not, ◌&&◌, ◌==◌, List, [], ◌∷◌, ◌++◌, length, map, replicate}
use Rattle.std.specs.Int.{bit_at}

abbrev pub xor : Bool → Bool → Bool
xor true b = not b
xor false b = b

-- the sum of two polynomials with as many coefficients
abbrev pub plus : List Bool → List Bool → List Bool
plus [] q = []
plus (a ∷ p) [] = []
plus (a ∷ p) (b ∷ q) = xor a b ∷ plus p q

-- all powers below x^16 of the divisor, and then x^16 + x^12 + x^5 + 1 whole
abbrev pub below_x16 : List Bool
below_x16 =
    false ∷ false ∷ false ∷ true ∷ false ∷ false ∷ false ∷ false
    ∷ false ∷ false ∷ true ∷ false ∷ false ∷ false ∷ false ∷ true ∷ []

abbrev pub divisor : List Bool
divisor = true ∷ below_x16

-- a polynomial or zero
abbrev pub times_bit : Bool → List Bool → List Bool
times_bit b p = map (λ c. b && c) p

-- the product of the divisor and a polynomial, which has sixteen coefficients more than that one
unfoldable pub multiple : List Bool → List Bool
multiple [] = replicate 16 false
multiple (b ∷ m) = plus (times_bit b divisor ++ replicate (length m) false) (false ∷ multiple m)

-- so many low bits of a number, the highest first
unfoldable pub bits_of : ℕ → ℕ → List Bool
bits_of zero x = []
bits_of (suc k) x = (bit_at x k == 1) ∷ bits_of k x

-- the bits of quadlets
abbrev pub quad_bits : List ℕ → List Bool
quad_bits [] = []
quad_bits (q ∷ quads) = bits_of 32 q ++ quad_bits quads

-- The bits of the quadlets, followed by sixteen zero bits, leave this number when they are divided:
-- so with the sixteen bits of the number in place of the zeros they are a multiple of the divisor.
pub record IsCrc (quads : List ℕ) (crc : ℕ) : Type 0 where
  pub degree : crc < 2 ^ 16
  pub quotient : List Bool
  pub division : quad_bits quads ++ bits_of 16 crc ≡ multiple quotient
