-- Each body has a CRC: what the register holds in the end, as a number. So it has an image.
use Rattle.std.proofs.Common.{◌≡◌, ℕ, zero, suc, ◌+◌, ◌-◌, ◌*◌, ◌^◌, ◌<◌, ◌≤◌, Bool, true, false, eqb, List, [], ◌∷◌, length, refl, sym, ap, subst, ◌∙◌, arith}
use Rattle.std.specs.Int.{bit_at}
use Rattle.std.proofs.lemmas.Nat.Bits.{bit_at_cat_low, bit_at_cat_high}
use Rattle.topology_stack.specs.Tree.{emits}
use Rattle.topology_map.specs.Crc.{bits_of, quad_bits}
use Rattle.topology_map.specs.Map.{counts_of}
use Rattle.topology_map.specs.SomeMap.{CrcsExist, ImagesExist, TopologyMapsExist}
use Rattle.topology_map.specs.codings.Register.{after_bits}
use Rattle.topology_map.proofs.Bits.{length-bits_of}
use Rattle.topology_map.proofs.Division.{length-after_bits, remainder}
use Rattle.topology_map.proofs.Emitted.{node_count-emits}

-- ---- the number of some bits

digit : Bool → ℕ
digit true = 1
digit false = 0

-- a bit above others
low_bits : (k m a b : ℕ) → k ≤ m → bits_of k (a * 2 ^ m + b) ≡ bits_of k b
unfolding bits_of
low_bits zero m a b le = refl
low_bits (suc k) m a b le =
    let one = ap (λ (n : ℕ). eqb n 1) (bit_at_cat_low a m b k (omega (arith, le))) in
    rw (one, low_bits k m a b (omega (arith, le))) refl

top_bit : (b : Bool) (k n : ℕ) → n < 2 ^ k → eqb (bit_at (digit b * 2 ^ k + n) k) 1 ≡ b
unfolding digit
top_bit true k n fits =
    let low : k - k ≡ 0 = omega arith in
    ap (λ (m : ℕ). eqb m 1) (bit_at_cat_high 1 k n k fits (omega arith) ∙ ap (bit_at 1) low)
top_bit false k n fits =
    let low : k - k ≡ 0 = omega arith in
    ap (λ (m : ℕ). eqb m 1) (bit_at_cat_high 0 k n k fits (omega arith) ∙ ap (bit_at 0) low)

record Number (bits : List Bool) : Type 0 where
  number : ℕ
  fits : number < 2 ^ length bits
  is : bits_of (length bits) number ≡ bits

fits_more : (b : Bool) (k n : ℕ) → n < 2 ^ k → digit b * 2 ^ k + n < 2 ^ suc k
unfolding digit
fits_more true k n fits = omega (arith, fits)
fits_more false k n fits = omega (arith, fits)

number_of : (bits : List Bool) → Number bits
unfolding bits_of
number_of [] = record { number = 0; fits = omega arith; is = refl }
number_of (b ∷ bits) =
    let rest = number_of bits in
    let k = length bits in record {
      number = digit b * 2 ^ k + rest.number;
      fits = fits_more b k rest.number rest.fits;
      is = rw (top_bit b k rest.number rest.fits, low_bits k k (digit b) rest.number (omega arith), rest.is) refl;
    }

-- ---- what is there

pub some_crc : CrcsExist
some_crc quads =
    let bits = after_bits (bits_of 16 0) (quad_bits quads) in
    let long : length bits ≡ 16 = length-after_bits (bits_of 16 0) (quad_bits quads) (length-bits_of 16 0) in
    let n = number_of bits in
    record {
      crc = n.number;
      is = remainder quads n.number (subst (λ (k : ℕ). n.number < 2 ^ k) long n.fits) (subst (λ (k : ℕ). bits_of k n.number ≡ bits) long n.is);
    }

pub some_image : ImagesExist
some_image body =
    let c = some_crc body in
    record { quads = (2 ^ 16 * length body + c.crc) ∷ body; is = record { crc = c.crc; crc_is = c.is; quads_are = refl } }

pub some_map : TopologyMapsExist
some_map generation t bus =
    let image = some_image (generation ∷ counts_of (emits t) ∷ emits t) in
    record { quads = image.quads; is = record { nodes_are = sym (node_count-emits t bus); image = image.is } }
