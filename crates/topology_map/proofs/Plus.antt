-- Sums of bits without carry.
use Rattle.std.proofs.Common.{◌≡◌, ℕ, zero, suc, Bool, true, false, List, [], ◌∷◌, ◌++◌, length, replicate, refl, sym, ap, ◌∙◌, arith}
use Rattle.std.proofs.lemmas.List.{length-map}
use Rattle.topology_map.specs.Crc.{xor, plus, times_bit}

-- ---- of bits

pub xor_assoc : (a b c : Bool) → xor (xor a b) c ≡ xor a (xor b c)
xor_assoc true true true = refl
xor_assoc true true false = refl
xor_assoc true false c = refl
xor_assoc false b c = refl

pub xor_comm : (a b : Bool) → xor a b ≡ xor b a
xor_comm true true = refl
xor_comm true false = refl
xor_comm false true = refl
xor_comm false false = refl

pub xor_same : (a : Bool) → xor a a ≡ false
xor_same true = refl
xor_same false = refl

pub xor_twice : (a b : Bool) → xor a (xor a b) ≡ b
xor_twice true true = refl
xor_twice true false = refl
xor_twice false b = refl

pub xor_cancel : (a b c : Bool) → xor a b ≡ xor a c → b ≡ c
xor_cancel a b c e = sym (xor_twice a b) ∙ ap (xor a) e ∙ xor_twice a c

-- ---- of polynomials

pub plus_assoc : (a b c : List Bool) → plus (plus a b) c ≡ plus a (plus b c)
plus_assoc [] b c = refl
plus_assoc (x ∷ a) [] c = refl
plus_assoc (x ∷ a) (y ∷ b) [] = refl
plus_assoc (x ∷ a) (y ∷ b) (z ∷ c) = rw (xor_assoc x y z, plus_assoc a b c) refl

pub plus_comm : (a b : List Bool) → plus a b ≡ plus b a
plus_comm [] [] = refl
plus_comm [] (y ∷ b) = refl
plus_comm (x ∷ a) [] = refl
plus_comm (x ∷ a) (y ∷ b) = rw (xor_comm x y, plus_comm a b) refl

pub plus_same : (a : List Bool) → plus a a ≡ replicate (length a) false
plus_same [] = refl
plus_same (x ∷ a) = rw (xor_same x, plus_same a) refl

pub plus_twice : (a b : List Bool) → length a ≡ length b → plus a (plus a b) ≡ b
plus_twice [] [] e = refl
plus_twice [] (y ∷ b) e = absurd (omega (arith, e))
plus_twice (x ∷ a) [] e = absurd (omega (arith, e))
plus_twice (x ∷ a) (y ∷ b) e = let rest : length a ≡ length b = omega (arith, e) in rw (xor_twice x y, plus_twice a b rest) refl

pub length-plus : (a b : List Bool) → length a ≡ length b → length (plus a b) ≡ length a
length-plus [] b e = refl
length-plus (x ∷ a) [] e = absurd (omega (arith, e))
length-plus (x ∷ a) (y ∷ b) e = let rest : length a ≡ length b = omega (arith, e) in omega (arith, length-plus a b rest)

pub plus-append : (a b c d : List Bool) → length a ≡ length c →
    plus (a ++ b) (c ++ d) ≡ plus a c ++ plus b d
plus-append [] b [] d e = refl
plus-append [] b (y ∷ c) d e = absurd (omega (arith, e))
plus-append (x ∷ a) b [] d e = absurd (omega (arith, e))
plus-append (x ∷ a) b (y ∷ c) d e = let rest : length a ≡ length c = omega (arith, e) in rw (plus-append a b c d rest) refl

pub plus_zeros : (n : ℕ) (a : List Bool) → length a ≡ n → plus (replicate n false) a ≡ a
plus_zeros zero [] e = refl
plus_zeros zero (x ∷ a) e = absurd (omega (arith, e))
plus_zeros (suc n) [] e = absurd (omega (arith, e))
plus_zeros (suc n) (x ∷ a) e = let rest : length a ≡ n = omega (arith, e) in rw (plus_zeros n a rest) refl

pub length-times_bit : (b : Bool) (p : List Bool) → length (times_bit b p) ≡ length p
length-times_bit b p = simp length-map refl
