-- Eight bits at a time: the register's high byte and the next byte meet first, and what their sum
-- leaves is added to the low byte, shifted up.
use Rattle.std.proofs.Common.{◌≡◌, ℕ, zero, suc, ◌+◌, ◌-◌, ◌*◌, ◌/◌, ◌%◌, ◌^◌, ◌<◌, Bool, true, false, ◌&&◌, List, [], ◌∷◌, ◌++◌, length, length-append, replicate, refl, sym, ap, ◌∙◌, append_assoc, arith, bit_xor}
use Rattle.std.proofs.lemmas.List.{append-nil, length-replicate}
use mathlib.Core.Bool.{beq}
use Rattle.std.specs.Int.{bit_at}
use Rattle.std.proofs.lemmas.Nat.Bits.{bit_at_cat_high}
use Rattle.std.proofs.lemmas.Nat.{div-add-mod', mod_below, pow_pos}
use Rattle.std.proofs.lemmas.Bool.{agree_below, agree_below_at, and_parts, false≢true}
use Rattle.topology_map.specs.Crc.{xor, plus, times_bit, below_x16, bits_of}
use Rattle.topology_map.specs.codings.Register.{after_bit, after_bits}
use Rattle.topology_map.proofs.Plus.{xor_same, plus_assoc, plus_comm, plus_twice, length-plus, plus-append, plus_zeros}
use Rattle.topology_map.proofs.Bits.{length-bits_of, zero_bits, bits_of-xor, bits_of-mod}
use Rattle.topology_map.proofs.Division.{length-after_bit, after_bits-append}

-- ---- the register of a sum is the sum of the registers

swap_middle : (a b c d : List Bool) → plus (plus a b) (plus c d) ≡ plus (plus a c) (plus b d)
swap_middle a b c d =
    plus_assoc a b (plus c d)
    ∙ ap (plus a) (sym (plus_assoc b c d) ∙ ap (λ (x : List Bool). plus x d) (plus_comm b c) ∙ plus_assoc c b d)
    ∙ sym (plus_assoc a c (plus b d))

sum_of_bits : (a b : Bool) →
    times_bit (xor a b) below_x16 ≡ plus (times_bit a below_x16) (times_bit b below_x16)
sum_of_bits true true = refl
sum_of_bits true false = refl
sum_of_bits false true = refl
sum_of_bits false false = refl

swap_bits : (t u a b : Bool) → xor (xor t u) (xor a b) ≡ xor (xor t a) (xor u b)
swap_bits true true true true = refl
swap_bits true true true false = refl
swap_bits true true false true = refl
swap_bits true true false false = refl
swap_bits true false true true = refl
swap_bits true false true false = refl
swap_bits true false false true = refl
swap_bits true false false false = refl
swap_bits false true true true = refl
swap_bits false true true false = refl
swap_bits false true false true = refl
swap_bits false true false false = refl
swap_bits false false true true = refl
swap_bits false false true false = refl
swap_bits false false false true = refl
swap_bits false false false false = refl

after_bit-plus : (r s : List Bool) (a b : Bool) → length r ≡ 16 → length s ≡ 16 →
    after_bit (plus r s) (xor a b) ≡ plus (after_bit r a) (after_bit s b)
after_bit-plus [] s a b lr ls = absurd (omega (arith, lr))
after_bit-plus (t ∷ l) [] a b lr ls = absurd (omega (arith, ls))
after_bit-plus (t ∷ l) (u ∷ m) a b lr ls =
    let same : length l ≡ length m = omega (arith, lr, ls) in
    let shifted : plus l m ++ false ∷ [] ≡ plus (l ++ false ∷ []) (m ++ false ∷ []) = sym (plus-append l (false ∷ []) m (false ∷ []) same) in
    let added : times_bit (xor (xor t u) (xor a b)) below_x16 ≡ plus (times_bit (xor t a) below_x16) (times_bit (xor u b) below_x16)
    = ap (λ (x : Bool). times_bit x below_x16) (swap_bits t u a b) ∙ sum_of_bits (xor t a) (xor u b) in
    ap (λ (x : List Bool). plus x (times_bit (xor (xor t u) (xor a b)) below_x16)) shifted
    ∙ ap (plus (plus (l ++ false ∷ []) (m ++ false ∷ []))) added
    ∙ swap_middle (l ++ false ∷ []) (m ++ false ∷ []) (times_bit (xor t a) below_x16) (times_bit (xor u b) below_x16)

after_bits-plus : (ps bs r s : List Bool) → length ps ≡ length bs → length r ≡ 16 → length s ≡ 16 →
    after_bits (plus r s) (plus ps bs) ≡ plus (after_bits r ps) (after_bits s bs)
after_bits-plus [] [] r s e lr ls = refl
after_bits-plus [] (b ∷ bs) r s e lr ls = absurd (omega (arith, e))
after_bits-plus (a ∷ ps) [] r s e lr ls = absurd (omega (arith, e))
after_bits-plus (a ∷ ps) (b ∷ bs) r s e lr ls =
    ap (λ (x : List Bool). after_bits x (plus ps bs)) (after_bit-plus r s a b lr ls)
    ∙ after_bits-plus ps bs (after_bit r a) (after_bit s b) (omega (arith, e)) (length-after_bit r a lr) (length-after_bit s b ls)

-- ---- the bits that fall out meet themselves: the register is shifted

one_out : (h : Bool) (low : List Bool) → length low ≡ 15 → after_bit (h ∷ low) h ≡ low ++ false ∷ []
one_out h low e =
    let long : length (low ++ false ∷ []) ≡ 16 = omega (arith, e, length-append low (false ∷ [])) in
    ap (λ (b : Bool). plus (low ++ false ∷ []) (times_bit b below_x16)) (xor_same h)
    ∙ plus_comm (low ++ false ∷ []) (replicate 16 false) ∙ plus_zeros 16 (low ++ false ∷ []) long

shifted_out : (high low : List Bool) → length high + length low ≡ 16 →
    after_bits (high ++ low) high ≡ low ++ replicate (length high) false
shifted_out [] low e = rw append-nil refl
shifted_out (h ∷ high) low e =
    let long : length (high ++ low) ≡ 15 = omega (arith, e, length-append high low) in
    ap (λ (r : List Bool). after_bits r high) (one_out h (high ++ low) long ∙ append_assoc high low (false ∷ []))
    ∙ shifted_out high (low ++ false ∷ []) (omega (arith, e, length-append low (false ∷ [])))
    ∙ append_assoc low (false ∷ []) (replicate (length high) false)

by_parts : (high low bs : List Bool) → length high ≡ 8 → length low ≡ 8 → length bs ≡ 8 →
    after_bits (high ++ low) bs ≡ plus (low ++ replicate 8 false) (after_bits (replicate 16 false) (plus high bs))
by_parts high low bs lh ll lb =
    let r = high ++ low in
    let lr : length r ≡ 16 = omega (arith, lh, ll, length-append high low) in
    let lz : length (replicate 16 false) ≡ 16 = length-replicate 16 false in
    let whole : plus r (replicate 16 false) ≡ r = plus_comm r (replicate 16 false) ∙ plus_zeros 16 r lr in
    let met : plus high (plus high bs) ≡ bs = plus_twice high bs (lh ∙ sym lb) in
    let same : length high ≡ length (plus high bs) = sym (length-plus high bs (lh ∙ sym lb)) in
    sym (ap (λ (x : List Bool). after_bits x (plus high (plus high bs))) whole ∙ ap (after_bits r) met)
    ∙ after_bits-plus high (plus high bs) r (replicate 16 false) same lr lz
    ∙ ap (λ (x : List Bool). plus x (after_bits (replicate 16 false) (plus high bs)))
    (shifted_out high low (omega (arith, lh, ll)) ∙ ap (λ (n : ℕ). low ++ replicate n false) lh)

-- ---- bytes of numbers

bits_of-split : (k n x : ℕ) → bits_of (k + n) x ≡ bits_of k (x / 2 ^ n) ++ bits_of n x
unfolding bits_of
bits_of-split zero n x = let none : 0 + n ≡ n = omega arith in rw none refl
bits_of-split (suc k) n x =
    let whole : x / 2 ^ n * 2 ^ n + x % 2 ^ n ≡ x = div-add-mod' x (2 ^ n) in
    let more : suc k + n ≡ suc (k + n) = omega arith in
    let back : k + n - n ≡ k = omega arith in
    let one : bit_at x (k + n) ≡ bit_at (x / 2 ^ n) k
    = sym (ap (λ (m : ℕ). bit_at m (k + n)) whole)
    ∙ bit_at_cat_high (x / 2 ^ n) n (x % 2 ^ n) (k + n) (mod_below x (2 ^ n) (pow_pos n)) (omega arith) ∙ ap (bit_at (x / 2 ^ n)) back in
    rw (more, one, bits_of-split k n x) refl

no_bits_below : bits_of 8 0 ≡ replicate 8 false
unfolding bits_of
no_bits_below = refl

-- a register whose low byte was moved up
moved_up : (crc : ℕ) → bits_of 16 (crc * 256 % 65536) ≡ bits_of 8 crc ++ replicate 8 false
moved_up crc =
    let up : crc * 256 / 2 ^ 8 ≡ crc = omega arith in
    let none : crc * 256 % 2 ^ 8 ≡ 0 = omega arith in
    bits_of-mod 16 16 (crc * 256) (omega arith)
    ∙ bits_of-split 8 8 (crc * 256)
    ∙ ap (λ (n : ℕ). bits_of 8 n ++ bits_of 8 (crc * 256)) up
    ∙ ap (λ (l : List Bool). bits_of 8 crc ++ l) (sym (bits_of-mod 8 8 (crc * 256) (omega arith)) ∙ ap (bits_of 8) none ∙ no_bits_below)

-- what the sum of the high byte and the next byte leaves
abbrev pub leaves : ℕ → ℕ
leaves x =
    let y = bit_xor x (x / 16) in
    bit_xor (bit_xor (y * 4096 % 65536) (y * 32 % 65536)) y

same : List Bool → List Bool → Bool
same [] [] = true
same (a ∷ p) (b ∷ q) = beq a b && same p q
same [] (b ∷ q) = false
same (a ∷ p) [] = false

one_bit : (a b : Bool) → beq a b ≡ true → a ≡ b
one_bit true true e = refl
one_bit true false e = sym e
one_bit false true e = e
one_bit false false e = refl

equal : (p q : List Bool) → same p q ≡ true → p ≡ q
unfolding same
equal [] [] e = refl
equal [] (b ∷ q) e = absurd (false≢true e)
equal (a ∷ p) [] e = absurd (false≢true e)
equal (a ∷ p) (b ∷ q) e =
    let parts = and_parts (beq a b) (same p q) e in
    rw (one_bit a b parts.0, equal p q parts.1) refl

leaves_the_remainder : ℕ → Bool
leaves_the_remainder x = same (bits_of 16 (leaves x)) (after_bits (bits_of 16 0) (bits_of 8 x))

all_bytes_do : agree_below leaves_the_remainder (λ x. true) 256 ≡ true
unfolding bits_of leaves_the_remainder same
all_bytes_do = refl

-- for each of the 256 bytes
pub byte_left : (x : ℕ) → x < 256 → bits_of 16 (leaves x) ≡ after_bits (bits_of 16 0) (bits_of 8 x)
unfolding leaves_the_remainder
byte_left x lt = equal _ _ (agree_below_at leaves_the_remainder (λ x. true) 256 x all_bytes_do lt)

-- ---- the register after a byte

pub next_byte : (crc byte left : ℕ) → crc < 65536 → byte < 256 →
    bits_of 16 left ≡ after_bits (bits_of 16 0) (bits_of 8 (bit_xor (crc / 256) byte)) →
    bits_of 16 (bit_xor (crc * 256 % 65536) left) ≡ after_bits (bits_of 16 crc) (bits_of 8 byte)
next_byte crc byte left fits small e =
    bits_of-xor 16 (crc * 256 % 65536) left
    ∙ ap (λ (l : List Bool). plus l (bits_of 16 left)) (moved_up crc)
    ∙ ap (plus (bits_of 8 crc ++ replicate 8 false)) (e ∙ ap (λ (r : List Bool). after_bits r (bits_of 8 (bit_xor (crc / 256) byte))) zero_bits ∙ ap (after_bits (replicate 16 false)) (bits_of-xor 8 (crc / 256) byte))
    ∙ sym (by_parts (bits_of 8 (crc / 256)) (bits_of 8 crc) (bits_of 8 byte) (length-bits_of 8 (crc / 256)) (length-bits_of 8 crc) (length-bits_of 8 byte))
    ∙ ap (λ (r : List Bool). after_bits r (bits_of 8 byte)) (sym (bits_of-split 8 8 crc))

-- ---- the four bytes of a quadlet

cut : (n : ℕ) → bits_of 8 n ≡ bits_of 8 (n % 2 ^ 8)
cut n = sym (bits_of-mod 8 8 n (omega arith))

four_bytes : (quad : ℕ) →
    bits_of 32 quad ≡ bits_of 8 (quad / 2 ^ 24) ++ (bits_of 8 (quad / 2 ^ 16 % 2 ^ 8) ++ (bits_of 8 (quad / 2 ^ 8 % 2 ^ 8) ++ bits_of 8 (quad % 2 ^ 8)))
four_bytes quad =
    bits_of-split 8 24 quad
    ∙ ap (λ (l : List Bool). bits_of 8 (quad / 2 ^ 24) ++ l) (bits_of-split 8 16 quad
    ∙ ap (λ (l : List Bool). l ++ bits_of 16 quad) (cut (quad / 2 ^ 16))
    ∙ ap (λ (l : List Bool). bits_of 8 (quad / 2 ^ 16 % 2 ^ 8) ++ l) (bits_of-split 8 8 quad
    ∙ ap (λ (l : List Bool). l ++ bits_of 8 quad) (cut (quad / 2 ^ 8))
    ∙ ap (λ (l : List Bool). bits_of 8 (quad / 2 ^ 8 % 2 ^ 8) ++ l) (cut quad)))

pub next_quad : (before first second third last quad : ℕ) →
    bits_of 16 first ≡ after_bits (bits_of 16 before) (bits_of 8 (quad / 2 ^ 24)) →
    bits_of 16 second ≡ after_bits (bits_of 16 first) (bits_of 8 (quad / 2 ^ 16 % 2 ^ 8)) →
    bits_of 16 third ≡ after_bits (bits_of 16 second) (bits_of 8 (quad / 2 ^ 8 % 2 ^ 8)) →
    bits_of 16 last ≡ after_bits (bits_of 16 third) (bits_of 8 (quad % 2 ^ 8)) →
    bits_of 16 last ≡ after_bits (bits_of 16 before) (bits_of 32 quad)
next_quad before first second third last quad ea eb ec ed =
    let a = bits_of 8 (quad / 2 ^ 24) in
    let b = bits_of 8 (quad / 2 ^ 16 % 2 ^ 8) in
    let c = bits_of 8 (quad / 2 ^ 8 % 2 ^ 8) in
    let d = bits_of 8 (quad % 2 ^ 8) in
    let r = bits_of 16 before in
    let one : after_bits r (a ++ (b ++ (c ++ d))) ≡ after_bits (bits_of 16 first) (b ++ (c ++ d)) = after_bits-append r a (b ++ (c ++ d)) ∙ ap (λ (x : List Bool). after_bits x (b ++ (c ++ d))) (sym ea) in
    let two : after_bits (bits_of 16 first) (b ++ (c ++ d)) ≡ after_bits (bits_of 16 second) (c ++ d) = after_bits-append (bits_of 16 first) b (c ++ d) ∙ ap (λ (x : List Bool). after_bits x (c ++ d)) (sym eb) in
    let three : after_bits (bits_of 16 second) (c ++ d) ≡ after_bits (bits_of 16 third) d = after_bits-append (bits_of 16 second) c d ∙ ap (λ (x : List Bool). after_bits x d) (sym ec) in
    ed ∙ sym (ap (after_bits r) (four_bytes quad) ∙ one ∙ two ∙ three)
