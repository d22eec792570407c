-- Shifting divides.
use Rattle.std.proofs.Common.{◌≡◌, ℕ, ◌+◌, ◌<◌, ◌≤◌, ◌^◌, Bool, true, false, List, [], ◌∷◌, ◌++◌, length, get_or, take, drop, drop-cons, add-one, replicate, refl, sym, ap, ◌∙◌, arith, append_assoc, length-append}
use Rattle.std.proofs.Math.ListN.{drop_of_length-le}
use Rattle.std.proofs.lemmas.List.{length-replicate, append-nil, replicate-append-replicate, length-take-le, take-append-drop, append_cancel_left}
use Rattle.topology_map.specs.Crc.{xor, plus, times_bit, divisor, below_x16, multiple, bits_of, quad_bits, IsCrc}
use Rattle.topology_map.specs.codings.Register.{after_bit, after_bits}
use Rattle.topology_map.proofs.Plus.{plus_assoc, plus_comm, plus_same, plus_twice, length-plus, plus-append, plus_zeros, length-times_bit}
use Rattle.topology_map.proofs.Bits.{length-bits_of, zero_bits, same_number}

-- the quotient of a division
abbrev pub quotient : List Bool → List Bool → List Bool
quotient r [] = []
quotient [] (b ∷ bs) = false ∷ quotient [] bs
quotient (top ∷ low) (b ∷ bs) = xor top b ∷ quotient (after_bit (top ∷ low) b) bs

pub length-quotient : (r bs : List Bool) → length (quotient r bs) ≡ length bs
length-quotient r [] = refl
length-quotient [] (b ∷ bs) = omega (arith, length-quotient [] bs)
length-quotient (top ∷ low) (b ∷ bs) = omega (arith, length-quotient (after_bit (top ∷ low) b) bs)

-- the register keeps its sixteen bits
pub length-after_bit : (r : List Bool) (b : Bool) → length r ≡ 16 → length (after_bit r b) ≡ 16
length-after_bit [] b e = absurd (omega (arith, e))
length-after_bit (top ∷ low) b e =
    let long : length (low ++ false ∷ []) ≡ 16 = rw length-append (omega (arith, e)) in
    let same : length (low ++ false ∷ []) ≡ length (times_bit (xor top b) below_x16) = long ∙ sym (length-times_bit (xor top b) below_x16) in
    length-plus _ _ same ∙ long

pub length-after_bits : (r bs : List Bool) → length r ≡ 16 → length (after_bits r bs) ≡ 16
length-after_bits r [] e = e
length-after_bits r (b ∷ bs) e = length-after_bits (after_bit r b) bs (length-after_bit r b e)

-- the leading bit of a multiple, and the rest of it
multiple_more : (b : Bool) (m : List Bool) →
    multiple (b ∷ m) ≡ b ∷ plus (times_bit b below_x16 ++ replicate (length m) false) (multiple m)
unfolding multiple
multiple_more true m = refl
multiple_more false m = refl

-- the register shifted by one bit and by the others, in one sum
one_more : (low : List Bool) (t : Bool) (z x : List Bool) → length low ≡ 15 →
    plus (times_bit t below_x16 ++ z) (plus (plus (low ++ false ∷ []) (times_bit t below_x16) ++ z) x) ≡ plus ((low ++ false ∷ []) ++ plus z z) x
one_more low t z x e =
    let s = times_bit t below_x16 in
    let r = low ++ false ∷ [] in
    let long : length r ≡ 16 = rw length-append (omega (arith, e)) in
    let long' : length s ≡ 16 = length-times_bit t below_x16 in
    let same : length s ≡ length (plus r s) = long' ∙ sym (length-plus r s (long ∙ sym long') ∙ long) in
    let back : plus s (plus r s) ≡ r = ap (plus s) (plus_comm r s) ∙ plus_twice s r (long' ∙ sym long) in
    sym (plus_assoc (s ++ z) (plus r s ++ z) x)
    ∙ ap (λ (p : List Bool). plus p x) (plus-append s z (plus r s) z same ∙ ap (λ (p : List Bool). p ++ plus z z) back)

-- with what is left in place of the zeros, the bits are a multiple of the divisor
pub divides : (r bs : List Bool) → length r ≡ 16 →
    plus (r ++ replicate (length bs) false) (bs ++ after_bits r bs) ≡ multiple (quotient r bs)
unfolding multiple
divides r [] e = rw append-nil (plus_same r ∙ rw e refl)
divides [] (b ∷ bs) e = absurd (omega (arith, e))
divides (top ∷ low) (b ∷ bs) e =
    let t = xor top b in
    let next = after_bit (top ∷ low) b in
    let z : List Bool = replicate (length bs) false in
    let x = bs ++ after_bits next bs in
    let short : length low ≡ 15 = omega (arith, e) in
    let rest : multiple (quotient next bs) ≡ plus (next ++ z) x = sym (divides next bs (length-after_bit (top ∷ low) b e)) in
    let zz : plus z z ≡ z = plus_same z ∙ ap (λ (n : ℕ). replicate n false) (length-replicate (length bs) false) in
    let q = quotient next bs in
    let left : plus (low ++ false ∷ z) x ≡ plus ((low ++ false ∷ []) ++ z) x = ap (λ (p : List Bool). plus p x) (sym (append_assoc low (false ∷ []) z)) in
    let right : multiple (t ∷ q) ≡ t ∷ plus (times_bit t below_x16 ++ z) (plus (next ++ z) x)
    = multiple_more t q ∙ ap (λ (p : List Bool). t ∷ p) (ap (λ (n : ℕ). plus (times_bit t below_x16 ++ replicate n false) (multiple q)) (length-quotient next bs) ∙ ap (plus (times_bit t below_x16 ++ z)) rest) in
    ap (λ (p : List Bool). t ∷ p) (left ∙ sym (one_more low t z x short ∙ ap (λ (w : List Bool). plus ((low ++ false ∷ []) ++ w) x) zz)) ∙ sym right

length-multiple : (m : List Bool) → length (multiple m) ≡ length m + 16
unfolding multiple
length-multiple [] = refl
length-multiple (b ∷ m) =
    let long : length (times_bit b divisor ++ replicate (length m) false) ≡ length m + 17
    = length-append (times_bit b divisor) (replicate (length m) false) ∙ (rw (length-times_bit b divisor, length-replicate (length m) false) (omega arith)) in
    let same : length (times_bit b divisor ++ replicate (length m) false) ≡ length (false ∷ multiple m) = long ∙ (omega (arith, length-multiple m)) in
    length-plus (times_bit b divisor ++ replicate (length m) false) (false ∷ multiple m) same ∙ (long ∙ omega arith)

pub after_bits-append : (r p q : List Bool) → after_bits r (p ++ q) ≡ after_bits (after_bits r p) q
after_bits-append r [] q = refl
after_bits-append r (b ∷ p) q = after_bits-append (after_bit r b) p q

-- what the register holds in the end is the remainder
pub remainder : (quads : List ℕ) (crc : ℕ) → crc < 2 ^ 16 →
    bits_of 16 crc ≡ after_bits (bits_of 16 0) (quad_bits quads) → IsCrc quads crc
remainder quads crc fits e =
    let zero_long : length (bits_of 16 0) ≡ 16 = length-bits_of 16 0 in
    let p = quad_bits quads in
    let s = after_bits (bits_of 16 0) p in
    let long : length (p ++ s) ≡ 16 + length p = length-append p s ∙ (rw (length-after_bits (bits_of 16 0) p zero_long) (omega arith)) in
    let nothing : bits_of 16 0 ++ replicate (length p) false ≡ replicate (16 + length p) false
    = ap (λ (l : List Bool). l ++ replicate (length p) false) zero_bits ∙ replicate-append-replicate 16 (length p) false in
    record {
      degree = fits;
      quotient = quotient (bits_of 16 0) p;
      division = ap (λ (l : List Bool). p ++ l) e ∙ sym (plus_zeros (16 + length p) (p ++ s) long) ∙ ap (λ (l : List Bool). plus l (p ++ s)) (sym nothing) ∙ divides (bits_of 16 0) p zero_long;
    }

-- ---- a division has one quotient, and so one remainder

-- what follows the leading bit of a multiple
abbrev added : Bool → List Bool → List Bool
added b m = times_bit b below_x16 ++ replicate (length m) false

length-added : (b : Bool) (m : List Bool) → length (added b m) ≡ length m + 16
length-added b m = length-append (times_bit b below_x16) (replicate (length m) false) ∙ (rw (length-times_bit b below_x16, length-replicate (length m) false) (omega arith))

-- a multiple that begins with given bits, without its leading bit
less : (b x : Bool) (m bits low : List Bool) → (x ∷ bits) ++ low ≡ multiple (b ∷ m) →
    (x ≡ b) × (bits ++ low ≡ plus (added b m) (multiple m))
less b x m bits low e =
    let whole : x ∷ (bits ++ low) ≡ b ∷ plus (added b m) (multiple m) = e ∙ multiple_more b m in
    (cc, cc)

-- the sum of what follows with a list that begins with given bits
begins : (t bits low : List Bool) → length bits ≤ length t →
    plus t (bits ++ low) ≡ plus (take (length bits) t) bits ++ plus (drop (length bits) t) low
begins t bits low le =
    let long : length (take (length bits) t) ≡ length bits = length-take-le (length bits) t le in
    ap (λ (l : List Bool). plus l (bits ++ low)) (sym (take-append-drop (length bits) t)) ∙ plus-append _ _ bits low long

one_quotient : (p q bits low low' : List Bool) → length p ≡ length bits → length q ≡ length bits →
    bits ++ low ≡ multiple p → bits ++ low' ≡ multiple q → p ≡ q
one_quotient [] [] bits low low' lp lq ep eq = refl
one_quotient (a ∷ p) (b ∷ q) (x ∷ bits) low low' lp lq ep eq =
    let hp = less a x p bits low ep in
    let hq = less b x q bits low' eq in
    let lp' : length p ≡ length bits = omega (arith, lp) in
    let lq' : length q ≡ length bits = omega (arith, lq) in
    let same : b ≡ a = sym hq.0 ∙ hp.0 in
    let t = added a p in
    let t_is : added b q ≡ t = ap (λ (c : Bool). added c q) same ∙ ap (λ (n : ℕ). times_bit a below_x16 ++ replicate n false) (lq' ∙ sym lp') in
    let room : length bits ≤ length t = omega (arith, length-added a p) in
    let next = plus (take (length bits) t) bits in
    let long : length next ≡ length bits = length-plus (take (length bits) t) bits (length-take-le (length bits) t room) ∙ length-take-le (length bits) t room in
    let wide_p : length t ≡ length (multiple p) = length-added a p ∙ sym (length-multiple p) in
    let wide_q : length t ≡ length (multiple q) = length-added a p ∙ (omega (arith, length-multiple q)) in
    let ep' : next ++ plus (drop (length bits) t) low ≡ multiple p
    = sym (begins t bits low room) ∙ ap (plus t) hp.1 ∙ plus_twice t (multiple p) wide_p in
    let eq' : next ++ plus (drop (length bits) t) low' ≡ multiple q
    = sym (begins t bits low' room) ∙ ap (plus t) (hq.1 ∙ ap (λ (l : List Bool). plus l (multiple q)) t_is) ∙ plus_twice t (multiple q) wide_q in
    let rest : p ≡ q = one_quotient p q next (plus (drop (length bits) t) low) (plus (drop (length bits) t) low') (lp' ∙ sym long) (lq' ∙ sym long) ep' eq' in
    ap (λ (c : Bool). c ∷ p) (sym same) ∙ ap (λ (m : List Bool). b ∷ m) rest
one_quotient [] (b ∷ q) bits low low' lp lq ep eq = absurd (omega (arith, lp, lq))
one_quotient (a ∷ p) [] bits low low' lp lq ep eq = absurd (omega (arith, lp, lq))
one_quotient (a ∷ p) (b ∷ q) [] low low' lp lq ep eq = absurd (omega (arith, lp))

quotient_long : (quads : List ℕ) (crc : ℕ) (h : IsCrc quads crc) →
    length h.quotient ≡ length (quad_bits quads)
quotient_long quads crc h =
    let e : length (quad_bits quads ++ bits_of 16 crc) ≡ length (multiple h.quotient) = ap length h.division in
    omega (arith, e, length-append (quad_bits quads) (bits_of 16 crc), length-bits_of 16 crc, length-multiple h.quotient)

pub one_crc : (quads : List ℕ) (x y : ℕ) → IsCrc quads x → IsCrc quads y → x ≡ y
one_crc quads x y hx hy =
    let bits = quad_bits quads in
    let same : hx.quotient ≡ hy.quotient
    = one_quotient hx.quotient hy.quotient bits (bits_of 16 x) (bits_of 16 y) (quotient_long quads x hx) (quotient_long quads y hy) hx.division hy.division in
    let whole : bits ++ bits_of 16 x ≡ bits ++ bits_of 16 y = hx.division ∙ ap multiple same ∙ sym hy.division in
    same_number 16 x y hx.degree hy.degree (append_cancel_left bits (bits_of 16 x) (bits_of 16 y) whole)

-- ---- quadlet by quadlet

pub next_quad : (quads : List ℕ) (i crc next : ℕ) → i < length quads →
    bits_of 16 next ≡ after_bits (bits_of 16 crc) (bits_of 32 (get_or quads i 0)) →
    after_bits (bits_of 16 next) (quad_bits (drop (i + 1) quads)) ≡ after_bits (bits_of 16 crc) (quad_bits (drop i quads))
next_quad quads i crc next lt e =
    let parts : drop i quads ≡ get_or quads i 0 ∷ drop (i + 1) quads = rw (add-one, drop-cons quads i 0 lt) refl in
    ap (λ (r : List Bool). after_bits r (quad_bits (drop (i + 1) quads))) e
    ∙ sym (after_bits-append (bits_of 16 crc) (bits_of 32 (get_or quads i 0)) (quad_bits (drop (i + 1) quads)))
    ∙ ap (λ (l : List ℕ). after_bits (bits_of 16 crc) (quad_bits l)) (sym parts)

pub all_quads : (quads : List ℕ) (i crc : ℕ) → length quads ≤ i → crc < 2 ^ 16 →
    after_bits (bits_of 16 crc) (quad_bits (drop i quads)) ≡ after_bits (bits_of 16 0) (quad_bits quads) →
    IsCrc quads crc
all_quads quads i crc le fits e =
    remainder quads crc fits (ap (λ (l : List ℕ). after_bits (bits_of 16 crc) (quad_bits l)) (sym (drop_of_length-le quads le)) ∙ e)
