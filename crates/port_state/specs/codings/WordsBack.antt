-- The words of ports by the ports: what a list of views was kept in. No public contract cites this
-- file.
use Rattle.std.proofs.Common.{◌≡◌, ℕ, zero, suc, ◌+◌, ◌*◌, ◌/◌, ◌%◌, ◌^◌, ◌<◌, Bool, true, false, ◌==◌, cond, List, [], ◌∷◌, length, map, refl, sym, ◌∙◌, ap, arith}
use Rattle.std.specs.List.{range_with_len}
use Rattle.std.proofs.lemmas.Bool.{eqb-true, eqb-false}
use Rattle.std.proofs.lemmas.List.{length-map}
use Rattle.std.proofs.lemmas.List.FromFn.{length-range_with_len}
use Rattle.std.proofs.Math.Nat.{div-div-eq-div-mul, pow-suc, div-add-mod}
use lib.Lanes.{mask_l}
use Rattle.port_state.specs.declared.ports.PortView.{PortView}
use Rattle.port_state.specs.declared.port_words.Words.{Words}
use Rattle.port_state.specs.declared.ports.PortViews.TheInside.{Inside}
use Rattle.port_state.specs.codings.PortWords.{has_bit, level_high, level_low, level_of_bits, port_at, ports_of, all_ports, FitsPorts}

-- the words that say this of ports
abbrev pub words_of : List PortView → Words
words_of ports = record {
  connected = mask_l (map (λ p. p.connected) ports);
  high = mask_l (map (λ p. level_high p.shown) ports);
  low = mask_l (map (λ p. level_low p.shown) ports);
  child = mask_l (map (λ p. p.child) ports);
  asked = mask_l (map (λ p. p.asked) ports);
  named = mask_l (map (λ p. p.named) ports);
}

abbrev pub inside_of : List PortView → Inside
inside_of ports = record {
  count = length ports;
  words = words_of ports;
  views = all_ports (words_of ports);
}

-- ---- a word and its bits

half : (word a x : ℕ) → x ≡ word / 2 ^ a → x / 2 ≡ word / 2 ^ (a + 1)
half word a x e = ap (λ n. n / 2) e ∙ div-div-eq-div-mul word (2 ^ a) 2 ∙ ap (λ n. word / n) (sym (pow-suc 2 a) ∙ (let s : suc a ≡ a + 1 = omega arith in ap (λ n. 2 ^ n) s))

bit-and-rest : (x : ℕ) → cond (x % 2 == 1) 1 0 + 2 * (x / 2) ≡ x
bit-and-rest x = go (x % 2 == 1) refl
  where
    go : (b : Bool) → (x % 2 == 1) ≡ b → cond b 1 0 + 2 * (x / 2) ≡ x
    go true e = let odd = eqb-true (x % 2) 1 e in omega (arith, div-add-mod x 2)
    go false e = let even = eqb-false (x % 2) 1 e in omega (arith, div-add-mod x 2)

mask-bits :
    (word n a x : ℕ) → x ≡ word / 2 ^ a → x < 2 ^ n →
    mask_l (map (has_bit word) (range_with_len a n)) ≡ x
mask-bits word zero a x e h = omega arith
mask-bits word (suc n) a x e h =
    let rest : mask_l (map (has_bit word) (range_with_len (a + 1) n)) ≡ x / 2 = mask-bits word n (a + 1) (x / 2) (half word a x e) (omega (arith, pow-suc 2 n)) in
    ap (λ m. cond (has_bit word a) 1 0 + 2 * m) rest ∙ ap (λ y. cond (y % 2 == 1) 1 0 + 2 * (x / 2)) (sym e) ∙ bit-and-rest x

mask-tests :
    (test : PortView → Bool) (w : Words) (word : ℕ) →
    ((k : ℕ) → has_bit word k ≡ test (port_at w k)) → (ks : List ℕ) →
    map test (map (port_at w) ks) ≡ map (has_bit word) ks
mask-tests test w word h [] = refl
mask-tests test w word h (k ∷ ks) = rw (h k, mask-tests test w word h ks) refl

-- a word whose bits are a test of each port
pub mask-ports :
    (test : PortView → Bool) (w : Words) (count word : ℕ) → word < 2 ^ count →
    ((k : ℕ) → has_bit word k ≡ test (port_at w k)) → mask_l (map test (ports_of count w)) ≡ word
mask-ports test w count word fits h =
    ap mask_l (mask-tests test w word h (range_with_len 0 count))
    ∙ mask-bits word count 0 word (let e : word ≡ word / 2 ^ 0 = omega arith in e) fits

-- ---- the words again

high-bit : (h l : Bool) → h ≡ level_high (level_of_bits h l)
high-bit true true = refl
high-bit true false = refl
high-bit false true = refl
high-bit false false = refl

low-bit : (h l : Bool) → l ≡ level_low (level_of_bits h l)
low-bit true true = refl
low-bit true false = refl
low-bit false true = refl
low-bit false false = refl

words-back : (count : ℕ) (w : Words) → FitsPorts count w → words_of (ports_of count w) ≡ w
words-back count w f = rw (
  mask-ports (λ p. p.connected) w count w.connected f.connected (λ k. refl),
  mask-ports (λ p. level_high p.shown) w count w.high f.high (λ k. high-bit (has_bit w.high k) (has_bit w.low k)),
  mask-ports (λ p. level_low p.shown) w count w.low f.low (λ k. low-bit (has_bit w.high k) (has_bit w.low k)),
  mask-ports (λ p. p.child) w count w.child f.child (λ k. refl),
  mask-ports (λ p. p.asked) w count w.asked f.asked (λ k. refl),
  mask-ports (λ p. p.named) w count w.named f.named (λ k. refl),
) refl

pub inside-back :
    (a : Inside) → FitsPorts a.count a.words → a.views ≡ all_ports a.words →
    inside_of (ports_of a.count a.words) ≡ a
inside-back a f v = rw (length-map (range_with_len 0 a.count) (port_at a.words), length-range_with_len 0 a.count, words-back a.count a.words f, ← v) refl
