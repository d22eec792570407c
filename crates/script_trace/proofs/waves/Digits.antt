-- Binary digits, four at a time.
use Rattle.std.proofs.Common.{◌≡◌, ℕ, suc, ◌+◌, ◌-◌, ◌*◌, ◌/◌, ◌%◌, ◌^◌, ◌<◌, ◌≤◌, List, [], ◌++◌, length, take, ◌∙◌, refl, sym, ap, subst, arith, append_assoc, append-nil}
use Rattle.std.proofs.lemmas.List.{length-append, length-drop, length-take, take_all}
use borrow.Rule.Slice.PartMut.{put_mid}
use Rattle.std.proofs.Math.Nat.{div-div-eq-div-mul, pow-suc}
use Rattle.script_trace.specs.waves.Value.{binary}

halved : (n r : ℕ) → n / 2 ^ suc r ≡ n / 2 ^ r / 2
halved n r = ap (λ (m : ℕ). n / m) (pow-suc 2 r) ∙ sym (div-div-eq-div-mul n (2 ^ r) 2)

-- the four digits above the lowest r are those of a number below 16
four-more : (r n : ℕ) →
    binary (suc (suc (suc (suc r)))) n ≡ binary 4 (n / 2 ^ r % 16) ++ binary r n
four-more r n =
    let x = n / 2 ^ r in
    let one = halved n r in
    let two = halved n (suc r) in
    let three = halved n (suc (suc r)) in
    let a : 48 + n / 2 ^ suc (suc (suc r)) % 2 ≡ 48 + x % 16 / 8 % 2 = omega (arith, one, two, three) in
    let b : 48 + n / 2 ^ suc (suc r) % 2 ≡ 48 + x % 16 / 4 % 2 = omega (arith, one, two) in
    let c : 48 + n / 2 ^ suc r % 2 ≡ 48 + x % 16 / 2 % 2 = omega (arith, one) in
    let d : 48 + x % 2 ≡ 48 + x % 16 / 1 % 2 = omega arith in
    rw (a, b, c, d) refl

-- four digits more, and those that are left
pub next-four :
    (p n : ℕ) (before after four whole : List ℕ) → p < 8 → four ≡ binary 4 (n / 2 ^ (28 - 4 * p) % 16) →
    after ≡ before ++ four → before ++ binary (32 - 4 * p) n ≡ whole →
    after ++ binary (32 - 4 * (p + 1)) n ≡ whole
next-four p n before after four whole few is new so =
    let r = 32 - 4 * (p + 1) in
    let here : 32 - 4 * p ≡ suc (suc (suc (suc r))) = omega arith in
    let place : 28 - 4 * p ≡ r = omega arith in
    ap (λ (l : List ℕ). l ++ binary r n) (new ∙ ap (λ (l : List ℕ). before ++ l) is)
    ∙ ap (λ (k : ℕ). before ++ binary 4 (n / 2 ^ k % 16) ++ binary r n) place
    ∙ append_assoc before (binary 4 (n / 2 ^ r % 16)) (binary r n)
    ∙ ap (λ (l : List ℕ). before ++ l) (sym (four-more r n))
    ∙ ap (λ (k : ℕ). before ++ binary k n) (sym here) ∙ so

pub all-four :
    (p n : ℕ) (text : List ℕ) → p ≡ 8 → length text ≡ 32 →
    take (4 * p) text ++ binary (32 - 4 * p) n ≡ binary 32 n → text ≡ binary 32 n
all-four p n text all long so =
    let is : take 32 text ++ [] ≡ binary 32 n =
    subst (λ (q : ℕ). take (4 * q) text ++ binary (32 - 4 * q) n ≡ binary 32 n) all so in
    sym (append-nil (take 32 text) ∙ take_all 32 text (omega (arith, long))) ∙ is

-- a list in which a part was written is as long as before
pub written-length :
    (a k : ℕ) (xs ys : List ℕ) → a + k ≤ length xs → length ys ≡ k → length (put_mid a k xs ys) ≡ length xs
written-length a k xs ys room whole =
    simp (length-append, length-take, length-drop) (omega (arith, room, whole))
