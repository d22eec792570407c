-- A log and its lines, as a reader goes over it.
use Rattle.std.proofs.Common.{◌≡◌, ◌∙◌, ℕ, zero, suc, ◌+◌, ◌-◌, ◌<◌, ◌≤◌, Bool, true, false, ◌==◌, List, [], ◌∷◌, ◌++◌, length, take, drop, refl, sym, ap, append_assoc, length-append, take-take, arith}
use Rattle.std.specs.Prelude.{if◌then◌else◌}
use Rattle.std.proofs.lemmas.Bool.Decides.{nat_tests}
use Rattle.memchr.specs.Find.{Nowhere, Passes, is_byte}
use Rattle.log_line.specs.Line.{line_of}
use Rattle.reset_log.specs.Log.{Parted, onto_first, with_byte, parted}
use Rattle.reset_log.specs.codings.Going.{IsOneLine}

-- ---- more bytes

abbrev closed : Parted → Parted
closed p = record { lines = p.lines ++ p.open_line ∷ []; open_line = [] }

abbrev longer : List ℕ → Parted → Parted
longer bytes p = record { lines = p.lines; open_line = p.open_line ++ bytes }

abbrev placed : Bool → ℕ → List (List ℕ) → List ℕ → Parted
placed test c lines rest =
    if test then record { lines = [] ∷ lines; open_line = rest } else onto_first c lines rest

closed-placed : (test : Bool) (c : ℕ) (lines : List (List ℕ)) (rest : List ℕ) →
    placed test c (lines ++ rest ∷ []) [] ≡ closed (placed test c lines rest)
closed-placed true c lines rest = refl
closed-placed false c [] rest = refl
closed-placed false c (l ∷ lines) rest = refl

longer-placed : (test : Bool) (bytes : List ℕ) (c : ℕ) (lines : List (List ℕ)) (rest : List ℕ) →
    placed test c lines (rest ++ bytes) ≡ longer bytes (placed test c lines rest)
longer-placed true bytes c lines rest = refl
longer-placed false bytes c [] rest = refl
longer-placed false bytes c (l ∷ lines) rest = refl

pub ends_line : (done : List ℕ) → parted (done ++ 10 ∷ []) ≡ closed (parted done)
unfolding parted
ends_line [] = refl
ends_line (c ∷ cs) =
    ap (with_byte c) (ends_line cs)
    ∙ closed-placed (c == 10) c (parted cs).lines (parted cs).open_line

-- bytes without a line feed
pub goes_on : (done bytes : List ℕ) → IsOneLine bytes →
    parted (done ++ bytes) ≡ longer bytes (parted done)
unfolding parted
goes_on [] bytes one = one
goes_on (c ∷ cs) bytes one =
    ap (with_byte c) (goes_on cs bytes one)
    ∙ longer-placed (c == 10) bytes c (parted cs).lines (parted cs).open_line

first_byte : (test : Bool) (b : ℕ) (bytes : List ℕ) → (test ≡ true → ⊥) →
    placed test b [] bytes ≡ record { lines = []; open_line = b ∷ bytes }
first_byte true b bytes ne = absurd (ne refl)
first_byte false b bytes ne = refl

-- bytes up to the first line feed
pub one_line : (bytes : List ℕ) (n : ℕ) → Nowhere (Passes (is_byte 10) bytes) 0 n →
    IsOneLine (take n bytes)
unfolding parted
one_line bytes zero none = refl
one_line [] (suc n) none = refl
one_line (b ∷ bytes) (suc n) none =
    ap (with_byte b) (one_line bytes n (λ k low high is. none (suc k) (omega arith) (omega (arith, high)) is))
    ∙ first_byte (b == 10) b (take n bytes) (λ is. none 0 (omega arith) (omega arith) is)

-- a text is parted by its first line feed
pub cut_at : (bytes : List ℕ) (at : ℕ) → at < length bytes → Passes (is_byte 10) bytes at →
    bytes ≡ take at bytes ++ 10 ∷ drop (at + 1) bytes
cut_at [] at few is = absurd (omega (arith, few))
cut_at (b ∷ bytes) zero few is =
    let test : (b == 10) ≡ true = is in
    let feed : b ≡ 10 = grind (arith, nat_tests) in
    ap (λ (x : ℕ). x ∷ bytes) feed
cut_at (b ∷ bytes) (suc at) few is =
    let next : suc at + 1 ≡ suc (at + 1) = omega arith in
    rw next (ap (λ (l : List ℕ). b ∷ l) (cut_at bytes at (omega (arith, few)) is))

-- ---- bytes that were taken, and a line behind them

pub took_on : (bytes took rest line behind : List ℕ) → bytes ≡ took ++ rest →
    rest ≡ line ++ 10 ∷ behind → bytes ≡ (took ++ (line ++ 10 ∷ [])) ++ behind
took_on bytes took rest line behind e f =
    e ∙ ap (λ (l : List ℕ). took ++ l) (f ∙ sym (append_assoc line (10 ∷ []) behind))
    ∙ sym (append_assoc took (line ++ 10 ∷ []) behind)

pub few_left : (rest line behind : List ℕ) → rest ≡ line ++ 10 ∷ behind → length behind < length rest
few_left rest line behind e =
    let size : length rest ≡ length line + suc (length behind) = ap (λ (l : List ℕ). length l) e ∙ length-append line (10 ∷ behind) in
    omega (arith, size)

-- there is room for what is left
pub few_on : (done bytes took rest : List ℕ) → bytes ≡ took ++ rest →
    length done + length bytes ≤ 9223372036854775807 →
    length (done ++ took) + length rest ≤ 9223372036854775807
few_on done bytes took rest e few =
    let size : length bytes ≡ length took + length rest = ap (λ (l : List ℕ). length l) e ∙ length-append took rest in
    omega (arith, length-append done took, size, few)

pub few_next : (done bytes took rest line behind : List ℕ) → bytes ≡ took ++ rest →
    rest ≡ line ++ 10 ∷ behind → length done + length bytes ≤ 9223372036854775807 →
    length (done ++ took) + length line < 9223372036854775807
few_next done bytes took rest line behind e f few =
    let size : length rest ≡ length line + suc (length behind) = ap (λ (l : List ℕ). length l) f ∙ length-append line (10 ∷ behind) in
    omega (arith, few_on done bytes took rest e few, size)

-- ---- no more lines than bytes

few-placed : (test : Bool) (c n : ℕ) (lines : List (List ℕ)) (rest : List ℕ) → length lines ≤ n →
    length (placed test c lines rest).lines ≤ n + 1
few-placed true c n lines rest h = omega (arith, h)
few-placed false c n [] rest h = omega arith
few-placed false c n (l ∷ lines) rest h = omega (arith, h)

pub few_lines : (done : List ℕ) → length (parted done).lines ≤ length done
unfolding parted
few_lines [] = omega arith
few_lines (c ∷ cs) =
    let h = few-placed (c == 10) c (length cs) (parted cs).lines (parted cs).open_line (few_lines cs) in
    omega (arith, h)

-- ---- the first bytes of a line

pub same_line : (xs : List ℕ) → line_of (take 65536 xs) ≡ line_of xs
unfolding line_of
same_line xs = rw (take-take 65536 65536 xs (omega arith)) refl

take_joined : (n : ℕ) (xs ys : List ℕ) →
    take n xs ++ take (n - length (take n xs)) ys ≡ take n (xs ++ ys)
take_joined zero xs ys = refl
take_joined (suc n) [] ys = let all : suc n - 0 ≡ suc n = omega arith in ap (λ (m : ℕ). take m ys) all
take_joined (suc n) (x ∷ xs) ys =
    let less : suc n - suc (length (take n xs)) ≡ n - length (take n xs) = omega arith in
    ap (λ (l : List ℕ). x ∷ l) (ap (λ (m : ℕ). take n xs ++ take m ys) less ∙ take_joined n xs ys)

-- what is kept of a line, and of bytes behind it
pub kept_on : (n : ℕ) (kept line bytes : List ℕ) → kept ≡ take n line →
    kept ++ take (n - length kept) bytes ≡ take n (line ++ bytes)
kept_on n kept line bytes e =
    ap (λ (k : List ℕ). k ++ take (n - length k) bytes) e ∙ take_joined n line bytes
