-- The lines of a log, one after the other.
use Rattle.std.proofs.Common.{◌≡◌, ◌∙◌, ℕ, zero, suc, ◌+◌, ◌<◌, Bool, true, false, ◌==◌, List, [], ◌∷◌, ◌++◌, length, take, drop, refl, ap, subst, arith}
use Rattle.std.specs.Prelude.{if◌then◌else◌}
use Rattle.std.proofs.Math.Seq.{take-length}
use Rattle.memchr.specs.Find.{Nowhere, Passes, is_byte}
use Rattle.reset_log.specs.Log.{Parted, onto_first, with_byte, parted, open_lines, lines_of}

abbrev placed : Bool → ℕ → List (List ℕ) → List ℕ → Parted
placed test c lines rest =
    if test then record { lines = [] ∷ lines; open_line = rest } else onto_first c lines rest

-- a character that is no line feed goes before the first line, or before what no line feed ends
of_line : (test : Bool) (c : ℕ) (line : List ℕ) (lines : List (List ℕ)) (rest : List ℕ) → (test ≡ true → ⊥) →
    placed test c (line ∷ lines) rest ≡ record { lines = (c ∷ line) ∷ lines; open_line = rest }
of_line true c line lines rest ne = absurd (ne refl)
of_line false c line lines rest ne = refl

of_rest : (test : Bool) (c : ℕ) (rest : List ℕ) → (test ≡ true → ⊥) →
    placed test c [] rest ≡ record { lines = []; open_line = c ∷ rest }
of_rest true c rest ne = absurd (ne refl)
of_rest false c rest ne = refl

-- bytes without a line feed
no_feed : (bytes : List ℕ) (n : ℕ) → Nowhere (Passes (is_byte 10) bytes) 0 n →
    parted (take n bytes) ≡ record { lines = []; open_line = take n bytes }
unfolding parted
no_feed bytes zero none = refl
no_feed [] (suc n) none = refl
no_feed (b ∷ bytes) (suc n) none =
    ap (with_byte b) (no_feed bytes n (λ k low high is. none (suc k) (omega arith) (omega (arith, high)) is))
    ∙ of_rest (b == 10) b (take n bytes) (λ is. none 0 (omega arith) (omega arith) is)

abbrev behind : List ℕ → Parted → Parted
behind line p = record { lines = line ∷ p.lines; open_line = p.open_line }

-- bytes with a first line feed
first_feed : (bytes : List ℕ) (at : ℕ) → at < length bytes → Nowhere (Passes (is_byte 10) bytes) 0 at →
    Passes (is_byte 10) bytes at → parted bytes ≡ behind (take at bytes) (parted (drop (at + 1) bytes))
unfolding parted
first_feed [] at few none is = absurd (omega (arith, few))
first_feed (b ∷ bytes) zero few none is =
    let test : (b == 10) ≡ true = is in
    ap (λ (t : Bool). placed t b (parted bytes).lines (parted bytes).open_line) test
first_feed (b ∷ bytes) (suc at) few none is =
    let next : suc at + 1 ≡ suc (at + 1) = omega arith in
    rw next
    (ap (with_byte b) (first_feed bytes at (omega (arith, few)) (λ k low high here. none (suc k) (omega arith) (omega (arith, high)) here) is)
    ∙ of_line (b == 10) b (take at bytes) (parted (drop (at + 1) bytes)).lines (parted (drop (at + 1) bytes)).open_line (λ here. none 0 (omega arith) (omega arith) here))

abbrev all_lines : Parted → List (List ℕ)
all_lines p = p.lines ++ open_lines p.open_line

pub lines_cut : (text : List ℕ) (at : ℕ) → at < length text → Nowhere (Passes (is_byte 10) text) 0 at →
    Passes (is_byte 10) text at → lines_of text ≡ take at text ∷ lines_of (drop (at + 1) text)
lines_cut text at few none is = ap all_lines (first_feed text at few none is)

pub lines_whole : (text : List ℕ) → Nowhere (Passes (is_byte 10) text) 0 (length text) → lines_of text ≡ open_lines text
lines_whole text none =
    ap all_lines
    (subst (λ (t : List ℕ). parted t ≡ record { lines = []; open_line = t }) (take-length text) (no_feed text (length text) none))
