use Rattle.std.proofs.Common.{◌≡◌, ℕ, ◌^◌, ◌<◌, Bool, true, false, not, ◌&&◌, ◌||◌, ◌==◌, nat_lt, refl, sym, ◌∙◌, ap, arith, bit_or}
use Rattle.std.proofs.lemmas.Bool.{eqb-true, and_right}
use Rattle.std.proofs.lemmas.Nat.{or_lt}
use Rattle.std.proofs.lemmas.Nat.Bits.{bit_at-zero}
use Rattle.port_state.specs.declared.port_words.Words.{Words}
use Rattle.port_state.specs.Entry.{without_marks}
use Rattle.port_state.specs.codings.PortWords.{has_bit, port_at}
use Rattle.port_state.proofs.WordBits.{has_bit-or}
use Rattle.port_state.proofs.PortBits.{no-ports}
use Rattle.port_state.proofs.port_words.Words.has_marks.Goals as goal

-- which ports have a mark
abbrev marks : Words → ℕ
marks w = bit_or (bit_or w.child w.asked) w.named

mark-bit :
    (w : Words) (k : ℕ) →
    has_bit (marks w) k ≡ ((has_bit w.child k || has_bit w.asked k) || has_bit w.named k)
mark-bit w k =
    has_bit-or (bit_or w.child w.asked) w.named k
    ∙ ap (λ b. b || has_bit w.named k) (has_bit-or w.child w.asked k)

none-of :
    (a b c : Bool) → ((a || b) || c) ≡ false → (a ≡ false) × (b ≡ false) × (c ≡ false)
none-of true b c e = absurd cc
none-of false true c e = absurd cc
none-of false false true e = absurd cc
none-of false false false e = (refl, refl, refl)

unmarked :
    (w : Words) (k : ℕ) → has_bit (marks w) k ≡ false → without_marks (port_at w k) ≡ port_at w k
unmarked w k e =
    let none : (has_bit w.child k ≡ false) × (has_bit w.asked k ≡ false) × (has_bit w.named k ≡ false) =
    none-of (has_bit w.child k) (has_bit w.asked k) (has_bit w.named k) (sym (mark-bit w k) ∙ e) in
    rw (none.0, none.1, none.2) refl

no-mark :
    (w : Words) (k : ℕ) → without_marks (port_at w k) ≡ port_at w k → has_bit (marks w) k ≡ false
no-mark w k e =
    let child : has_bit w.child k ≡ false = sym (ap (λ p. p.child) e) in
    let asked : has_bit w.asked k ≡ false = sym (ap (λ p. p.asked) e) in
    let named : has_bit w.named k ≡ false = sym (ap (λ p. p.named) e) in
    mark-bit w k ∙ rw (child, asked, named) refl

is-none : (b : Bool) → not b ≡ false → b ≡ true
is-none true e = refl
is-none false e = absurd cc

no-bit : (n k : ℕ) → (n == 0) ≡ true → has_bit n k ≡ false
no-bit n k e = ap (λ m. has_bit m k) (eqb-true n 0 e) ∙ ap (λ b. b == 1) (bit_at-zero k)

pub returns : goal.returns
returns c =
    let w = c.args.self.now in
    let some : bit_or w.child w.asked < 2 ^ 16 = or_lt 16 w.child w.asked (omega arith) (omega arith) in
    let small : marks w < 2 ^ 16 = or_lt 16 (bit_or w.child w.asked) w.named some (omega arith) in (
      λ e k. unmarked w k (no-bit (marks w) k (is-none (marks w == 0) e)),
      λ h. ap not ((no-ports (marks w) small).1 (λ k. ap (λ b. nat_lt k 16 && b) (no-mark w k (h k)) ∙ and_right (nat_lt k 16) false refl)),
    )
