-- The columns of words, byte by byte.
use Rattle.std.proofs.Common.{◌≡◌, ℕ, zero, suc, ◌+◌, ◌-◌, ◌<◌, Bool, true, false, List, [], ◌∷◌, length, drop, get_or, refl, add-one, arith}
use Rattle.std.specs.Prelude.{◌&&◌, ◌==◌, not, if◌then◌else◌}
use Rattle.std.proofs.Math.Seq.{drop-cons}
use Rattle.std.proofs.lemmas.Bool.{eqb-true}
use Rattle.script_lines.specs.Words.{is_blank}
use Rattle.script_words.specs.Column.{begins}

here : (b h : Bool) (X Y : List ℕ) (at left : ℕ) → ((b && not h) && (left == 0)) ≡ true →
    get_or (if b && not h then at ∷ X else Y) left 0 ≡ at
here true false X Y at zero e = refl
here true false X Y at (suc k) e = let z : suc k ≡ 0 = eqb-true (suc k) 0 e in absurd (omega (arith, z))
here true true X Y at left e = absurd cc
here false h X Y at left e = absurd cc

behind : (b h : Bool) (X Y : List ℕ) (at left : ℕ) → (h ≡ false → X ≡ Y) →
    ((b && not h) && (left == 0)) ≡ false →
    get_or (if b && not h then at ∷ X else Y) left 0 ≡ get_or Y (if b && not h then left - 1 else left) 0
behind true false X Y at zero s e = absurd cc
behind true false X Y at (suc k) s e =
    let k-is : suc k - 1 ≡ k = omega arith in rw (k-is, s refl) refl
behind true true X Y at left s e = refl
behind false h X Y at left s e = refl

first : (line : List ℕ) (i : ℕ) → i < length line → drop i line ≡ get_or line i 0 ∷ drop (i + 1) line
first line i lt = rw add-one (drop-cons line i 0 lt)

pub column_here : (line : List ℕ) (i left : ℕ) (blank : Bool) → i < length line →
    ((blank && not (is_blank (get_or line i 0))) && (left == 0)) ≡ true →
    get_or (begins (i + 1) blank (drop i line)) left 0 ≡ i + 1
column_here line i left blank lt e =
    rw (first line i lt)
    (here blank (is_blank (get_or line i 0)) (begins (i + 1 + 1) false (drop (i + 1) line))
    (begins (i + 1 + 1) (is_blank (get_or line i 0)) (drop (i + 1) line)) (i + 1) left e)

pub column_behind : (line : List ℕ) (i left : ℕ) (blank : Bool) → i < length line →
    ((blank && not (is_blank (get_or line i 0))) && (left == 0)) ≡ false →
    get_or (begins (i + 1) blank (drop i line)) left 0
    ≡ get_or (begins (i + 1 + 1) (is_blank (get_or line i 0)) (drop (i + 1) line))
    (if blank && not (is_blank (get_or line i 0)) then left - 1 else left) 0
column_behind line i left blank lt e =
    rw (first line i lt)
    (behind blank (is_blank (get_or line i 0)) (begins (i + 1 + 1) false (drop (i + 1) line))
    (begins (i + 1 + 1) (is_blank (get_or line i 0)) (drop (i + 1) line)) (i + 1) left (λ h. rw h refl) e)
