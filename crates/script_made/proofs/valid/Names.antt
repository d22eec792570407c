-- The names of a made script: each node has another one, and is found by it.
use Rattle.std.proofs.Common.{◌≡◌, ◌≢◌, ◌∙◌, ℕ, ◌<◌, ◌≤◌, Bool, true, false, List, [], ◌∷◌, length, get_or, drop, decimal, Some, refl, sym, ap, arith}
use Rattle.std.proofs.lemmas.Bool.Decides.{nat_tests}
use Rattle.std.proofs.lemmas.Fmt.{decimal_is_IsNumeral}
use Rattle.std.proofs.lemmas.List.Folds.{list_any_none}
use Rattle.std.proofs.lemmas.List.Sums.{position_or_len_is}
use Rattle.std.proofs.lemmas.Slice.Eq.{bytes_eq-Decides}
use Rattle.std.specs.Prelude.{nat_lt, position}
use Rattle.std.specs.List.{list_any, position_or_len}
use Rattle.std.specs.Str.{bytes_eq}
use Rattle.std.specs.Str.Parse.{digits_value_after}
use Rattle.script_text.specs.ReportText.{numbered}
use Rattle.script_made.specs.Made.{for_each}
use Rattle.script_made.specs.MadeRead.{made_name}
use Rattle.script_made.proofs.MadeLines.{length-each, at-each}

-- the names of the first so many nodes
abbrev pub names_below : ℕ → List (List ℕ)
names_below n = for_each n (λ k. made_name k ∷ [])

pub length-names : (n : ℕ) → length (names_below n) ≡ n
length-names n = length-each n made_name

-- ---- no name stands for two numbers

same-number : (j k : ℕ) → j ≤ 62 → k ≤ 62 → decimal j ≡ decimal k → j ≡ k
same-number j k few many same =
    sym (decimal_is_IsNumeral j (omega (arith, few))).1
    ∙ (ap (digits_value_after 10 0) same ∙ (decimal_is_IsNumeral k (omega (arith, many))).1)

same-name : (j k : ℕ) → j ≤ 62 → k ≤ 62 → made_name j ≡ made_name k → j ≡ k
unfolding numbered
same-name j k few many same = same-number j k few many (ap (drop 1) same)

passes : (k : ℕ) → bytes_eq (made_name k) (made_name k) ≡ true
passes k = (bytes_eq-Decides (made_name k) (made_name k)).1 refl

fails : (j k : ℕ) → j ≤ 62 → k ≤ 62 → j ≢ k → bytes_eq (made_name j) (made_name k) ≡ false
fails j k few many other =
    go (bytes_eq (made_name j) (made_name k)) (bytes_eq-Decides (made_name j) (made_name k)).0
  where
    go : (b : Bool) → (b ≡ true → made_name j ≡ made_name k) → b ≡ false
    go true same = absurd (other (same-name j k few many (same refl)))
    go false same = refl

-- ---- among the names of nodes

name-at : (n k : ℕ) (d : List ℕ) → k < n → get_or (names_below n) k d ≡ made_name k
name-at n k d inside = at-each n k made_name d inside

-- the next name is new
pub is-new : (n : ℕ) → n ≤ 62 → list_any (bytes_eq (made_name n)) (names_below n) ≡ false
is-new n few =
    list_any_none (bytes_eq (made_name n)) (names_below n) (λ k d inside.
    let less : k < n = omega (arith, inside, length-names n) in
    ap (bytes_eq (made_name n)) (name-at n k d less)
    ∙ fails n k few (omega (arith, less, few)) (λ same. absurd (omega (arith, less, same))))

-- a name leads to its node
pub is-found : (n k : ℕ) → n ≤ 63 → k < n →
    position (bytes_eq (made_name k)) (names_below n) ≡ Some k
is-found n k few less =
    let test : List ℕ → Bool = bytes_eq (made_name k) in
    let count : length (names_below n) ≡ n = length-names n in
    let before : (j : ℕ) → j < k → test (get_or (names_below n) j []) ≡ false = λ j below.
    ap test (name-at n j [] (omega (arith, below, less)))
    ∙ fails k j (omega (arith, less, few)) (omega (arith, below, less, few)) (λ same. absurd (omega (arith, below, same))) in
    let here : k < length (names_below n) → test (get_or (names_below n) k []) ≡ true = λ inside.
    ap test (name-at n k [] less) ∙ passes k in
    let is : position_or_len test (names_below n) ≡ k =
    position_or_len_is test (names_below n) k [] (omega (arith, count, less)) before here in
    let within : nat_lt k n ≡ true = grind (arith, nat_tests, less) in
    rw (is, count, within) refl
