-- A made script is short.
use Rattle.std.proofs.Common.{◌≡◌, ◌∙◌, ℕ, zero, suc, ◌+◌, ◌-◌, ◌*◌, ◌^◌, ◌<◌, ◌≤◌, ◌%◌, codes, List, [], ◌∷◌, ◌++◌, length, take, drop, decimal, ap, arith}
use Rattle.std.proofs.Math.Nat.{mod-lt}
use Rattle.std.specs.List.{All, remove}
use Rattle.std.proofs.lemmas.List.{length-append}
use Rattle.std.proofs.lemmas.List.Elements.{All-append, All-take, All-drop}
use Rattle.std.proofs.lemmas.Fmt.{length-decimal-le}
use Rattle.rand_pcg.specs.Lcg.{Lcg}
use Rattle.script_made.specs.declared.made.End.{End}
use Rattle.script_text.specs.ReportText.{numbered}
use Rattle.script_made.specs.Made.{generator, word, end, first_ends, added_ends, taken, left, free_ends, end_of, node_line, plug_line, pull_line, turn_line, for_each, node_lines, plug_lines, again_lines, ended, text_of, made_script}
use Rattle.script_made.proofs.MadeLines.{text_of-append, length-free, script-parts}

-- ---- the ends are those of the nodes so far

pub record Near (k : ℕ) (at : End) : Type 0 where
  pub node : at.node ≤ k
  pub port : at.port ≤ 2

wider : (k : ℕ) (ends : List End) → All (Near k) ends → All (Near (suc k)) ends
wider k ends h =
    λ i d inside. record { node = omega (arith, (h i d inside).node); port = (h i d inside).port }

first-near : All (Near 0) first_ends
first-near zero d h = record { node = omega arith; port = omega arith }
first-near (suc zero) d h = record { node = omega arith; port = omega arith }
first-near (suc (suc zero)) d h = record { node = omega arith; port = omega arith }
first-near (suc (suc (suc i))) d h = absurd (omega (arith, h))

added-near : (k : ℕ) → All (Near k) (added_ends k)
added-near k zero d h = record { node = omega arith; port = omega arith }
added-near k (suc zero) d h = record { node = omega arith; port = omega arith }
added-near k (suc (suc i)) d h = absurd (omega (arith, h))

pub free-near : (g : Lcg) (k : ℕ) → All (Near k) (free_ends g k)
unfolding left
free-near g zero = first-near
free-near g (suc k) =
    let before : All (Near (suc k)) (free_ends g k) = wider k (free_ends g k) (free-near g k) in
    let place : ℕ = word g k % length (free_ends g k) in
    All-append (Near (suc k)) (remove (free_ends g k) place) (added_ends (suc k))
    (All-append (Near (suc k)) (take place (free_ends g k)) (drop (suc place) (free_ends g k))
    (All-take (Near (suc k)) place (free_ends g k) before)
    (All-drop (Near (suc k)) (suc place) (free_ends g k) before))
    (added-near (suc k))

pub end-near : (g : Lcg) (k : ℕ) → Near k (end_of g k)
unfolding end_of taken
end-near g k =
    let some : 0 < length (free_ends g k) = omega (arith, length-free g k) in
    free-near g k (word g k % length (free_ends g k)) (end 0 0) (mod-lt (word g k) some)

-- ---- lengths of lines

numbered-le : (text : List ℕ) (n k : ℕ) → 0 < k → n < 10 ^ k → n < 2 ^ 64
    → length (numbered text n) ≤ length text + k
unfolding numbered
numbered-le text n k some few small =
    omega (arith, length-append text (decimal n), length-decimal-le k n some few small)

node-le : (seed k : ℕ) → k ≤ 62 → length (node_line seed k) ≤ 40
unfolding node_line
node-le seed k h =
    let coins : ℕ = (seed + k) % 4294967296 in
    let small : coins < 4294967296 = mod-lt (seed + k) (omega arith) in
    let one : length (numbered (codes "node n") k) ≤ 6 + 2 =
    numbered-le (codes "node n") k 2 (omega arith) (omega arith) (omega arith) in
    let two : length (numbered (codes " 3 contender 1 seed ") coins) ≤ 20 + 10 =
    numbered-le (codes " 3 contender 1 seed ") coins 10 (omega arith) (omega (arith, small)) (omega (arith, small)) in
    omega (arith, length-append (numbered (codes "node n") k) (numbered (codes " 3 contender 1 seed ") coins), one, two)

plug-le : (at : End) (k : ℕ) → Near 62 at → k ≤ 62 → length (plug_line at k) ≤ 30
unfolding plug_line
plug-le at k near h =
    let first : List ℕ = numbered (codes "plug n") at.node in
    let second : List ℕ = numbered (codes " ") at.port in
    let third : List ℕ = numbered (codes " n") k in
    let one : length first ≤ 6 + 2 =
    numbered-le (codes "plug n") at.node 2 (omega arith) (omega (arith, near.node)) (omega (arith, near.node)) in
    let two : length second ≤ 1 + 2 =
    numbered-le (codes " ") at.port 2 (omega arith) (omega (arith, near.port)) (omega (arith, near.port)) in
    let three : length third ≤ 2 + 2 =
    numbered-le (codes " n") k 2 (omega arith) (omega arith) (omega arith) in
    omega (
      arith,
      length-append first (second ++ (third ++ codes " 0")),
      length-append second (third ++ codes " 0"),
      length-append third (codes " 0"),
      one,
      two,
      three,
    )

pull-le : (k : ℕ) → k ≤ 62 → length (pull_line k) ≤ 10
unfolding pull_line
pull-le k h =
    let one : length (numbered (codes "pull n") k) ≤ 6 + 2 =
    numbered-le (codes "pull n") k 2 (omega arith) (omega arith) (omega arith) in
    omega (arith, length-append (numbered (codes "pull n") k) (codes " 0"), one)

turn-le : (w : ℕ) → length (turn_line w) ≤ 8
unfolding turn_line
turn-le w =
    let small : w % 300 < 300 = mod-lt w (omega arith) in
    numbered-le (codes "turn ") (w % 300 + 1) 3 (omega arith) (omega (arith, small)) (omega (arith, small))

-- ---- lengths of texts

length-ended : (line : List ℕ) → length (ended line) ≡ length line + 1
length-ended line = length-append line (codes "\n")

one-line : (line : List ℕ) → length (text_of (line ∷ [])) ≡ length line + 1
one-line line = omega (arith, length-append (ended line) [], length-ended line)

text-le : (n : ℕ) (lines : ℕ → List (List ℕ))
    → ((k : ℕ) → k < n → length (text_of (lines k)) ≤ 64)
    → length (text_of (for_each n lines)) ≤ 64 * n
text-le zero lines h = omega arith
text-le (suc n) lines h =
    let others : length (text_of (for_each n lines)) ≤ 64 * n =
    text-le n lines (λ k less. h k (omega (arith, less))) in
    let both : length (text_of (for_each n lines ++ lines n))
    ≡ length (text_of (for_each n lines)) + length (text_of (lines n)) =
    ap length (text_of-append (for_each n lines) (lines n))
    ∙ length-append (text_of (for_each n lines)) (text_of (lines n)) in
    omega (arith, both, others, h n (omega arith))

cable-le : (g : Lcg) (k : ℕ) → k < 62 → length (plug_line (end_of g k) (suc k)) ≤ 30
cable-le g k h =
    let near : Near k (end_of g k) = end-near g k in
    plug-le (end_of g k) (suc k)
    (record { node = omega (arith, near.node, h); port = near.port }) (omega (arith, h))

nodes-le : (seed n : ℕ) → n ≤ 63 → length (text_of (node_lines seed n)) ≤ 64 * n
nodes-le seed n h =
    text-le n (λ k. node_line seed k ∷ [])
    (λ k less. omega (arith, one-line (node_line seed k), node-le seed k (omega (arith, less, h))))

plugs-le : (g : Lcg) (c : ℕ) → c ≤ 62 → length (text_of (plug_lines g c)) ≤ 64 * c
plugs-le g c h =
    text-le c (λ k. plug_line (end_of g k) (suc k) ∷ [])
    (λ k less. omega (arith, one-line (plug_line (end_of g k) (suc k)), cable-le g k (omega (arith, less, h))))

three-lines : (a b c : List ℕ)
    → length (text_of (a ∷ b ∷ c ∷ [])) ≡ length a + length b + length c + 3
three-lines a b c =
    omega (
      arith,
      length-append (ended a) (text_of (b ∷ c ∷ [])),
      length-append (ended b) (text_of (c ∷ [])),
      length-ended a,
      length-ended b,
      one-line c,
    )

again-le : (g : Lcg) (c : ℕ) → c ≤ 62 → length (text_of (again_lines g c)) ≤ 64 * c
again-le g c h =
    text-le c
    (λ k. pull_line (suc k) ∷ turn_line (word g (c + k)) ∷ plug_line (end_of g k) (suc k) ∷ [])
    (λ k less. omega (
      arith,
      three-lines (pull_line (suc k)) (turn_line (word g (c + k))) (plug_line (end_of g k) (suc k)),
      pull-le (suc k) (omega (arith, less, h)),
      turn-le (word g (c + k)),
      cable-le g k (omega (arith, less, h)),
    ))

pub made-short : (n seed : ℕ) → n ≤ 63 → length (made_script n seed) ≤ 1048576
made-short n seed h =
    let g : Lcg = generator seed in
    let nodes : List ℕ = text_of (node_lines seed n) in
    let plugs : List ℕ = text_of (plug_lines g (n - 1)) in
    let again : List ℕ = text_of (again_lines g (n - 1)) in
    omega (
      arith,
      ap length (script-parts n seed),
      length-append nodes (plugs ++ (codes "settle\n" ++ again)),
      length-append plugs (codes "settle\n" ++ again),
      length-append (codes "settle\n") again,
      nodes-le seed n h,
      plugs-le g (n - 1) (omega (arith, h)),
      again-le g (n - 1) (omega (arith, h)),
    )
