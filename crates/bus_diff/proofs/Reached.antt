-- What is reached along ports is a matching.
use Rattle.std.proofs.Common.{ℕ, zero, suc, ◌<◌, ⊎_elim, Bool, true, false, Option, Some, None, List, [], ◌∷◌, length, arith}
use Rattle.std.specs.Prelude.{Contains, find, option_to_list, nat_lt, ◌==◌, if◌then◌else◌}
use Rattle.std.proofs.lemmas.List.Elements.{Contains-append_cases, Contains-append_left, Contains-append_right}
use Rattle.topology_stack.specs.Tree.{Tree, walk}
use Rattle.view_text.specs.declared.cable.Cable.{Cable}
use Rattle.view_text.specs.Cable.{cables}
use Rattle.bus_diff.specs.declared.pair.Pair.{Pair}
use Rattle.bus_diff.specs.Matching.{IsMatching}
use Rattle.bus_diff.specs.Along.{with_pair, pair_of, led_to, with_led, stepped, walked, ways, reached, longer, is_full, with_start, best_with, best_of, by_new_id, matched}
use Rattle.bus_diff.proofs.Matched.{matching_none, matching_with, matching_part}

-- what holds of pairs whatever pair is added
led_keeps : (t u : Tree) (P : List Pair → Type 0) →
    ((ps : List Pair) (x : Pair) → P ps → P (with_pair t u ps x)) → (ps : List Pair) (id : ℕ) (other : Option ℕ) →
    P ps → P (with_led t u ps id other)
led_keeps t u P keeps ps id None m = m
led_keeps t u P keeps ps id (Some other) m = keeps ps (record { old = id; new = other }) m

pub walked_keeps : (t u : Tree) (P : List Pair → Type 0) →
    ((ps : List Pair) (x : Pair) → P ps → P (with_pair t u ps x)) → (far : List Cable) (ps : List Pair)
    (cs : List Cable) → P ps → P (walked t u far ps cs)
walked_keeps t u P keeps far ps [] m = m
walked_keeps t u P keeps far ps (c ∷ cs) m =
    walked_keeps t u P keeps far (stepped t u far ps c) cs (led_keeps t u P keeps ps c.child (led_to far c (pair_of ps c.parent)) m)

reached_matching : (t u : Tree) (far over : List Cable) (start : Pair) →
    IsMatching t u (reached t u far over start)
reached_matching t u far over start =
    walked_keeps t u (IsMatching t u) (matching_with t u) far (with_pair t u [] start) over (matching_with t u [] start (matching_none t u))

either_matching : (t u : Tree) (b : Bool) (ps qs : List Pair) → IsMatching t u ps → IsMatching t u qs →
    IsMatching t u (if b then ps else qs)
either_matching t u true ps qs m n = m
either_matching t u false ps qs m n = n

start_matching : (t u : Tree) (far over : List Cable) (best : List Pair) (start : Pair) →
    IsMatching t u best → IsMatching t u (with_start t u far over best start)
start_matching t u far over best start m =
    let found = reached t u far over start in
    either_matching t u (is_full t u best) best (longer best found) m
    (either_matching t u (nat_lt (length best) (length found)) found best (reached_matching t u far over start) m)

node_matching : (t u : Tree) (far over : List Cable) (best : List Pair) (id n : ℕ) →
    IsMatching t u best → IsMatching t u (best_with t u far over best id n)
node_matching t u far over best id zero m = m
node_matching t u far over best id (suc other) m =
    start_matching t u far over (best_with t u far over best id other) (record { old = id; new = other })
    (node_matching t u far over best id other m)

best_matching : (t u : Tree) (far over : List Cable) (n : ℕ) → IsMatching t u (best_of t u far over n)
best_matching t u far over zero = matching_none t u
best_matching t u far over (suc id) =
    node_matching t u far over (best_of t u far over id) id (length (walk u)) (best_matching t u far over id)

found_in : (test : Pair → Bool) (ps : List Pair) (q : Pair) →
    Contains (option_to_list (find test ps)) q → Contains ps q
found_in test [] q there = there
found_in test (p ∷ ps) q there = go (test p) there (λ h. found_in test ps q h)
  where
    go : (b : Bool) → Contains (option_to_list (if b then Some p else find test ps)) q →
        (Contains (option_to_list (find test ps)) q → Contains ps q) → Contains (p ∷ ps) q
    go true h later = Contains-append_left (p ∷ []) ps q h
    go false h later = Contains-append_right (p ∷ []) ps q (later h)

ordered_in : (ps : List Pair) (n : ℕ) (q : Pair) → Contains (by_new_id ps n) q → Contains ps q
ordered_in ps zero q there = let lt : there.0 < 0 = there.1 in absurd (omega (arith, lt))
ordered_in ps (suc id) q there = ⊎_elim
    (λ (a : Contains (by_new_id ps id) q). ordered_in ps id q a)
    (λ (b : Contains (option_to_list (find (λ p. p.new == id) ps)) q). found_in (λ p. p.new == id) ps q b)
    (Contains-append_cases (by_new_id ps id) (option_to_list (find (λ p. p.new == id) ps)) q there)

-- no node stands in two pairs, and each has as many ports in both
pub matched_matching : (t u : Tree) → IsMatching t u (matched t u)
unfolding matched
matched_matching t u =
    let best = best_of t u (cables u) (ways (cables t)) (length (walk t)) in
    matching_part t u best (by_new_id best (length (walk u))) (best_matching t u (cables u) (ways (cables t)) (length (walk t)))
    (ordered_in best (length (walk u)))
