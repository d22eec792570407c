-- One coin more.
use Rattle.std.proofs.Common.{◌≡◌, ℕ, ◌+◌, ◌*◌, ◌-◌, ◌^◌, ◌<◌, List, true, length, drop, get_or, refl, ap, ◌∙◌, arith, add-one}
use Rattle.std.proofs.Math.Nat.{pow-succ'}
use Rattle.std.proofs.lemmas.List.{drop_more}
use Rattle.std.specs.List.{list_all}
use Rattle.std.proofs.lemmas.Bool.Decides.{nat_tests}
use Rattle.std.proofs.lemmas.List.Sums.{AllPass-from_list_all}
use Rattle.script_lines.specs.Coins.{is_coin, coin_word}

doubled : (i : ℕ) → 2 ^ (i + 1) ≡ 2 * 2 ^ i
doubled i = rw (add-one, pow-succ') refl

-- the coins from a place on
coins_at : (coins : List ℕ) (i : ℕ) → i < length coins
    → coin_word (drop i coins) ≡ (get_or coins i 0 - 48) + 2 * coin_word (drop (i + 1) coins)
coins_at coins i h = ap coin_word (drop_more coins i 0 h)

regroup : (word p bit rest total : ℕ) → word + p * (bit + 2 * rest) ≡ total
    → (word + p * bit) + (2 * p) * rest ≡ total
regroup word p bit rest total h = grind arith

-- the coin at a place
more : (coins : List ℕ) (i word total bit : ℕ) → i < length coins
    → word + 2 ^ i * coin_word (drop i coins) ≡ total → get_or coins i 0 - 48 ≡ bit
    → (word + 2 ^ i * bit) + 2 ^ (i + 1) * coin_word (drop (i + 1) coins) ≡ total
more coins i word total bit inside h coin =
    let at : coin_word (drop i coins) ≡ bit + 2 * coin_word (drop (i + 1) coins) =
    coins_at coins i inside ∙ ap (λ b. b + 2 * coin_word (drop (i + 1) coins)) coin in
    let now : word + 2 ^ i * (bit + 2 * coin_word (drop (i + 1) coins)) ≡ total = rw at at h in
    rw (doubled i) (regroup word (2 ^ i) bit (coin_word (drop (i + 1) coins)) total now)

pub one_more : (coins : List ℕ) (i word total : ℕ) → i < length coins → word < 2 ^ i
    → word + 2 ^ i * coin_word (drop i coins) ≡ total → get_or coins i 0 ≡ 49
    → (word + 2 ^ i < 2 ^ (i + 1)) × ((word + 2 ^ i) + 2 ^ (i + 1) * coin_word (drop (i + 1) coins) ≡ total)
one_more coins i word total inside small h coin =
    let bit : get_or coins i 0 - 48 ≡ 1 = omega (arith, coin) in
    let all : (word + 2 ^ i * 1) + 2 ^ (i + 1) * coin_word (drop (i + 1) coins) ≡ total =
    more coins i word total 1 inside h bit in
    (omega (arith, doubled i), omega (arith, all))

pub no_more : (coins : List ℕ) (i word total : ℕ) → i < length coins → word < 2 ^ i
    → word + 2 ^ i * coin_word (drop i coins) ≡ total → (get_or coins i 0 ≡ 49 → ⊥)
    → list_all is_coin coins ≡ true
    → (word < 2 ^ (i + 1)) × (word + 2 ^ (i + 1) * coin_word (drop (i + 1) coins) ≡ total)
no_more coins i word total inside small h other coins_are =
    let coin : is_coin (get_or coins i 0) ≡ true = AllPass-from_list_all is_coin coins coins_are i 0 inside in
    let bit : get_or coins i 0 - 48 ≡ 0 = grind (arith, nat_tests) in
    let all : (word + 2 ^ i * 0) + 2 ^ (i + 1) * coin_word (drop (i + 1) coins) ≡ total =
    more coins i word total 0 inside h bit in
    (omega (arith, doubled i), omega (arith, all))
