-- The coins of a node's line.
use Rattle.std.specs.Prelude.{ℕ, ◌+◌, ◌*◌, ◌-◌, ◌==◌, ◌||◌, ◌&&◌, nat_lt, nat_le, Bool, List, [], ◌∷◌, length}
use Rattle.std.specs.List.{list_all}

-- `0` or `1`
abbrev pub is_coin : ℕ → Bool
is_coin c = (c == 48) || (c == 49)

-- 1 to 64 coins
abbrev pub are_coins : List ℕ → Bool
are_coins text = nat_lt 0 (length text) && nat_le (length text) 64 && list_all is_coin text

-- the number that has coin k as its bit k
abbrev pub coin_word : List ℕ → ℕ
coin_word [] = 0
coin_word (c ∷ cs) = (c - 48) + 2 * coin_word cs
