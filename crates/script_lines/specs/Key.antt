-- The keys of a node's line, and the values behind them.
use Rattle.std.specs.Prelude.{ℕ, ◌||◌, Bool, true, false, List, [], ◌∷◌, codes, find, Option, Some, None, if◌then◌else◌}
use Rattle.std.specs.Str.{bytes_eq}
use Rattle.port_state.specs.declared.ranges.TimeRanges.{TimeRanges}
use Rattle.script_lines.specs.declared.kind.Kind as faults
use Rattle.script_lines.specs.declared.kind.Kind.TheVariants.{Number}
use Rattle.script_lines.specs.declared.key.Key.{Key}
use Rattle.script_lines.specs.declared.key.Key.TheVariants.{Speed, Link, Contender, Force, Power, Gap, GapReset, Hold, Short, Long, Coins, Seed, Kind}
use Rattle.script_lines.specs.Shape.{wrong_number}
use Rattle.script_lines.specs.Coins.{are_coins}

abbrev pub word_of : Key → List ℕ
word_of Speed = codes "speed"
word_of Link = codes "link"
word_of Contender = codes "contender"
word_of Force = codes "force"
word_of Power = codes "power"
word_of Gap = codes "gap"
word_of GapReset = codes "gapreset"
word_of Hold = codes "hold"
word_of Short = codes "short"
word_of Long = codes "long"
word_of Coins = codes "coins"
word_of Seed = codes "seed"
word_of Kind = codes "kind"

abbrev pub keys : List Key
keys =
    Speed ∷ Link ∷ Contender ∷ Force ∷ Power ∷ Gap ∷ GapReset ∷ Hold ∷ Short ∷ Long ∷ Coins ∷ Seed
    ∷ Kind ∷ []

-- the key that a word is
abbrev pub key_of : List ℕ → Option Key
key_of word = find (λ key. bytes_eq word (word_of key)) keys

-- the key that may not stand beside a key: coins and a seed exclude each other, and each other key
-- itself
abbrev pub rival : Key → Key
rival Coins = Seed
rival Seed = Coins
rival key = key

-- the least and the greatest number behind a key, where the times of nodes are in these ranges; coins
-- and a kind are no numbers
abbrev pub limits : TimeRanges → Key → ℕ × ℕ
limits times Speed = (0, 2)
limits times Link = (0, 1)
limits times Contender = (0, 1)
limits times Force = (0, 1)
limits times Power = (0, 7)
limits times Gap = (0, 63)
limits times GapReset = (0, 1)
limits times Hold = (times.least.hold, times.most.hold)
limits times Short = (times.least.short, times.most.short)
limits times Long = (times.least.long, times.most.long)
limits times Coins = (0, 4294967295)
limits times Seed = (0, 4294967295)
limits times Kind = (0, 4294967295)

-- whether a word may stand behind a key: any word, and behind `kind` the two kinds alone
abbrev pub may_follow : Option Key → List ℕ → Bool
may_follow None value = false
may_follow (Some Kind) value = bytes_eq value (codes "field") || bytes_eq value (codes "packed")
may_follow (Some key) value = true

abbrev pub is_pair : List ℕ → List ℕ → Bool
is_pair key value = may_follow (key_of key) value

-- what is wrong with a word behind a key that it may stand behind
abbrev pub wrong_value : TimeRanges → Key → List ℕ → Option faults.Kind
wrong_value times Kind value = None
wrong_value times Coins value = if are_coins value then None else Some Number
wrong_value times key value = wrong_number (limits times key).0 (limits times key).1 value
