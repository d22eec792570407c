-- What a source and a sink in memory show.
use Rattle.std.specs.Prelude.{◌≡◌, ℕ, ◌+◌, ◌%◌, ◌<◌, ◌≤◌, All, List, [], length, map}
use Rattle.std.proofs.Math.Dec.{lit<}
use Rattle.std.proofs.lemmas.Nat.{mod_below}
use Rattle.std.proofs.lemmas.List.Elements.{All-map}

-- the low eight bits of each number: of bytes, the bytes themselves
abbrev pub as_bytes : List ℕ → List ℕ
as_bytes = map (λ b. b % 256)

-- each of them is below 256
pub as_bytes_fit : (xs : List ℕ) → All (λ b. b < 256) (as_bytes xs)
as_bytes_fit xs = All-map (λ b. b < 256) (λ b. b % 256) xs (λ k d there. mod_below _ 256 (lit< tt))

-- a source in memory: the bytes that it has left, the numbers of the calls that fail, the most
-- bytes of a call, and how many calls and faults there were
pub record Given : Type 0 where
  pub left : List ℕ
  pub fails : List ℕ
  pub piece : ℕ
  pub calls : ℕ
  pub faults : ℕ

-- a sink in memory: the bytes that it holds, the most that it can hold, the numbers of the calls
-- that fail, the most bytes of a call, and how many calls and faults there were
pub record Kept : Type 0 where
  pub bytes : List ℕ
  pub room : ℕ
  pub fails : List ℕ
  pub piece : ℕ
  pub calls : ℕ
  pub faults : ℕ

-- no call of the sink fails, and it has room for so many more bytes
abbrev pub HasRoom : Kept → ℕ → Type 0
HasRoom sink count = (sink.fails ≡ []) × (length sink.bytes + count ≤ sink.room)
