-- Which node is the isochronous resource manager (IEEE Std 1394-1995): of those whose link is
-- active and that contend, the one with the highest ID.
use Rattle.std.specs.Prelude.{ℕ, ◌+◌, ◌≤◌, IsSomeAnd, Bool, ◌&&◌, IsTrue, if◌then◌else◌, Option, Some, None, List, [], ◌∷◌, slice_get}
use Rattle.std.specs.Option.{option_or}
use Rattle.self_id.specs.Node.{Node}
use Rattle.topology_stack.specs.Tree.{Tree, walk}

abbrev pub is_candidate : Node → Bool
is_candidate n = n.attrs.link && n.attrs.contender

-- a candidate has this ID
abbrev pub IsCandidate : List Node → ℕ → Type 0
IsCandidate ns id = IsSomeAnd (slice_get ns id) (λ n. IsTrue (is_candidate n))

-- a candidate's ID that no other one exceeds, or none where there is no candidate
abbrev pub IsHighest : List Node → Option ℕ → Type 0
IsHighest ns None = (id : ℕ) → IsCandidate ns id → ⊥
IsHighest ns (Some id) = IsCandidate ns id × ((other : ℕ) → IsCandidate ns other → other ≤ id)

-- the same as a value: a later candidate's ID, or else this one's; the first node has ID `id`
abbrev pub highest_from : ℕ → List Node → Option ℕ
highest_from id [] = None
highest_from id (n ∷ ns) =
    option_or (highest_from (id + 1) ns) (if is_candidate n then Some id else None)

abbrev pub elected : Tree → Option ℕ
elected t = highest_from 0 (walk t)
