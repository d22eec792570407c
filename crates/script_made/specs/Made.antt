-- The script that is made for a number of nodes and a seed.
use Rattle.std.specs.Prelude.{ℕ, zero, suc, ◌+◌, ◌-◌, ◌%◌, List, [], ◌∷◌, ◌++◌, length, slice_index_or, codes}
use Rattle.std.specs.List.{remove, flat_map}
use Rattle.rand_pcg.specs.Lcg.{Lcg, started, increment_of}
use Rattle.rand_pcg.specs.Pcg.{pcg32, multiplier_64}
use Rattle.script_made.specs.declared.made.End.{End}
use Rattle.script_text.specs.ReportText.{numbered}

-- ---- the words of a generator, PCG32

-- the generator of a seed: the seed is its state, and it is on stream 54
unfoldable pub generator : ℕ → Lcg
generator seed = started 64 multiplier_64 seed (increment_of 64 54)

-- the generator after so many words
abbrev pub words_from : Lcg → ℕ → Lcg
words_from g zero = g
words_from g (suc k) = (pcg32 (words_from g k)).1

-- word number k, from 0
unfoldable pub word : Lcg → ℕ → ℕ
word g k = (pcg32 (words_from g k)).0

-- ---- where nodes are plugged: cable number k, from 0, plugs node k + 1

abbrev pub end : ℕ → ℕ → End
end node port = record { node = node; port = port }

-- the ends that are free at first, and those that a node adds
abbrev pub first_ends : List End
first_ends = end 0 0 ∷ end 0 1 ∷ end 0 2 ∷ []

abbrev pub added_ends : ℕ → List End
added_ends node = end node 1 ∷ end node 2 ∷ []

-- an end of a list by its place
abbrev pub end_at : List End → ℕ → End
end_at ends place = slice_index_or ends place (end 0 0)

-- the end that a word takes out of a list
unfoldable pub taken : List End → ℕ → End
taken ends w = end_at ends (w % length ends)

-- the ends that are free then, once a node is plugged
unfoldable pub left : List End → ℕ → ℕ → List End
left ends w node = remove ends (w % length ends) ++ added_ends node

-- the ends that are free after so many cables
abbrev pub free_ends : Lcg → ℕ → List End
free_ends g zero = first_ends
free_ends g (suc k) = left (free_ends g k) (word g k) (suc k)

-- the end at which cable number k plugs node k + 1
unfoldable pub end_of : Lcg → ℕ → End
end_of g k = taken (free_ends g k) (word g k)

-- ---- the lines

-- `node nK 3 contender 1 seed S`
unfoldable pub node_line : ℕ → ℕ → List ℕ
node_line seed k =
    numbered (codes "node n") k
    ++ numbered (codes " 3 contender 1 seed ") ((seed + k) % 4294967296)

-- `plug nP Q nK 0`
unfoldable pub plug_line : End → ℕ → List ℕ
plug_line at k =
    numbered (codes "plug n") at.node
    ++ (numbered (codes " ") at.port ++ (numbered (codes " n") k ++ codes " 0"))

-- `pull nK 0`
unfoldable pub pull_line : ℕ → List ℕ
pull_line k = numbered (codes "pull n") k ++ codes " 0"

-- `turn T`: 1 to 300 turns
unfoldable pub turn_line : ℕ → List ℕ
turn_line w = numbered (codes "turn ") (w % 300 + 1)

-- what there is for each number below this one, one after the other
abbrev pub for_each : {A : Type 0} → ℕ → (ℕ → List A) → List A
for_each zero items = []
for_each (suc k) items = for_each k items ++ items k

-- the lines that declare so many nodes
abbrev pub node_lines : ℕ → ℕ → List (List ℕ)
node_lines seed n = for_each n (λ k. node_line seed k ∷ [])

-- the lines that plug so many cables
abbrev pub plug_lines : Lcg → ℕ → List (List ℕ)
plug_lines g cables = for_each cables (λ k. plug_line (end_of g k) (suc k) ∷ [])

-- the lines that pull each cable and plug it again some turns later; the words for the turns are
-- those behind the words for the cables
abbrev pub again_lines : Lcg → ℕ → List (List ℕ)
again_lines g cables =
    for_each cables (λ k. pull_line (suc k) ∷ turn_line (word g (cables + k))
    ∷ plug_line (end_of g k) (suc k) ∷ [])

unfoldable pub made_lines : ℕ → ℕ → List (List ℕ)
made_lines n seed =
    node_lines seed n
    ++ (plug_lines (generator seed) (n - 1)
    ++ (codes "settle" ∷ again_lines (generator seed) (n - 1)))

-- a line with a line feed behind it
abbrev pub ended : List ℕ → List ℕ
ended line = line ++ codes "\n"

abbrev pub text_of : List (List ℕ) → List ℕ
text_of lines = flat_map ended lines

unfoldable pub made_script : ℕ → ℕ → List ℕ
made_script n seed = text_of (made_lines n seed)
