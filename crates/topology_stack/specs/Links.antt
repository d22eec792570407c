-- How the links of nodes are kept while the nodes come.
use Rattle.std.specs.Prelude.{◌≡◌, ℕ, ◌+◌, ◌-◌, ◌≤◌, List, [], ◌∷◌, ◌++◌, length, take, drop, slice_set}
use Rattle.self_id.specs.Node.{Node, downs}

-- one number written at several places of a list
abbrev pub set_all : List ℕ → ℕ → List ℕ → List ℕ
set_all [] id ps = ps
set_all (k ∷ ks) id ps = set_all ks id (slice_set ps k id)

-- the parts of a list that end at these places, one behind the other
abbrev pub cut : List ℕ → ℕ → List ℕ → List (List ℕ)
cut ids start [] = []
cut ids start (end ∷ ends) = take (end - start) (drop start ids) ∷ cut ids end ends

-- the places rise, and the last is the end of a list with so many elements
abbrev pub Rises : ℕ → ℕ → List ℕ → Type 0
Rises count start [] = start ≡ count
Rises count start (end ∷ ends) = (start ≤ end) × (end ≤ count) × Rises count end ends

-- how many elements lists have in all
abbrev pub total : List (List ℕ) → ℕ
total [] = 0
total (l ∷ ls) = length l + total ls

-- the trees that wait for a parent, and the parents and children by ID
pub record Linking : Type 0 where
  pub waiting : List ℕ
  pub above : List ℕ
  pub below : List (List ℕ)

-- one node more, for which so many trees go on to wait, and whose children the others are
abbrev pub linked : ℕ → Linking → Linking
linked kept l = record {
  waiting = take kept l.waiting ++ length l.above ∷ [];
  above = set_all (drop kept l.waiting) (length l.above) l.above ++ 63 ∷ [];
  below = l.below ++ drop kept l.waiting ∷ [];
}

-- nodes, one after the other
abbrev pub all_linked : Linking → List Node → Linking
all_linked l [] = l
all_linked l (n ∷ ns) = all_linked (linked (length l.waiting - downs n.ports) l) ns

abbrev pub unlinked : Linking
unlinked = record { waiting = []; above = []; below = [] }

-- the roots that wait, the parents and the children of these nodes
abbrev pub AreLinks : List Node → List ℕ → List ℕ → List (List ℕ) → Type 0
AreLinks ns roots parents children =
    record { waiting = roots; above = parents; below = children } ≡ all_linked unlinked ns
