-- The marks of four nodes, worked by hand: node 1 at port 0 of the root 0, node 2 at its port 2,
-- and node 3 at
-- port 0 of node 2. The walk is 1, 3, 2, 0.
use Rattle.std.proofs.Common.{◌≡◌, ℕ, zero, suc, Option, Some, None, [], ◌∷◌, refl}
use Rattle.outcomes.proofs.Common.{Tree, branch, no_more, absent, unplugged, up, down, Wiring, Sees, numbers, ParentsAre, mark, end_at}
use Rattle.cabling.proofs.Lemmas.{plain}

abbrev four : Wiring
four =
    (Some (end_at 1 0) ∷ None ∷ Some (end_at 2 1) ∷ [])
    ∷ (Some (end_at 0 0) ∷ [])
    ∷ (Some (end_at 3 0) ∷ Some (end_at 0 2) ∷ [])
    ∷ (Some (end_at 2 0) ∷ [])
    ∷ []

abbrev leaf : ℕ → Tree
leaf k = branch (plain k) (up (absent (absent no_more)))

abbrev tree : Tree
tree = branch (plain 0) (down (leaf 1) (unplugged (down (branch (plain 2) (down (leaf 3) (up (absent no_more)))) no_more)))

abbrev parent : ℕ → Option ℕ
parent zero = None
parent (suc zero) = Some 0
parent (suc (suc zero)) = Some 1
parent (suc (suc (suc k))) = Some 0

is-seen : Sees four plain 0 None tree
is-seen = (refl, refl, ((λ e. cc), (refl, refl, (refl, tt)), ((λ e. cc), (refl, refl, ((λ e. cc), (refl, refl, (refl, tt)), (refl, tt))), tt)))

parents-are : ParentsAre four parent 0 None tree
parents-are = (refl, ((refl, tt), ((refl, ((refl, tt), tt)), tt)))

walk-is : numbers four 0 tree ≡ 1 ∷ 3 ∷ 2 ∷ 0 ∷ []
walk-is = refl

-- the marks of the ports in turn, the last one the node's place
abbrev marks : ℕ → ℕ → ℕ
marks = mark four 0 tree 0

root-marks : (marks 0 0 ∷ marks 0 1 ∷ marks 0 2 ∷ marks 0 3 ∷ []) ≡ 0 ∷ 1 ∷ 1 ∷ 3 ∷ []
root-marks = refl

node-1-marks : (marks 1 0 ∷ marks 1 1 ∷ []) ≡ 0 ∷ 0 ∷ []
node-1-marks = refl

node-2-marks : (marks 2 0 ∷ marks 2 1 ∷ marks 2 2 ∷ []) ≡ 1 ∷ 2 ∷ 2 ∷ []
node-2-marks = refl

node-3-marks : (marks 3 0 ∷ marks 3 1 ∷ []) ≡ 1 ∷ 1 ∷ []
node-3-marks = refl
