-- By either standard each list of quadlets has one answer: a tree or a fault, and never two of
-- them.
use Rattle.std.specs.Prelude.{◌≡◌, ◌⊎◌, ℕ, List}
use Rattle.topology_stack.specs.declared.fault.TreeFault.{TreeFault}
use Rattle.topology_stack.specs.Refused.{Refused}
use Rattle.self_id.specs.declared.standard.Standard.{Standard}
use Rattle.topology_stack.specs.Tree.{Tree, IsBusTreeOf, emits}

abbrev pub EachListHasATreeOrAFault : Type 0
EachListHasATreeOrAFault =
    (standard : Standard) (l : List ℕ) →
    ((t : Tree) × IsBusTreeOf standard t × (emits t ≡ l))
    ⊎ ((f : TreeFault) × Refused standard l f)

abbrev pub NoListHasTwoTrees : Type 0
NoListHasTwoTrees =
    (standard : Standard) (t u : Tree) → IsBusTreeOf standard t → IsBusTreeOf standard u →
    emits t ≡ emits u → t ≡ u

abbrev pub NoListHasATreeAndAFault : Type 0
NoListHasATreeAndAFault =
    (standard : Standard) (t : Tree) (f : TreeFault) → IsBusTreeOf standard t →
    Refused standard (emits t) f → ⊥

abbrev pub NoListHasTwoFaults : Type 0
NoListHasTwoFaults =
    (standard : Standard) (l : List ℕ) (f g : TreeFault) → Refused standard l f →
    Refused standard l g → f ≡ g
