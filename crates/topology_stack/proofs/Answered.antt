-- What is answered for a list, once its nodes or its fault are known.
use Rattle.std.proofs.Common.{◌≡◌, ℕ, ◌≤◌, List, length, Result, Ok, Err, sym, ap, subst, ◌∙◌, arith}
use Rattle.self_id.specs.declared.standard.Standard.{Standard}
use Rattle.self_id.specs.Node.{Node}
use Rattle.topology_stack.specs.declared.fault.TreeFault.{TreeFault}
use Rattle.topology_stack.specs.declared.fault.TreeStop.{TreeStop}
use Rattle.topology_stack.specs.declared.fault.TreeStop.TheVariants.{Fault, Memory}
use Rattle.topology_stack.specs.Tree.{Tree, walk, IsBusTreeOf, emits}
use Rattle.topology_stack.specs.codings.Code.{tree_of, tree_of-walk}
use Rattle.topology_stack.specs.Refused.{Refused}
use Rattle.topology_stack.specs.Answer.{IfFault, UnlessMemory}
use Rattle.topology_stack.proofs.Lemmas.{one_tree, no_fault, one_fault}

abbrev err : {A : Type 0} → TreeFault → Result A TreeStop
err f = Err (Fault f)

-- ---- a list with a fault

pub only_stop : (standard : Standard) {A : Type 0} (l : List ℕ) (e : TreeStop) (t : Tree) (x : A) → IfFault {A = A} (Err e) (Refused standard l) → IsBusTreeOf standard t → emits t ≡ l → UnlessMemory {A = A} (Err e) (Ok x)
only_stop standard l (Memory m) t x h bus is = tt
only_stop standard l (Fault f) t x h bus is = absurd (no_fault standard t f bus (subst (λ (k : List ℕ). Refused standard k f) (sym is) h))

pub exact_stop : (standard : Standard) (A : Type 0) (l : List ℕ) (e : TreeStop) (f : TreeFault) → IfFault {A = A} (Err e) (Refused standard l) → Refused standard l f → UnlessMemory {A = A} (Err e) (Err (Fault f))
exact_stop standard A l (Memory m) f h is = tt
exact_stop standard A l (Fault g) f h is = ap (λ (k : TreeFault). err {A = A} k) (one_fault standard l g f h is)

-- ---- a list that a tree emits

-- nodes that are the walk of a tree that emits the list
abbrev pub Walked : Standard → List ℕ → List Node → Type 0
Walked standard l ns = (t : Tree) × IsBusTreeOf standard t × (ns ≡ walk t) × (emits t ≡ l)

same_tree : (ns : List Node) (t : Tree) → ns ≡ walk t → t ≡ tree_of ns
same_tree ns t is = sym (tree_of-walk t) ∙ ap tree_of (sym is)

pub few_nodes : (standard : Standard) (l : List ℕ) (ns : List Node) → Walked standard l ns →
    length ns ≤ 63
few_nodes standard l ns (t, bus, is, e) = omega (arith, bus.bus.small, ap length is)

pub is_found : (standard : Standard) (l : List ℕ) (ns : List Node) → Walked standard l ns →
    IsBusTreeOf standard (tree_of ns) × (emits (tree_of ns) ≡ l)
is_found standard l ns (t, bus, is, e) = subst (λ (u : Tree). IsBusTreeOf standard u × (emits u ≡ l)) (same_tree ns t is) (bus, e)

pub is_walk : (standard : Standard) (l : List ℕ) (ns : List Node) → Walked standard l ns →
    ns ≡ walk (tree_of ns)
is_walk standard l ns (t, bus, is, e) = is ∙ ap walk (same_tree ns t is)

pub is_only : (standard : Standard) (l : List ℕ) (ns : List Node) → Walked standard l ns →
    (t : Tree) → IsBusTreeOf standard t → emits t ≡ l → tree_of ns ≡ t
is_only standard l ns w t bus e = let f = is_found standard l ns w in one_tree standard (tree_of ns) t f.0 bus (f.1 ∙ sym e)

pub no_exact : (standard : Standard) (l : List ℕ) (ns : List Node) → Walked standard l ns →
    (f : TreeFault) → Refused standard l f → ⊥
no_exact standard l ns w f is = let x = is_found standard l ns w in no_fault standard (tree_of ns) f x.0 (subst (λ (k : List ℕ). Refused standard k f) (sym x.1) is)
