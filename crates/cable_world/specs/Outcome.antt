-- What a component of a world may settle to: a loop, a contention without end, or a tree.
use Rattle.std.specs.Prelude.{◌≡◌, ◌≢◌, ◌⊎◌, ℕ, ◌<◌, ◌≤◌, true, List, map, Some, None, IsSome, IsSomeAnd, slice_get}
use Rattle.self_id.specs.declared.node.Attrs.{Attrs}
use Rattle.topology_stack.specs.Tree.{Tree, emits}
use Rattle.cabling.specs.Wiring.{far}
use Rattle.cabling.specs.NodeSet.{Holds, IsEmpty}
use Rattle.cabling.specs.Looped.{IsCore}
use Rattle.cabling.specs.Labels.{labels}
use Rattle.cabling.specs.Sees.{Sees, numbers}
use Rattle.port_state.specs.declared.signal.Phase.TheVariants.{TreeStart}
use Rattle.port_state.specs.declared.view.View.{View}
use Rattle.port_state.specs.Group.{shown_attrs}
use Rattle.port_state.specs.Machine.{PortNode}
use Rattle.cable_world.specs.World.{CableWorld, NodeSet}

-- the node of this number exists, and this holds of it
abbrev pub AtNode : CableWorld → ℕ → (PortNode → Type 0) → Type 0
AtNode w k P = IsSomeAnd (slice_get w.nodes k) P

-- and this of what it shows
abbrev pub AtView : CableWorld → ℕ → (View → Type 0) → Type 0
AtView w k P = AtNode w k (λ x. P x.state.view)

-- A loop: the core isn't empty. Every node of it reports that the configuration timed out, and no
-- node of the component has an ID.
pub record IsLoop (w : CableWorld) (set core : ℕ) : Type 0 where
  pub is_core : IsCore w.cabling set core
  pub node : ℕ
  pub in_core : Holds core node
  pub timed_out :
      (k : ℕ) → Holds core k → AtView w k (λ v. (v.phase ≡ TreeStart) × (v.timed_out ≡ true))
  pub unnamed : (k : ℕ) → Holds set k → AtView w k (λ v. v.id ≡ None)

-- no cables of the set form a loop
pub record HasNoLoop (w : CableWorld) (set : ℕ) : Type 0 where
  pub core : ℕ
  pub is_core : IsCore w.cabling set core
  pub empty : IsEmpty core

-- two nodes drew 32 coins at least since their last reset, and the first 32 are equal one by one
pub record DrewAlike (v u : View) : Type 0 where
  pub many : 32 ≤ v.draws
  pub many_too : 32 ≤ u.draws
  pub alike : v.first_draws ≡ u.first_draws

-- A contention: the ends of one cable drew alike.
pub record IsContention (w : CableWorld) (set a b : ℕ) : Type 0 where
  pub no_loop : HasNoLoop w set
  pub rising : a < b
  pub holds_a : Holds set a
  pub holds_b : Holds set b
  pub port_a : ℕ
  pub port_b : ℕ
  pub cable :
      far w.cabling (record { node = a; port = port_a }) ≡ Some (record { node = b; port = port_b })
  pub draws : AtView w a (λ v. AtView w b (λ u. DrewAlike v u))

-- the attributes that the nodes show, by number
abbrev pub attrs_now : CableWorld → List Attrs
attrs_now w = map (λ (x : PortNode). shown_attrs x.state) w.nodes

-- A tree: one node, the root, has no parent. The tree that the cables show from there, with the
-- attributes of now, gives each node its ID, which is its place in the walk, and its list.
pub record IsTree (w : CableWorld) (set root : ℕ) (t : Tree) : Type 0 where
  pub no_loop : HasNoLoop w set
  pub holds_root : Holds set root
  pub seen : Sees w.cabling (labels (attrs_now w)) root None t
  pub no_parent : AtView w root (λ v. v.parent ≡ None)
  pub parents : (k : ℕ) → Holds set k → k ≢ root → AtView w k (λ v. IsSome v.parent)
  pub ids :
      (k : ℕ) → Holds set k →
      AtView w k (λ v. IsSomeAnd v.id (λ i. slice_get (numbers w.cabling root t) i ≡ Some k))
  pub lists : (k : ℕ) → Holds set k → AtNode w k (λ x. x.state.list.items ≡ emits t)

pub data Ending : Type 0 where
  -- the core
  loop : ℕ → Ending
  -- the root, and the tree as it is seen from there
  tree : ℕ → Tree → Ending
  -- the ends of the cable, the lower first
  contention : ℕ → ℕ → Ending

-- no pair of ends in contention comes before this one
abbrev pub IsFirstPair : CableWorld → ℕ → ℕ → ℕ → Type 0
IsFirstPair w set a b = (c d : ℕ) → IsContention w set c d → (a < c) ⊎ ((a ≡ c) × (b ≤ d))

-- the outcome of a component: a loop, else a tree, else a contention
abbrev pub IsOutcome : CableWorld → ℕ → Ending → Type 0
IsOutcome w set (loop core) = IsLoop w set core
IsOutcome w set (tree root t) = IsTree w set root t
IsOutcome w set (contention a b) =
    IsContention w set a b × ((root : ℕ) (t : Tree) → IsTree w set root t → ⊥)
    × IsFirstPair w set a b

-- a component that has one is settled
abbrev pub IsSettled : CableWorld → ℕ → Type 0
IsSettled w set = (o : Ending) × IsOutcome w set o

abbrev pub OneOutcomeAtMost : Type 0
OneOutcomeAtMost =
    (w : CableWorld) (set : NodeSet) (one other : Ending) →
    IsOutcome w set one → IsOutcome w set other → one ≡ other
