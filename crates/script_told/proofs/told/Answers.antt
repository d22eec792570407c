-- What an answer is, where each way to it is: a fact that holds of each fault, and so is shown of what
-- comes behind each of the things that have to be there first.
use Rattle.std.proofs.Common.{◌≡◌, ◌+◌, ℕ, Bool, true, false, List, Option, Some, None, refl, subst, sym}
use Rattle.std.specs.Prelude.{Err, MatchBool, nat_lt}
use Rattle.cable_world.specs.World.{NodeNumber}
use Rattle.script_lines.specs.declared.kind.Kind.{Kind}
use Rattle.script_told.specs.Bus.{Bus, ReportedTree, node_named, tree_with}
use Rattle.script_told.specs.Step.{LineAnswer, AtNamedNode, AtTree, Settled, AtManager, Managed, id_of, Within}

module _ (P : LineAnswer → Type 0) (fault : (kind : Kind) → P (Err kind)) where
  -- each answer that comes so
  abbrev Each : (LineAnswer → Type 0) → Type 0
  Each Comes = (r : LineAnswer) → Comes r → P r

  pub is-known : (x : LineAnswer) → P x → (r : LineAnswer) → r ≡ x → P r
  is-known x h r e = subst P (sym e) h

  pub each-node : (o : Option NodeNumber) (Comes : NodeNumber → LineAnswer → Type 0) →
      ((k : NodeNumber) (r : LineAnswer) → Comes k r → P r) → (r : LineAnswer) → AtNamedNode o Comes r → P r
  each-node None Comes some r e = is-known (Err Kind.NoNode) (fault Kind.NoNode) r e
  each-node (Some k) Comes some r e = some k r e

  -- and this is the node
  pub each-node-at : (o : Option NodeNumber) (Comes : NodeNumber → LineAnswer → Type 0) →
      ((k : NodeNumber) → o ≡ Some k → (r : LineAnswer) → Comes k r → P r) → (r : LineAnswer) → AtNamedNode o Comes r → P r
  each-node-at None Comes some r e = is-known (Err Kind.NoNode) (fault Kind.NoNode) r e
  each-node-at (Some k) Comes some r e = some k refl r e

  pub each-tree : (o : Option ReportedTree) (Comes : ReportedTree → LineAnswer → Type 0) →
      ((t : ReportedTree) (r : LineAnswer) → Comes t r → P r) →
      (r : LineAnswer) → AtTree o Comes r → P r
  each-tree None Comes some r e = is-known (Err Kind.NotSettled) (fault Kind.NotSettled) r e
  each-tree (Some t) Comes some r e = some t r e

  pub each-settled : (bus : Bus) (node : NodeNumber) (Comes : ReportedTree → LineAnswer → Type 0) →
      ((t : ReportedTree) (r : LineAnswer) → Comes t r → P r) →
      (r : LineAnswer) → Settled bus node Comes r → P r
  each-settled bus node Comes some = each-tree (tree_with node bus.notes) Comes some

  each-manager : (o : Option NodeNumber) (Comes : NodeNumber → LineAnswer → Type 0) →
      ((k : NodeNumber) (r : LineAnswer) → Comes k r → P r) → (r : LineAnswer) → AtManager o Comes r → P r
  each-manager None Comes some r e = is-known (Err Kind.NoManager) (fault Kind.NoManager) r e
  each-manager (Some k) Comes some r e = some k r e

  pub each-managed :
      (bus : Bus) (name : List ℕ) (Comes : NodeNumber → ℕ → NodeNumber → LineAnswer → Type 0) →
      ((node : NodeNumber) (id : ℕ) (manager : NodeNumber) (r : LineAnswer) → Comes node id manager r → P r) →
      (r : LineAnswer) → Managed bus name Comes r → P r
  each-managed bus name Comes some = each-node (node_named bus.notes.names name) _ (λ node. each-settled bus node _ (λ tree r x.
      each-manager x.0 (Comes node (id_of tree node)) (λ manager. some node (id_of tree node) manager) r x.2))

  pub each-test : (b : Bool) (One Other : LineAnswer → Type 0) → ((r : LineAnswer) → One r → P r) →
      ((r : LineAnswer) → Other r → P r) → (r : LineAnswer) → MatchBool b (One r) (Other r) → P r
  each-test true One Other one other r x = one r x
  each-test false One Other one other r x = other r x

  pub each-within : (bus : Bus) (n : ℕ) (Comes : LineAnswer → Type 0) → ((r : LineAnswer) → Comes r → P r) →
      (r : LineAnswer) → Within bus n Comes r → P r
  each-within bus n Comes some = each-test (nat_lt 2000000 (bus.world.turns + n)) (λ r. r ≡ Err Kind.TooManyTurns) Comes (is-known (Err Kind.TooManyTurns) (fault Kind.TooManyTurns)) some
