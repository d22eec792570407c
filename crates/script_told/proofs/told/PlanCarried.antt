-- A plan that has an answer was carried out.
use Rattle.std.proofs.Common.{◌≡◌, ◌+◌, ◌==◌, ℕ, Bool, true, false, List, Option, Some, None, refl}
use Rattle.std.specs.Prelude.{Ok, Err, MatchBool, nat_lt}
use Rattle.cable_world.specs.World.{NodeNumber}
use Rattle.settle.specs.Report.{quiet_turns_of}
use Rattle.script_lines.specs.declared.kind.Kind.{Kind}
use Rattle.script_lines.specs.declared.command.Command.TheVariants.{Plan}
use Rattle.script_told.specs.Bus.{Bus, ReportedTree, node_named, tree_with, values_at}
use Rattle.script_told.specs.Step.{LineAnswer, AtNamedNode, AtTree, AtManager, HasManager, Settled, Within, Plans, PlansAs, Does, id_of}
use Rattle.script_told.specs.EachPlan.{IsCarriedOut}

module _ (bus : Bus) (name : List ℕ) (after : Bus) (text : List ℕ) where
  abbrev done : LineAnswer
  done = Ok (after, text)

  abbrev IsSo : Type 0
  IsSo = IsCarriedOut bus name after text

  no-fault : (kind : Kind) → done ≡ Err kind → IsSo
  no-fault kind e = absurd cc

  abbrev is-named : NodeNumber → Type 0
  is-named node = node_named bus.notes.names name ≡ Some node

  in-tree : (node : NodeNumber) → is-named node → (o : Option ReportedTree) →
      tree_with node bus.notes ≡ o → AtTree o (Plans bus name node) done → IsSo
  in-tree node named None e x = no-fault Kind.NotSettled x
  in-tree node named (Some tree) e x = record { node = node; named = named; tree = tree; settled = e; carried = x }

  in-turns :
      (node : NodeNumber) → is-named node → (b : Bool) →
      MatchBool b (done ≡ Err Kind.TooManyTurns) (Settled bus node (Plans bus name node) done) → IsSo
  in-turns node named true x = no-fault Kind.TooManyTurns x
  in-turns node named false x = in-tree node named (tree_with node bus.notes) refl x

  as-manager :
      (node : NodeNumber) → is-named node → (b : Bool) →
      MatchBool b (Within bus (quiet_turns_of bus.world) (Settled bus node (Plans bus name node)) done) (done ≡ Err Kind.NotManager) → IsSo
  as-manager node named true x = in-turns node named (nat_lt 2000000 (bus.world.turns + quiet_turns_of bus.world)) x
  as-manager node named false x = no-fault Kind.NotManager x

  with-manager :
      (node : NodeNumber) → is-named node → (id : ℕ) (o : Option NodeNumber) → AtManager o (PlansAs bus name node id) done → IsSo
  with-manager node named id None x = no-fault Kind.NoManager x
  with-manager node named id (Some manager) x = as-manager node named ((values_at manager bus).bus_manager_id == id) x

  abbrev Asks : NodeNumber → ReportedTree → LineAnswer → Type 0
  Asks node tree r =
      (manager : Option NodeNumber) × HasManager tree manager × AtManager manager (PlansAs bus name node (id_of tree node)) r

  with-tree : (node : NodeNumber) → is-named node → (o : Option ReportedTree) →
      AtTree o (Asks node) done → IsSo
  with-tree node named None x = no-fault Kind.NotSettled x
  with-tree node named (Some tree) x = with-manager node named (id_of tree node) x.0 x.2

  with-node : (o : Option NodeNumber) → node_named bus.notes.names name ≡ o →
      AtNamedNode o (λ node. Settled bus node (Asks node)) done → IsSo
  with-node None e x = no-fault Kind.NoNode x
  with-node (Some node) e x = with-tree node e (tree_with node bus.notes) x

  pub plan-carried : Does bus (Plan name) done → IsSo
  plan-carried x = with-node (node_named bus.notes.names name) refl x
