-- What a plan asks of the tree that stands.
use Rattle.std.proofs.Common.{◌≡◌, ℕ, ◌<◌, length, slice_get, All, get_or, Option, None, Some, List, sym, ◌∙◌, subst, ap, arith}
use Rattle.std.specs.Option.{option_map}
use Rattle.std.proofs.lemmas.List.{get_or_default}
use Rattle.std.proofs.lemmas.Option.{slice_get_within, slice_get-get_or}
use Rattle.self_id.specs.declared.standard.Standard.TheVariants.{Ieee2000}
use Rattle.topology_stack.specs.Tree.{Tree, walk, emits, IsBusTreeOf}
use Rattle.topology_stack.specs.Elect.{elected}
use Rattle.topology_stack.specs.OneAnswer.{NoListHasTwoTrees}
use Rattle.cabling.specs.NodeSet.{Holds}
use Rattle.cabling.specs.Component.{IsComponent}
use Rattle.cabling.specs.Looped.{IsCoreOf}
use Rattle.cabling.specs.Labels.{labels}
use Rattle.cabling.specs.Sees.{numbers}
use Rattle.cabling.specs.Walk.{IsWalk}
use Rattle.cabling.proofs.Lemmas.{In, Loopless, tree_within, tree_once, shared, seen_loopless}
use Rattle.cable_world.specs.World.{CableWorld}
use Rattle.cable_world.specs.Lawful.{IsLawful}
use Rattle.cable_world.specs.Outcome.{attrs_now}
use Rattle.cable_world.proofs.Lemmas.{some-of, some-at}
use Rattle.outcomes.proofs.Lemmas.{in-read, one-place}
use Rattle.port_state.specs.Machine.{PortNode}
use Rattle.root_plan.specs.declared.choice.RootPlan.{RootPlan}
use Rattle.root_plan.proofs.Lemmas.{candidate_within}
use Rattle.settle.specs.Planned.{SuitsTree, HasId, PlansSuit}
use Rattle.script_told.specs.Bus.{ReportedTree}
use Rattle.root_plan.specs.Plan.{IsPlan}
use Rattle.script_text.specs.ReportText.{Names, IsNamedTree}
use Rattle.script_told.specs.Step.{HasManager, node_with}
use Rattle.script_bus.specs.codings.Standing.{StandsAs}

module _ (w : CableWorld) (l : IsLawful w) (node : ℕ) (tree : ReportedTree)
    (s : StandsAs w node tree) where
  abbrev t : Tree
  t = s.stands.tree

  node-there : (k : ℕ) → Holds s.set k → k < length w.cabling
  node-there k m =
      let x = some-of (slice_get w.nodes k) _ (s.stands.is.ids k m) in
      omega (arith, slice_get_within w.nodes k x.0 x.1, l.well_formed.count)

  owned : (k : ℕ) → Holds s.set k → IsComponent w.cabling k s.set
  owned k m = shared w.cabling node k s.set l.well_formed.cabling s.component m

  loopless : Loopless w.cabling tree.root s.set
  loopless =
      let top = s.stands.is.holds_root in
      seen_loopless w.cabling (labels (attrs_now w)) tree.root s.set t l.well_formed.cabling (node-there tree.root top) s.small (owned tree.root top) s.stands.is.seen

  module _ (id : ℕ) (place : id < length tree.order) where
    abbrev its : ℕ
    its = node_with tree id

    at : slice_get tree.order id ≡ Some its
    at = slice_get-get_or tree.order id 0 place ∙ ap Some (get_or_default tree.order id 0 0 place)

    numbered : slice_get (numbers w.cabling tree.root t) id ≡ Some its
    numbered = subst (λ (ns : List ℕ). slice_get ns id ≡ Some its) s.stands.walked at

    pub holds-its : Holds s.set its
    holds-its = tree_within w.cabling (labels (attrs_now w)) tree.root s.set t loopless s.stands.is.seen its (in-read (numbers w.cabling tree.root t) id its numbered)

    -- the node with the ID exists
    pub its-there : its < length w.cabling
    its-there = node-there its holds-its

    -- it shows the ID
    pub its-id : HasId w node id its
    its-id = record {
      set = s.set;
      component = s.component;
      holds = holds-its;
      named =
          let x = some-of (slice_get w.nodes its) _ (s.stands.is.ids its holds-its) in
          let i = some-of x.0.state.view.id _ x.2 in
          let same : i.0 ≡ id = one-place (numbers w.cabling tree.root t) i.0 id its (tree_once w.cabling (labels (attrs_now w)) tree.root s.set t loopless s.stands.is.seen) i.2 numbered in
          some-at (slice_get w.nodes its) x.0 (λ (y : PortNode). y.state.view.id ≡ Some id) x.1 (i.1 ∙ ap (λ (n : ℕ). Some n) same);
    }

    -- no cables of its component form a loop
    pub its-core : IsCoreOf w.cabling its s.stands.is.no_loop.core
    its-core = record { component = s.set; of_node = owned its holds-its; is = s.stands.is.no_loop.is_core }

    -- each node of a walk from it exists
    pub walk-there :
        (ns : List ℕ) (count : ℕ) → count ≡ length w.cabling → IsWalk w.cabling its ns → All (λ k. k < count) ns
    walk-there ns count same is = λ i d inside.
        let p = is (labels (attrs_now w)) in
        let root = seen_loopless w.cabling (labels (attrs_now w)) its s.set p.tree l.well_formed.cabling its-there s.small (owned its holds-its) p.seen in
        let k : ℕ = get_or ns i d in
        let has : In k (numbers w.cabling its p.tree) = subst (In k) p.order (in-read ns i k (slice_get-get_or ns i d inside)) in
        omega (arith, same, node-there k (tree_within w.cabling (labels (attrs_now w)) its s.set p.tree root p.seen k has))

  -- each node of the order exists
  pub all-there : All (λ k. k < length w.cabling) tree.order
  all-there = λ i d inside. omega (arith, its-there i inside, get_or_default tree.order i d 0 inside)

  -- a plan for the tree suits it
  pub plan-suits : PlansSuit w node → (shown : Tree) → IsBusTreeOf Ieee2000 shown →
      emits shown ≡ tree.list → (plan : RootPlan) → IsPlan shown plan → SuitsTree w node plan
  plan-suits suit shown bus same plan p =
      suit s.set tree.root t shown plan s.component s.stands.is bus (same ∙ s.stands.emitted)
      (record { candidate = p.candidate; hops = p.hops; gap = p.gap })

-- the root of a plan has a place in the order
pub plan-place :
    NoListHasTwoTrees → (names : Names) (tree : ReportedTree) →
    IsNamedTree names tree.root tree.list tree.order →
    (shown : Tree) → IsBusTreeOf Ieee2000 shown → emits shown ≡ tree.list → (plan : RootPlan) → IsPlan shown plan →
    plan.root_id < length tree.order
plan-place trees names tree named shown bus same plan p =
    let one : named.tree ≡ shown = trees Ieee2000 named.tree shown named.valid bus (named.emitted ∙ sym same) in
    omega (arith, candidate_within shown plan.root_id p.candidate, ap (λ (t : Tree). length (walk t)) one, named.whole)

-- where there is a manager, some node is elected
pub is-elected :
    NoListHasTwoTrees → (tree : ReportedTree) (manager : ℕ) → HasManager tree (Some manager) →
    (shown : Tree) →
    IsBusTreeOf Ieee2000 shown → emits shown ≡ tree.list → elected shown ≡ None → ⊥
is-elected trees tree manager has shown bus same none = by (elected has.shown) (ap elected one ∙ none) has.elects
  where
    one : has.shown ≡ shown
    one = trees Ieee2000 has.shown shown has.is.bus bus (has.is.emitted ∙ sym same)

    by : (o : Option ℕ) → o ≡ None → Some manager ≡ option_map (node_with tree) o → ⊥
    by None e h = absurd cc
    by (Some id) e h = absurd cc
