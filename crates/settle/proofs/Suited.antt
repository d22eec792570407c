-- What a plan finds: the tree of a component, and the node that has its ID.
use Rattle.std.proofs.Common.{◌≡◌, ℕ, zero, suc, ◌^◌, ◌<◌, ◌≤◌, Bool, true, cond, Some, None, List, [], ◌∷◌, length, slice_get, get_or, refl, ◌∙◌, ap, arith}
use Rattle.std.specs.Prelude.{unwrap_or}
use Rattle.std.proofs.lemmas.Bool.{lt-ltb}
use Rattle.std.proofs.lemmas.Option.{slice_get-get_or, slice_get_within}
use Rattle.cabling.specs.NodeSet.{Holds}
use Rattle.cabling.specs.Component.{IsComponent}
use Rattle.cabling.specs.Labels.{labels}
use Rattle.cabling.specs.Sees.{numbers}
use Rattle.cabling.proofs.Lemmas.{Loopless, tree_within, tree_once, tree_few, shared, seen_loopless, small-set}
use Rattle.port_state.specs.Config.{config_packet}
use Rattle.port_state.specs.Machine.{PortNode}
use Rattle.cable_world.specs.World.{CableWorld}
use Rattle.cabling.specs.declared.cable.CableFault.TheVariants.{NoNode}
use Rattle.cable_world.specs.declared.act.Act.TheVariants.{Config}
use Rattle.cable_world.specs.Act.{IsConfigPacket, act_fault}
use Rattle.cable_world.specs.Lawful.{IsLawful}
use Rattle.settle.proofs.SameNodes.{SameNodes, same-component, same-tree}
use Rattle.cable_world.specs.Outcome.{IsTree, AtView, attrs_now}
use Rattle.cable_world.proofs.Lemmas.{some-of, some-at, some-same}
use Rattle.outcomes.proofs.Lemmas.{in-read, one-place}
use Rattle.bus_manager.specs.Gap.{gaps, gap_of}
use Rattle.root_plan.specs.declared.choice.RootPlan.{RootPlan}
use Rattle.settle.specs.Planned.{SuitsTree, HasId}

-- ---- gap counts have six bits

abbrev AllFit : List ℕ → Type 0
AllFit [] = Unit {0}
AllFit (x ∷ xs) = (x ≤ 63) × AllFit xs

fits-at : (xs : List ℕ) (i : ℕ) → AllFit xs → unwrap_or (slice_get xs i) 63 ≤ 63
fits-at [] i h = omega arith
fits-at (x ∷ xs) zero h = h.0
fits-at (x ∷ xs) (suc i) h = fits-at xs i h.1

pub gap-fits : (hops : ℕ) → gap_of hops ≤ 63
gap-fits hops = fits-at gaps hops (omega arith, (omega arith, (omega arith, (omega arith, (omega arith, (omega arith, (omega arith, (omega arith, (omega arith, (omega arith, (omega arith, (omega arith, (omega arith, (omega arith, (omega arith, (omega arith, tt))))))))))))))))

-- ---- a component that stands as a tree

module _
    (w : CableWorld) (l : IsLawful w) (from : ℕ) (plan : RootPlan) (s : SuitsTree w from plan) where
  node-there : (k : ℕ) → Holds s.set k → k < length w.cabling
  node-there k m =
      let x = some-of (slice_get w.nodes k) _ (s.is.ids k m) in
      omega (arith, slice_get_within w.nodes k x.0 x.1, l.well_formed.count)

  -- the node exists
  pub from-there : from < length w.cabling
  from-there = node-there from s.component.holds

  -- and so the packet isn't refused
  pub not-refused : act_fault (Config from plan.root_id true (Some plan.gap)) w ≡ None
  not-refused =
      let there : from < length w.nodes = omega (arith, from-there, l.well_formed.count) in
      ap (λ (b : Bool). cond b None (Some (NoNode (record { node = from; port = 0 })))) (lt-ltb from (length w.nodes) there)

  pub its-small : s.set < 2 ^ 63
  its-small = small-set s.set 63 (λ k m. omega (arith, node-there k m, l.well_formed.cabling.few_nodes))

  module _ (set : ℕ) (component : IsComponent w.cabling from set) (small : set < 2 ^ 63) where
    pub same-nodes : SameNodes s.set set
    same-nodes = same-component w.cabling from s.set set s.component component

    pub tree-there : IsTree w set s.root s.tree
    tree-there = same-tree w s.set set s.root s.tree same-nodes s.is

    of-root : IsComponent w.cabling s.root set
    of-root = shared w.cabling from s.root set l.well_formed.cabling component tree-there.holds_root

    loopless : Loopless w.cabling s.root set
    loopless = seen_loopless w.cabling (labels (attrs_now w)) s.root set s.tree l.well_formed.cabling (node-there s.root s.is.holds_root) small of-root s.is.seen

    abbrev order : List ℕ
    order = numbers w.cabling s.root s.tree

    abbrev node : ℕ
    node = get_or order plan.root_id 0

    at : slice_get order plan.root_id ≡ Some node
    at = slice_get-get_or order plan.root_id 0 s.place

    -- the packet is one
    pub packet-fits : IsConfigPacket (config_packet plan.root_id true (Some plan.gap))
    packet-fits = record {
      bits = record {
        root_bits = omega (arith, s.place, tree_few w.cabling (labels (attrs_now w)) s.root set s.tree loopless s.is.seen);
        gap_bits = λ g e. omega (arith, some-same plan.gap g e, s.gap, gap-fits s.hops);
      };
      says = refl;
    }

    -- one node has the ID
    pub has-id : (x : ℕ) × HasId w from plan.root_id x
    has-id = (node, record { set = set; component = component; holds = inside; named = named })
      where
        inside : Holds set node
        inside = tree_within w.cabling (labels (attrs_now w)) s.root set s.tree loopless s.is.seen node (in-read order plan.root_id node at)

        named : AtView w node (λ v. v.id ≡ Some plan.root_id)
        named =
            let x = some-of (slice_get w.nodes node) _ (tree-there.ids node inside) in
            let i = some-of x.0.state.view.id _ x.2 in
            let same : i.0 ≡ plan.root_id = one-place order i.0 plan.root_id node (tree_once w.cabling (labels (attrs_now w)) s.root set s.tree loopless s.is.seen) i.2 at in
            some-at (slice_get w.nodes node) x.0 (λ (y : PortNode). y.state.view.id ≡ Some plan.root_id) x.1 (i.1 ∙ ap (λ (n : ℕ). Some n) same)

    -- seen from any node of the component there is a tree
    pub loopless-from : (x : ℕ) → Holds set x → Loopless w.cabling x set
    loopless-from x m = record {
      cabling = l.well_formed.cabling;
      there = node-there x (same-nodes.1 x m);
      component = shared w.cabling from x set l.well_formed.cabling component m;
      small = small;
      no_loop = loopless.no_loop;
    }
