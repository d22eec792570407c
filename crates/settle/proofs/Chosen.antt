-- A plan for the tree that a list tells suits the component that has the list.
use Rattle.std.proofs.Common.{◌≡◌, ℕ, ◌^◌, ◌<◌, None, length, slice_get, ap, subst, arith, refl, sym}
use Rattle.std.proofs.lemmas.Option.{slice_get_within}
use Rattle.self_id.specs.declared.standard.Standard.TheVariants.{Ieee2000}
use Rattle.topology_stack.specs.Tree.{Tree, walk, IsBusTreeOf}
use Rattle.topology_stack.specs.OneAnswer.{NoListHasTwoTrees}
use Rattle.cabling.specs.Component.{IsComponent}
use Rattle.cabling.specs.Labels.{labels}
use Rattle.cabling.specs.Sees.{numbers}
use Rattle.cabling.proofs.Lemmas.{Loopless, shared, seen_loopless}
use Rattle.cable_world.specs.World.{CableWorld}
use Rattle.cable_world.specs.Lawful.{IsLawful}
use Rattle.cable_world.specs.Outcome.{IsTree, attrs_now}
use Rattle.cable_world.proofs.Lemmas.{some-of}
use Rattle.bus_manager.specs.Hops.{IsHops}
use Rattle.root_plan.proofs.Lemmas.{candidate_within}
use Rattle.settle.specs.Planned.{PlansSuit}
use Rattle.settle.proofs.SameNodes.{same-component, same-tree}
use Rattle.settle.proofs.SeenTrees.{so-many, bus-of}

pub suits :
    NoListHasTwoTrees → (w : CableWorld) → IsLawful w → (from whole : ℕ) → from < length w.cabling →
    IsComponent w.cabling from whole → whole < 2 ^ 63 → PlansSuit w from
suits one w l from whole there component small set root stands told plan own is bus same plans = record {
  set = set;
  component = own;
  root = root;
  tree = stands;
  is = is;
  place = omega (arith, candidate_within told plan.root_id plans.candidate, ap (λ (t : Tree). length (walk t)) equal, counts);
  hops = plan.hops;
  are_hops = subst (λ (t : Tree). IsHops t plan.hops) equal plans.hops;
  gap = plans.gap;
}
  where
    tree-there : IsTree w whole root stands
    tree-there = same-tree w set whole root stands (same-component w.cabling from set whole own component) is

    root-there : root < length w.cabling
    root-there =
        let x = some-of (slice_get w.nodes root) _ (is.ids root is.holds_root) in
        omega (arith, slice_get_within w.nodes root x.0 x.1, l.well_formed.count)

    loopless : Loopless w.cabling root whole
    loopless = seen_loopless w.cabling (labels (attrs_now w)) root whole stands l.well_formed.cabling root-there small (shared w.cabling from root whole l.well_formed.cabling component tree-there.holds_root) is.seen

    counts : length (walk stands) ≡ length (numbers w.cabling root stands)
    counts = sym (so-many w.cabling (labels (attrs_now w)) root None stands is.seen)

    stands-bus : IsBusTreeOf Ieee2000 stands
    stands-bus = bus-of w.cabling w l.well_formed refl root whole loopless stands is.seen

    equal : told ≡ stands
    equal = one Ieee2000 told stands bus stands-bus same
