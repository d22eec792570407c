-- The gap count of the nodes of a tree is read from its list.
use Rattle.std.proofs.Common.{◌≡◌, ℕ, inl, inr, Option, List, [], ◌∷◌, map, refl, sym, ◌∙◌, ap, subst, arith}
use Rattle.std.specs.Prelude.{All, slice_get, option_map}
use Rattle.std.proofs.lemmas.List.Elements.{All-cons, All-head, All-nil, All-map, All-tail}
use Rattle.std.proofs.lemmas.Option.{slice_get-map, get_or_from_slice_get}
use Rattle.self_id.specs.declared.standard.Standard.TheVariants.{Ieee2000}
use Rattle.self_id.specs.Node.{Node}
use Rattle.topology_stack.specs.Tree.{Tree, walk}
use Rattle.topology_stack.specs.OneAnswer.{NoListHasTwoTrees}
use Rattle.port_state.specs.Group.{shown_attrs}
use Rattle.port_state.specs.Machine.{PortNode}
use Rattle.cabling.specs.Component.{IsComponent}
use Rattle.cabling.specs.Labels.{labels, no_attrs}
use Rattle.cabling.specs.NodeSet.{Holds}
use Rattle.cabling.specs.Sees.{numbers}
use Rattle.cabling.proofs.Lemmas.{In, Loopless, at_root, loopless, node_of, nodes-visits, shared, shown_node, small-set, tree_within, visits, walk_seen}
use Rattle.cable_world.specs.World.{CableWorld}
use Rattle.cable_world.specs.Lawful.{IsWellFormed}
use Rattle.cable_world.specs.Outcome.{AtView, attrs_now}
use Rattle.cable_world.proofs.Lemmas.{some-of}
use Rattle.settle.specs.declared.report.Outcome.TheVariants as reported
use Rattle.settle.specs.declared.report.Part.{Part}
use Rattle.settle.specs.Planned.{HaveGap}
use Rattle.settle.specs.ReadBack.{ReadsGap}
use Rattle.settle.specs.Report.{IsPart}
use Rattle.settle.specs.Reported.{IsReported, ReportsTree}
use Rattle.settle.proofs.SeenTrees.{bus-of}

-- what holds of each number in a list holds of the list
all-in : (P : ℕ → Type 0) (xs : List ℕ) → ((x : ℕ) → In x xs → P x) → All P xs
all-in P [] h = All-nil P
all-in P (x ∷ xs) h = All-cons P x xs (h x (inl refl)) (all-in P xs (λ y i. h y (inr i)))

-- and what holds of what items come to holds so of the items
all-back : {X : Type 0} (P : ℕ → Type 0) (f : X → ℕ) (xs : List X) → All P (map f xs) → All (λ x. P (f x)) xs
all-back P f [] h = All-nil (λ x. P (f x))
all-back P f (x ∷ xs) h =
    All-cons (λ y. P (f y)) x xs (All-head P (f x) (map f xs) h)
    (all-back P f xs (All-tail P (f x) (map f xs) h))

module _ (trees : NoListHasTwoTrees) (w : CableWorld) (formed : IsWellFormed w) (from gap : ℕ) (have : HaveGap w from gap) where
  abbrev Has : ℕ → Type 0
  Has k = (labels (attrs_now w) k).attrs.gap ≡ gap

  at-node : (k : ℕ) → AtView w k (λ v. v.gap ≡ gap) → Has k
  at-node k at =
      let x = some-of (slice_get w.nodes k) _ at in
      ap (λ a. a.gap)
      (get_or_from_slice_get (attrs_now w) k (shown_attrs x.0.state) no_attrs
      (slice_get-map (λ (y : PortNode). shown_attrs y.state) w.nodes k
      ∙ ap (λ (o : Option PortNode). option_map (λ (y : PortNode). shown_attrs y.state) o) x.1))
      ∙ x.2

  module _
      (part : Part) (p : IsPart w part) (inside : Holds part.nodes from) (root : ℕ) (list order : List ℕ)
      (r : ReportsTree w part.nodes root list order) where
    component : IsComponent w.cabling from part.nodes
    component = shared w.cabling p.node from part.nodes formed.cabling p.component inside

    no-loop : Loopless w.cabling root part.nodes
    no-loop =
        loopless w.cabling root part.nodes r.is.no_loop.core formed.cabling (p.there root r.is.holds_root)
        (shared w.cabling p.node root part.nodes formed.cabling p.component r.is.holds_root)
        (small-set part.nodes 63 (λ i h. omega (arith, p.there i h, formed.cabling.few_nodes)))
        r.is.no_loop.is_core r.is.no_loop.empty

    walked : All (λ (n : Node). n.attrs.gap ≡ gap) (walk r.tree)
    walked =
        let label = labels (attrs_now w) in
        let each : All Has (numbers w.cabling root r.tree) =
        all-in Has (numbers w.cabling root r.tree) (λ k i.
        at-node k (have part.nodes k component (tree_within w.cabling label root part.nodes r.tree no-loop r.is.seen k i))) in
        subst (All (λ (n : Node). n.attrs.gap ≡ gap))
        (sym (walk_seen w.cabling label (at_root root) r.tree formed.cabling no-loop.there r.is.seen))
        (All-map (λ (n : Node). n.attrs.gap ≡ gap) (shown_node w.cabling label) (visits w.cabling (at_root root) r.tree)
        (all-back Has node_of (visits w.cabling (at_root root) r.tree)
        (subst (All Has) (sym (nodes-visits w.cabling (at_root root) r.tree)) each)))

    reads : ReadsGap list gap
    reads tree bus emitted =
        subst (λ (t : Tree). All (λ (n : Node). n.attrs.gap ≡ gap) (walk t))
        (sym (trees Ieee2000 tree r.tree bus (bus-of w.cabling w formed refl root part.nodes no-loop r.tree r.is.seen) (emitted ∙ r.emitted)))
        walked

  pub part-reads :
      (part : Part) → IsPart w part → Holds part.nodes from → (root : ℕ) (list order : List ℕ) →
      part.outcome ≡ reported.Tree root list order → ReadsGap list gap
  part-reads part p inside root list order is =
      reads part p inside root list order (subst (IsReported w part.nodes) is p.outcome)
