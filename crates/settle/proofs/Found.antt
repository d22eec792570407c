-- What is reported of a component that came to a tree from a root.
use Rattle.std.proofs.Common.{◌≡◌, inl, inr, ℕ, ◌<◌, Option, Some, None, IsSome, List, length, slice_get, refl, sym, ◌∙◌, ap, subst, true≢false}
use Rattle.std.specs.Coded.{Coded-set, coded_ℕ}
use Rattle.std.specs.Prelude.{Any}
use Rattle.std.proofs.Math.Logic.{∥∥₁_elim}
use Rattle.std.proofs.lemmas.Bool.{cases_eq}
use Rattle.std.proofs.lemmas.List.Elements.{All-get_or}
use Rattle.topology_stack.specs.Tree.{Tree, emits}
use Rattle.cabling.specs.Wiring.{Wiring}
use Rattle.cabling.specs.Component.{IsComponent}
use Rattle.cabling.specs.Labels.{labels}
use Rattle.cabling.specs.NodeSet.{Holds}
use Rattle.cabling.specs.Sees.{Sees, numbers}
use Rattle.cabling.proofs.Lemmas.{Loopless, small_tree, shared}
use Rattle.port_state.specs.Machine.{PortNode}
use Rattle.cable_world.specs.World.{CableWorld}
use Rattle.cable_world.specs.Outcome.{IsTree, attrs_now}
use Rattle.cable_world.proofs.Lemmas.{some-of, some-same}
use Rattle.settle.specs.Report.{IsPart, AreParts, IsTreeFrom}
use Rattle.settle.specs.Reported.{IsReported}
use Rattle.settle.specs.declared.report.Part.{Part}
use Rattle.settle.specs.declared.report.Outcome.{Outcome}
use Rattle.settle.specs.declared.report.Outcome.TheVariants as reported
use Rattle.settle.proofs.Relabelled.{one-order}
use Rattle.settle.proofs.SameNodes.{SameNodes, same-component, same-tree}

-- a tree that was found, as the cables show it
pub record FoundTree (c : Wiring) (v : CableWorld) (from root : ℕ) (part : Part) : Type 0 where
  pub is : IsTreeFrom c from root part
  pub tree : Tree
  pub seen : Sees c (labels (attrs_now v)) root None tree
  pub emitted : is.list ≡ emits tree

no-two : IsProp ⊥
no-two = λ a b. absurd a

module _
    (c : Wiring) (v : CableWorld) (cables : v.cabling ≡ c) (from set root : ℕ)
    (component : IsComponent c from set) (loopless : Loopless c root set) (there-from : from < length c)
    (R : Type 0) (reached : ∥ R ∥₁) (moved : R → (t : Tree) × IsTree v set root t) where
  part-of : (part : Part) → IsPart v part → Holds part.nodes from → FoundTree c v from root part
  part-of part is here = go part.outcome refl is.outcome
    where
      lawful : IsComponent c is.node part.nodes
      lawful = subst (λ (d : Wiring). IsComponent d is.node part.nodes) cables is.component

      same : SameNodes set part.nodes
      same = same-component c from set part.nodes component (shared c is.node from part.nodes loopless.cabling lawful here)

      there : R → (t : Tree) × IsTree v part.nodes root t
      there r = let t = moved r in (t.0, same-tree v set part.nodes root t.0 same t.1)

      no-some : (o : Option ℕ) → IsSome o → o ≡ None → ⊥
      no-some None h e = true≢false (sym h)
      no-some (Some p) h e = absurd cc

      one-root : (top : ℕ) (t u : Tree) → IsTree v part.nodes top t → IsTree v part.nodes root u → top ≡ root
      one-root top t u a b = elim (cases_eq top root) [
        | inl e ↦ e
        | inr ne ↦
            let x = some-of (slice_get v.nodes top) _ a.no_parent in
            let y = some-of (slice_get v.nodes top) _ (b.parents top a.holds_root ne) in
            let z : x.0 ≡ y.0 = some-same x.0 y.0 (sym x.1 ∙ y.1) in
            absurd (no-some y.0.state.view.parent y.2 (ap (λ (n : PortNode). n.state.view.parent) (sym z) ∙ x.2))
      ]

      go : (o : Outcome) → part.outcome ≡ o → IsReported v part.nodes o → FoundTree c v from root part
      go (reported.Tree top list order) e k =
          let at : top ≡ root = ∥∥₁_elim reached (Coded-set coded_ℕ top root) (λ r. let t = there r in one-root top k.tree t.0 k.is t.1) in
          let seen : Sees c (labels (attrs_now v)) root None k.tree =
          subst (λ (d : Wiring). Sees d (labels (attrs_now v)) root None k.tree) cables (subst (λ (n : ℕ). Sees v.cabling (labels (attrs_now v)) n None k.tree) at k.is.seen) in
          record {
            is = record {
              holds = here;
              list = list;
              order = order;
              outcome = e ∙ ap (λ (n : ℕ). reported.Tree n list order) at;
              walk = λ label.
                  let small = small_tree c label root set loopless in
                  let walked : order ≡ numbers c root k.tree = k.walked ∙ ap (λ (n : ℕ). numbers v.cabling n k.tree) at ∙ ap (λ (d : Wiring). numbers d root k.tree) cables in
                  record {
                    tree = small.tree;
                    seen = small.seen;
                    order = walked ∙ one-order c (labels (attrs_now v)) label root None k.tree small.tree seen small.seen;
                  };
            };
            tree = k.tree;
            seen = seen;
            emitted = k.emitted;
          }
      go (reported.Loop core) e k = absurd (∥∥₁_elim reached no-two (λ r. let t = there r in k.some (λ x m. t.1.no_loop.empty x ((t.1.no_loop.is_core x).1 ((k.is x).0 m)))))
      go (reported.Contention a b) e k = absurd (∥∥₁_elim reached no-two (λ r. let t = there r in k.no_tree root t.0 t.1))

  pub found-tree : (parts : List Part) → AreParts v parts → Any (FoundTree c v from root) parts
  found-tree parts are =
      let h = are.whole from (subst (λ (d : Wiring). from < length d) (sym cables) there-from) in
      (h.0, h.1, h.2, h.3, part-of h.1 (subst (IsPart v) h.3 (All-get_or (IsPart v) parts h.0 h.1 h.2 are.each)) h.4)

  pub found : (parts : List Part) → AreParts v parts → Any (IsTreeFrom c from root) parts
  found parts are = let f = found-tree parts are in (f.0, f.1, f.2, f.3, f.4.is)
