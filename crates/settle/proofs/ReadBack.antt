-- The list of a reported tree is read back.
use Rattle.std.proofs.Common.{◌≡◌, ℕ, ◌^◌, ◌<◌, None, List, All, length, refl, sym, ◌∙◌, ap, subst, arith}
use Rattle.std.proofs.lemmas.List.Elements.{All-map, All-weaker}
use Rattle.self_id.specs.declared.standard.Standard.TheVariants.{Ieee2000}
use Rattle.topology_stack.specs.Tree.{Tree, emits}
use Rattle.topology_stack.specs.OneAnswer.{NoListHasTwoTrees}
use Rattle.cabling.specs.Component.{IsComponent}
use Rattle.cabling.specs.Labels.{labels}
use Rattle.cabling.specs.Sees.{numbers}
use Rattle.cabling.proofs.Lemmas.{visits, at_root, one-tree, good_at, good_root, good_visits, Loopless, loopless, node_of, nodes-visits, shared, small-set}
use Rattle.cable_world.specs.World.{CableWorld}
use Rattle.cable_world.specs.Lawful.{IsWellFormed}
use Rattle.cable_world.specs.Run.{IsReached}
use Rattle.cable_world.specs.Outcome.{IsTree, attrs_now}
use Rattle.cable_world.proofs.Lemmas.{lawful-now}
use Rattle.settle.specs.declared.report.Outcome.{Outcome}
use Rattle.settle.specs.declared.report.Outcome.TheVariants as reported
use Rattle.settle.specs.declared.report.Part.{Part}
use Rattle.settle.specs.declared.report.Report.{Report}
use Rattle.settle.specs.Report.{AreThere, IsPart, IsReport}
use Rattle.settle.specs.Reported.{IsReported}
use Rattle.settle.proofs.SeenTrees.{so-many, bus-of}
use Rattle.settle.specs.ReadBack.{IsReadBack, IsTheCables, IfTree, AtTrees}

module _ (w : CableWorld) (formed : IsWellFormed w) where
  module _ (set node root : ℕ) (t : Tree) (is : IsComponent w.cabling node set) (there : AreThere w set) (h : IsTree w set root t) where
    top : root < length w.cabling
    top = there root h.holds_root

    small : set < 2 ^ 63
    small = small-set set 63 (λ i inside. omega (arith, there i inside, formed.cabling.few_nodes))

    no-loop : Loopless w.cabling root set
    no-loop = loopless w.cabling root set h.no_loop.core formed.cabling top (shared w.cabling node root set formed.cabling is h.holds_root) small h.no_loop.is_core h.no_loop.empty

    nodes-there : All (λ (k : ℕ). k < length w.cabling) (numbers w.cabling root t)
    nodes-there =
        subst (All (λ (k : ℕ). k < length w.cabling)) (nodes-visits w.cabling (at_root root) t)
        (All-map (λ (k : ℕ). k < length w.cabling) node_of (visits w.cabling (at_root root) t) (λ i d inside.
        (good_at w.cabling (visits w.cabling (at_root root) t) i d
        (good_visits w.cabling (labels (attrs_now w)) (at_root root) t formed.cabling (good_root w.cabling root top) h.seen) inside).there))

    pub read-back : (list order : List ℕ) → list ≡ emits t → order ≡ numbers w.cabling root t → IsReadBack w root list order
    read-back list order emitted walked = record {
      tree = t;
      bus = bus-of w.cabling w formed refl root set no-loop t h.seen;
      emitted = sym emitted;
      seen = h.seen;
      walked = walked;
      whole = ap length walked ∙ so-many w.cabling (labels (attrs_now w)) root None t h.seen;
      top = top;
      there = subst (All (λ (k : ℕ). k < length w.cabling)) (sym walked) nodes-there;
    }

  pub outcome-read : (set node : ℕ) (o : Outcome) → IsComponent w.cabling node set →
      AreThere w set → IsReported w set o → IfTree (IsReadBack w) o
  outcome-read set node (reported.Tree root list order) is there h = read-back set node root h.tree is there h.is list order h.emitted h.walked
  outcome-read set node (reported.Contention a b) is there h = tt
  outcome-read set node (reported.Loop core) is there h = tt

  pub part-read : (part : Part) → IsPart w part → IfTree (IsReadBack w) part.outcome
  part-read part p = outcome-read part.nodes p.node part.outcome p.component p.there p.outcome

pub lists-read : (w : CableWorld) (report : Report) → ∥ IsReached w ∥₁ → IsReport w report →
    AtTrees (IsReadBack w) report
lists-read w report r is =
    All-weaker (IsPart w) (λ (part : Part). IfTree (IsReadBack w) part.outcome) (part-read w (lawful-now w r).well_formed) report.parts is.parts.each

-- ---- and the tree is that of the cables

read-cables : NoListHasTwoTrees → (w : CableWorld) (o : Outcome) → IfTree (IsReadBack w) o →
    IfTree (λ root list order. IsTheCables w root list) o
read-cables one w (reported.Tree root list order) h = λ t u bus emitted seen.
    one Ieee2000 t h.tree bus h.bus (emitted ∙ sym h.emitted) ∙ one-tree w.cabling (labels (attrs_now w)) root None h.tree u h.seen seen
read-cables one w (reported.Contention a b) h = tt
read-cables one w (reported.Loop core) h = tt

pub lists-cables : NoListHasTwoTrees → (w : CableWorld) (report : Report) → ∥ IsReached w ∥₁ →
    IsReport w report → AtTrees (λ root list order. IsTheCables w root list) report
lists-cables one w report r is =
    All-weaker (λ (part : Part). IfTree (IsReadBack w) part.outcome) (λ (part : Part). IfTree (λ root list order. IsTheCables w root list) part.outcome)
    (λ part h. read-cables one w part.outcome h) report.parts (lists-read w report r is)
