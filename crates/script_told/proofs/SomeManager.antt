-- A tree that was reported is a bus tree's, which elects a manager or none.
use Rattle.std.proofs.Common.{◌≡◌, Bool, true, false, cond, List, [], ◌∷◌, find, All, Option, None, Some, refl, sym, ◌∙◌, subst, ap}
use Rattle.std.specs.Int.{bit_at}
use Rattle.std.specs.Option.{option_and_then, option_map}
use Rattle.std.specs.Prelude.{◌==◌}
use Rattle.std.proofs.lemmas.List.Elements.{All-head, All-tail}
use Rattle.topology_stack.specs.Elect.{elected}
use Rattle.cable_world.specs.World.{CableWorld}
use Rattle.cable_world.proofs.Lemmas.{some-same}
use Rattle.settle.specs.declared.report.Outcome.{Outcome}
use Rattle.settle.specs.declared.report.Outcome.TheVariants as reported
use Rattle.settle.specs.declared.report.Part.{Part}
use Rattle.settle.specs.ReadBack.{IsReadBack, IfTree, ListsAreReadBack}
use Rattle.script_told.specs.Bus.{ReportedTree, tree_of, part_with}
use Rattle.script_told.specs.Step.{node_with}
use Rattle.script_told.specs.SomeManager.{IsManaged, ReportedTreesAreManaged}

and-then :
    {A B : Type 0} → (f : A → Option B) (o : Option A) (y : B) → option_and_then f o ≡ Some y →
    (x : A) × (o ≡ Some x) × (f x ≡ Some y)
and-then f None y e = absurd cc
and-then f (Some x) y e = (x, refl, e)

found-part : (P : Part → Type 0) (p : Part → Bool) (xs : List Part) (y : Part) → All P xs →
    find p xs ≡ Some y → P y
found-part P p [] y all e = absurd cc
found-part P p (x ∷ xs) y all e = either (p x) (found-part P p xs y (All-tail P x xs all)) e
  where
    either : (b : Bool) → (find p xs ≡ Some y → P y) → cond b (Some x) (find p xs) ≡ Some y → P y
    either true rest e = subst P (some-same x y e) (All-head P x xs all)
    either false rest e = rest e

managed-part : (w : CableWorld) (part : Part) (tree : ReportedTree) → tree_of part ≡ Some tree →
    IfTree (IsReadBack w) part.outcome → IsManaged tree
managed-part w part tree e read = by part.outcome e read
  where
    by : (o : Outcome) → tree_of (record part { outcome = o }) ≡ Some tree → IfTree (IsReadBack w) o → IsManaged tree
    by (reported.Tree root list order) e read =
        let r : ReportedTree = record { root = root; list = list; order = order } in
        subst IsManaged (some-same r tree e) (record {
          shown = read.tree;
          is = record { bus = read.bus; emitted = read.emitted };
          whole = read.whole;
          manager = option_map (node_with r) (elected read.tree);
          has = record { shown = read.tree; is = record { bus = read.bus; emitted = read.emitted }; elects = refl };
        })
    by (reported.Contention a b) e read = absurd cc
    by (reported.Loop core) e read = absurd cc

pub managed-trees : ListsAreReadBack → ReportedTreesAreManaged
managed-trees all-read w report notes node tree reached is last stands =
    let p = and-then tree_of (option_and_then (part_with node) notes.report) tree stands in
    let q = and-then (part_with node) notes.report p.0 p.1 in
    let same = some-same report q.0 (sym last ∙ q.1) in
    let found : IfTree (IsReadBack w) p.0.outcome =
    found-part (λ part. IfTree (IsReadBack w) part.outcome) (λ part. bit_at part.nodes node == 1) report.parts p.0
    (all-read w report reached is) (ap (part_with node) same ∙ q.2) in
    managed-part w p.0 tree p.2 found
