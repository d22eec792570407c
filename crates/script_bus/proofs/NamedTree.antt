-- The tree in which a node stands settled has names.
use Rattle.std.proofs.Common.{◌≡◌, ℕ, suc, ◌==◌, Bool, true, false, cond, List, [], ◌∷◌, find, All, Option, None, Some, IfSome, refl, subst, arith}
use Rattle.std.specs.Int.{bit_at}
use Rattle.std.specs.Option.{option_and_then}
use Rattle.settle.specs.declared.report.Outcome.{Outcome}
use Rattle.settle.specs.declared.report.Outcome.TheVariants as reported
use Rattle.settle.specs.declared.report.Part.{Part}
use Rattle.settle.specs.declared.report.Report.{Report}
use Rattle.script_text.specs.ReportText.{Names, IsNamedTree, IsNamedOutcome, IsNamedPart, IsNamedReport}
use Rattle.script_told.specs.Bus.{Notes, ReportedTree, tree_of, part_with, tree_with}

found : (P : Part → Type 0) (p : Part → Bool) (xs : List Part) → All P xs → IfSome (find p xs) P
found P p [] all = tt
found P p (x ∷ xs) all = either (p x) (all 0 x (omega arith)) (found P p xs (λ i d inside. all (suc i) d (omega (arith, inside))))
  where
    either : (b : Bool) → P x → IfSome (find p xs) P → IfSome (cond b (Some x) (find p xs)) P
    either true first rest = first
    either false first rest = rest

IsNamed : Names → ReportedTree → Type 0
IsNamed names t = IsNamedTree names t.root t.list t.order

named-part : (names : Names) (part : Part) → IsNamedPart names part →
    IfSome (tree_of part) (IsNamed names)
unfolding IsNamed
named-part names part is = by part.outcome refl is.outcome
  where
    by : (o : Outcome) → part.outcome ≡ o → IsNamedOutcome names o → IfSome (tree_of (record part { outcome = o })) (IsNamed names)
    by (reported.Tree root list order) e is = is
    by (reported.Contention a b) e is = tt
    by (reported.Loop core) e is = tt

of-part : (names : Names) (o : Option Part) → IfSome o (IsNamedPart names) →
    IfSome (option_and_then tree_of o) (IsNamed names)
of-part names None is = tt
of-part names (Some part) is = named-part names part is

named-there :
    (names : Names) (node : ℕ) (notes : Notes) → IfSome notes.report (IsNamedReport names) → IfSome (tree_with node notes) (IsNamed names)
named-there names node notes is = by notes.report is
  where
    by : (r : Option Report) → IfSome r (IsNamedReport names) → IfSome (option_and_then tree_of (option_and_then (part_with node) r)) (IsNamed names)
    by None is = tt
    by (Some report) is = of-part names (part_with node report) (found (IsNamedPart names) (λ part. bit_at part.nodes node == 1) report.parts is)

pub named_tree :
    (names : Names) (node : ℕ) (notes : Notes) (t : ReportedTree) →
    IfSome notes.report (IsNamedReport names) →
    tree_with node notes ≡ Some t → IsNamedTree names t.root t.list t.order
unfolding IsNamed
named_tree names node notes t is there = subst (λ (o : Option ReportedTree). IfSome o
    (IsNamed names)) there (named-there names node notes is)
