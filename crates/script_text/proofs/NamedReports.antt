-- A report of a world has what its text needs.
use Rattle.std.proofs.Common.{◌≡◌, ℕ, ◌<◌, length, subst, sym, ◌∙◌}
use Rattle.std.proofs.lemmas.List.Elements.{All-weaker}
use Rattle.cable_world.specs.World.{CableWorld, NodeSet}
use Rattle.cable_world.specs.Run.{IsReached}
use Rattle.cable_world.proofs.Lemmas.{lawful-now}
use Rattle.settle.specs.declared.report.Outcome.{Outcome}
use Rattle.settle.specs.declared.report.Outcome.TheVariants as reported
use Rattle.settle.specs.declared.report.Part.{Part}
use Rattle.settle.specs.Report.{AreThere, IsPart}
use Rattle.settle.specs.Reported.{IsReported}
use Rattle.settle.specs.ReadBack.{IsReadBack, IfTree, ListsAreReadBack}
use Rattle.script_text.specs.ReportText.{Names, IsNamedOutcome, IsNamedPart}
use Rattle.script_text.specs.CanBeShown.{CanBeShown}

module _ (w : CableWorld) (names : Names) (enough : length names ≡ length w.cabling) where
  named : (k : ℕ) → k < length w.cabling → k < length names
  named k inside = subst (λ (n : ℕ). k < n) (sym enough) inside

  named-outcome :
      (set : NodeSet) (o : Outcome) → AreThere w set → IsReported w set o → IfTree (IsReadBack w) o → IsNamedOutcome names o
  named-outcome set (reported.Tree root list order) there h read = record {
    tree = read.tree;
    valid = read.bus;
    emitted = read.emitted;
    whole = read.whole;
    top = named root read.top;
    nodes = All-weaker (λ (k : ℕ). k < length w.cabling) (λ (k : ℕ). k < length names) named order read.there;
  }
  named-outcome set (reported.Contention a b) there h read = (named a (there a h.is.holds_a), named b (there b h.is.holds_b))
  named-outcome set (reported.Loop core) there h read = λ k inside. let p = (h.is k).0 inside in named k (there k (p.1 k p.3))

  named-part : (part : Part) → IsPart w part → IfTree (IsReadBack w) part.outcome →
      IsNamedPart names part
  named-part part is read = record {
    nodes = λ k inside. named k (is.there k inside);
    outcome = named-outcome part.nodes part.outcome is.there is.outcome read;
  }

pub can-be-shown : ListsAreReadBack → (w : CableWorld) → ∥ IsReached w ∥₁ → CanBeShown w
can-be-shown all-read w r report names is enough = λ i d inside.
    named-part w names (enough ∙ (lawful-now w r).well_formed.count) _ (is.parts.each i d inside) (all-read w report r is i d inside)
