-- A report has one text at most.
use Rattle.std.proofs.Common.{◌≡◌, ℕ, List, [], ◌∷◌, ◌++◌, ap, refl, sym, ◌∙◌, append-nil, append_assoc}
use Rattle.self_id.specs.declared.standard.Standard.TheVariants.{Ieee2000}
use Rattle.topology_stack.specs.Tree.{Tree}
use Rattle.topology_stack.specs.Text.{tree_text}
use Rattle.topology_stack.specs.OneAnswer.{NoListHasTwoTrees}
use Rattle.settle.specs.declared.report.Outcome.{Outcome}
use Rattle.settle.specs.declared.report.Outcome.TheVariants as reported
use Rattle.settle.specs.declared.report.Part.{Part}
use Rattle.script_text.specs.ReportText.{Names, names_in, root_line, report_line, component_line, IsOutcomeText, IsPartText, ArePartTexts, none, more}
use Rattle.script_text.specs.OneText.{ReportsHaveOneText}

-- ---- the texts from the first on

abbrev InOrder : Names → List Part → List ℕ → Type 0
InOrder names [] text = text ≡ []
InOrder names (part ∷ parts) text =
    (first : List ℕ) × (rest : List ℕ) × IsPartText names part first × InOrder names parts rest × (text ≡ first ++ rest)

one-more :
    (names : Names) (parts : List Part) (part : Part) (before text : List ℕ) →
    InOrder names parts before → IsPartText names part text → InOrder names (parts ++ part ∷ []) (before ++ text)
one-more names [] part before text h is = (text, [], is, refl, ap (λ (x : List ℕ). x ++ text) h ∙ sym (append-nil text))
one-more names (p ∷ parts) part before text h is = (
  h.0,
  h.1 ++ text,
  h.2,
  one-more names parts part h.1 text h.3 is,
  ap (λ (x : List ℕ). x ++ text) h.4 ∙ append_assoc h.0 h.1 text,
)

in-order : (names : Names) (parts : List Part) (text : List ℕ) → ArePartTexts names parts text →
    InOrder names parts text
in-order names parts text none = refl
in-order names parts text (more before so-far part its told is) =
    one-more names before part so-far its (in-order names before so-far told) is

-- ---- one of each

one-outcome : NoListHasTwoTrees → (names : Names) (o : Outcome) (a b : List ℕ) →
    IsOutcomeText names o a → IsOutcomeText names o b → a ≡ b
one-outcome one names (reported.Tree root list order) a b x y =
    x.is
    ∙ ap (λ (t : Tree). root_line names root ++ tree_text t (names_in names order)) (one Ieee2000 x.tree y.tree x.valid y.valid (x.emitted ∙ sym y.emitted))
    ∙ sym y.is
one-outcome one names (reported.Contention c d) a b x y = x ∙ sym y
one-outcome one names (reported.Loop core) a b x y = x ∙ sym y

one-part : NoListHasTwoTrees → (names : Names) (part : Part) (a b : List ℕ) →
    IsPartText names part a → IsPartText names part b → a ≡ b
one-part one names part a b x y =
    x.is
    ∙ ap (λ (text : List ℕ). component_line names part ++ text) (one-outcome one names part.outcome x.outcome y.outcome x.told y.told)
    ∙ sym y.is

one-list : NoListHasTwoTrees → (names : Names) (parts : List Part) (a b : List ℕ) →
    InOrder names parts a → InOrder names parts b → a ≡ b
one-list one names [] a b x y = x ∙ sym y
one-list one names (part ∷ parts) a b x y =
    x.4
    ∙ ap (λ (text : List ℕ). text ++ x.1) (one-part one names part x.0 y.0 x.2 y.2)
    ∙ ap (λ (text : List ℕ). y.0 ++ text) (one-list one names parts x.1 y.1 x.3 y.3)
    ∙ sym y.4

pub one-text : NoListHasTwoTrees → ReportsHaveOneText
one-text one names number report a b x y =
    x.is
    ∙ ap (λ (text : List ℕ). report_line number report.turn ++ text)
    (one-list one names report.parts x.parts y.parts (in-order names report.parts x.parts x.told) (in-order names report.parts y.parts y.told))
    ∙ sym y.is
