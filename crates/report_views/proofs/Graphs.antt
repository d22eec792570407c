-- The graphs of components, one behind the other.
use Rattle.std.proofs.Common.{◌≡◌, ◌∙◌, ℕ, ◌+◌, List, [], ◌∷◌, ◌++◌, drop, append_assoc, append-nil, ap, refl, subst, sym}
use Rattle.cabling.specs.Wiring.{Wiring}
use Rattle.settle.specs.declared.report.Part.{Part}
use Rattle.script_text.specs.ReportText.{Names}
use Rattle.report_views.specs.codings.Added.{IsAppended}
use Rattle.report_views.specs.ReportGraph.{IsOutcomeGraph, ArePartGraphs}

-- whatever text the parts from one on have, it makes the text of all parts
abbrev pub Complete : Names → Wiring → List Part → ℕ → List ℕ → List ℕ → Type 0
Complete names c parts k old mid =
    (more : List ℕ) → ArePartGraphs names c (drop k parts) more →
    IsAppended old (ArePartGraphs names c parts) (mid ++ more)

pub none-yet : (names : Names) (c : Wiring) (parts : List Part) (old : List ℕ) → Complete names c parts 0 old old
none-yet names c parts old more are = record { added = more; told = are; is = refl }

pub one-more :
    (names : Names) (c : Wiring) (parts : List Part) (k : ℕ) (part : Part) (old mid new : List ℕ) →
    drop k parts ≡ part ∷ drop (k + 1) parts → Complete names c parts k old mid →
    IsAppended mid (IsOutcomeGraph names c part.nodes part.outcome) new → Complete names c parts (k + 1) old new
one-more names c parts k part old mid new at so one more are =
    let Are : List Part → Type 0 = λ ps. ArePartGraphs names c ps (one.added ++ more) in
    let Is : List ℕ → Type 0 = IsAppended old (ArePartGraphs names c parts) in
    let same : mid ++ (one.added ++ more) ≡ new ++ more =
    sym (append_assoc mid one.added more) ∙ ap (λ (l : List ℕ). l ++ more) (sym one.is) in
    subst Is same (so (one.added ++ more) (subst Are (sym at) (one.added, more, one.told, are, refl)))

pub all-there : (names : Names) (c : Wiring) (parts : List Part) (k : ℕ) (old new : List ℕ) →
    drop k parts ≡ [] → Complete names c parts k old new → IsAppended old (ArePartGraphs names c parts) new
all-there names c parts k old new end so =
    let Are : List Part → Type 0 = λ ps. ArePartGraphs names c ps [] in
    subst (IsAppended old (ArePartGraphs names c parts)) (append-nil new) (so [] (subst Are (sym end) refl))
