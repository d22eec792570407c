-- The text of a report, part by part.
use Rattle.std.proofs.Common.{◌≡◌, ℕ, ◌+◌, ◌<◌, List, [], ◌∷◌, ◌++◌, length, take, get_or, ap, refl, sym, subst, ◌∙◌, arith}
use Rattle.std.proofs.lemmas.Grind.{common_steps}
use Rattle.std.proofs.lemmas.List.{append_assoc, take_more, map-append, get_or_default}
use Rattle.std.proofs.lemmas.Option.{unwrap_or-slice_get}
use Rattle.settle.specs.declared.report.Part.{Part}
use Rattle.script_text.specs.codings.Appended.{IsAppended}
use Rattle.script_text.specs.ReportText.{Names, name_of, names_in, component_line, IsOutcomeText, IsPartText, ArePartTexts, none, more}

pub no-parts : (names : Names) (old : List ℕ) → IsAppended old (ArePartTexts names []) old
no-parts names old = record { added = []; told = none; is = grind (arith, common_steps) }

joined : (old mid new one two : List ℕ) → mid ≡ old ++ one → new ≡ mid ++ two
    → new ≡ old ++ (one ++ two)
joined old mid new one two first second =
    second ∙ ap (λ text. text ++ two) first ∙ append_assoc old one two

pub part-more :
    (names : Names) (parts : List Part) (k : ℕ) (part : Part) (old mid new : List ℕ) →
    k < length parts → part ≡ get_or parts k part →
    IsAppended old (ArePartTexts names (take k parts)) mid → IsAppended mid (IsPartText names part) new →
    IsAppended old (ArePartTexts names (take (k + 1) parts)) new
part-more names parts k part old mid new within at so one =
    let next : take (k + 1) parts ≡ take k parts ++ part ∷ [] =
    take_more parts k part within ∙ ap (λ (p : Part). take k parts ++ p ∷ []) (sym at) in
    let Are : List Part → Type 0 = λ ps. ArePartTexts names ps (so.added ++ one.added) in
    record {
      added = so.added ++ one.added;
      told = subst Are (sym next) (more (take k parts) so.added part one.added so.told one.told);
      is = joined old mid new so.added one.added so.is one.is;
    }

pub part-told :
    (names : Names) (part : Part) (old mid new : List ℕ) →
    mid ≡ old ++ component_line names part → IsAppended mid (IsOutcomeText names part.outcome) new →
    IsAppended old (IsPartText names part) new
part-told names part old mid new line one = record {
  added = component_line names part ++ one.added;
  told = record { outcome = one.added; told = one.told; is = refl };
  is = joined old mid new (component_line names part) one.added line one.is;
}

pub names-more :
    (names : Names) (order : List ℕ) (k : ℕ) (list : Names) (name d : List ℕ) →
    k < length order → get_or order k 0 < length names → list ≡ names_in names (take k order) →
    name ≡ get_or names (get_or order k 0) d →
    list ++ name ∷ [] ≡ names_in names (take (k + 1) order)
names-more names order k list name d within named so at =
    let node : ℕ = get_or order k 0 in
    let is : name_of names node ≡ name =
    unwrap_or-slice_get names node [] ∙ get_or_default names node [] d named ∙ sym at in
    let next : take (k + 1) order ≡ take k order ++ node ∷ [] = take_more order k 0 within in
    ap (λ ys. ys ++ name ∷ []) so
    ∙ ap (λ (x : List ℕ). names_in names (take k order) ++ x ∷ []) (sym is)
    ∙ sym (map-append (name_of names) (take k order) (node ∷ []))
    ∙ ap (names_in names) (sym next)
