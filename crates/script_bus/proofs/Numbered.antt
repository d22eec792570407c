-- Names by their numbers, of which no two are the same.
use Rattle.std.proofs.Common.{◌≡◌, ℕ, ◌+◌, ◌<◌, ◌≤◌, Bool, true, false, nat_lt, List, [], ◌∷◌, ◌++◌, Option, Some, length, get_or, refl, sym, subst, ◌∙◌, arith}
use Rattle.std.proofs.Math.Seq.{get_or-append_seam}
use Rattle.std.proofs.lemmas.Bool.{true≢false}
use Rattle.std.proofs.lemmas.Bool.Decides.{nat_tests}
use Rattle.std.proofs.lemmas.Cmp.{nat_list_eq_equiv}
use Rattle.std.proofs.lemmas.Grind.{common_steps}
use Rattle.std.proofs.lemmas.List.{get_or_append_left, get_or_default}
use Rattle.std.proofs.lemmas.List.Folds.{list_any_at}
use Rattle.std.proofs.lemmas.List.Sums.{position_or_len_is}
use Rattle.std.specs.List.{list_any, position_or_len}
use Rattle.std.specs.Str.{bytes_eq}
use Rattle.script_text.specs.ReportText.{Names}
use Rattle.script_told.specs.Bus.{node_named, is_declared}
use Rattle.script_bus.specs.codings.Numbering.{AreDistinct}

pub none-distinct : (names : Names) → names ≡ [] → AreDistinct names
none-distinct names none = subst AreDistinct (sym none) (λ j k before within. absurd (omega (arith, within)))

-- a name that isn't declared differs from each
differs : (names : Names) (name : List ℕ) → is_declared names name ≡ false → (j : ℕ) → j < length names →
    bytes_eq name (get_or names j []) ≡ false
differs names name new j within = go (bytes_eq name (get_or names j [])) refl
  where
    go : (b : Bool) → bytes_eq name (get_or names j []) ≡ b → b ≡ false
    go true e = absurd (true≢false (sym (list_any_at (bytes_eq name) names j [] within e) ∙ new))
    go false e = refl

-- so one more name is distinct from the others
pub one-more : (names more : Names) (name : List ℕ) → AreDistinct names → is_declared names name ≡ false →
    more ≡ names ++ name ∷ [] → AreDistinct more
one-more names more name are new is = subst AreDistinct (sym is) all
  where
    all : AreDistinct (names ++ name ∷ [])
    all j k before within = go (nat_lt k (length names)) refl
      where
        go : (b : Bool) → nat_lt k (length names) ≡ b →
            bytes_eq (get_or (names ++ name ∷ []) k []) (get_or (names ++ name ∷ []) j []) ≡ false
        go true e =
            let low : k < length names = grind (arith, nat_tests) in
            let here : get_or (names ++ name ∷ []) k [] ≡ get_or names k [] = get_or_append_left names (name ∷ []) [] k low in
            let there : get_or (names ++ name ∷ []) j [] ≡ get_or names j [] = get_or_append_left names (name ∷ []) [] j (omega (arith, low, before)) in
            rw (here, there) (are j k before low)
        go false e =
            let high : length names ≤ k = grind (arith, nat_tests) in
            let last : k ≡ length names = grind (arith, common_steps, high, within) in
            let here : get_or (names ++ name ∷ []) k [] ≡ name
            = subst (λ (i : ℕ). get_or (names ++ name ∷ []) i [] ≡ name) (sym last) (get_or-append_seam names name [] []) in
            let low : j < length names = omega (arith, last, before) in
            let there : get_or (names ++ name ∷ []) j [] ≡ get_or names j [] = get_or_append_left names (name ∷ []) [] j low in
            rw (here, there) (differs names name new j low)

-- a name at a place is at the first place where it stands
pub record IsNumbered (names : Names) (name : List ℕ) (k : ℕ) : Type 0 where
  pub named : node_named names name ≡ Some k
  pub within : k < length names
  pub declared : is_declared names name ≡ true

numbered :
    (names : Names) (name : List ℕ) (k : ℕ) → AreDistinct names → k < length names → bytes_eq (get_or names k []) name ≡ true →
    IsNumbered names name k
numbered names name k are low e =
    let laws = nat_list_eq_equiv in
    let there = get_or names k [] in
    let here : bytes_eq name there ≡ true = sym (laws.congr there name there e) ∙ laws.refl there in
    let first : position_or_len (bytes_eq name) names ≡ k
    = position_or_len_is (bytes_eq name) names k [] (omega (arith, low))
    (λ j before. sym (laws.congr there name (get_or names j []) e) ∙ are j k before low)
    (λ _. here) in
    record {
      named = grind (arith, nat_tests, first, low);
      within = low;
      declared = list_any_at (bytes_eq name) names k [] low here;
    }

pub guessed :
    (names slice now : Names) (name there : List ℕ) (k : ℕ) → AreDistinct names → slice ≡ names → names ≡ now →
    k < length slice → there ≡ get_or slice k there → bytes_eq there name ≡ true → IsNumbered now name k
guessed names slice now name there k are s n low at e =
    let is : there ≡ get_or slice k [] = at ∙ get_or_default slice k there [] low in
    subst (λ (l : Names). IsNumbered l name k) n
    (numbered names name k are (subst (λ (l : Names). k < length l) s low)
    (subst (λ (l : Names). bytes_eq (get_or l k []) name ≡ true) s
    (subst (λ (x : List ℕ). bytes_eq x name ≡ true) is e)))
