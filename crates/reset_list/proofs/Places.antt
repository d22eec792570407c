-- A table of places stays right as its list changes.
use Rattle.std.proofs.Common.{◌≡◌, ◌∙◌, ℕ, Bool, true, false, List, [], ◌∷◌, ◌++◌, Some, None, length, refl, sym, ap, subst}
use Rattle.std.specs.Prelude.{cond, slice_get, slice_set}
use Rattle.std.specs.BTreeMap.{BTreeMap, get, is_at, Updates}
use Rattle.std.specs.Map.{lookup}
use Rattle.std.specs.declared.cmp.Ordering.{Ordering}
use Rattle.reset_list.specs.Update.{place_of}
use Rattle.reset_list.specs.Places.{ArePlaces}
use Rattle.reset_list.proofs.Update.{place_set, place_other, place_new}

pub places_none : {K X : Type 0} (cmp : K → K → Ordering) (has : K → X → Bool) (table : BTreeMap K ℕ) (xs : List X) →
    table.entries ≡ [] → xs ≡ [] → ArePlaces cmp has table xs
places_none {K = K} {X = X} cmp has table xs none e =
    subst (λ (ys : List X). ArePlaces cmp has table ys) (sym e)
    (λ q. ap (λ (es : List (K × ℕ)). lookup (is_at (cmp q)) es) none)

-- the same entries are of the same places
pub places_same : {K X : Type 0} (cmp : K → K → Ordering) (has : K → X → Bool) (old new : BTreeMap K ℕ) (xs : List X) →
    ArePlaces cmp has old xs → new.entries ≡ old.entries → ArePlaces cmp has new xs
places_same {K = K} cmp has old new xs are e = λ q.
    ap (λ (es : List (K × ℕ)). lookup (is_at (cmp q)) es) e ∙ are q

-- an item that changes keeps its key
pub places_set : {K X : Type 0} (cmp : K → K → Ordering) (has : K → X → Bool) (table : BTreeMap K ℕ) (xs : List X) (at : ℕ) (x y : X) →
    ArePlaces cmp has table xs → slice_get xs at ≡ Some x → ((q : K) → has q y ≡ has q x) →
    ArePlaces cmp has table (slice_set xs at y)
places_set cmp has table xs at x y are get same = λ q. are q ∙ sym (place_set (has q) xs at x y get (same q))

-- an item with a new key stands behind the others
pub places_push : {K X : Type 0} (cmp : K → K → Ordering) (has : K → X → Bool) (old new : BTreeMap K ℕ) (xs : List X) (key : K) (y : X) →
    ArePlaces cmp has old xs → place_of (has key) xs ≡ None → Updates cmp old new key (Some (length xs)) →
    ((q : K) → is_at (cmp key) q ≡ has q y) → ((q : K) → has q y ≡ true → q ≡ key) →
    ArePlaces cmp has new (xs ++ y ∷ [])
places_push {K = K} cmp has old new xs key y are none update here one = λ q. go q (has q y) refl
  where
    go : (q : K) (b : Bool) → has q y ≡ b → get cmp new q ≡ place_of (has q) (xs ++ y ∷ [])
    go q true e =
        let same : q ≡ key = one q e in
        update.0 q ∙ ap (λ (b : Bool). cond b (Some (length xs)) (get cmp old q)) (here q ∙ e)
        ∙ sym (place_new (has q) xs y e (subst (λ (r : K). place_of (has r) xs ≡ None) (sym same) none))
    go q false e =
        update.0 q ∙ ap (λ (b : Bool). cond b (Some (length xs)) (get cmp old q)) (here q ∙ e)
        ∙ are q ∙ sym (place_other (has q) xs y e)
