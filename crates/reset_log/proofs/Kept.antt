-- The cards stay kept as a reset is noted, and as trees are forgotten.
use Rattle.std.proofs.Common.{◌≡◌, ◌∙◌, ◌==◌, inl, inr, ℕ, zero, suc, ◌<◌, ◌≤◌, Bool, true, false, true≢false, not, ◌&&◌, is_none, is_some, Option, Some, None, List, [], ◌∷◌, ◌++◌, length, eqb-true, refl, sym, ap, subst, arith}
use Rattle.std.specs.Prelude.{if◌then◌else◌, cond, map, slice_get, slice_set}
use Rattle.std.specs.List.{list_any}
use Rattle.std.specs.BTreeMap as tree
use Rattle.std.specs.BTreeMap.{BTreeMap, is_at}
use Rattle.std.specs.BTreeSet.{BTreeSet, contains, Updates}
use Rattle.std.specs.Ordering.{nat_cmp}
use Rattle.topology_stack.specs.Tree.{Tree}
use Rattle.log_line.specs.declared.line.Reset.{Reset}
use Rattle.reset_list.specs.Update.{next_place, place_of}
use Rattle.reset_list.specs.Places.{ArePlaces}
use Rattle.reset_list.proofs.Lemmas.{eq_number, get_push, get_set, place_passes, places_none, places_push, places_same, places_set}
use Rattle.reset_log.specs.declared.cards.Known.{Known}
use Rattle.reset_log.specs.Noted.{is_of, is_anew, missing, or_before, known_by, forgotten}
use Rattle.reset_log.specs.codings.Kept.{AreDrawn, AreKept, forgotten_at}

pub kept_none : (places : BTreeMap ℕ ℕ) (drawn : BTreeSet ℕ) (ks : List Known) → places.entries ≡ [] → ks ≡ [] →
    AreKept places drawn ks
kept_none places drawn ks none e = record {
  placed = places_none nat_cmp is_of places ks none e;
  has_drawn = subst (λ (xs : List Known). AreDrawn drawn xs) (sym e) (λ at k get has. absurd cc);
}

-- more places
pub more_drawn : (old new : BTreeSet ℕ) (ks : List Known) →
    ((at : ℕ) → contains nat_cmp old at ≡ true → contains nat_cmp new at ≡ true) →
    AreDrawn old ks → AreDrawn new ks
more_drawn old new ks more are = λ at k get has. more at (are at k get has)

-- ---- a reset of a card that is there

-- a card that has a tree behind a reset was heard, or had one before
tree_before : (r : Reset) (heard : Option Tree) (x : Known) → is_some (known_by r heard (Some x)).tree ≡ true →
    is_some heard ≡ false → is_some x.tree ≡ true
tree_before r (Some t) x e none = absurd cc
tree_before r None x e none = go ((missing (Some x) r == 0) && not (is_anew x r)) e
  where
    go : (b : Bool) → is_some (if b then x.tree else None) ≡ true → is_some x.tree ≡ true
    go true e = e
    go false e = absurd cc

both_true : (a b : Bool) → a ≡ true → b ≡ true → (a && b) ≡ true
both_true true b e f = f
both_true false b e f = absurd cc

-- `z` is what was looked at
drawn_set : (old new : BTreeSet ℕ) (ks : List Known) (at : ℕ) (x y z : Known) (r : Reset) (heard : Option Tree) (wanted : Bool) →
    AreDrawn old ks → wanted ≡ (is_some heard && is_none z.tree) → (wanted ≡ true → contains nat_cmp new at ≡ true) →
    ((i : ℕ) → contains nat_cmp old i ≡ true → contains nat_cmp new i ≡ true) →
    slice_get ks at ≡ Some z → slice_get ks at ≡ Some x → y ≡ known_by r heard (Some x) → AreDrawn new (slice_set ks at y)
drawn_set old new ks at x y z r heard wanted are asked there others read got is = λ i k get has. elim (get_set ks at i y k get) [
  | inr was ↦ others i (are i k was has)
  | inl (same, same_card) ↦
      let tree : is_some (known_by r heard (Some x)).tree ≡ true = subst (λ (w : Known). is_some w.tree ≡ true) (same_card ∙ is) has in
      subst (λ (j : ℕ). contains nat_cmp new j ≡ true) (sym same) (go x.tree heard refl refl tree)
]
  where
    one : z ≡ x
    one = cc

    go : (t h : Option Tree) → x.tree ≡ t → heard ≡ h → is_some (known_by r heard (Some x)).tree ≡ true →
        contains nat_cmp new at ≡ true
    go (Some t) h was e tree = others at (are at x got (ap (λ (u : Option Tree). is_some u) was))
    go None (Some u) was e tree =
        let fresh : is_none z.tree ≡ true = ap (λ (w : Known). is_none w.tree) one ∙ ap (λ (w : Option Tree). is_none w) was in
        there (asked ∙ both_true (is_some heard) (is_none z.tree) (ap (λ (w : Option Tree). is_some w) e) fresh)
    go None None was e tree =
        let before : is_some x.tree ≡ true = tree_before r heard x tree (ap (λ (w : Option Tree). is_some w) e) in
        let none : is_some x.tree ≡ false = ap (λ (w : Option Tree). is_some w) was in
        absurd (true≢false (sym before ∙ none))

pub kept_at : (places : BTreeMap ℕ ℕ) (old new : BTreeSet ℕ) (ks : List Known) (at : ℕ) (x y z : Known) (r : Reset) (heard : Option Tree) (wanted : Bool) →
    AreKept places old ks → place_of (is_of r.card) ks ≡ Some at →
    wanted ≡ (is_some heard && is_none z.tree) → (wanted ≡ true → contains nat_cmp new at ≡ true) →
    ((i : ℕ) → contains nat_cmp old i ≡ true → contains nat_cmp new i ≡ true) →
    slice_get ks at ≡ Some z → slice_get ks at ≡ Some x → y ≡ known_by r heard (Some x) →
    AreKept places new (slice_set ks at y)
kept_at places old new ks at x y z r heard wanted are place asked there others read got is = record {
  placed =
      places_set nat_cmp is_of places ks at x y are.placed got
      (λ q. ap (λ (card : ℕ). card == q) (ap (λ (w : Known). w.card) is ∙ sym card));
  has_drawn = drawn_set old new ks at x y z r heard wanted are.has_drawn asked there others read got is;
}
  where
    card : x.card ≡ r.card
    card = eqb-true _ _ (place_passes (is_of r.card) ks at x place got)

-- ---- the first reset of a card

drawn_push : (old new : BTreeSet ℕ) (ks : List Known) (y : Known) (r : Reset) (heard : Option Tree) →
    AreDrawn old ks → (is_some heard ≡ true → contains nat_cmp new (length ks) ≡ true) →
    ((i : ℕ) → contains nat_cmp old i ≡ true → contains nat_cmp new i ≡ true) →
    y ≡ known_by r heard None → AreDrawn new (ks ++ y ∷ [])
drawn_push old new ks y r heard are there others is = λ i k get has. elim (get_push ks i y k get) [
  | inr was ↦ others i (are i k was has)
  | inl (same, same_card) ↦
      let tree : is_some (known_by r heard None).tree ≡ true = subst (λ (z : Known). is_some z.tree ≡ true) (same_card ∙ is) has in
      subst (λ (j : ℕ). contains nat_cmp new j ≡ true) (sym same) (there (heard_first heard tree))
]
  where
    heard_first : (h : Option Tree) → is_some (or_before h None) ≡ true → is_some h ≡ true
    heard_first None e = e
    heard_first (Some t) e = refl

pub kept_first : (was is : BTreeMap ℕ ℕ) (old new : BTreeSet ℕ) (ks : List Known) (y : Known) (r : Reset) (heard : Option Tree) →
    AreKept was old ks → place_of (is_of r.card) ks ≡ None →
    tree.Updates nat_cmp was is r.card (Some (length ks)) →
    (is_some heard ≡ true → contains nat_cmp new (length ks) ≡ true) →
    ((i : ℕ) → contains nat_cmp old i ≡ true → contains nat_cmp new i ≡ true) →
    y ≡ known_by r heard None → AreKept is new (ks ++ y ∷ [])
kept_first was is old new ks y r heard are none update there others e = record {
  placed =
      places_push nat_cmp is_of was is ks r.card y are.placed none update
      (λ q. eq_number r.card q ∙ ap (λ (c : ℕ). c == q) (sym card))
      (λ q at. sym (eqb-true _ _ at) ∙ card);
  has_drawn = drawn_push old new ks y r heard are.has_drawn there others e;
}
  where
    card : y.card ≡ r.card
    card = ap (λ (z : Known). z.card) e

-- no card is new where there is no memory
pub kept_same : (was is : BTreeMap ℕ ℕ) (old new : BTreeSet ℕ) (ks : List Known) → AreKept was old ks →
    is.entries ≡ was.entries → ((i : ℕ) → contains nat_cmp old i ≡ true → contains nat_cmp new i ≡ true) →
    AreKept is new ks
kept_same was is old new ks are same others = record {
  placed = places_same nat_cmp is_of was is ks are.placed same;
  has_drawn = more_drawn old new ks others are.has_drawn;
}

-- ---- trees are forgotten

pub forgotten_there : (ks : List Known) (at : ℕ) (x : Known) → slice_get ks at ≡ Some x →
    slice_set ks at (forgotten x) ≡ forgotten_at at ks
forgotten_there [] at x get = absurd cc
forgotten_there (k ∷ ks) zero x get = let same : x ≡ k = cc in ap (λ (z : Known). forgotten z ∷ ks) same
forgotten_there (k ∷ ks) (suc at) x get = ap (λ (rest : List Known). k ∷ rest) (forgotten_there ks at x get)

pub forgotten_past : (at : ℕ) (ks : List Known) → length ks ≤ at → ks ≡ forgotten_at at ks
forgotten_past at [] past = refl
forgotten_past zero (k ∷ ks) past = absurd (omega (arith, past))
forgotten_past (suc at) (k ∷ ks) past = ap (λ (rest : List Known). k ∷ rest) (forgotten_past at ks (omega (arith, past)))

pub forgets_all : (at : ℕ) (ks : List Known) → map forgotten (forgotten_at at ks) ≡ map forgotten ks
forgets_all at [] = refl
forgets_all zero (k ∷ ks) = refl
forgets_all (suc at) (k ∷ ks) = ap (λ (rest : List Known). forgotten k ∷ rest) (forgets_all at ks)

same_place : (card at : ℕ) (ks : List Known) →
    place_of (is_of card) (forgotten_at at ks) ≡ place_of (is_of card) ks
same_place card at [] = refl
same_place card zero (k ∷ ks) = refl
same_place card (suc at) (k ∷ ks) =
    ap (λ (found : Option ℕ). if is_of card k then Some 0 else next_place found) (same_place card at ks)

pub places_forgotten : (places : BTreeMap ℕ ℕ) (at : ℕ) (ks : List Known) →
    ArePlaces nat_cmp is_of places ks → ArePlaces nat_cmp is_of places (forgotten_at at ks)
places_forgotten places at ks are = λ card. are card ∙ sym (same_place card at ks)

-- a card that has a tree stood elsewhere
elsewhere : (at i : ℕ) (ks : List Known) (k : Known) → slice_get (forgotten_at at ks) i ≡ Some k →
    is_some k.tree ≡ true → (slice_get ks i ≡ Some k) × (i ≡ at → ⊥)
elsewhere at i [] k get has = absurd cc
elsewhere zero zero (z ∷ zs) k get has = absurd (none (ap (λ (found : Option Known). found) get) has)
  where
    none : Some (forgotten z) ≡ Some k → is_some k.tree ≡ true → ⊥
    none e tree =
        let same : forgotten z ≡ k = cc in
        let wrong : false ≡ true = subst (λ (x : Known). is_some x.tree ≡ true) (sym same) tree in
        absurd cc
elsewhere zero (suc i) (z ∷ zs) k get has = (get, λ e. omega (arith, e))
elsewhere (suc at) zero (z ∷ zs) k get has = (get, λ e. omega (arith, e))
elsewhere (suc at) (suc i) (z ∷ zs) k get has =
    let h = elsewhere at i zs k get has in (h.0, λ e. h.1 (omega (arith, e)))

pub drawn_less : (old new : BTreeSet ℕ) (at : ℕ) (ks : List Known) → AreDrawn old ks →
    Updates nat_cmp old new at false → AreDrawn new (forgotten_at at ks)
drawn_less old new at ks are update = λ i k get has.
    let h = elsewhere at i ks k get has in
    update.0 i ∙ ap (λ (b : Bool). cond b false (contains nat_cmp old i)) (eq_number at i ∙ apart (at == i) refl h.1) ∙ are i k h.0 has
  where
    apart : {i : ℕ} (b : Bool) → (at == i) ≡ b → (i ≡ at → ⊥) → b ≡ false
    apart true e ne = absurd (ne (sym (eqb-true _ _ e)))
    apart false e ne = refl

same_known : (k : Known) → is_some k.tree ≡ false → k ≡ forgotten k
same_known k e = go k.tree refl e
  where
    go : (t : Option Tree) → k.tree ≡ t → is_some t ≡ false → k ≡ forgotten k
    go None is e = ap (λ (t : Option Tree). record k { tree = t }) is
    go (Some t) is e = absurd cc

-- where no card has a tree, each is as if its tree were forgotten
pub all_forgotten : (ks : List Known) → ((i : ℕ) (k : Known) → slice_get ks i ≡ Some k → is_some k.tree ≡ true → ⊥) →
    ks ≡ map forgotten ks
all_forgotten [] none = refl
all_forgotten (k ∷ ks) none =
    ap (λ (x : Known). x ∷ ks) (same_known k (apart (is_some k.tree) refl))
    ∙ ap (λ (rest : List Known). forgotten k ∷ rest) (all_forgotten ks (λ i x get has. none (suc i) x get has))
  where
    apart : (b : Bool) → is_some k.tree ≡ b → b ≡ false
    apart true e = absurd (none 0 k refl e)
    apart false e = refl

-- ---- one place after the other

pub kept_less : (places : BTreeMap ℕ ℕ) (old new : BTreeSet ℕ) (at : ℕ) (ks items : List Known) → AreKept places old ks →
    Updates nat_cmp old new at false → items ≡ forgotten_at at ks → AreKept places new items
kept_less places old new at ks items are update e =
    subst (λ (l : List Known). AreKept places new l) (sym e) (record {
      placed = places_forgotten places at ks are.placed;
      has_drawn = drawn_less old new at ks are.has_drawn update;
    })

-- where no place is left
pub kept_empty : (places : BTreeMap ℕ ℕ) (old new : BTreeSet ℕ) (ks : List Known) → AreKept places old ks →
    new.keys ≡ old.keys → AreKept places new ks
kept_empty places old new ks are same = record {
  placed = are.placed;
  has_drawn = more_drawn old new ks (λ at has. subst (λ (keys : List ℕ). list_any (is_at (nat_cmp at)) keys ≡ true) (sym same) has) are.has_drawn;
}

pub none_drawn : (drawn : BTreeSet ℕ) (ks : List Known) → AreDrawn drawn ks → (0 < length drawn.keys → false ≡ true) →
    ks ≡ map forgotten ks
none_drawn drawn ks are none = all_forgotten ks (λ i k get has. nowhere drawn.keys i none (are i k get has))
  where
    nowhere : (keys : List ℕ) (i : ℕ) → (0 < length keys → false ≡ true) → list_any (is_at (nat_cmp i)) keys ≡ true → ⊥
    nowhere [] i e found = absurd cc
    nowhere (key ∷ keys) i e found = let wrong : false ≡ true = e (omega arith) in absurd cc
