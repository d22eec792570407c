-- The last resets of the cards, and what is known of them without their trees.
use Rattle.std.proofs.Common.{◌≡◌, ◌∙◌, ℕ, Bool, true, false, cond, ◌==◌, is_some, Option, Some, None, List, [], ◌∷◌, map, refl, sym, ap, arith}
use Rattle.std.specs.Prelude.{if◌then◌else◌, option_map}
use Rattle.std.proofs.lemmas.Bool.Decides.{nat_tests}
use Rattle.std.specs.BTreeMap.{BTreeMap, get, Updates}
use Rattle.std.specs.Ordering.{nat_cmp}
use Rattle.topology_stack.specs.Tree.{Tree}
use Rattle.log_line.specs.declared.line.Reset.{Reset}
use Rattle.reset_list.specs.Update.{updated}
use Rattle.reset_list.proofs.Lemmas.{eq_number}
use Rattle.reset_log.specs.declared.cards.Known.{Known}
use Rattle.reset_log.specs.Noted.{is_of, last_of, is_second, is_repeated, known_by, forgotten}
use Rattle.reset_log.specs.Told.{cards_with}
use Rattle.log_import.specs.codings.Standing.{plain}

-- ---- a card with another last reset

same_cond : {X : Type 0} (b : Bool) (x y z : X) → cond b x y ≡ cond b x (cond b z y)
same_cond true x y z = refl
same_cond false x y z = refl

swapped : {X : Type 0} (m w : Bool) (x y z : X) → (m ≡ true → w ≡ true → ⊥) →
    cond m x (cond w y z) ≡ cond w y (cond m x z)
swapped true true x y z apart = absurd (apart refl refl)
swapped true false x y z apart = refl
swapped false true x y z apart = refl
swapped false false x y z apart = refl

pub last_updated : (c d : ℕ) (f : Option Known → Known) (ks : List Known) → ((b : Option Known) → (f b).card ≡ d) →
    last_of c (updated (is_of d) f ks) ≡ cond (d == c) (Some (f (last_of d ks))) (last_of c ks)
last_updated c d f [] is = ap (λ (n : ℕ). cond (n == c) (Some (f None)) None) (is None)
last_updated c d f (k ∷ ks) is = go (k.card == d) refl (last_updated c d f ks is)
  where
    go : (here : Bool) → (k.card == d) ≡ here →
        last_of c (updated (is_of d) f ks) ≡ cond (d == c) (Some (f (last_of d ks))) (last_of c ks) →
        last_of c (if here then f (Some k) ∷ ks else k ∷ updated (is_of d) f ks)
        ≡ cond (d == c) (Some (f (if here then Some k else last_of d ks))) (last_of c (k ∷ ks))
    go true e more =
        let same : d ≡ k.card = grind (arith, nat_tests) in
        ap (λ (n : ℕ). cond (n == c) (Some (f (Some k))) (last_of c ks)) (is (Some k))
        ∙ same_cond (d == c) (Some (f (Some k))) (last_of c ks) (Some k)
        ∙ ap (λ (n : ℕ). cond (d == c) (Some (f (Some k))) (cond (n == c) (Some k) (last_of c ks))) same
    go false e more =
        ap (λ (o : Option Known). cond (k.card == c) (Some k) o) more
        ∙ swapped (k.card == c) (d == c) (Some k) (Some (f (last_of d ks))) (last_of c ks) (λ mine wanted. grind (arith, nat_tests))

pub last_forgotten : (c : ℕ) (ks : List Known) → last_of c (map forgotten ks) ≡ option_map forgotten (last_of c ks)
last_forgotten c [] = refl
last_forgotten c (k ∷ ks) = go (k.card == c) (last_forgotten c ks)
  where
    go : (here : Bool) → last_of c (map forgotten ks) ≡ option_map forgotten (last_of c ks) →
        cond here (Some (forgotten k)) (last_of c (map forgotten ks))
        ≡ option_map forgotten (cond here (Some k) (last_of c ks))
    go true more = refl
    go false more = more

pub twice_forgotten : (o : Option Known) → option_map forgotten (option_map forgotten o) ≡ option_map forgotten o
twice_forgotten None = refl
twice_forgotten (Some k) = refl

-- ---- what is asked of a card needs no tree

pub second_forgotten : (b : Option Known) (r : Reset) → is_second (option_map forgotten b) r ≡ is_second b r
second_forgotten None r = refl
second_forgotten (Some k) r = refl

pub repeated_forgotten : (b : Option Known) (r : Reset) → is_repeated (option_map forgotten b) r ≡ is_repeated b r
repeated_forgotten None r = refl
repeated_forgotten (Some k) r = refl

-- ---- a table of the cards' last resets

abbrev pub AreLast : BTreeMap ℕ Known → List Known → Type 0
AreLast last cards = (c : ℕ) → get nat_cmp last c ≡ option_map forgotten (last_of c cards)

pub last_kept : (old new : BTreeMap ℕ Known) (cards : List Known) (r : Reset) (heard : Option Tree) → AreLast old cards →
    Updates nat_cmp old new r.card (Some (plain r (is_some heard))) → AreLast new (cards_with r heard cards)
last_kept old new cards r heard are up c =
    up.0 c
    ∙ ap (λ (b : Bool). cond b (Some (plain r (is_some heard))) (get nat_cmp old c)) (eq_number r.card c)
    ∙ ap (λ (o : Option Known). cond (r.card == c) (Some (plain r (is_some heard))) o) (are c)
    ∙ pushed (r.card == c)
    ∙ sym (ap (λ (o : Option Known). option_map forgotten o) (last_updated c r.card (known_by r heard) cards (λ b. refl)))
  where
    pushed : (b : Bool) →
        cond b (Some (plain r (is_some heard))) (option_map forgotten (last_of c cards))
        ≡ option_map forgotten (cond b (Some (known_by r heard (last_of r.card cards))) (last_of c cards))
    pushed true = refl
    pushed false = refl

pub last_lost : (last : BTreeMap ℕ Known) (cards : List Known) → AreLast last cards → AreLast last (map forgotten cards)
last_lost last cards are c =
    are c ∙ sym (ap (λ (o : Option Known). option_map forgotten o) (last_forgotten c cards) ∙ twice_forgotten (last_of c cards))
