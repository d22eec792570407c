-- A table of which the entries of a set are still to be written: those are old, and the others are new.
use Rattle.std.proofs.Common.{◌≡◌, ℕ, zero, suc, ◌<◌, inl, inr, List, [], ◌∷◌, length, get_or, slice_set, refl, sym, ◌∙◌, ap, arith}
use Rattle.std.proofs.lemmas.Bool.{cases_eq}
use Rattle.std.proofs.lemmas.List.{get_or-set_same, get_or-set_other, same_lists, length-set}
use Rattle.cabling.specs.NodeSet.{Holds, IsEmpty, AgreeBut, IsWithin}

-- an entry that is there
pub some-at : {X : Type 0} → (xs : List X) (k : ℕ) → k < length xs → (x : X) × (get_or xs k x ≡ x)
some-at [] k h = absurd (omega (arith, h))
some-at (x ∷ xs) zero h = (x, refl)
some-at (x ∷ xs) (suc k) h = some-at xs k (omega (arith, h))

-- the rest of a set is in it
pub less-within : (left less at : ℕ) → AgreeBut left less at → (Holds less at → ⊥) → IsWithin less left
less-within left less at agree gone k has = elim (cases_eq k at) [
  | inl e ↦ absurd (gone (rw (sym e) has))
  | inr ne ↦ (agree k ne).0 has
]

pub record Blended {X : Type 0} (left : ℕ) (new old now : List X) : Type 0 where
  pub long : length now ≡ length old
  pub waits : (k : ℕ) (d : X) → k < length old → Holds left k → get_or now k d ≡ get_or old k d
  pub done : (k : ℕ) (d : X) → k < length old → (Holds left k → ⊥) → get_or now k d ≡ get_or new k d

-- the entries outside of the set needn't be written
pub blend-start :
    {X : Type 0} → (set : ℕ) (new old : List X) →
    ((k : ℕ) (d : X) → k < length old → (Holds set k → ⊥) → get_or old k d ≡ get_or new k d) → Blended set new old old
blend-start set new old h = record { long = refl; waits = λ k d inside has. refl; done = h }

-- one more entry
pub blend-set :
    {X : Type 0} → (left less at : ℕ) (new old now : List X) (x : X) → AgreeBut left less at → (Holds less at → ⊥) →
    Blended left new old now → at < length old → ((d : X) → x ≡ get_or new at d) → Blended less new old (slice_set now at x)
blend-set {X = X} left less at new old now x agree gone b inside is = record {
  long = length-set now at x ∙ b.long;
  waits = λ k d within has. elim (cases_eq k at) [
    | inl e ↦ absurd (gone (subst_holds less k at e has))
    | inr ne ↦ get_or-set_other now at k x d ne ∙ b.waits k d within ((agree k ne).0 has)
  ];
  done = λ k d within out. elim (cases_eq k at) [
    | inl e ↦
        ap (λ i. get_or (slice_set now at x) i d) e ∙ get_or-set_same now at x d (omega (arith, b.long, inside)) ∙ is d
        ∙ sym (ap (λ i. get_or new i d) e)
    | inr ne ↦ get_or-set_other now at k x d ne ∙ b.done k d within (λ has. out ((agree k ne).1 has))
  ];
}
  where
    subst_holds : (n k i : ℕ) → k ≡ i → Holds n k → Holds n i
    subst_holds n k i e h = rw (sym e) h

-- all are written
pub blend-end :
    {X : Type 0} → (left : ℕ) (new old now : List X) → IsEmpty left → length new ≡ length old → Blended left new old now → now ≡ new
blend-end left new old now none long b =
    same_lists now new (b.long ∙ sym long) (λ k d inside. b.done k d (omega (arith, b.long, inside)) (none k))
