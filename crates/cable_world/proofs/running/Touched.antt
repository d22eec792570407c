-- What a step and an act leave as it is.
use Rattle.std.proofs.Common.{◌≡◌, ◌∙◌, ◌<◌, ◌↔◌, ◌⊎◌, inl, inr, ℕ, List, length, slice_set, refl, sym, arith}
use Rattle.std.proofs.lemmas.Bool.{cases_lt}
use Rattle.std.proofs.lemmas.List.{get_or_past, get_or-set_other}
use Rattle.cabling.specs.NodeSet.{Holds}
use Rattle.cable_world.specs.running.ActEnds.{AreSameBut, TouchesOnly}

-- one entry is written
pub kept-set : {X : Type 0} → (j : ℕ) (xs : List X) (x : X) → AreSameBut (λ k. k ≡ j) xs (slice_set xs j x)
kept-set j xs x = λ k d out. get_or-set_other xs j k x d out

-- one change after the other
pub kept-then :
    {X : Type 0} → (p q r : ℕ → Type 0) (xs ys zs : List X) → ((k : ℕ) → p k → r k) → ((k : ℕ) → q k → r k) → AreSameBut p xs ys →
    AreSameBut q ys zs → AreSameBut r xs zs
kept-then p q r xs ys zs f h before after = λ k d out. after k d (λ has. out (h k has)) ∙ before k d (λ has. out (f k has))

pub kept-within :
    {X : Type 0} → (p q : ℕ → Type 0) (xs ys : List X) → ((k : ℕ) → p k → q k) → AreSameBut p xs ys → AreSameBut q xs ys
kept-within p q xs ys f same = λ k d out. same k d (λ has. out (f k has))

-- two nodes are touched
pub touched-both :
    {X Y : Type 0} → (set a b : ℕ) (old new : List X) (was rows now : List Y) → ((k : ℕ) → Holds set k ↔ ((k ≡ a) ⊎ (k ≡ b))) → a < length old →
    b < length old → AreSameBut (λ k. (k ≡ a) ⊎ (k ≡ b)) old new → AreSameBut (λ k. (k ≡ a) ⊎ (k ≡ b)) was rows →
    AreSameBut (λ k. (k ≡ a) ⊎ (k ≡ b)) rows now → TouchesOnly set old new was now
touched-both set a b old new was rows now is inside within nodes cleared sent = record {
  near = λ k has. elim ((is k).0 has) [
    | inl e ↦ omega (arith, e, inside)
    | inr e ↦ omega (arith, e, within)
  ];
  nodes = kept-within (λ k. (k ≡ a) ⊎ (k ≡ b)) (Holds set) old new (λ k. (is k).1) nodes;
  wires = kept-then (λ k. (k ≡ a) ⊎ (k ≡ b)) (λ k. (k ≡ a) ⊎ (k ≡ b)) (Holds set) was rows now (λ k. (is k).1) (λ k. (is k).1) cleared sent;
}

-- one node is
pub touched-one :
    {X Y : Type 0} → (set a : ℕ) (old new : List X) (was now : List Y) → ((k : ℕ) → Holds set k ↔ ((k ≡ a) ⊎ (k ≡ a))) → a < length old →
    AreSameBut (λ k. k ≡ a) old new → AreSameBut (λ k. k ≡ a) was now → TouchesOnly set old new was now
touched-one set a old new was now is inside nodes wires =
    touched-both set a a old new was was now is inside inside (kept-within (λ k. k ≡ a) (λ k. (k ≡ a) ⊎ (k ≡ a)) old new (λ k e. inl e) nodes)
    (λ k d out. refl) (kept-within (λ k. k ≡ a) (λ k. (k ≡ a) ⊎ (k ≡ a)) was now (λ k e. inl e) wires)

-- any node may be
pub touched-all :
    {X Y : Type 0} → (set n : ℕ) (old new : List X) (was now : List Y) → ((k : ℕ) → Holds set k ↔ k < n) → length old ≡ n → length new ≡ n →
    length was ≡ n → length now ≡ n → TouchesOnly set old new was now
touched-all set n old new was now is e f h j = record {
  near = λ k has. let less = (is k).0 has in omega (arith, less, e);
  nodes = past old new e f;
  wires = past was now h j;
}
  where
    past : {Z : Type 0} → (xs ys : List Z) → length xs ≡ n → length ys ≡ n → AreSameBut (Holds set) xs ys
    past xs ys e f = λ k d out. elim (cases_lt k n) [
      | inl less ↦ absurd (out ((is k).1 less))
      | inr more ↦ get_or_past ys k d (omega (arith, more, f)) ∙ sym (get_or_past xs k d (omega (arith, more, e)))
    ]
