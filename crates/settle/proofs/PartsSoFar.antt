-- The parts of a world, from node to node.
use Rattle.std.proofs.Common.{◌≡◌, ℕ, ◌+◌, ◌<◌, ◌≤◌, ◌==◌, Bool, true, false, refl, inl, inr, List, [], ◌∷◌, ◌++◌, All, length, ◌∙◌, subst, sym, arith, length-append}
use Rattle.std.specs.Prelude.{Any, AllPairs, nat_lt}
use Rattle.std.specs.Int.{bit_at}
use Rattle.std.proofs.lemmas.Bool.Decides.{nat_tests}
use Rattle.std.proofs.lemmas.List.Folds.{Any-from_list_any, list_any-from_Any}
use Rattle.std.proofs.lemmas.Bool.{cases_eq}
use Rattle.std.proofs.lemmas.List.{get_or_append_left}
use Rattle.std.proofs.lemmas.List.Elements.{All-nil, All-push, All-weaker}
use Rattle.std.proofs.lemmas.List.Quantifiers.{Any-push, all_pairs_push}
use Rattle.cabling.specs.NodeSet.{Holds}
use Rattle.cabling.specs.Component.{IsComponent, SharesComponents}
use Rattle.cable_world.specs.World.{CableWorld, NodeNumber, NodeSet}
use Rattle.settle.specs.declared.report.Part.{Part}
use Rattle.settle.specs.codings.Reading.{IsLeast, is_in}
use Rattle.settle.specs.Report.{IsPart, StartsBefore, AreParts}

-- a part begins before a node
abbrev pub BeginsBefore : NodeNumber → Part → Type 0
BeginsBefore k part = (a : NodeNumber) × (a < k) × Holds part.nodes a

-- of each component that begins before a node there is a part
pub record PartsBefore (w : CableWorld) (k : NodeNumber) (parts : List Part) : Type 0 where
  pub each : All (IsPart w) parts
  pub rising : AllPairs StartsBefore parts
  pub begun : All (BeginsBefore k) parts
  pub whole : (j : NodeNumber) → j < k → Any (λ (part : Part). Holds part.nodes j) parts

pub no-parts : (w : CableWorld) → PartsBefore w 0 []
no-parts w = record {
  each = All-nil (IsPart w);
  rising = λ i j d less inside. absurd (omega (arith, inside));
  begun = All-nil (BeginsBefore 0);
  whole = λ j below. absurd (omega (arith, below));
}

any-left : {A : Type 0} → (P : A → Type 0) (xs ys : List A) → Any P xs → Any P (xs ++ ys)
any-left P xs ys h = (h.0, h.1, omega (arith, h.2, length-append xs ys), get_or_append_left xs ys h.1 h.0 h.2 ∙ h.3, h.4)

-- a component begins here
pub part-added :
    (w : CableWorld) (k : NodeNumber) (parts : List Part) (part : Part) → PartsBefore w k parts → IsPart w part →
    Holds part.nodes k → IsLeast part.nodes k → PartsBefore w (k + 1) (parts ++ part ∷ [])
part-added w k parts part h is holds least = record {
  each = All-push (IsPart w) parts part h.each is;
  rising = all_pairs_push StartsBefore parts part h.rising (λ i d inside.
      let b = h.begun i d inside in
      record { least = b.0; holds = b.2; below = λ j has. omega (arith, b.1, least j has) });
  begun = All-push (BeginsBefore (k + 1)) parts part
      (All-weaker (BeginsBefore k) (BeginsBefore (k + 1)) (λ p b. (b.0, omega (arith, b.1), b.2)) parts h.begun)
      (k, omega arith, holds);
  whole = λ j below. elim (cases_eq j k) [
    | inl same ↦ Any-push (λ (p : Part). Holds p.nodes j) parts part (subst (Holds part.nodes) (sym same) holds)
    | inr other ↦ any-left (λ (p : Part). Holds p.nodes j) parts (part ∷ []) (h.whole j (omega arith))
  ];
}

-- ---- whether a node is in a part so far

held : (set k : ℕ) → (bit_at set k == 1) ≡ true → Holds set k
held set k h = grind (arith, nat_tests)

is-held : (set k : ℕ) → Holds set k → (bit_at set k == 1) ≡ true
is-held set k h = grind (arith, nat_tests)

-- a part that began before holds the node
pub part-goes-on :
    (w : CableWorld) (k : NodeNumber) (parts : List Part) → PartsBefore w k parts →
    is_in parts k ≡ true → PartsBefore w (k + 1) parts
part-goes-on w k parts h seen = record {
  each = h.each;
  rising = h.rising;
  begun = All-weaker (BeginsBefore k) (BeginsBefore (k + 1)) (λ p b. (b.0, omega (arith, b.1), b.2)) parts h.begun;
  whole = λ j below. elim (cases_eq j k) [
    | inl same ↦
        let a = Any-from_list_any (λ (p : Part). bit_at p.nodes k == 1) parts seen in
        (a.0, a.1, a.2, a.3, subst (Holds a.1.nodes) (sym same) (held a.1.nodes k a.4))
    | inr other ↦ h.whole j (omega (arith))
  ];
}

-- a part that has a lower node of the component has this one
seen-before :
    (w : CableWorld) (k j : NodeNumber) (nodes : NodeSet) (parts : List Part) → SharesComponents w.cabling →
    PartsBefore w k parts → IsComponent w.cabling k nodes → Holds nodes j → j < k → is_in parts k ≡ true
seen-before w k j nodes parts shared h is has below =
    let a = h.whole j below in
    let part : IsPart w a.1 = subst (IsPart w) a.3 (h.each a.0 a.1 a.2) in
    let here : IsComponent w.cabling j nodes = shared k j nodes is has in
    list_any-from_Any (λ (p : Part). bit_at p.nodes k == 1) parts
    (a.0, a.1, a.2, a.3, is-held a.1.nodes k (here.least a.1.nodes a.4 part.component.closed k is.holds))

-- a node that is in no part so far is the least of its component
pub least-of-new :
    (w : CableWorld) (k : NodeNumber) (nodes : NodeSet) (parts : List Part) → SharesComponents w.cabling →
    PartsBefore w k parts → IsComponent w.cabling k nodes → is_in parts k ≡ false → IsLeast nodes k
least-of-new w k nodes parts shared h is new j has = go (nat_lt j k) refl
  where
    go : (less : Bool) → nat_lt j k ≡ less → k ≤ j
    go true e =
        let below : j < k = grind (arith, nat_tests) in
        let both : true ≡ false = sym (seen-before w k j nodes parts shared h is has below) ∙ new in absurd cc
    go false e = grind (arith, nat_tests)

pub all-parts :
    (w : CableWorld) (k : NodeNumber) (parts : List Part) → PartsBefore w k parts → k ≡ length w.cabling → AreParts w parts
all-parts w k parts h all = record {
  each = h.each;
  rising = h.rising;
  whole = λ j inside. h.whole j (omega (arith, all, inside));
}
