-- The best candidate, found from the highest ID down.
use Rattle.std.proofs.Common.{◌≡◌, ℕ, ◌+◌, ◌<◌, ◌≤◌, inl, inr, true, false, Option, Some, None, length, refl, sym, subst, arith}
use Rattle.std.proofs.lemmas.Bool.{cases_lt}
use Rattle.std.specs.Prelude.{slice_get, IsSomeAnd, IsTrue}
use Rattle.std.proofs.lemmas.Option.{slice_get_within}
use Rattle.self_id.specs.Node.{Node}
use Rattle.topology_stack.specs.Tree.{Tree, walk}
use Rattle.topology_stack.specs.Elect.{is_candidate, IsCandidate, IsHighest}
use Rattle.root_plan.specs.Reach.{IsReach}
use Rattle.root_plan.specs.codings.Climb.{BestFrom}

pub one_reach : (t : Tree) (id a b : ℕ) → IsReach t id a → IsReach t id b → a ≡ b
one_reach t id a b h k = omega (arith, k.greatest h.farthest a h.reached, h.greatest k.farthest b k.reached)

-- the candidate with the highest ID
pub best_start : (t : Tree) (root reach : ℕ) → IsHighest (walk t) (Some root) →
    IsReach t root reach → BestFrom t root root reach
best_start t root reach highest h = record {
  candidate = highest.0;
  above = omega arith;
  is_reach = h;
  least = λ id other low c r.
      let le = highest.1 id c in
      let same : id ≡ root = omega (arith, low, le) in
      let one = one_reach t root reach other h (subst (λ (x : ℕ). IsReach t x other) same r) in
      omega (arith, one);
  highest = λ id low c r. highest.1 id c;
}

-- a node that is no candidate
pub best_skip : (t : Tree) (id root reach : ℕ) → (IsCandidate (walk t) id → ⊥) →
    BestFrom t (id + 1) root reach → BestFrom t id root reach
best_skip t id root reach not h = record {
  candidate = h.candidate;
  above = let above = h.above in omega (arith, above);
  is_reach = h.is_reach;
  least = λ k other low c r. elim (cases_lt id k) [
    | inl less ↦ h.least k other (omega (arith, less)) c r
    | inr le ↦ absurd (not (subst (IsCandidate (walk t)) (omega (arith, le, low)) c))
  ];
  highest = λ k low c r. elim (cases_lt id k) [
    | inl less ↦ h.highest k (omega (arith, less)) c r
    | inr le ↦ absurd (not (subst (IsCandidate (walk t)) (omega (arith, le, low)) c))
  ];
}

-- a node whose reach is no less
pub best_stays : (t : Tree) (id root reach own : ℕ) → IsReach t id own → reach ≤ own →
    BestFrom t (id + 1) root reach → BestFrom t id root reach
best_stays t id root reach own is most h = record {
  candidate = h.candidate;
  above = let above = h.above in omega (arith, above);
  is_reach = h.is_reach;
  least = λ k other low c r. elim (cases_lt id k) [
    | inl less ↦ h.least k other (omega (arith, less)) c r
    | inr le ↦
        let same : k ≡ id = omega (arith, le, low) in
        let one = one_reach t id own other is (subst (λ (x : ℕ). IsReach t x other) same r) in
        omega (arith, one, most)
  ];
  highest = λ k low c r. elim (cases_lt id k) [
    | inl less ↦ h.highest k (omega (arith, less)) c r
    | inr le ↦ let above = h.above in omega (arith, le, above)
  ];
}

-- a candidate of lesser reach
pub best_is : (t : Tree) (id root reach own : ℕ) → IsCandidate (walk t) id → IsReach t id own →
    own < reach → BestFrom t (id + 1) root reach → BestFrom t id id own
best_is t id root reach own candidate is less h = record {
  candidate = candidate;
  above = omega arith;
  is_reach = is;
  least = λ k other low c r. elim (cases_lt id k) [
    | inl before ↦ let le = h.least k other (omega (arith, before)) c r in omega (arith, le, less)
    | inr le ↦
        let same : k ≡ id = omega (arith, le, low) in
        let one = one_reach t id own other is (subst (λ (x : ℕ). IsReach t x other) same r) in
        omega (arith, one)
  ];
  highest = λ k low c r. elim (cases_lt id k) [
    | inl before ↦ let le = h.least k own (omega (arith, before)) c r in absurd (omega (arith, le, less))
    | inr le ↦ le
  ];
}

-- a candidate is a node of the bus
pub candidate_within : (t : Tree) (id : ℕ) → IsCandidate (walk t) id → id < length (walk t)
candidate_within t id c = go (slice_get (walk t) id) refl c
  where
    go : (o : Option Node) → slice_get (walk t) id ≡ o → IsSomeAnd o (λ n. IsTrue (is_candidate n)) → id < length (walk t)
    go (Some n) e h = slice_get_within (walk t) id n e
    go None e h = absurd h

pub candidate : (t : Tree) (id : ℕ) (n : Node) → slice_get (walk t) id ≡ Some n →
    is_candidate n ≡ true → IsCandidate (walk t) id
candidate t id n here is = subst (λ (o : Option Node). IsSomeAnd o (λ m. IsTrue (is_candidate m))) (sym here) is

pub no_candidate : (t : Tree) (id : ℕ) (n : Node) → slice_get (walk t) id ≡ Some n →
    is_candidate n ≡ false → IsCandidate (walk t) id → ⊥
no_candidate t id n here lacks c =
    let is : IsTrue (is_candidate n) = subst (λ (o : Option Node). IsSomeAnd o (λ m. IsTrue (is_candidate m))) here c in
    absurd cc
