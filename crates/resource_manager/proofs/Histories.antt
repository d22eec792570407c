-- What a whole list of calls keeps.
use Rattle.std.proofs.Common.{◌≡◌, ℕ, ◌<◌, ◌+◌, List, [], ◌∷◌, All, arith, refl, suc, zero, inl, inr}
use Rattle.std.specs.List.{zip}
use Rattle.std.proofs.lemmas.List.Elements.{All-head, All-tail}
use Rattle.std.proofs.lemmas.List.Sums.{sum_by-cons}
use Rattle.resource_manager.specs.declared.access.Access.{Access}
use Rattle.resource_manager.specs.declared.access.Answer.{Answer}
use Rattle.resource_manager.specs.Register.{Values}
use Rattle.resource_manager.specs.Channel.{seen_of, bit_of}
use Rattle.resource_manager.specs.Access.{IsPermitted, after, after_all, answer_of, answers_of}
use Rattle.resource_manager.specs.Calls.{At, Frees, FreedBetweenGrants, FreedBeforeGrant, IsByHand, Conserves, total, grants_of, releases_of, units_granted, units_released}
use Rattle.resource_manager.proofs.Steps.{IsTaken, granted, freed, FreesOrHolds, Keeps, keeps}

-- the calls of a list with their answers
abbrev pub calls_of : Values → List Access → List (Access × Answer)
calls_of v accesses = zip accesses (answers_of v accesses)

-- a call below number j frees the channel
abbrev pub FreedBelow : ℕ → ℕ → List (Access × Answer) → Type 0
FreedBelow c j calls = (k : ℕ) × ((k < j) × At calls k (Frees c))

pub freed_before : (calls : List Access) (v : Values) → All IsPermitted calls →
    FreedBeforeGrant v (calls_of v calls)
freed_before [] v p c j hc h g = absurd g
freed_before (x ∷ xs) v p c zero hc h g =
    let t : IsTaken v (after v x) c = granted v x c (All-head IsPermitted x xs p) g in
    absurd (omega (arith, t.was_free, h))
freed_before (x ∷ xs) v p c (suc j) hc h g =
    go
    (freed v x c hc (All-head IsPermitted x xs p) h)
    (λ held. freed_before xs (after v x) (All-tail IsPermitted x xs p) c j hc held g)
  where
    go :
        FreesOrHolds c x (answer_of v x) (after v x) →
        (bit_of (seen_of (after v x)) c ≡ 0 → FreedBelow c j (calls_of (after v x) xs)) →
        FreedBelow c (suc j) (calls_of v (x ∷ xs))
    go (inl f) again = (zero, (omega arith, f))
    go (inr held) again =
        let later : FreedBelow c j (calls_of (after v x) xs) = again held in
        (suc later.0, (omega (arith, later.1.0), later.1.1))

pub freed_between : (calls : List Access) (v : Values) → All IsPermitted calls →
    FreedBetweenGrants (calls_of v calls)
freed_between [] v p c i j below g h = absurd g
freed_between (x ∷ xs) v p c i zero below g h = absurd (omega arith)
freed_between (x ∷ xs) v p c zero (suc j) below g h =
    let t : IsTaken v (after v x) c = granted v x c (All-head IsPermitted x xs p) g in
    let later : FreedBelow c j (calls_of (after v x) xs) =
    freed_before xs (after v x) (All-tail IsPermitted x xs p) c j t.channel t.is_held h in
    (suc later.0, (omega arith, omega (arith, later.1.0), later.1.1))
freed_between (x ∷ xs) v p c (suc i) (suc j) below g h =
    let later = freed_between xs (after v x) (All-tail IsPermitted x xs p) c i j (omega arith) g h in
    (suc later.0, (omega (arith, later.1.0), omega (arith, later.1.1), later.1.2))

-- a total over one call more
total-cons : (number : Access → Answer → ℕ) (x : Access) (r : Answer) (calls : List (Access × Answer)) →
    total number ((x, r) ∷ calls) ≡ number x r + total number calls
total-cons number x r calls = sum_by-cons (λ (call : Access × Answer). number call.0 call.1) (x, r) calls

pub conserves : (calls : List Access) (v : Values) → All IsPermitted calls →
    All (λ (call : Access × Answer). ¬ IsByHand call.0 call.1) (calls_of v calls) →
    Conserves v (after_all v calls) (calls_of v calls)
conserves [] v p hands = record { bandwidth = refl; within = λ h. h; channels = λ c hc. refl }
conserves (x ∷ xs) v p hands =
    let r = answer_of v x in
    let new = after v x in
    let rest = calls_of new xs in
    let hand = All-head (λ (call : Access × Answer). ¬ IsByHand call.0 call.1) (x, r) rest hands in
    let first : Keeps v new x r = keeps v x (All-head IsPermitted x xs p) hand in
    let later : Conserves new (after_all new xs) rest =
    conserves xs new (All-tail IsPermitted x xs p) (All-tail (λ (call : Access × Answer). ¬ IsByHand call.0 call.1) (x, r) rest hands) in
    record {
      bandwidth = omega (arith, first.bandwidth, later.bandwidth, total-cons units_granted x r rest, total-cons units_released x r rest);
      within = λ h. later.within (first.within h);
      channels = λ c hc. omega (arith, first.channels c hc, later.channels c hc, total-cons (grants_of c) x r rest, total-cons (releases_of c) x r rest);
    }
