-- The distance of two nodes is the number of cables that two climb before they meet.
use Rattle.std.proofs.Common.{◌≡◌, ◌≢◌, ℕ, ◌+◌, ◌<◌, ◌≤◌, ◌⊎◌, inl, inr, List, [], ◌∷◌, ◌++◌, length, refl, sym, ap, subst, ◌∙◌, arith, length-append}
use Rattle.std.specs.Prelude.{max}
use Rattle.std.proofs.Math.Nat.{max-eq_left, max-eq_right}
use Rattle.std.proofs.lemmas.Bool.{cases_lt}
use Rattle.topology_stack.specs.Tree.{Tree, walk, IsBusTree}
use Rattle.speed_map.specs.Path.{Joined, IsNew, IsPath}
use Rattle.speed_map.proofs.Lemmas.{down_again, joined_within, parent_in, one_path}
use Rattle.root_plan.specs.Reach.{IsDistance, IsReach}
use Rattle.root_plan.specs.codings.Climb.{StaysAbove, Closes, ReachSoFar}

-- ---- paths that grow

are_new : (low p high : ℕ) (ids : List ℕ) → low < p → low < high → StaysAbove p high ids →
    IsNew low ids
are_new low p high [] less below all = tt
are_new low p high (k ∷ ids) less below (inl h, all) = (λ e. omega (arith, e, h, less), are_new low p high ids less below all)
are_new low p high (k ∷ ids) less below (inr h, all) = (λ e. omega (arith, e, h, below), are_new low p high ids less below all)

stay_above : (low p high : ℕ) (ids : List ℕ) → low < p → StaysAbove p high ids →
    StaysAbove low high ids
stay_above low p high [] less all = tt
stay_above low p high (k ∷ ids) less (inl h, all) = (inl (omega (arith, h, less)), stay_above low p high ids less all)
stay_above low p high (k ∷ ids) less (inr h, all) = (inr h, stay_above low p high ids less all)

-- a node that isn't on a path may come behind it
new_at_end : (from next : ℕ) (ids : List ℕ) → from ≢ next → IsNew from ids →
    IsNew from (ids ++ next ∷ [])
new_at_end from next [] apart new = (apart, tt)
new_at_end from next (k ∷ ids) apart (h, new) = (h, new_at_end from next ids apart new)

longer : (t : Tree) (from to next : ℕ) (ids : List ℕ) → IsPath t from to ids → Joined t to next →
    from ≢ next → IsNew next ids → IsPath t from next (ids ++ next ∷ [])
longer t from to next [] path joined apart others = (subst (λ (x : ℕ). Joined t x next) (sym path) joined, (apart, tt), refl)
longer t from to next (k ∷ ids) (j, new, path) joined apart (h, others) = (j, new_at_end from next (k ∷ ids) apart new, longer t k to next ids path joined (λ e. h (sym e)) others)

differ : (low p high : ℕ) (ids : List ℕ) → high < p → high < low → StaysAbove low p ids →
    IsNew high ids
differ low p high [] less below all = tt
differ low p high (k ∷ ids) less below (inl h, all) = (λ e. omega (arith, e, h, below), differ low p high ids less below all)
differ low p high (k ∷ ids) less below (inr h, all) = (λ e. omega (arith, e, h, less), differ low p high ids less below all)

stay_at_end : (low p high : ℕ) (ids : List ℕ) → high < p → StaysAbove low p ids →
    StaysAbove low high (ids ++ high ∷ [])
stay_at_end low p high [] less all = (inr (omega arith), tt)
stay_at_end low p high (k ∷ ids) less (inl h, all) = (inl h, stay_at_end low p high ids less all)
stay_at_end low p high (k ∷ ids) less (inr h, all) = (inr (omega (arith, h, less)), stay_at_end low p high ids less all)

-- ---- the climb

pub climb_start : (t : Tree) (from to : ℕ) → Closes t from to from to 0
climb_start t from to ids path all = record { ids = ids; path = path; long = omega arith }

pub climb_one : (t : Tree) (from to low high p n : ℕ) → Closes t from to low high n → low < high →
    Joined t low p → low < p → Closes t from to p high (n + 1)
climb_one t from to low high p n closes below joined less ids path all =
    let d = closes (p ∷ ids) (joined, (λ e. omega (arith, e, less), are_new low p high ids less below all), path) (inl (omega (arith, less)), stay_above low p high ids less all) in
    record { ids = d.ids; path = d.path; long = let long = d.long in omega (arith, long) }

pub climb_other : (t : Tree) (from to low high p n : ℕ) → IsBusTree t → high < length (walk t) →
    Closes t from to low high n → high < low → Joined t high p → high < p → p < length (walk t) →
    Closes t from to low p (n + 1)
climb_other t from to low high p n bus within closes below joined less inside ids path all =
    let back = down_again t high joined.slot p bus within inside joined.far less in
    let joined' : Joined t p high = record { slot = back.0; far = back.1 } in
    let d = closes (ids ++ high ∷ []) (longer t low p high ids path joined' (λ e. omega (arith, e, below)) (differ low p high ids less below all)) (stay_at_end low p high ids less all) in
    record { ids = d.ids; path = d.path; long = let long = d.long in omega (arith, long, length-append ids (high ∷ [])) }

pub climb_end : (t : Tree) (from to low high n : ℕ) → Closes t from to low high n → low ≡ high →
    IsDistance t from to n
climb_end t from to low high n closes meet =
    let d = closes [] meet tt in
    record { ids = d.ids; path = d.path; long = let long = d.long in omega (arith, long) }

-- a parent is a node of the bus
pub parent_within : (t : Tree) (id p : ℕ) → id + 1 < length (walk t) → Joined t id p → id < p →
    p < length (walk t)
parent_within t id p within joined after = (parent_in t id joined.slot p within joined.far after).0

-- ---- the greatest distance

path_within : (t : Tree) (from to : ℕ) (ids : List ℕ) → IsBusTree t → from < length (walk t) →
    IsPath t from to ids → to < length (walk t)
path_within t from to [] bus within path = subst (λ (x : ℕ). x < length (walk t)) path within
path_within t from to (k ∷ ids) bus within (j, new, path) = path_within t k to ids bus (joined_within t from j.slot k bus within j.far).0 path

pub one_distance : (t : Tree) (from to n m : ℕ) → IsBusTree t → from < length (walk t) →
    IsDistance t from to n → IsDistance t from to m → n ≡ m
one_distance t from to n m bus within a b = sym a.long ∙ ap (λ (ids : List ℕ). length ids) (one_path t from to a.ids b.ids bus within a.path b.path) ∙ b.long

pub reach_start : (t : Tree) (id : ℕ) → id < length (walk t) → ReachSoFar t id 0 0
reach_start t id within = record {
  farthest = id;
  there = within;
  reached = record { ids = []; path = refl; long = refl };
  greatest = λ other n less d. absurd (omega (arith, less));
}

pub reach_more : (t : Tree) (id other reach n : ℕ) → IsBusTree t → id < length (walk t) →
    other < length (walk t) → ReachSoFar t id other reach → IsDistance t id other n →
    ReachSoFar t id (other + 1) (max reach n)
reach_more t id other reach n bus within there h d = elim (cases_lt reach n) [
  | inl less ↦
      let is : max reach n ≡ n = max-eq_right (omega (arith, less)) in
      record {
        farthest = other;
        there = there;
        reached = subst (IsDistance t id other) (sym is) d;
        greatest = λ k m before e. omega (arith, is, less, no_more k m (omega (arith, before)) e);
      }
  | inr most ↦
      let is : max reach n ≡ reach = max-eq_left most in
      record {
        farthest = h.farthest;
        there = h.there;
        reached = subst (IsDistance t id h.farthest) (sym is) h.reached;
        greatest = λ k m before e. omega (arith, is, most, no_more k m (omega (arith, before)) e);
      }
]
  where
    no_more : (k m : ℕ) → k ≤ other → IsDistance t id k m → (m ≤ reach) ⊎ (m ≡ n)
    no_more k m before e = elim (cases_lt k other) [
      | inl less ↦ inl (h.greatest k m less e)
      | inr same ↦ inr (one_distance t id other m n bus within (subst (λ (x : ℕ). IsDistance t id x m) (omega (arith, same, before)) e) d)
    ]

pub reach_done : (t : Tree) (id others reach : ℕ) → IsBusTree t → id < length (walk t) →
    length (walk t) ≤ others → ReachSoFar t id others reach → IsReach t id reach
reach_done t id others reach bus within all h = record {
  farthest = h.farthest;
  there = h.there;
  reached = h.reached;
  greatest = λ other n d. h.greatest other n (let inside = path_within t id other d.ids bus within d.path in omega (arith, inside, all)) d;
}
