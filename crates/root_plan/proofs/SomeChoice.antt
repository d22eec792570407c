-- Each node of a bus has a reach, and so each bus with a candidate has a best one.
use Rattle.std.proofs.Common.{◌≡◌, ℕ, zero, suc, ◌+◌, ◌<◌, ◌≤◌, inl, inr, Bool, true, false, max, Option, Some, None, length, refl, subst, arith}
use Rattle.std.specs.Prelude.{slice_get}
use Rattle.std.proofs.lemmas.Bool.{cases_lt}
use Rattle.std.proofs.lemmas.Option.{slice_get_cases}
use Rattle.self_id.specs.Node.{Node}
use Rattle.topology_stack.specs.Tree.{Tree, walk, IsBusTree}
use Rattle.topology_stack.specs.Elect.{is_candidate, IsCandidate, IsHighest, elected}
use Rattle.topology_stack.proofs.Lemmas.{is_highest}
use Rattle.speed_map.specs.SomeRows.{HasPath, PathsExist}
use Rattle.root_plan.specs.Reach.{IsDistance}
use Rattle.root_plan.specs.SomeChoice.{HasReach, HasBestRoot, ReachesExist, BestRootsExist}
use Rattle.root_plan.specs.codings.Climb.{ReachSoFar, BestFrom}
use Rattle.root_plan.proofs.Climbing.{reach_start, reach_more, reach_done}
use Rattle.root_plan.proofs.Choosing.{best_start, best_skip, best_stays, best_is, candidate_within, candidate, no_candidate}

module _ (paths : PathsExist) (t : Tree) (bus : IsBusTree t) where
  -- ---- the greatest distance of a node

  abbrev ReachTo : ℕ → ℕ → Type 0
  ReachTo id others = (reach : ℕ) × ReachSoFar t id others reach

  reach-to : (id others : ℕ) → id < length (walk t) → others ≤ length (walk t) → ReachTo id others
  reach-to id zero within all = (0, reach_start t id within)
  reach-to id (suc other) within all =
      let before = reach-to id other within (omega (arith, all)) in
      let there : other < length (walk t) = omega (arith, all) in
      let p : HasPath t id other = paths t id other bus within there in
      let d : IsDistance t id other (length p.ids) = record { ids = p.ids; path = p.is; long = refl } in
      let next : ReachTo id (other + 1) = (max before.0 (length p.ids), reach_more t id other before.0 (length p.ids) bus within there before.1 d) in
      subst (ReachTo id) (omega arith) next

  pub reach-of : (id : ℕ) → id < length (walk t) → HasReach t id
  reach-of id within =
      let all = reach-to id (length (walk t)) within (omega arith) in
      record { reach = all.0; is = reach_done t id (length (walk t)) all.0 bus within (omega arith) all.1 }

  -- ---- the best candidate

  abbrev Best : ℕ → Type 0
  Best lowest = (root : ℕ) × (reach : ℕ) × BestFrom t lowest root reach

  -- one node more
  better : (id : ℕ) → id < length (walk t) → Best (id + 1) → Best id
  better id within best = elim (slice_get_cases (walk t) id).1 [
    | inl x ↦ by x.0 x.2 (is_candidate x.0) refl
    | inr past ↦ absurd (omega (arith, past.0, within))
  ]
    where
      by : (n : Node) → slice_get (walk t) id ≡ Some n → (b : Bool) → is_candidate n ≡ b → Best id
      by n here false e = (best.0, best.1, best_skip t id best.0 best.1 (no_candidate t id n here e) best.2)
      by n here true e =
          let own : HasReach t id = reach-of id within in
          elim (cases_lt own.reach best.1) [
            | inl less ↦ (id, own.reach, best_is t id best.0 best.1 own.reach (candidate t id n here e) own.is less best.2)
            | inr most ↦ (best.0, best.1, best_stays t id best.0 best.1 own.reach own.is most best.2)
          ]

  best-from : (lowest : ℕ) → lowest ≤ length (walk t) → Best lowest → Best 0
  best-from zero within best = best
  best-from (suc id) within best = best-from id (omega (arith, within)) (better id (omega (arith, within)) (subst Best (omega arith) best))

  pub best-root : (id : ℕ) → IsCandidate (walk t) id → HasBestRoot t
  best-root id is = by (elected t) (is_highest (walk t))
    where
      by : (o : Option ℕ) → IsHighest (walk t) o → HasBestRoot t
      by None none = absurd (none id is)
      by (Some top) high =
          let within : top < length (walk t) = candidate_within t top high.0 in
          let own : HasReach t top = reach-of top within in
          let best : Best 0 = best-from top (omega (arith, within)) (top, own.reach, best_start t top own.reach high own.is) in
          record {
            root = best.0;
            candidate = best.2.candidate;
            far = best.1;
            reach = best.2.is_reach;
            least = λ k reach c r. best.2.least k reach (omega arith) c r;
            highest = λ k c r. best.2.highest k (omega arith) c r;
          }

pub some_reach : PathsExist → ReachesExist
some_reach paths t id bus within = reach-of paths t bus id within

pub some_best : PathsExist → BestRootsExist
some_best paths t id bus is = best-root paths t bus id is
