-- A world that has settled has a report: of each component what it came to.
use Rattle.std.proofs.Common.{◌≡◌, ℕ, zero, suc, ◌+◌, ◌<◌, ◌≤◌, inl, inr, Bool, true, false, max, List, [], ◌∷◌, ◌++◌, length, slice_get, get_or, refl, subst, arith}
use Rattle.std.proofs.lemmas.Option.{slice_get_within, slice_get-get_or, slice_get_cases}
use Rattle.topology_stack.specs.Tree.{emits}
use Rattle.cabling.specs.NodeSet.{Holds}
use Rattle.cabling.specs.Component.{IsComponent}
use Rattle.cabling.specs.Existence.{HasComponent, ComponentsExist}
use Rattle.cabling.specs.Sees.{numbers}
use Rattle.cabling.proofs.Lemmas.{holds_or_not, shared}
use Rattle.port_state.specs.Machine.{PortNode}
use Rattle.cable_world.specs.World.{CableWorld}
use Rattle.cable_world.specs.Run.{IsReached}
use Rattle.cable_world.specs.Lawful.{IsWellFormed}
use Rattle.cable_world.specs.Outcome.{Ending, loop, tree, contention, IsOutcome, IsSettled}
use Rattle.cable_world.proofs.Lemmas.{some-at, reached-lawful}
use Rattle.outcomes.specs.Headline.{EveryBusSettles}
use Rattle.settle.specs.declared.report.Part.{Part}
use Rattle.settle.specs.declared.report.Outcome.{Outcome}
use Rattle.settle.specs.declared.report.Outcome.TheVariants as reported
use Rattle.settle.specs.declared.report.Report.{Report}
use Rattle.settle.specs.Report.{IsGreatest, Drew, LastChanged, IsPart, IsReport, HasSettled}
use Rattle.settle.specs.Reported.{IsReported}
use Rattle.settle.specs.codings.Reading.{is_in}
use Rattle.settle.proofs.LeftAlone.{left-reached}
use Rattle.settle.proofs.Settled.{settled}
use Rattle.settle.proofs.Greatest.{Highest, HasOne, highest-in, highest-out, highest-of-all, drew-one, changed-one}
use Rattle.settle.proofs.Shown.{node-there}
use Rattle.settle.proofs.PartsSoFar.{PartsBefore, no-parts, part-added, part-goes-on, least-of-new, all-parts}

-- ---- what a component came to

-- an outcome can be reported
reported-of : (w : CableWorld) (set : ℕ) (o : Ending) → IsOutcome w set o →
    (r : Outcome) × IsReported w set r
reported-of w set (loop core) h = (
  reported.Loop core,
  record { is = h.is_core; some = λ empty. empty h.node h.in_core; timed_out = h.timed_out; unnamed = h.unnamed },
)
reported-of w set (tree root t) h = (
  reported.Tree root (emits t) (numbers w.cabling root t),
  record { tree = t; is = h; emitted = refl; walked = refl },
)
reported-of w set (contention a b) h = (
  reported.Contention a b,
  record { is = h.0; first = h.2; no_tree = h.1 },
)

-- ---- the greatest number of a set's nodes

module _
    (set : ℕ) (IsOf : ℕ → ℕ → Type 0) (size : ℕ) (one : HasOne IsOf)
    (some : (k : ℕ) → k < size → (n : ℕ) × IsOf k n) (first : ℕ) (holds : Holds set first)
    (there : first < size) where
  abbrev HighestTo : ℕ → Type 0
  HighestTo below = (most : ℕ) × Highest set IsOf below most

  highest-to : (below : ℕ) → below ≤ size → HighestTo below
  highest-to zero inside =
      let n = some first there in
      (n.0, record { node = first; holds = holds; reached = n.1; bound = λ k m less h is. absurd (omega (arith, less)) })
  highest-to (suc k) inside =
      let before = highest-to k (omega (arith, inside)) in
      let next : HighestTo (k + 1) = elim (holds_or_not set k) [
        | inl is ↦
            let n = some k (omega (arith, inside)) in
            (max before.0 n.0, highest-in set IsOf k before.0 n.0 (max before.0 n.0) one before.1 is n.1 refl)
        | inr out ↦ (before.0, highest-out set IsOf k before.0 before.0 before.1 out refl)
      ] in
      subst HighestTo (omega arith) next

  greatest : ((k n : ℕ) → IsOf k n → k < size) → (most : ℕ) × IsGreatest set IsOf most
  greatest only =
      let all = highest-to size (omega arith) in
      (all.0, highest-of-all set IsOf size all.0 only all.1)

-- ---- the numbers of a node

drew-some : (w : CableWorld) → IsWellFormed w → (k : ℕ) → k < length w.cabling →
    (n : ℕ) × Drew w k n
drew-some w f k inside = elim (slice_get_cases w.nodes k).1 [
  | inl x ↦ (x.0.state.view.draws, some-at (slice_get w.nodes k) x.0 (λ (y : PortNode). y.state.view.draws ≡ x.0.state.view.draws) x.2 refl)
  | inr past ↦ absurd (omega (arith, past.0, f.count, inside))
]

changed-some : (w : CableWorld) → IsWellFormed w → (k : ℕ) → k < length w.cabling →
    (n : ℕ) × LastChanged w k n
changed-some w f k inside = (get_or w.changed k 0, slice_get-get_or w.changed k 0 (omega (arith, f.changes, inside)))

-- ---- the report of a world

module _
    (every : EveryBusSettles) (components : ComponentsExist)
    (w : CableWorld) (h : HasSettled w) where
  reached : IsReached w
  reached = left-reached h.before w h.reached h.is

  formed : IsWellFormed w
  formed = (reached-lawful w reached).well_formed

  -- the part of a node's component
  record PartAt (k : ℕ) : Type 0 where
    part : Part
    component : IsComponent w.cabling k part.nodes
    is : IsPart w part

  part-at : (k : ℕ) → k < length w.cabling → PartAt k
  part-at k inside =
      let c : HasComponent w.cabling k = components w.cabling k formed.cabling inside in
      let s : IsSettled w c.set = settled every w c.set (k, c.is) c.there h in
      let outcome = reported-of w c.set s.0 s.1 in
      let rounds = greatest c.set (Drew w) (length w.cabling) (drew-one w) (drew-some w formed) k c.is.holds inside
      (λ j n is. omega (arith, formed.count, node-there w j (λ (x : PortNode). x.state.view.draws ≡ n) is)) in
      let changed = greatest c.set (LastChanged w) (length w.cabling) (changed-one w) (changed-some w formed) k c.is.holds inside
      (λ j n is. omega (arith, formed.changes, slice_get_within w.changed j n is)) in
      record {
        part = record { nodes = c.set; rounds = rounds.0; changed = changed.0; outcome = outcome.0 };
        component = c.is;
        is = record { node = k; component = c.is; there = c.there; rounds = rounds.1; changed = changed.1; outcome = outcome.1 };
      }

  abbrev PartsTo : ℕ → Type 0
  PartsTo k = (parts : List Part) × PartsBefore w k parts

  -- of one node more
  parts-next : (k : ℕ) → k < length w.cabling → PartsTo k → PartsTo (k + 1)
  parts-next k inside before = go (is_in before.0 k) refl
    where
      go : (b : Bool) → is_in before.0 k ≡ b → PartsTo (k + 1)
      go true seen = (before.0, part-goes-on w k before.0 before.1 seen)
      go false new =
          let p : PartAt k = part-at k inside in (
            before.0 ++ p.part ∷ [],
            part-added w k before.0 p.part before.1 p.is p.component.holds
                (least-of-new w k p.part.nodes before.0 (λ a b set c i. shared w.cabling a b set formed.cabling c i) before.1 p.component new),
          )

  parts-to : (k : ℕ) → k ≤ length w.cabling → PartsTo k
  parts-to zero inside = ([], no-parts w)
  parts-to (suc k) inside = subst PartsTo (omega arith) (parts-next k (omega (arith, inside)) (parts-to k (omega (arith, inside))))

  pub report-exists : (report : Report) × IsReport w report
  report-exists =
      let all : PartsTo (length w.cabling) = parts-to (length w.cabling) (omega arith) in
      (record { turn = w.turns; parts = all.0 }, record { turn = refl; parts = all-parts w (length w.cabling) all.0 all.1 refl })
