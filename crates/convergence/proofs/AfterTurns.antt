-- What is so after how many quiet turns.
use Rattle.std.proofs.Common.{◌≡◌, ℕ, ◌+◌, ◌-◌, ◌*◌, ◌≤◌, Bool, true, Some, length, slice_get, sym, ◌∙◌, ap, subst, arith}
use Rattle.std.proofs.lemmas.Bool.{false_from_ne_true}
use Rattle.convergence.proofs.Common.{End, Wiring, far, IsClosed, IsComponent, IsCore, Level, PortNode, CableWorld, turn, ComesOfPowerOn, level_sent_at, level_shown, IsLawful, cabling-after, after-delay, after-length, some-of, some-at, some-same, comes-lawful, quiet-then, quiet-lawful, after-cabling, HoldSchedule, quiet_after, holds_after, IsAcyclic, ResetsAreDone, TreesAreTaken, LoopsAreReported, TreesAreDecided, turns_to_done, turns_to_trees, turns_to_decision, contrary}
use Rattle.cable_world.proofs.Lemmas.{after-longest}
use Rattle.convergence.specs.Cables.{TellsAt, ShowsAt}
use Rattle.std.proofs.lemmas.Nat.{mul-le}
use Rattle.port_state.specs.declared.timing.Timing.{Timing}
use Rattle.convergence.proofs.turns.TwoTurns.{slack-later}
use Rattle.convergence.specs.Turns.{seen_turns, tree_turns, loop_turns, decision_turns, turns_to_loops}
use Rattle.convergence.specs.Kept.{IsGrown}
use Rattle.convergence.proofs.turns.Cables.{joined-of}
use Rattle.convergence.proofs.turns.CalmTurns.{Calmly, calmly, early-before, done-calm}
use Rattle.convergence.proofs.turns.Flush.{Tells, flush}
use Rattle.convergence.proofs.loops.LoopsReported.{loops-reported}
use Rattle.convergence.proofs.resets.ResetsDone.{resets-done}
use Rattle.convergence.proofs.ranks.StaysAcyclic.{comes-acyclic, quiet-acyclic}
use Rattle.convergence.proofs.coins.StaysContested.{comes-contested, quiet-contested}
use Rattle.convergence.proofs.trees.TreesTaken.{all-taken}
use Rattle.convergence.proofs.rounds.IdentifyOrContend.{decided-after}

-- ---- levels

tells-of : (w : CableWorld) (a : End) (test : Level → Bool) → TellsAt w a test → Tells w a test
tells-of w a test h x at =
    let y = some-of (slice_get w.nodes a.node) _ h in
    let same : y.0 ≡ x = some-same y.0 x (sym y.1 ∙ at) in
    subst (λ (z : PortNode). test (level_sent_at z.state a.port) ≡ true) same y.2

pub come-through :
    (hs : HoldSchedule) (w : CableWorld) (a b : End) (test : Level → Bool) (k : ℕ) → IsLawful w →
    far w.cabling a ≡ Some b → w.delay ≤ k →
    ((i : ℕ) → i ≤ k → TellsAt (quiet_after hs i w) a test) → ShowsAt (quiet_after hs k w) b test
come-through hs w a b test k l e late tell =
    let v : CableWorld = quiet_after hs k w in
    let m : IsLawful v = quiet-lawful hs k w l in
    let j = joined-of v a b m.well_formed (ap (λ (c : Wiring). far c a) (after-cabling hs k w) ∙ e) in
    some-at (slice_get v.nodes b.node) j.other (λ (y : PortNode). test (level_shown y.state b.port) ≡ true) j.other_at
    (flush hs w l a b e test (λ i. i ≤ k) (λ i h. omega (arith, h)) (λ i h. tells-of (quiet_after hs i w) a test (tell i h)) k late (omega arith) j.other j.other_at)

-- ---- from one milestone to the next

pub done-after :
    (hs : HoldSchedule) (w : CableWorld) (k : ℕ) → IsLawful w → turns_to_done w ≤ k →
    ResetsAreDone (quiet_after hs k w)
done-after hs w k l late =
    let i : ℕ = k - length w.nodes * w.delay in
    let z : length w.nodes * w.delay + i ≡ k = omega (arith, late) in
    subst (λ m. ResetsAreDone (quiet_after hs m w)) z (resets-done hs w l i (omega (arith, late)))

pub taken-after :
    (hs : HoldSchedule) (w : CableWorld) (k : ℕ) → IsLawful w → ResetsAreDone w → tree_turns w ≤ k →
    TreesAreTaken (quiet_after hs k w)
taken-after hs w k l done late node set core whole is empty j x h at =
    let closed : IsClosed w.cabling set = subst (λ c. IsClosed c set) (after-cabling hs k w) whole.closed in
    let is_core : IsCore w.cabling set core = subst (λ c. IsCore c set core) (after-cabling hs k w) is in
    all-taken hs w l done set core closed is_core empty k late j x h at

pub taken-turn :
    (w : CableWorld) → IsLawful w → ResetsAreDone w → TreesAreTaken w → TreesAreTaken (turn w)
taken-turn w l done taken node set core whole is empty k y h at = false_from_ne_true _ (λ e. contrary (early-before w k y.state c e) (taken node set core comp is_core empty k c.node h c.at))
  where
    comp : IsComponent w.cabling node set
    comp = subst (λ c. IsComponent c node set) (cabling-after w) whole

    is_core : IsCore w.cabling set core
    is_core = subst (λ c. IsCore c set core) (cabling-after w) is

    c : Calmly w k y.state
    c = calmly w l (done-calm w done) k y at

pub reported-after :
    (hs : HoldSchedule) (w : CableWorld) (k : ℕ) → IsLawful w → IsAcyclic w → ResetsAreDone w →
    loop_turns w ≤ k →
    LoopsAreReported (quiet_after hs k w)
reported-after hs w k l acyclic done late = loops-reported hs w l acyclic done k (omega (arith, late))

-- ---- from the last act

-- what comes of a later world comes of this one
later :
    (hs : HoldSchedule) (P : CableWorld → Type 0) (w : CableWorld) (first k : ℕ) → first ≤ k →
    P (quiet_after (holds_after first hs) (k - first) (quiet_after hs first w)) →
    P (quiet_after hs k w)
later hs P w first k late h =
    let z : k ≡ first + (k - first) = omega (arith, late) in
    subst P (sym (ap (λ m. quiet_after hs m w) z ∙ quiet-then hs first (k - first) w)) h

module _ (hs : HoldSchedule) (w : CableWorld) (r : ComesOfPowerOn w) (first : ℕ) where
  lawful : IsLawful w
  lawful = comes-lawful w r

  abbrev start : CableWorld
  start = quiet_after hs first w

  start-lawful : IsLawful start
  start-lawful = quiet-lawful hs first w lawful

  start-acyclic : IsAcyclic start
  start-acyclic = quiet-acyclic hs first w lawful (comes-acyclic w r)

  same-seen : seen_turns start ≤ seen_turns w
  same-seen = omega (arith, after-delay hs w lawful first, slack-later hs w lawful first)

  same-all : length start.nodes * seen_turns start ≤ length w.nodes * seen_turns w
  same-all = mul-le (length start.nodes) (seen_turns start) (length w.nodes) (seen_turns w) (omega (arith, after-length hs w lawful first)) same-seen

  same-tree : tree_turns start ≤ tree_turns w
  same-tree = omega (arith, same-all, ap (λ (t : Timing). t.force) (after-longest hs w lawful first))

  same-loop : loop_turns start ≤ loop_turns w
  same-loop = omega (arith, slack-later hs w lawful first, ap (λ (t : Timing). t.timeout) (after-longest hs w lawful first))

  same-decision : decision_turns start ≤ decision_turns w
  same-decision = omega (arith, same-all, same-seen, slack-later hs w lawful first, ap (λ (t : Timing). t.long) (after-longest hs w lawful first))

  pub start-grown : turns_to_trees w ≤ first → TreesAreTaken start → IsGrown start
  start-grown late taken = record {
    lawful = start-lawful;
    acyclic = start-acyclic;
    contested = quiet-contested hs first w lawful (comes-contested w r);
    done = done-after hs w first lawful (omega (arith, late));
    taken = taken;
  }

pub taken-reached :
    (hs : HoldSchedule) (w : CableWorld) (k : ℕ) → ComesOfPowerOn w → turns_to_trees w ≤ k →
    TreesAreTaken (quiet_after hs k w)
taken-reached hs w k r late =
    let first : ℕ = turns_to_done w in
    let done : ResetsAreDone (quiet_after hs first w) = done-after hs w first (lawful hs w r first) (omega arith) in
    later hs TreesAreTaken w first k (omega (arith, late))
    (taken-after (holds_after first hs) (quiet_after hs first w) (k - first) (start-lawful hs w r first) done (omega (arith, same-tree hs w r first, late)))

pub reported-reached :
    (hs : HoldSchedule) (w : CableWorld) (k : ℕ) → ComesOfPowerOn w → turns_to_loops w ≤ k →
    LoopsAreReported (quiet_after hs k w)
reported-reached hs w k r late =
    let first : ℕ = turns_to_done w in
    let done : ResetsAreDone (quiet_after hs first w) = done-after hs w first (lawful hs w r first) (omega arith) in
    later hs LoopsAreReported w first k (omega (arith, late))
    (reported-after (holds_after first hs) (quiet_after hs first w) (k - first) (start-lawful hs w r first) (start-acyclic hs w r first) done (omega (arith, same-loop hs w r first, late)))

pub decided-reached :
    (hs : HoldSchedule) (w : CableWorld) (k : ℕ) → ComesOfPowerOn w → turns_to_decision w ≤ k →
    TreesAreDecided (quiet_after hs k w)
decided-reached hs w k r late =
    let first : ℕ = turns_to_trees w in
    let grown : IsGrown (quiet_after hs first w) = start-grown hs w r first (omega arith) (taken-reached hs w first r (omega arith)) in
    later hs TreesAreDecided w first k (omega (arith, late))
    (decided-after (holds_after first hs) (quiet_after hs first w) (k - first) grown (omega (arith, same-decision hs w r first, late)))
