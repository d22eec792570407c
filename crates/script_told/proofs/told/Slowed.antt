-- Where the clock of a node is slow, it fits in the widened ranges, and so does each other node.
use Rattle.std.proofs.Common.{◌≡◌, ◌+◌, ◌*◌, ◌≤◌, ◌∙◌, ◌∷◌, ℕ, zero, suc, Bool, true, false, List, [], Option, Some, None, length, refl, sym, ap, subst, arith}
use Rattle.std.specs.Prelude.{nat_lt, slice_get, slice_set, Result, Ok, Err, if◌then◌else◌}
use Rattle.std.proofs.lemmas.Bool.Decides.{nat_tests}
use Rattle.std.proofs.lemmas.List.{length-set}
use Rattle.port_state.specs.declared.timing.Timing.{Timing}
use Rattle.port_state.specs.declared.ranges.TimeRanges.{TimeRanges}
use Rattle.port_state.specs.declared.ranges.Misfit.{Misfit}
use Rattle.port_state.specs.declared.ranges.Misfit.TheVariants.{ShortForce}
use Rattle.port_state.specs.TimeRanges.{AreWithin, AreSuitable, suitable}
use Rattle.port_state.specs.Clock.{Clock, even, slow, every, is_even}
use Rattle.port_state.specs.Machine.{PortNode}
use Rattle.cable_world.specs.World.{NodeNumber, slack_of}
use Rattle.cable_world.specs.Times.{SuitsSlowly, KeepsTime}
use Rattle.cable_world.proofs.Lemmas.{some-same}
use Rattle.script_lines.specs.declared.kind.Kind.{Kind}
use Rattle.script_lines.specs.declared.clock.TooSlow.{TooSlow}
use Rattle.script_lines.specs.declared.clock.TooSlow.TheVariants.{Often, Times}
use Rattle.script_lines.specs.Clock.{gap_of, before_first, clock_said, widened, slow_suitable, slow_ranges}
use Rattle.script_told.specs.Fitting.{AreFitting, AreForced, IsFitting}
use Rattle.script_told.specs.Script.{Draft, StageAnswer, with_clock, slows_node, slows_named}
use Rattle.script_told.proofs.told.Fitting.{suits, fits}
use Rattle.script_told.proofs.told.Reached.{IsSoundDraft, LeavesSound}

-- ---- the widened ranges

-- no longest time is less
still-within : (r : TimeRanges) (t u : Timing) → AreWithin r u → AreWithin (widened r t) u
still-within r t u h = record {
  hold_least = h.hold_least;
  hold_most = omega (arith, h.hold_most);
  force_least = h.force_least;
  force_most = omega (arith, h.force_most);
  timeout_least = h.timeout_least;
  timeout_most = omega (arith, h.timeout_most);
  short_least = h.short_least;
  short_most = omega (arith, h.short_most);
  long_least = h.long_least;
  long_most = omega (arith, h.long_most);
}

slower : (r : TimeRanges) (t u : Timing) → SuitsSlowly r.most u → SuitsSlowly (widened r t).most u
slower r t u h = record {
  hold_most = omega (arith, h.hold_most);
  force_most = omega (arith, h.force_most);
  timeout_most = omega (arith, h.timeout_most);
  short_most = omega (arith, h.short_most);
  long_most = omega (arith, h.long_most);
}

still-keeps : (r : TimeRanges) (t u : Timing) (c : Clock) → KeepsTime r.most u c →
    KeepsTime (widened r t).most u c
still-keeps r t u even k = tt
still-keeps r t u (slow n next) k = (k.0, slower r t u k.1)
still-keeps r t u (every gap n) k = (k.0, slower r t u k.1)

-- the node for which they are widened has room in them
slow-suits : (r : TimeRanges) (t : Timing) → SuitsSlowly (widened r t).most t
slow-suits r t = record {
  hold_most = omega arith;
  force_most = omega arith;
  timeout_most = omega arith;
  short_most = omega arith;
  long_most = omega arith;
}

module _ (d : ℕ) (r : TimeRanges) (t : Timing) (suitable-so : AreSuitable d (widened r t)) where
  still-fit : AreFitting d r → AreFitting d (widened r t)
  still-fit h = record { suitable = suitable-so; least = still-within r t r.least h.least }

  still-fits : (x : PortNode) → IsFitting d r x → IsFitting d (widened r t) x
  still-fits x h =
      let in-ranges = still-within r t x.state.timing h.within in
      record {
        powered = record {
          is = h.powered.is;
          valid = h.powered.valid;
          timing = suits d (widened r t) x.state.timing suitable-so in-ranges;
        };
        within = in-ranges;
        regular = h.regular;
        clock = still-keeps r t x.state.timing x.clock h.clock;
      }

-- the node itself, where it ticks often enough between two turns that its clock misses
slow-fits :
    (d : ℕ) (r : TimeRanges) (x : PortNode) (gap first : ℕ) → AreSuitable d (widened r x.state.timing) →
    x.state.timing.long ≤ gap → IsFitting d r x →
    IsFitting d (widened r x.state.timing) (record x { clock = every gap first })
slow-fits d r x gap first suitable-so paced h =
    let f = still-fits d r x.state.timing suitable-so x h in
    record { powered = f.powered; within = f.within; regular = tt; clock = (paced, slow-suits r x.state.timing) }

-- ---- where a clock may be so slow

pub record IsSlow (d : ℕ) (r : TimeRanges) (t : Timing) (gap : ℕ) (s : TimeRanges) : Type 0 where
  pub paced : t.long ≤ gap
  pub is : s ≡ widened r t
  pub suitable : AreSuitable d (widened r t)
  pub forced : AreForced (d + 1) (widened r t)

-- ranges that are handed out are suitable, and forced nodes wait long enough
pub record IsSlowSuitable (d : ℕ) (r s : TimeRanges) : Type 0 where
  pub is : s ≡ r
  pub suitable : AreSuitable d r
  pub forced : AreForced (d + 1) r

judged-slow : (d : ℕ) (r s : TimeRanges) (judged : Result TimeRanges Misfit) → suitable d r ≡ judged →
    slow_suitable d judged ≡ Ok s → IsSlowSuitable d r s
judged-slow d r s (Err misfit) e g = absurd cc
judged-slow d r s (Ok q) e g = go (nat_lt (q.least.hold + q.least.force) (q.most.hold + 127 * (d + 1) + 1)) refl g
  where
    f : (q ≡ r) × AreSuitable d r
    f = fits d r q e

    go : (few : Bool) → nat_lt (q.least.hold + q.least.force) (q.most.hold + 127 * (d + 1) + 1) ≡ few →
        (if few then Err (Times ShortForce) else Ok q) ≡ Ok s → IsSlowSuitable d r s
    go true h k = absurd cc
    go false h k =
        let same : q ≡ s = cc in
        let enough : AreForced (d + 1) q = record { enough = grind (arith, nat_tests, h) } in
        record { is = sym same ∙ f.0; suitable = f.1; forced = subst (AreForced (d + 1)) f.0 enough }

pub slow-so : (d : ℕ) (r : TimeRanges) (t : Timing) (gap : ℕ) (s : TimeRanges) →
    slow_ranges d r t gap ≡ Ok s → IsSlow d r t gap s
slow-so d r t gap s e = go (nat_lt gap t.long) refl e
  where
    go : (fast : Bool) → nat_lt gap t.long ≡ fast →
        (if fast then Err Often else slow_suitable d (suitable d (widened r t))) ≡ Ok s → IsSlow d r t gap s
    go true f g = absurd cc
    go false f g =
        let both = judged-slow d (widened r t) s (suitable d (widened r t)) refl g in
        record { paced = grind (arith, nat_tests, f); is = both.is; suitable = both.suitable; forced = both.forced }

-- ---- a draft

set-at :
    (nodes : List PortNode) (number : ℕ) (x : PortNode) (P : PortNode → Type 0) →
    ((k : ℕ) (y : PortNode) → slice_get nodes k ≡ Some y → P y) → P x →
    (k : ℕ) (y : PortNode) → slice_get (slice_set nodes number x) k ≡ Some y → P y
set-at [] number x P h p k y e = absurd cc
set-at (z ∷ nodes) zero x P h p zero y e = subst P (some-same x y e) p
set-at (z ∷ nodes) zero x P h p (suc k) y e = h (suc k) y e
set-at (z ∷ nodes) (suc number) x P h p zero y e = h zero y e
set-at (z ∷ nodes) (suc number) x P h p (suc k) y e =
    set-at nodes number x P (λ j w f. h (suc j) w f) p k y e

-- a clock is slow
slack-set :
    (nodes : List PortNode) (number : ℕ) (x y : PortNode) → slice_get nodes number ≡ Some y → is_even x.clock ≡ false →
    slack_of (slice_set nodes number x) ≡ 1
slack-set [] number x y at e = absurd cc
slack-set (z ∷ nodes) zero x y at e = rw e refl
slack-set (z ∷ nodes) (suc number) x y at e = go (is_even z.clock) (slack-set nodes number x y at e)
  where
    go : (b : Bool) → slack_of (slice_set nodes number x) ≡ 1 →
        (if b then slack_of (slice_set nodes number x) else 1) ≡ 1
    go true one = one
    go false one = refl

-- the draft with a slow clock
abbrev slow_draft : Draft → NodeNumber → PortNode → ℕ → ℕ → TimeRanges → Draft
slow_draft draft number x gap first ranges = record draft {
  times = record draft.times { ranges = ranges };
  nodes = slice_set draft.nodes number (record x { clock = every gap first });
  slowed = true;
}

widened-draft :
    (draft : Draft) (number : NodeNumber) (x : PortNode) (gap first : ℕ) → IsSoundDraft draft →
    slice_get draft.nodes number ≡ Some x → x.state.timing.long ≤ gap →
    AreSuitable draft.delay (widened draft.times.ranges x.state.timing) →
    AreForced (draft.delay + 1) (widened draft.times.ranges x.state.timing) →
    IsSoundDraft (slow_draft draft number x gap first (widened draft.times.ranges x.state.timing))
widened-draft draft number x gap first h at paced suitable-so forced =
    let d = draft.delay in
    let r = draft.times.ranges in
    let t = x.state.timing in
    let as-many = length-set draft.nodes number (record x { clock = every gap first }) in
    record {
      some_delay = h.some_delay;
      short_delay = h.short_delay;
      few = omega (arith, as-many, h.few);
      same = h.same ∙ sym as-many;
      fitting = still-fit d r t suitable-so h.fitting;
      forced = forced;
      slack = slack-set draft.nodes number (record x { clock = every gap first }) x at refl;
      powered = set-at draft.nodes number (record x { clock = every gap first }) (IsFitting d (widened r t))
          (λ k y got. still-fits d r t suitable-so y (h.powered k y got))
          (slow-fits d r x gap first suitable-so paced (h.powered number x at));
    }

pub slowed-draft :
    (draft : Draft) (number : NodeNumber) (x : PortNode) (gap first : ℕ) (ranges : TimeRanges) → IsSoundDraft draft →
    slice_get draft.nodes number ≡ Some x → slow_ranges draft.delay draft.times.ranges x.state.timing gap ≡ Ok ranges →
    IsSoundDraft (slow_draft draft number x gap first ranges)
slowed-draft draft number x gap first ranges h at e =
    let s = slow-so draft.delay draft.times.ranges x.state.timing gap ranges e in
    subst (λ r. IsSoundDraft (slow_draft draft number x gap first r)) (sym s.is)
    (widened-draft draft number x gap first h at s.paced s.suitable s.forced)

-- ---- a line that slows a clock

slows-one :
    (draft : Draft) (ppm : ℕ) (first : Option ℕ) (number : NodeNumber) (o : Option PortNode) → IsSoundDraft draft →
    slice_get draft.nodes number ≡ o → LeavesSound (slows_node draft ppm first number o)
slows-one draft ppm first number None h at = tt
slows-one draft ppm first number (Some x) h at = go (is_even x.clock)
  where
    gap : ℕ
    gap = gap_of ppm

    by : (judged : Result TimeRanges TooSlow) → slow_ranges draft.delay draft.times.ranges x.state.timing gap ≡ judged →
        LeavesSound (with_clock draft number x (clock_said ppm first) judged)
    by (Ok ranges) e = slowed-draft draft number x gap (before_first gap first) ranges h at e
    by (Err reason) e = tt

    go : (b : Bool) → LeavesSound (if b then with_clock draft number x (clock_said ppm first)
        (slow_ranges draft.delay draft.times.ranges x.state.timing gap) else Err Kind.Twice)
    go true = by (slow_ranges draft.delay draft.times.ranges x.state.timing gap) refl
    go false = tt

pub slows-sound :
    (draft : Draft) (ppm : ℕ) (first : Option ℕ) (o : Option NodeNumber) → IsSoundDraft draft →
    LeavesSound (slows_named draft ppm first o)
slows-sound draft ppm first None h = tt
slows-sound draft ppm first (Some number) h =
    slows-one draft ppm first number (slice_get draft.nodes number) h refl
