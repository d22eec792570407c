-- After so many quiet turns every component has an outcome.
use Rattle.std.proofs.Common.{refl, ◌≡◌, ◌⊎◌, inl, inr, ℕ, zero, suc, ◌+◌, ◌-◌, ◌*◌, ◌<◌, ◌≤◌, true, length, max, sym, ◌∙◌, ap, subst, arith, true≢false}
use Rattle.std.proofs.lemmas.Option.{slice_get_cases}
use Rattle.outcomes.proofs.Common.{Holds, IsEmpty, IsCore, HasTwo, numbers, plugged, end_at, CableWorld, ComesOfPowerOn, IsLawful, IsTree, IsSettled, loop, after-length, comes-lawful, quiet-then, quiet-lawful, after-cabling, HoldSchedule, holds_after, quiet_after, done-after, comes-contested, search-set, ResetsAreOver, ResetsAreDone, AreIdentifying, HasContention, Settles, IsNumbering}
use Rattle.cable_world.specs.Times.{longest_in_range}
use Rattle.outcomes.specs.QuietTurns.{AreShort, QuietTurnsAreEnough, InRangeIsEnough}
use Rattle.convergence.proofs.Lemmas.{quiet-contested, taken-reached, decided-reached, start-grown, resets-over, grown-of, contention-after}
use Rattle.outcomes.proofs.settled.Numbering.{quiet-numbering}
use Rattle.convergence.specs.Kept.{IsGrown}
use Rattle.convergence.specs.Rivals.{IsContested}
use Rattle.convergence.specs.Turns.{slack, seen_turns, turns_to_settle, turns_to_decision}
use Rattle.convergence.proofs.Lemmas.{slack-most}
use Rattle.outcomes.proofs.numbers.Spreads.{tree-soon}
use Rattle.outcomes.proofs.settled.Beginnings.{all-or-not, not-both-ways}
use Rattle.outcomes.proofs.settled.Numbering.{comes-numbering}
use Rattle.outcomes.proofs.settled.Components.{Part, part-in, part-settles}
use Rattle.outcomes.proofs.settled.Outcomes.{no-tree-yet, tree-or-none, contention-outcome, tree-outcome}
use Rattle.outcomes.proofs.settled.Unnamed.{loop-outcome}

-- ---- turns

-- enough for a tree to come to rest: five times as many as there are nodes, times d
pub room-to-rest : (len d : ℕ) → len ≤ 63 → 5 * len * d ≤ 315 * d
room-to-rest len d few =
    let r : ℕ = 63 - len in
    let z : 63 ≡ len + r = omega (arith, few) in
    let p : 5 * (len + r) * d ≡ 5 * len * d + 5 * r * d = grind arith in
    let q : 5 * 63 * d ≡ 315 * d = grind arith in
    omega (arith, p, q, ap (λ (m : ℕ). 5 * m * d) z)

-- where times are short enough, `quiet_turns` are enough
pub short-enough : QuietTurnsAreEnough
short-enough w short =
    parts (length w.nodes) w.delay (slack w) w.longest.hold w.longest.force w.longest.timeout w.longest.long
    (slack-most w) short.tree short.loop
  where
    square : (n d : ℕ) → 2 * (n * d) ≤ d * (n * n) + d
    square zero d = omega arith
    square (suc m) d =
        let p : d * (suc m * suc m) ≡ d * (m * m) + 2 * (m * d) + d = grind arith in
        let q : suc m * d ≡ m * d + d = grind arith in
        omega (arith, p, q)

    five : (n : ℕ) → 20 * n ≤ 4 * (n * n) + 25
    five zero = omega arith
    five (suc zero) = omega arith
    five (suc (suc zero)) = omega arith
    five (suc (suc (suc m))) =
        let p : suc (suc (suc m)) * suc (suc (suc m)) ≡ m * m + 6 * m + 9 = grind arith in
        omega (arith, p)

    -- with slack
    slow : (n e : ℕ) → 6 * (n * (e + 1)) + 13 * n ≤ 4 * ((e + 1) * (n * n)) + 16 * (e + 1) + 15
    slow n e =
        let p : n * (e + 1) ≡ n * e + n = grind arith in
        let q : (e + 1) * (n * n) ≡ e * (n * n) + n * n = grind arith in
        omega (arith, p, q, five n, square n e)

    sums : (n d h f t l : ℕ) → h + f + 35 * l < 1600 * d → h + t < 1600 * d →
        max (n * d + (h + (d + 0)) + (t + 1 + 0))
        (n * d + (h + (d + 0)) + (f + n * (d + 0)) + (12 * (n * (d + 0)) + 33 * (l + 2 * (d + 0)) + (l + (l + 2 * (d + 0))) + 1 + 0)
        + 315 * (d + 0))
        ≤ d * (2000 + 4 * n * n + 8 * n)
    sums n d h f t l few soon =
        let z : d * (2000 + 4 * n * n + 8 * n) ≡ 2000 * d + 4 * (d * (n * n)) + 8 * (n * d) =
        grind arith in
        let y : n * (d + 0) ≡ n * d = grind arith in
        omega (arith, z, y, square n d, few, soon)

    sums-slow : (n e h f t l : ℕ) → h + f + 35 * l + 400 < 1600 * (e + 1) → h + t < 1600 * (e + 1) →
        max (n * (e + 1) + (h + (e + 1 + 1)) + (t + 1 + 1))
        (n * (e + 1) + (h + (e + 1 + 1)) + (f + n * (e + 1 + 1)) + (12 * (n * (e + 1 + 1)) + 33 * (l + 2 * (e + 1 + 1)) + (l + (l + 2 * (e + 1 + 1))) + 1 + 1)
        + 315 * (e + 1 + 1))
        ≤ (e + 1) * (2000 + 4 * n * n + 8 * n)
    sums-slow n e h f t l few soon =
        let z : (e + 1) * (2000 + 4 * n * n + 8 * n) ≡ 2000 * (e + 1) + 4 * ((e + 1) * (n * n)) + 8 * (n * (e + 1)) =
        grind arith in
        let y : n * (e + 1 + 1) ≡ n * (e + 1) + n = grind arith in
        omega (arith, z, y, slow n e, few, soon)

    parts :
        (n d s h f t l : ℕ) → s ≤ 1 → h + f + 35 * l + 400 * s < 1600 * d → h + t < 1600 * d →
        max (n * d + (h + (d + s)) + (t + 1 + s))
        (n * d + (h + (d + s)) + (f + n * (d + s)) + (12 * (n * (d + s)) + 33 * (l + 2 * (d + s)) + (l + (l + 2 * (d + s))) + 1 + s)
        + 315 * (d + s))
        ≤ d * (2000 + 4 * n * n + 8 * n)
    parts n d zero h f t l one few soon = sums n d h f t l (omega (arith, few)) soon
    parts n d (suc zero) h f t l one few soon = above d refl
      where
        above : (c : ℕ) → d ≡ c →
            max (n * d + (h + (d + 1)) + (t + 1 + 1))
            (n * d + (h + (d + 1)) + (f + n * (d + 1)) + (12 * (n * (d + 1)) + 33 * (l + 2 * (d + 1)) + (l + (l + 2 * (d + 1))) + 1 + 1)
            + 315 * (d + 1))
            ≤ d * (2000 + 4 * n * n + 8 * n)
        above zero e = absurd (omega (arith, e, soon))
        above (suc c) e =
            let z : c + 1 ≡ d = omega (arith, e) in
            subst (λ q. max (n * q + (h + (q + 1)) + (t + 1 + 1))
            (n * q + (h + (q + 1)) + (f + n * (q + 1)) + (12 * (n * (q + 1)) + 33 * (l + 2 * (q + 1)) + (l + (l + 2 * (q + 1))) + 1 + 1)
            + 315 * (q + 1)) ≤ q * (2000 + 4 * n * n + 8 * n)) z (sums-slow n c h f t l (omega (arith, few, z)) (omega (arith, soon, z)))
    parts n d (suc (suc s)) h f t l one few soon = absurd (omega (arith, one))

pub range-short : (d slack : ℕ) → 1 ≤ d → slack ≤ 1 → AreShort d slack (longest_in_range d)
range-short d slack some few = record { tree = omega (arith, some, few); loop = omega (arith, some) }

pub range-enough : InRangeIsEnough
range-enough w some is =
    short-enough w (subst (AreShort w.delay (slack w)) (sym is) (range-short w.delay (slack w) some (slack-most w)))

-- ---- the core

core-or-none :
    (w : CableWorld) (set core : ℕ) → IsLawful w → IsCore w.cabling set core →
    IsEmpty core ⊎ ((j : ℕ) × Holds core j)
core-or-none w set core l is = elim (search-set core (λ x. true) w) [
  | inr f ↦ inr (f.0, f.1.holds)
  | inl none ↦ inl (λ j h. elim (slice_get_cases w.nodes j).1 [
    | inl found ↦ true≢false (none j found.0 h found.2)
    | inr lacks ↦
        let part = (is j).0 h in
        let two : HasTwo w.cabling part.0 j = part.2 j part.3 in
        omega (
          arith,
          lacks.0,
          (plugged w.cabling (end_at j two.low) two.low_leads.0
              two.low_leads.1).node,
          l.well_formed.count,
        )
  ])
]

-- ---- a component

module _
    (hs : HoldSchedule) (w : CableWorld) (r : ComesOfPowerOn w) (p : Part w) (k : ℕ)
    (quiet : turns_to_settle w ≤ k) where
  lawful : IsLawful w
  lawful = comes-lawful w r

  abbrev v : CableWorld
  v = quiet_after hs k w

  enough : turns_to_decision w + 315 * seen_turns w ≤ k
  enough = omega (arith, quiet)

  v-lawful : IsLawful v
  v-lawful = quiet-lawful hs k w lawful

  v-numbering : IsNumbering v
  v-numbering = quiet-numbering hs k w lawful (comes-numbering w r)

  v-over : ResetsAreOver v
  v-over = resets-over hs w lawful k (omega (arith, enough))

  -- the component after so many turns
  abbrev at : (i : ℕ) → Part (quiet_after hs i w)
  at i = part-in w (quiet_after hs i w) (after-cabling hs i w) (after-length hs w lawful i) p

  -- where all are in self identify or A0, lists follow the walk
  settles-at :
      (i : ℕ) → AreIdentifying (quiet_after hs i w) p.set →
      Settles (quiet_after hs i w) p.set p.core
  settles-at i =
      part-settles (quiet_after hs i w) (quiet-numbering hs i w lawful (comes-numbering w r)) (at i)

  abbrev middle : ℕ
  middle = k - 315 * seen_turns w

  -- all came to self identify early enough
  tree-by : AreIdentifying (quiet_after hs middle w) p.set → IsSettled v p.set
  tree-by all =
      tree-outcome v p.set s.root s.tree
      (subst (λ (i : ℕ). IsTree (quiet_after hs i w) p.set s.root s.tree) sum rest)
    where
      s : Settles (quiet_after hs middle w) p.set p.core
      s = settles-at middle all

      sum : middle + (k - middle) ≡ k
      sum = omega (arith, enough)

      rest : IsTree (quiet_after hs (middle + (k - middle)) w) p.set s.root s.tree
      rest =
          tree-soon hs w r middle (omega (arith, enough)) p.set p.core s.root s.tree s.is
          (k - middle)
          (omega (
            arith,
            enough,
            room-to-rest
                (length (numbers (quiet_after hs middle w).cabling s.root s.tree)) (seen_turns w)
                s.is.walk.few,
          ))

  -- or only later, after 32 equal draws, or not yet
  contended : IsEmpty p.core → HasContention (quiet_after hs middle w) p.set → IsSettled v p.set
  contended empty h = elim (all-or-not v p.set) [
    | inr still ↦
        contention-outcome v v-lawful v-contested v-over p.node p.set (at k).component now
        (no-tree-yet v p.set v-numbering.identifies still)
    | inl all ↦ late-tree (settles-at k all)
  ]
    where
      sum : middle + (k - middle) ≡ k
      sum = omega (arith, enough)

      v-contested : IsContested v
      v-contested = quiet-contested hs k w lawful (comes-contested w r)

      grown : IsGrown (quiet_after hs middle w)
      grown =
          start-grown hs w r middle (omega (arith, enough))
          (taken-reached hs w middle r (omega (arith, enough)))

      now : HasContention v p.set
      now =
          subst (λ (u : CableWorld). HasContention u p.set)
          (sym (quiet-then hs middle (k - middle) w) ∙ ap (λ (i : ℕ). quiet_after hs i w) sum)
          (contention-after (holds_after middle hs) (quiet_after hs middle w) p.set
          (grown-of (quiet_after hs middle w) p.node p.set p.core grown (at middle).component
          (at middle).is_core empty) (k - middle) h)

      late-tree : Settles v p.set p.core → IsSettled v p.set
      late-tree s =
          elim (tree-or-none v v-lawful v-numbering.acyclic v-numbering.identifies p.set p.core
          s.root s.tree s.is) [
            | inl t ↦ tree-outcome v p.set s.root s.tree t
            | inr none ↦
                contention-outcome v v-lawful v-contested v-over p.node p.set (at k).component now
                none
          ]

  tree-settles : IsEmpty p.core → IsSettled v p.set
  tree-settles empty = elim (all-or-not (quiet_after hs middle w) p.set) [
    | inl all ↦ tree-by all
    | inr out ↦
        elim (decided-reached hs w middle r (omega (arith, enough)) p.node p.set p.core
        (at middle).component (at middle).is_core empty) [
          | inl all ↦ absurd (not-both-ways (quiet_after hs middle w) p.set out all)
          | inr h ↦ contended empty h
        ]
  ]

  pub settles-at-last : IsSettled v p.set
  settles-at-last = elim (core-or-none w p.set p.core lawful p.is_core) [
    | inl empty ↦ tree-settles empty
    | inr j ↦ (
      loop p.core,
      loop-outcome hs w k p.node p.set p.core j.0 r (omega (arith, quiet))
          (at k).component (at k).is_core j.1,
    )
  ]

-- by then no node is in R0 or R1
pub done-at-last :
    (hs : HoldSchedule) (w : CableWorld) (k : ℕ) → ComesOfPowerOn w →
    turns_to_settle w ≤ k →
    ResetsAreDone (quiet_after hs k w)
done-at-last hs w k r quiet = done-after hs w k (comes-lawful w r) (omega (arith, quiet))

-- ---- how many turns n d are

times-more : (m n d : ℕ) → m ≤ n → m * d ≤ n * d
times-more m n d h =
    let z : n ≡ m + (n - m) = omega (arith, h) in
    let p : (m + (n - m)) * d ≡ m * d + (n - m) * d = grind arith in
    omega (arith, p, ap (λ (i : ℕ). i * d) z)

-- there are 63 nodes at most
pub few-nodes :
    (w : CableWorld) → IsLawful w →
    ((length w.nodes - 1) * w.delay ≤ length w.nodes * w.delay)
    × (length w.nodes * w.delay ≤ 63 * w.delay)
few-nodes w l = (
  times-more (length w.nodes - 1) (length w.nodes) w.delay (omega arith),
  times-more (length w.nodes) 63 w.delay
      (omega (arith, l.well_formed.cabling.few_nodes, l.well_formed.count)),
)
