-- Where a component without loop knows its tree, it comes to self identify or to a contention, and
-- stays there.
use Rattle.std.proofs.Common.{◌≡◌, ◌⊎◌, inl, inr, ℕ, ◌+◌, ◌-◌, ◌*◌, ◌≤◌, true, false, length, refl, sym, ◌∙◌, ap, subst, arith}
use Rattle.convergence.proofs.Common.{End, Holds, IsComponent, IsCore, Phase, CableWorld, wire_of, turn, is_shaking, cabling-after, after-delay, after-length, quiet-then, after-cabling, HoldSchedule, holds_after, quiet_after, AreRivals, AreMutual, AreIdentifying, TreesAreDecided}
use Rattle.cabling.specs.NodeSet.{IsEmpty}
use Rattle.port_state.specs.declared.signal.Phase.TheVariants as phase
use Rattle.cable_world.specs.Outcome.{HasNoLoop}
use Rattle.convergence.specs.Kept.{IsGrown}
use Rattle.std.proofs.lemmas.Nat.{mul-le}
use Rattle.convergence.specs.Turns.{slack, seen_turns, decision_turns}
use Rattle.convergence.proofs.turns.TwoTurns.{slack-later}
use Rattle.convergence.specs.Milestones.{HasContention, IdentifyOrContend}
use Rattle.convergence.proofs.rounds.ThirtyThreeRounds.{contend, contention-turn, contention-after, rounds}
use Rattle.convergence.proofs.rounds.Grown.{Grown, grown-after}
use Rattle.convergence.proofs.rounds.Rooted.{component-after, identify-after, rooted-ends}
use Rattle.convergence.proofs.rounds.RivalSteps.{AreUp}
use Rattle.convergence.proofs.rounds.Rounds.{At, Bounds, bounds-after}
use Rattle.convergence.proofs.rounds.Shaken.{NoneShakes, is_unrooted, search-set, shaken-out, rival-of, all-identify, identify-turn}
use Rattle.convergence.proofs.turns.Weights.{is_child_shake}

shake-parent : (f : Phase) → is_shaking f ≡ true → is_child_shake f ≡ false → f ≡ phase.ParentShake
shake-parent f a b = grind arith

-- two rivals, where nobody is in T1
rivals-up :
    (w : CableWorld) (set : ℕ) → Grown w set → NoneShakes w set → (a b : End) → Holds set a.node →
    AreMutual w a b → At w set a b (AreUp a.port b.port 0)
rivals-up w set g none a b in_a m = record {
  ends = m.ends;
  holds = in_a;
  is = record {
    here = record { up = m.here; draws = omega arith };
    there = record { up = m.there; draws = omega arith };
    first = (go stand).0;
    second = (go stand).1;
  };
}
  where
    x-quiet : is_child_shake m.ends.near.state.view.phase ≡ false
    x-quiet = none a.node m.ends.near in_a m.ends.near_at

    y-quiet : is_child_shake m.ends.other.state.view.phase ≡ false
    y-quiet = none b.node m.ends.other (g.closed a b m.ends.joined in_a) m.ends.other_at

    stand :
        AreRivals w.delay m.ends.near.state m.ends.near.clock a.port (wire_of w a).signals m.ends.other.state m.ends.other.clock b.port (wire_of w b).signals
    stand = (g.contested.cables a b m.ends.near m.ends.other m.ends.joined m.ends.near_at m.ends.other_at).rivals m.here m.there

    go :
        AreRivals w.delay m.ends.near.state m.ends.near.clock a.port (wire_of w a).signals m.ends.other.state m.ends.other.clock b.port (wire_of w b).signals →
        ((m.ends.near.state.view.phase ≡ phase.ParentShake)
        ⊎ (m.ends.near.state.view.phase ≡ phase.Contend))
        × ((m.ends.other.state.view.phase ≡ phase.ParentShake) ⊎ (m.ends.other.state.view.phase ≡ phase.Contend))
    go (inl h) = (inl (shake-parent m.ends.near.state.view.phase h.here x-quiet), inl (shake-parent m.ends.other.state.view.phase h.there y-quiet))
    go (inr (inl h)) = (inr h.here, inr h.there)
    go (inr (inr (inl h))) = (inr h.here, inl (shake-parent m.ends.other.state.view.phase h.there y-quiet))
    go (inr (inr (inr h))) = (inl (shake-parent m.ends.near.state.view.phase h.there x-quiet), inr h.here)

-- within so many turns
-- for n nodes, where a level is seen in d turns, a wait takes t, and clocks have a slack of s
abbrev most : ℕ → ℕ → ℕ → ℕ → ℕ
most n d t s = 3 * n * (d + d) + (33 * (t + 2 * d) + (t + (t + 2 * d))) + (3 * n * (d + d) + 1 + s)

settles :
    (hs : HoldSchedule) (v : CableWorld) (set node : ℕ) → Grown v set →
    IsComponent v.cabling node set →
    HasNoLoop v set → (i : ℕ) × (i ≤ most (length v.nodes) (seen_turns v) v.longest.long (slack v))
    × IdentifyOrContend (quiet_after hs i v) set
settles hs v set node g whole free =
    let s = shaken-out set hs v g in
    let w : CableWorld = quiet_after hs s.0 v in
    let gw : Grown w set = grown-after hs v set g s.0 in
    let rest : HoldSchedule = holds_after s.0 hs in
    elim (search-set set is_unrooted w) [
      | inl none ↦ (s.0 + (slack w + 1), omega (arith, s.1, slack-later hs v g.lawful s.0), inl (subst (λ (u : CableWorld). AreIdentifying u set) (sym (quiet-then hs s.0 (slack w + 1) v)) (all-identify w set gw s.2 rest none)))
      | inr f ↦
          let m = rival-of w set gw s.2 f.0 f.1 in
          let up = rivals-up w set gw s.2 m.0 m.1 (subst (Holds set) (sym m.2) f.1.holds) m.3 in
          let d : w.delay ≡ v.delay = after-delay hs v g.lawful s.0 in
          let f : Bounds v.longest.long (slack v) w = bounds-after hs v set g v.longest.long (slack v) (record { long = omega arith; few = omega arith }) s.0 in
          elim (rounds set v.longest.long (slack v) m.0 m.1 rest 33 0 (omega arith) w gw f up) [
            | inl t ↦
                let same : quiet_after hs (s.0 + t.0) v ≡ quiet_after rest t.0 w = quiet-then hs s.0 t.0 v in (
                  s.0 + t.0,
                  omega (arith, s.1, t.1, d),
                  inr (subst (λ (u : CableWorld). HasContention u set) (sym same)
                      (contend (quiet_after rest t.0 w) set (grown-after rest w set gw t.0) m.0 m.1 (let z : 0 + 33 ≡ 33 = omega arith in subst (λ k. At (quiet_after rest t.0 w) set m.0 m.1 (AreUp m.0.port m.1.port k)) z t.2)
                      (subst (λ (u : CableWorld). HasNoLoop u set) same (no-loop-after (s.0 + t.0))))),
                )
            | inr t ↦
                let u : CableWorld = quiet_after rest t.0 w in
                let gu : Grown u set = grown-after rest w set gw t.0 in
                let e = rooted-ends (holds_after t.0 rest) set u gu node (component-after rest set w node t.0 (component-after hs set v node s.0 whole)) t.2 in
                let z : s.0 + (t.0 + e.0) ≡ s.0 + (t.0 + e.0) = refl in (
                  s.0 + (t.0 + e.0),
                  sums (length v.nodes) (length u.nodes) (seen_turns v) (seen_turns u) (w.delay + slack v) v.longest.long (slack v) (slack u) s.0 t.0 e.0 (after-length rest w gw.lawful t.0 ∙ after-length hs v g.lawful s.0)
                      (omega (arith, after-delay rest w gw.lawful t.0 ∙ d, slack-later rest w gw.lawful t.0, slack-later hs v g.lawful s.0)) (omega (arith, d)) (omega (arith, slack-later rest w gw.lawful t.0, slack-later hs v g.lawful s.0)) s.1 t.1 e.1,
                  inl (subst (λ (u : CableWorld). AreIdentifying u set) (sym (quiet-then hs s.0 (t.0 + e.0) v)) (subst (λ (u : CableWorld). AreIdentifying u set) (sym (quiet-then rest t.0 e.0 w)) e.2)),
                )
          ]
    ]
  where
    no-loop-after : (i : ℕ) → HasNoLoop (quiet_after hs i v) set
    no-loop-after i = record { core = free.core; is_core = subst (λ c. IsCore c set free.core) (sym (after-cabling hs i v)) free.is_core; empty = free.empty }

    sums :
        (n m d e c t s q i j k : ℕ) → m ≡ n → e ≤ d → c ≡ d → q ≤ s → i ≤ 3 * n * (d + d) →
        j ≤ 33 * (t + 2 * c) + (t + (t + 2 * c)) → k ≤ 3 * m * (e + e) + 1 + q →
        i + (j + k) ≤ most n d t s
    sums n m d e c t s q i j k same seen seen_too less h l r =
        let first : 3 * m * (e + e) ≤ 3 * n * (d + d) = mul-le (3 * m) (e + e) (3 * n) (d + d) (omega (arith, same)) (omega (arith, seen)) in
        omega (arith, h, l, seen_too, r, first, less)

-- and stays
settled :
    (hs : HoldSchedule) (v : CableWorld) (set node : ℕ) → Grown v set →
    IsComponent v.cabling node set →
    HasNoLoop v set → (i : ℕ) → most (length v.nodes) (seen_turns v) v.longest.long (slack v) ≤ i →
    IdentifyOrContend (quiet_after hs i v) set
settled hs v set node g whole free i late =
    let s = settles hs v set node g whole free in
    let w : CableWorld = quiet_after hs s.0 v in
    let gw : Grown w set = grown-after hs v set g s.0 in
    let z : i ≡ s.0 + (i - s.0) = omega (arith, late, s.1) in
    let rest : HoldSchedule = holds_after s.0 hs in
    let same : quiet_after hs i v ≡ quiet_after rest (i - s.0) w = ap (λ n. quiet_after hs n v) z ∙ quiet-then hs s.0 (i - s.0) v in
    subst (λ (u : CableWorld). IdentifyOrContend u set) (sym same) (elim s.2 [
      | inl t ↦ inl (identify-after rest set w gw (i - s.0) t)
      | inr t ↦ inr (contention-after rest w set gw (i - s.0) t)
    ])

-- ---- the share

share :
    (n d t s : ℕ) → most n d t s ≤ 12 * (n * d) + 33 * (t + 2 * d) + (t + (t + 2 * d)) + 1 + s
share n d t s =
    let q : 3 * n * (d + d) ≡ 6 * (n * d) = grind arith in
    omega (arith, q)

-- ---- a component without loop

-- a world in which trees are taken, seen from one of its trees
pub grown-of :
    (w : CableWorld) (node set core : ℕ) → IsGrown w → IsComponent w.cabling node set →
    IsCore w.cabling set core → IsEmpty core → Grown w set
grown-of w node set core g whole is empty = record {
  lawful = g.lawful;
  acyclic = g.acyclic;
  contested = g.contested;
  done = g.done;
  closed = whole.closed;
  late = g.taken node set core whole is empty;
}

pub decided-after :
    (hs : HoldSchedule) (w : CableWorld) (k : ℕ) → IsGrown w → decision_turns w ≤ k →
    TreesAreDecided (quiet_after hs k w)
decided-after hs w k g late node set core whole is empty =
    let same = after-cabling hs k w in
    let comp : IsComponent w.cabling node set = subst (λ c. IsComponent c node set) same whole in
    let is_core : IsCore w.cabling set core = subst (λ c. IsCore c set core) same is in
    settled hs w set node (grown-of w node set core g comp is_core empty) comp (record { core = core; is_core = is_core; empty = empty }) k
    (omega (arith, share (length w.nodes) (seen_turns w) w.longest.long (slack w), late))

-- a turn keeps it
pub decided-turn : (w : CableWorld) → IsGrown w → TreesAreDecided w → TreesAreDecided (turn w)
decided-turn w grown s node set core whole is empty = go (s node set core comp is_core empty)
  where
    comp : IsComponent w.cabling node set
    comp = subst (λ c. IsComponent c node set) (cabling-after w) whole

    is_core : IsCore w.cabling set core
    is_core = subst (λ c. IsCore c set core) (cabling-after w) is

    g : Grown w set
    g = grown-of w node set core grown comp is_core empty

    go : IdentifyOrContend w set → IdentifyOrContend (turn w) set
    go (inl a) = inl (identify-turn w set g a)
    go (inr a) = inr (contention-turn w set g a)
