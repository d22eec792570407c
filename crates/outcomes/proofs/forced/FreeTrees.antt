-- Where of a component without loop one node alone waits to become root, some other node leaves T0
-- within each d + slack
-- turns: one whose neighbours but the one up its way, towards the node that waits, left before.
use Rattle.std.proofs.Common.{◌≡◌, ◌≢◌, ◌⊎◌, inl, inr, ℕ, zero, suc, ◌+◌, ◌-◌, ◌*◌, ◌<◌, ◌≤◌, Bool, true, false, not, ◌&&◌, ◌==◌, length, Option, Some, None, is_some, slice_get, refl, sym, ◌∙◌, ap, subst, arith, true≢false}
use Rattle.std.specs.Int.{bit_at}
use Rattle.std.proofs.lemmas.Bool.{eqb-true, eq-eqb, ne_eqb, and_from, and_parts, cases_eq, false_from_ne_true}
use Rattle.std.proofs.lemmas.Option.{slice_get_within}
use Rattle.outcomes.proofs.Common.{contrary, PortView, NodeState, is_parent, passes, is_connected, is_port, is_resetting, raise_timer, PortNode, End, Wiring, far, Holds, IsClosed, WaysUp, end_at, CableWorld, is_before_tree, level_shown, shown_or_idle, IsLawful, after-delay, after-length, quiet-then, quiet-lawful, after-cabling, HoldSchedule, holds_after, quiet_after, ResetsAreDone, signals, heard_by, same-port, is-port}
use Rattle.outcomes.specs.WaysUp.{Lowest}
use Rattle.convergence.proofs.Lemmas.{Left, TwoLeft, count, count-most, count-le, count-less, count-some, count-found, IsEarly, Started, started, start-early, early-at-first, done-at, Silent, TwoSilent, early_there, shown-parent}
use Rattle.outcomes.proofs.forced.Forced.{kept-heard, undecided-free, undecided-one}
use Rattle.convergence.specs.Turns.{slack}
use Rattle.convergence.proofs.Lemmas.{StaysInStart, Misses, not-missed}

module _ (hs : HoldSchedule) (v : CableWorld) (l : IsLawful v) (done : ResetsAreDone v) where
  -- ---- a node that stays in T0

  abbrev now : (i k : ℕ) (n : IsEarly (quiet_after hs (i + 1) v) k) → NodeState
  now i k n = heard_by (quiet_after hs i v) k (started hs v l done i k n.node n.at n.early).calm.node

  -- the tick keeps it there
  abbrev Stays : (i k : ℕ) (n : IsEarly (quiet_after hs (i + 1) v) k) → Type 0
  Stays i k n = StaysInStart (now i k n) n.node.state

  -- or its clock missed the turn
  missed-or : (i k : ℕ) (n : IsEarly (quiet_after hs (i + 1) v) k) → Misses hs v i k ⊎ Stays i k n
  missed-or i k n =
      let s = started hs v l done i k n.node n.at n.early in
      elim s.kept [
        | inl m ↦ inl (record { node = s.calm.node; at = s.calm.at; missed = m.0 })
        | inr t ↦ inr t
      ]

  -- a port that is left there shows no Parent after the turn
  silent :
      (i k : ℕ) (n : IsEarly (quiet_after hs (i + 1) v) k) (p : ℕ) → Left (now i k n).view.ports p →
      Silent n.node.state p
  silent i k n p h = record {
    on = ap (λ (z : NodeState). is_connected z.view.ports p) s.calm.is ∙ s.calm.ticks.cables p ∙ h.on;
    silent = ap is_parent (ap (λ (z : NodeState). level_shown z p) s.calm.is ∙ s.calm.ticks.shown p) ∙ go (slice_get (now i k n).view.ports p) h.on h.silent;
  }
    where
      s : Started hs v l done i k n.node
      s = started hs v l done i k n.node n.at n.early

      go :
          (o : Option PortView) → passes (λ q. q.connected) o ≡ true →
          passes (λ q. is_parent q.shown) o ≡ false → is_parent (shown_or_idle o) ≡ false
      go None on e = refl
      go (Some q) on e = e

  -- one that needn't wait has two
  stays-by-two :
      (i k : ℕ) (n : IsEarly (quiet_after hs (i + 1) v) k) → Stays i k n →
      ((x : IsEarly (quiet_after hs i v) k) → x.node.state.view.force ≡ false) →
      TwoSilent n.node.state
  stays-by-two i k n stays free = record { low = two.low; high = two.high; apart = two.apart; low_silent = silent i k n two.low two.low_left; high_silent = silent i k n two.high two.high_left }
    where
      s : Started hs v l done i k n.node
      s = started hs v l done i k n.node n.at n.early

      force : (raise_timer (now i k n)).view.force ≡ false
      force =
          (kept-heard (signals (quiet_after hs i v) k) s.calm.node.state (ap is_resetting s.calm.heard.phase)).0
          ∙ free (record { node = s.calm.node; at = s.calm.at; early = start-early s.calm.node.state.view.phase s.start })

      two : TwoLeft (now i k n).view.ports
      two = undecided-free (raise_timer (now i k n)) stays.undecided force

  -- any has one
  stays-by-one : (i k : ℕ) (n : IsEarly (quiet_after hs (i + 1) v) k) → Stays i k n →
      (p : ℕ) × Silent n.node.state p
  stays-by-one i k n stays =
      let s : Started hs v l done i k n.node = started hs v l done i k n.node n.at n.early in
      let one = undecided-one (raise_timer (now i k n)) stays.undecided in
      (one.0, silent i k n one.0 one.1)

  -- it leads to a node that was in T0 d turns ago, or before
  leads :
      (i u : ℕ) (n : IsEarly (quiet_after hs i v) u) (q : ℕ) → Silent n.node.state q → (a : End)
      × (far v.cabling (end_at u q) ≡ Some a)
  leads i u n q s = go (far v.cabling (end_at u q)) refl
    where
      go :
          (o : Option End) → far v.cabling (end_at u q) ≡ o → (a : End)
          × (far v.cabling (end_at u q) ≡ Some a)
      go None e = contrary s.on (((quiet-lawful hs i v l).well_formed.nodes u n.node n.at).connected q ∙ ap is_some (ap (λ (c : Wiring). far c (end_at u q)) (after-cabling hs i v) ∙ e))
      go (Some a) e = (a, e)

  asked-by :
      (t j u : ℕ) → v.delay ≤ j → (n : IsEarly (quiet_after hs (t + j) v) u) (q : ℕ) (a : End) →
      far v.cabling (end_at u q) ≡ Some a → Silent n.node.state q →
      (IsEarly (quiet_after hs t v) a.node → ⊥) → ⊥
  asked-by t j u enough n q a e s late =
      let w : CableWorld = quiet_after hs t v in
      let e_then : far w.cabling (end_at u q) ≡ Some a = ap (λ (c : Wiring). far c (end_at u q)) (after-cabling hs t v) ∙ e in
      let n_then : IsEarly (quiet_after (holds_after t hs) j w) u = subst (λ z. IsEarly z u) (quiet-then hs t j v) n in
      let at_then : slice_get (quiet_after (holds_after t hs) j w).nodes u ≡ Some n.node = ap (λ (z : CableWorld). slice_get z.nodes u) (sym (quiet-then hs t j v)) ∙ n.at in
      let same : w.delay ≤ v.delay = omega (arith, after-delay hs v l t) in
      contrary (shown-parent (holds_after t hs) w (quiet-lawful hs t v l) (done-at hs v l done t) u q a e_then late j (omega (arith, same, enough)) n_then n.node at_then) s.silent

-- ---- the nodes but one

module _ (hs : HoldSchedule) (v : CableWorld) (l : IsLawful v) (done : ResetsAreDone v) (set top : ℕ) (closed : IsClosed v.cabling set) (has : Holds set top) (there : top < length v.nodes) (up : ℕ → Option ℕ) (ways : WaysUp v.cabling set top up)
    (free : (i k : ℕ) (x : PortNode) → Holds set k → k ≢ top → slice_get (quiet_after hs i v).nodes k ≡ Some x → x.state.view.force ≡ false) where
  -- those in T0 after so many turns
  member : ℕ → ℕ → Bool
  member i k = ((bit_at set k == 1) && not (k == top)) && early_there (slice_get (quiet_after hs i v).nodes k)

  record Member (i k : ℕ) : Type 0 where
    holds : Holds set k
    other : k ≢ top
    early : IsEarly (quiet_after hs i v) k

  member-parts : (i k : ℕ) → member i k ≡ true → Member i k
  unfolding member
  member-parts i k h =
      let p = and_parts ((bit_at set k == 1) && not (k == top)) (early_there (slice_get (quiet_after hs i v).nodes k)) h in
      let r = and_parts (bit_at set k == 1) (not (k == top)) p.0 in
      record { holds = eqb-true (bit_at set k) 1 r.0; other = apart r.1; early = go (slice_get (quiet_after hs i v).nodes k) refl p.1 }
    where
      apart : not (k == top) ≡ true → k ≢ top
      apart h e = contrary h (ap not (eq-eqb k top e))

      go :
          (o : Option PortNode) → slice_get (quiet_after hs i v).nodes k ≡ o →
          early_there o ≡ true →
          IsEarly (quiet_after hs i v) k
      go None e f = absurd (true≢false (sym f))
      go (Some x) e f = record { node = x; at = e; early = f }

  member-from : (i k : ℕ) → Member i k → member i k ≡ true
  unfolding member
  member-from i k m =
      and_from ((bit_at set k == 1) && not (k == top)) (early_there (slice_get (quiet_after hs i v).nodes k))
      (and_from (bit_at set k == 1) (not (k == top)) (eq-eqb (bit_at set k) 1 m.holds) (ap not (ne_eqb k top m.other)))
      (ap early_there m.early.at ∙ m.early.early)

  early-was : (i j k : ℕ) → IsEarly (quiet_after hs (i + j) v) k → IsEarly (quiet_after hs i v) k
  early-was i j k n = early-at-first (holds_after i hs) (quiet_after hs i v) (quiet-lawful hs i v l) (done-at hs v l done i) j k (subst (λ u. IsEarly u k) (quiet-then hs i j v) n)

  member-was : (i j k : ℕ) → member (i + j) k ≡ true → member i k ≡ true
  member-was i j k h =
      let p = member-parts (i + j) k h in
      member-from i k (record { holds = p.holds; other = p.other; early = early-was i j k p.early })

  -- a cable that isn't the way up of its end leads to another node than the top
  not-top :
      (k p : ℕ) (a : End) → Holds set k → far v.cabling (end_at k p) ≡ Some a → up k ≢ Some p →
      a.node ≢ top
  not-top k p a h e ne same =
      let none : None ≡ Some a.port = sym (ap up same ∙ ways.ups.none) ∙ ways.down k p a h e ne in
      absurd cc

  -- the same node after so many turns
  abbrev moved :
      (i j u : ℕ) → i ≡ j → IsEarly (quiet_after hs i v) u → IsEarly (quiet_after hs j v) u
  moved i j u z n = record { node = n.node; at = ap (λ m. slice_get (quiet_after hs m v).nodes u) (sym z) ∙ n.at; early = n.early }

  -- if after d turns its clock misses each turn that it is still there, it is gone after so many
  gone-by :
      (t u : ℕ) →
      ((j : ℕ) → v.delay ≤ j + 1 → IsEarly (quiet_after hs (t + j + 1) v) u → Misses hs v (t + j) u) →
      IsEarly (quiet_after hs (t + (v.delay + slack v)) v) u → ⊥
  gone-by t u missed e =
      let j : ℕ = v.delay - 1 in
      let y : t + (v.delay + slack v) ≡ t + (j + slack v) + 1 = omega (arith, l.well_formed.some_delay) in
      let z : t + (j + slack v) ≡ t + j + slack v = omega arith in
      let n : IsEarly (quiet_after hs (t + (j + slack v) + 1) v) u = moved (t + (v.delay + slack v)) (t + (j + slack v) + 1) u y e in
      not-missed hs v l (t + j) u
      (subst (λ i. Misses hs v i u) z (missed (j + slack v) (omega (arith, l.well_formed.some_delay)) n))
      (λ one.
      let x : t + (j + slack v) ≡ t + j + 1 = omega (arith, one) in
      missed j (omega (arith, l.well_formed.some_delay)) (moved (t + (j + slack v)) (t + j + 1) u x (early-was (t + (j + slack v)) 1 u n)))

  module _ (t : ℕ) where
    only-up :
        (low : Lowest v.cabling up set (member t)) (j : ℕ) → v.delay ≤ j →
        (n : IsEarly (quiet_after hs (t + j) v) low.node) (q : ℕ) → Silent n.node.state q →
        (b : Bool) → is_port (up low.node) q ≡ b → b ≡ true
    only-up low j enough n q s true e = refl
    only-up low j enough n q s false e =
        let a = leads hs v l done (t + j) low.node n q s in
        let ne : up low.node ≢ Some q = λ f. contrary (is-port (up low.node) q f) e in
        let other : a.0.node ≢ top = not-top low.node q a.0 low.in_set a.1 ne in
        absurd (asked-by hs v l done t j low.node enough n q a.0 a.1 s (λ y.
        contrary (member-from t a.0.node (record { holds = closed (end_at low.node q) a.0 a.1 low.in_set; other = other; early = y })) (low.others q a.0 a.1 ne)))

    gone-missed :
        (low : Lowest v.cabling up set (member t)) (j : ℕ) → v.delay ≤ j + 1 →
        IsEarly (quiet_after hs (t + j + 1) v) low.node → Misses hs v (t + j) low.node
    gone-missed low j late n =
        let p = member-parts t low.node low.is in
        let z : t + j + 1 ≡ t + (j + 1) = omega arith in
        elim (missed-or hs v l done (t + j) low.node n) [
          | inl m ↦ m
          | inr stays ↦
              let two : TwoSilent n.node.state = stays-by-two hs v l done (t + j) low.node n stays (λ x. free (t + j) low.node x.node p.holds p.other x.at) in
              absurd (omega (
                arith,
                two.apart,
                same-port (up low.node) two.low two.high
                    (only-up low (j + 1) late (moved (t + j + 1) (t + (j + 1)) low.node z n) two.low two.low_silent (is_port (up low.node) two.low) refl)
                    (only-up low (j + 1) late (moved (t + j + 1) (t + (j + 1)) low.node z n) two.high two.high_silent (is_port (up low.node) two.high) refl),
              ))
        ]

    gone :
        (low : Lowest v.cabling up set (member t)) → (b : Bool) → member (t + (v.delay + slack v))
        low.node ≡ b → b ≡ false
    gone low false m = refl
    gone low true m = absurd (gone-by t low.node (gone-missed low) (member-parts (t + (v.delay + slack v)) low.node m).early)

    falls :
        (k : ℕ) → member t k ≡ true → count (member (t + (v.delay + slack v))) (length v.nodes)
        + 1 ≤ count (member t) (length v.nodes)
    falls k m =
        let low : Lowest v.cabling up set (member t) = ways.lowest (member t) k (member-parts t k m).holds m in
        let p = member-parts t low.node low.is in
        let inside : low.node < length v.nodes = omega (arith, slice_get_within (quiet_after hs t v).nodes low.node p.early.node p.early.at, after-length hs v l t) in
        count-less (member (t + (v.delay + slack v))) (member t) (λ j. member-was t (v.delay + slack v) j) (length v.nodes) low.node inside (gone low (member (t + (v.delay + slack v)) low.node) refl) low.is

  time : ℕ → ℕ
  time zero = 0
  time (suc c) = time c + (v.delay + slack v)

  time-is : (c : ℕ) → time c ≡ c * (v.delay + slack v)
  unfolding time
  time-is zero = omega arith
  time-is (suc c) = let z : suc c * (v.delay + slack v) ≡ c * (v.delay + slack v) + (v.delay + slack v) = grind arith in omega (arith, z, time-is c)

  not-all : count (member 0) (length v.nodes) + 1 ≤ length v.nodes
  not-all = omega (arith, count-most (λ j. true) (length v.nodes), count-less (member 0) (λ j. true) (λ j f. refl) (length v.nodes) top there (false_from_ne_true _ (λ e. (member-parts 0 top e).other refl)) refl)

  -- after so many times d + slack turns so many are gone, or all
  fewer :
      (c : ℕ) → (count (member (time c)) (length v.nodes) + 1 + c ≤ length v.nodes)
      ⊎ (count (member (time c)) (length v.nodes) ≡ 0)
  unfolding time
  fewer zero = inl (omega (arith, not-all))
  fewer (suc c) = go (fewer c) (count-found (member (time c)) (length v.nodes))
    where
      less :
          count (member (time c + (v.delay + slack v))) (length v.nodes) ≤ count (member (time c))
          (length v.nodes)
      less = count-le (member (time c + (v.delay + slack v))) (member (time c)) (λ j. member-was (time c) (v.delay + slack v) j) (length v.nodes)

      go :
          (count (member (time c)) (length v.nodes) + 1 + c ≤ length v.nodes)
          ⊎ (count (member (time c)) (length v.nodes) ≡ 0) →
          (count (member (time c)) (length v.nodes) ≡ 0) ⊎ ((k : ℕ) × (member (time c) k ≡ true)) →
          (count (member (time c + (v.delay + slack v))) (length v.nodes) + 1 + suc c ≤ length v.nodes)
          ⊎ (count (member (time c + (v.delay + slack v))) (length v.nodes) ≡ 0)
      go f (inl none) = inr (omega (arith, less, none))
      go (inr none) k = inr (omega (arith, less, none))
      go (inl f) (inr k) = inl (omega (arith, f, falls (time c) k.0 k.1))

  last : ℕ
  last = (length v.nodes - 1) * (v.delay + slack v)

  none-left : count (member last) (length v.nodes) ≡ 0
  unfolding last
  none-left = subst (λ t. count (member t) (length v.nodes) ≡ 0) (time-is (length v.nodes - 1)) (elim (fewer (length v.nodes - 1)) [ inl f ↦ omega (arith, f, there) | inr none ↦ none ])

  -- the others are past T0
  others-late : (k : ℕ) → Holds set k → k ≢ top → IsEarly (quiet_after hs last v) k → ⊥
  others-late k h other n =
      let inside : k < length v.nodes = omega (arith, slice_get_within (quiet_after hs last v).nodes k n.node n.at, after-length hs v l last) in
      omega (arith, none-left, count-some (member last) (length v.nodes) k inside (member-from last k (record { holds = h; other = other; early = n })))

  -- d + slack turns later the top is, as all of its ports ask
  top-missed :
      (j : ℕ) → v.delay ≤ j + 1 → IsEarly (quiet_after hs (last + j + 1) v) top → Misses hs v (last + j) top
  top-missed j late n =
      let z : last + j + 1 ≡ last + (j + 1) = omega arith in
      elim (missed-or hs v l done (last + j) top n) [
        | inl m ↦ m
        | inr stays ↦
            let one = stays-by-one hs v l done (last + j) top n stays in
            let at-end : IsEarly (quiet_after hs (last + (j + 1)) v) top = moved (last + j + 1) (last + (j + 1)) top z n in
            let a = leads hs v l done (last + (j + 1)) top at-end one.0 one.1 in
            let ne : up top ≢ Some one.0 = λ f. let bad : None ≡ Some one.0 = sym ways.ups.none ∙ f in absurd cc in
            absurd (asked-by hs v l done last (j + 1) top late at-end one.0 a.0 a.1 one.1
            (others-late a.0.node (closed (end_at top one.0) a.0 a.1 has) (not-top top one.0 a.0 has a.1 ne)))
      ]

  top-late : IsEarly (quiet_after hs (last + (v.delay + slack v)) v) top → ⊥
  top-late = gone-by last top top-missed

  -- so after n times so many turns all are
  pub all-late :
      (i : ℕ) → length v.nodes * (v.delay + slack v) ≤ i → (k : ℕ) (x : PortNode) → Holds set k →
      slice_get (quiet_after hs i v).nodes k ≡ Some x → is_before_tree x.state.view.phase ≡ false
  unfolding last
  all-late i late k x h at = go (is_before_tree x.state.view.phase) refl
    where
      early-last : IsEarly (quiet_after hs i v) k → IsEarly (quiet_after hs (last + (v.delay + slack v)) v) k
      early-last n =
          let sum : (length v.nodes - 1) * (v.delay + slack v) + (v.delay + slack v) ≡ length v.nodes * (v.delay + slack v) = one-round (length v.nodes - 1) (length v.nodes) (v.delay + slack v) (omega (arith, there)) in
          let z : i ≡ last + (v.delay + slack v) + (i - (last + (v.delay + slack v))) = omega (arith, late, sum) in
          early-was (last + (v.delay + slack v)) (i - (last + (v.delay + slack v))) k (subst (λ j. IsEarly (quiet_after hs j v) k) z n)
        where
          one-round : (a b d : ℕ) → a + 1 ≡ b → a * d + d ≡ b * d
          one-round a b d e = rw (← e) (grind arith)

      go : (b : Bool) → is_before_tree x.state.view.phase ≡ b → b ≡ false
      go false e = refl
      go true e =
          let n : IsEarly (quiet_after hs i v) k = record { node = x; at = at; early = e } in
          elim (cases_eq k top) [
            | inl same ↦ absurd (top-late (subst (λ j. IsEarly (quiet_after hs (last + (v.delay + slack v)) v) j) same (early-last n)))
            | inr other ↦ absurd (others-late k h other (early-was last (v.delay + slack v) k (early-last n)))
          ]
