-- Two nodes that have each other for parent, in a turn.
use Rattle.std.proofs.Common.{◌≡◌, ◌⊎◌, inl, inr, ℕ, ◌+◌, ◌-◌, ◌*◌, ◌≤◌, Bool, true, false, not, List, [], ◌∷◌, ◌++◌, None, Some, refl, sym, ◌∙◌, ap, subst, arith, if◌then◌else◌}
use Rattle.std.specs.Prelude.{min, nat_le}
use Rattle.std.proofs.lemmas.Bool.{eq-eqb, false_from_ne_true}
use Rattle.convergence.proofs.Common.{Level, Phase, NodeState, draws_with, is_parent, is_child, is_port, is_resetting, hears_packets, raise_timer, Travelling, level_sent, level_shown, leads_down, level_after, level_sent_at, AgesFall, signals_of, has_reset, is_before_tree, is_shaking, child-if, NoEntry, Side, hearing, ticking, late-roles, start-before_tree, heard_shown, came, last_coin, AddsDraw, DrewTogether, KnowsCoins, Contests, AreRivals, contrary}
use Rattle.port_state.specs.declared.timing.Timing.{Timing}
use Rattle.port_state.specs.declared.signal.Level.TheVariants as level
use Rattle.port_state.specs.declared.signal.Phase.TheVariants as phase
use Rattle.cable_world.specs.Signals.{AllAsOldAs}
use Rattle.cable_world.proofs.Lemmas.{AllAsOldAs-less, nothing-left, arrivals, heard_timing, heard_parent, Pair, turned-round}
use Rattle.convergence.specs.Coins.{DrewTheSame}
use Rattle.convergence.proofs.coins.CoinsInTurns.{drawn-coin, knows-after}
use Rattle.convergence.proofs.turns.Moves.{Drew, DrewNone, Accepted, TookRival, AskedAgain, coin_of, beat-draws, beat-late, beat-late-was}
use Rattle.port_state.specs.Clock.{Clock, misses}
use Rattle.cable_world.specs.Times.{KeepsTime}
use Rattle.convergence.proofs.turns.Roles.{parent-late, parent-was}
use Rattle.convergence.proofs.turns.PortFacts.{same-port}

-- what is known of a node's clock
pub record Beats (s : Side) : Type 0 where
  pub missed : s.beat ≡ None → misses s.clock ≡ true
  -- nobody takes longer, in turns
  pub longest : Timing
  pub keeps : KeepsTime longest s.node.timing s.clock

-- what is so of both ends before the turn
pub record Rivals (d : ℕ) (x y : Side) : Type 0 where
  pub pair : Pair d x y
  pub near : KnowsCoins x.node
  pub other : KnowsCoins y.node
  pub here : Contests d x.node x.clock x.port x.wire y.node y.clock y.port y.wire
  pub there : Contests d y.node y.clock y.port y.wire x.node x.clock x.port x.wire
  pub beats : Beats x
  pub beats_back : Beats y
  -- a long wait of the one is longer than a short one of the other
  pub waits : beats_back.longest.short + 2 * d ≤ x.node.timing.long
  pub waits_back : beats.longest.short + 2 * d ≤ y.node.timing.long
  pub short : x.node.timing.short ≤ beats.longest.short
  pub short_back : y.node.timing.short ≤ beats_back.longest.short

pub swapped : (d : ℕ) (x y : Side) → Rivals d x y → Rivals d y x
swapped d x y r = record { pair = turned-round d x y r.pair; near = r.other; other = r.near; here = r.there; there = r.here; waits = r.waits_back; waits_back = r.waits; short = r.short_back; short_back = r.short; beats = r.beats_back; beats_back = r.beats }

-- ---- the two turned round

pub together-round : (x y : NodeState) → DrewTogether x y → DrewTogether y x
together-round x y t = record { draws = t.draws; first = t.first; here = t.there; there = t.here }

pub same-round : (x y : NodeState) → DrewTheSame x y → DrewTheSame y x
same-round x y t = record { draws = sym t.draws; first_draws = sym t.first_draws }

pub stand-round :
    (d : ℕ) (x : NodeState) (c : Clock) (p : ℕ) (there : List Travelling) (y : NodeState) (e : Clock)
    (q : ℕ) (back : List Travelling) → AreRivals d x c p there y e q back →
    AreRivals d y e q back x c p there
stand-round d x c p there y e q back (inl a) = inl (record { here = a.there; there = a.here; drew = same-round x y a.drew })
stand-round d x c p there y e q back (inr (inl m)) = inr (inl (record { here = m.there; there = m.here; drew = together-round x y m.drew; near = m.far; far = m.near }))
stand-round d x c p there y e q back (inr (inr (inl a))) = inr (inr (inr a))
stand-round d x c p there y e q back (inr (inr (inr a))) = inr (inr (inl a))

-- ---- phases

pub no-contend : (f : Phase) → is_shaking f ≡ true → f ≡ phase.Contend → ⊥
no-contend f s c = grind arith

pub shaking-silent : (f : Phase) → is_shaking f ≡ true → hears_packets f ≡ false
shaking-silent f s = grind arith

pub other-level : (l : Level) → l ≡ level.Parent → is_parent l ≡ false → ⊥
other-level l a b = grind arith

-- Child is told to children
pub child-told : (f : Phase) (b : Bool) → level_sent f b ≡ level.Child → b ≡ true
child-told f b o = grind arith

-- ---- ages

-- nothing is left that is so old
pub none-so-old :
    (d n : ℕ) (ts : List Travelling) → 1 ≤ d → d ≤ n → AllAsOldAs n ts → AgesFall (d - 1) ts →
    ts ≡ []
none-so-old d n ts o h s a = nothing-left d ts o (AllAsOldAs-less d n ts h s) a

pub ages-first : (most : ℕ) (xs ys : List Travelling) → AgesFall most (xs ++ ys) → AgesFall most xs
ages-first most [] ys h = tt
ages-first most (x ∷ xs) ys h = (h.0, ages-first x.age xs ys h.1)

-- ---- one end in a turn

module _ (d : ℕ) (x y : Side) (r : Rivals d x y) where
  j : Pair d x y
  j = r.pair

  abbrev was : NodeState
  was = x.node

  abbrev mid : NodeState
  mid = (hearing x).state

  abbrev now : NodeState
  now = (ticking x).state

  pub after-knows : KnowsCoins now
  after-knows = knows-after d x.inbox x.beat x.node j.some_delay j.near.timing j.near.hears j.near.ticks r.near

  -- a node that is late afterwards began no reset, and was late before or took its roles
  pub late-heard : is_before_tree now.view.phase ≡ false → NoEntry was (hearing x)
  late-heard l = elim j.near.hears.cases [
    | inl h ↦ h
    | inr c ↦ contrary (start-before_tree now.view.phase (came d x y j c).0) l
  ]

  pub late-before :
      is_before_tree now.view.phase ≡ false → (is_before_tree was.view.phase ≡ false)
      ⊎ ((was.view.phase ≡ phase.TreeStart) × (now.view.phase ≡ phase.ChildShake))
  late-before l =
      let h = late-heard l in
      elim (beat-late-was x.beat mid l) [
        | inl a ↦ inl (sym (ap is_before_tree h.phase) ∙ a)
        | inr a ↦ inr (sym h.phase ∙ a.0, a.1)
      ]

  pub late-after :
      NoEntry was (hearing x) → is_before_tree was.view.phase ≡ false →
      is_before_tree now.view.phase ≡ false
  late-after h l = beat-late x.beat mid (ap is_before_tree h.phase ∙ l)

  -- no Reset comes from a late node
  pub calm : is_before_tree was.view.phase ≡ false → has_reset (signals_of x.wire) ≡ false
  calm l = false_from_ne_true _ (λ e. contrary (start-before_tree was.view.phase (j.coupled.reset e)) l)

  pub start-calm : was.view.phase ≡ phase.TreeStart → has_reset (signals_of x.wire) ≡ false
  start-calm s = false_from_ne_true _ (λ e. contrary (j.coupled.reset e) (ap is_resetting s))

  -- a parent port
  pub up-late : is_port was.view.parent x.port ≡ true → is_before_tree was.view.phase ≡ false
  up-late u = parent-late was j.near.valid x.port u

  pub up-heard : is_port now.view.parent x.port ≡ true → NoEntry was (hearing x)
  up-heard u = late-heard (parent-late now j.near.ticks.valid x.port u)

  pub up-before :
      is_port now.view.parent x.port ≡ true → (is_port was.view.parent x.port ≡ true)
      ⊎ (was.view.phase ≡ phase.TreeStart)
  up-before u =
      let h = up-heard u in
      elim (parent-was x.beat mid x.port u) [
        | inl a ↦ inl (sym (ap (λ o. is_port o x.port) h.parent) ∙ a)
        | inr a ↦ inr (sym h.phase ∙ a)
      ]

  pub up-mid :
      NoEntry was (hearing x) → is_port was.view.parent x.port ≡ true →
      is_port mid.view.parent x.port ≡ true
  up-mid h u = heard_parent x h x.port u

  pub not-down : is_port was.view.parent x.port ≡ true → leads_down was.view.ports x.port ≡ false
  not-down u = child-if was.view.parent was.view.ports x.port (late-roles was j.near.valid (up-late u)) j.near.connected ∙ ap not u

  pub tells-parent :
      is_shaking was.view.phase ≡ true → is_port was.view.parent x.port ≡ true →
      level_sent_at was x.port ≡ level.Parent
  tells-parent s u = go was.view.phase (leads_down was.view.ports x.port) s (not-down u)
    where
      go : (f : Phase) (b : Bool) → is_shaking f ≡ true → b ≡ false → level_sent f b ≡ level.Parent
      go f b s e = grind arith

  -- the port that a row looked at is this one
  here-is : (p : ℕ) → mid.view.parent ≡ Some p → is_port mid.view.parent x.port ≡ true → p ≡ x.port
  here-is p e u = same-port mid.view.parent p x.port (ap (λ o. is_port o p) e ∙ eq-eqb p p refl) u

  pub drew-sees :
      Drew (coin_of x.beat) mid now → is_port mid.view.parent x.port ≡ true →
      level_shown mid x.port ≡ level.Parent
  drew-sees w u = subst (λ p. level_shown mid p ≡ level.Parent) (here-is w.port w.parent u) w.shown

  pub accepted-sees :
      Accepted mid now → is_port mid.view.parent x.port ≡ true →
      level_shown mid x.port ≡ level.Child
  accepted-sees w u = subst (λ p. level_shown mid p ≡ level.Child) (here-is w.port w.parent u) w.shown

  pub took-sees :
      TookRival (raise_timer mid) now → is_port mid.view.parent x.port ≡ true →
      level_shown mid x.port ≡ level.Parent
  took-sees w u = subst (λ p. level_shown mid p ≡ level.Parent) (here-is w.port w.parent u) w.shown

  pub again-sees :
      AskedAgain (raise_timer mid) now → is_port mid.view.parent x.port ≡ true →
      is_parent (level_shown mid x.port) ≡ false
  again-sees w u = subst (λ p. is_parent (level_shown mid p) ≡ false) (here-is w.port w.parent u) w.shown

  -- ---- draws

  pub still : NoEntry was (hearing x) → DrewNone mid now → DrewNone was now
  still h n = record { draws = n.draws ∙ h.draws; first_draws = n.first_draws ∙ h.first_draws; wait = n.wait ∙ h.wait }

  -- a node draws in T2 alone, where the parent port shows Parent
  pub draws-not : NoEntry was (hearing x) → (Drew (coin_of x.beat) mid now → ⊥) → DrewNone was now
  draws-not h no_draw = elim (beat-draws x.beat mid) [ inl a ↦ absurd (no_draw a) | inr a ↦ still h a ]

  pub adds-draw :
      NoEntry was (hearing x) → Drew (coin_of x.beat) mid now →
      AddsDraw was.view.draws was.view.first_draws now
  adds-draw h w =
      let c : last_coin now ≡ coin_of x.beat = ap (λ (t : Timing). nat_le t.long now.view.wait) j.near.ticks.timing ∙ ap (nat_le mid.timing.long) w.wait ∙ drawn-coin d mid.timing (coin_of x.beat) j.some_delay (heard_timing d x j.near) in
      record {
        count = w.draws ∙ ap (λ n. min (n + 1) 65535) h.draws;
        coins = w.first_draws ∙ ap (λ n. draws_with (coin_of x.beat) n mid.view.first_draws) h.draws ∙ ap (draws_with (coin_of x.beat) was.view.draws) h.first_draws ∙ ap (λ b. draws_with b was.view.draws was.view.first_draws) (sym c);
      }

  timing-still : now.timing ≡ was.timing
  timing-still = j.near.ticks.timing ∙ j.near.hears.timing

  pub coin-still : DrewNone was now → last_coin now ≡ last_coin was
  coin-still s = ap (λ (t : Timing). nat_le t.long now.view.wait) timing-still ∙ ap (nat_le was.timing.long) s.wait

  -- what a node drew before stays drawn
  pub adds-still : DrewNone was now → (n f : ℕ) → AddsDraw n f was → AddsDraw n f now
  adds-still s n f a = record { count = s.draws ∙ a.count; coins = s.first_draws ∙ a.coins ∙ ap (λ b. draws_with b n f) (sym (coin-still s)) }

-- ---- one end hears what the other told

module _ (d : ℕ) (x y : Side) (r : Rivals d x y) where
  comes :
      level_shown (hearing x).state x.port ≡ level_after (level_shown x.node x.port) (arrivals y)
  comes = heard_shown d y x (turned-round d x y r.pair)

  -- y asks, and x is shown Parent: that stays, since a wire gives all or nothing
  pub asks-on :
      is_shaking y.node.view.phase ≡ true → is_port y.node.view.parent y.port ≡ true →
      level_shown x.node x.port ≡ level.Parent → level_shown (hearing x).state x.port ≡ level.Parent
  asks-on s u e = comes ∙ go y.gives
    where
      go :
          (g : Bool) → level_after (level_shown x.node x.port) (if g then signals_of y.wire else [])
          ≡ level.Parent
      go true = r.pair.levels_back ∙ tells-parent d y x (swapped d x y r) s u
      go false = e

  -- y asks, and nothing is under way from it: Parent is shown
  pub asks-here :
      is_shaking y.node.view.phase ≡ true → is_port y.node.view.parent y.port ≡ true → y.wire ≡ [] →
      level_shown (hearing x).state x.port ≡ level.Parent
  asks-here s u e = asks-on s u (ap (λ ts. level_after (level_shown x.node x.port) (signals_of ts)) (sym e) ∙ r.pair.levels_back ∙ tells-parent d y x (swapped d x y r) s u)

  -- a Child that x sees comes from a child port
  pub sees-child :
      is_before_tree y.node.view.phase ≡ false →
      level_shown (hearing x).state x.port ≡ level.Child →
      leads_down y.node.view.ports y.port ≡ true
  sees-child l e = go y.gives (sym comes ∙ e)
    where
      go :
          (g : Bool) → level_after (level_shown x.node x.port) (if g then signals_of y.wire else [])
          ≡ level.Child → leads_down y.node.view.ports y.port ≡ true
      go true h = child-told y.node.view.phase (leads_down y.node.view.ports y.port) (sym r.pair.levels_back ∙ h)
      go false h = r.there.told l (ap is_child h)
