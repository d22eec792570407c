-- A turn keeps what a node knows of its draws.
use Rattle.std.proofs.Common.{◌≡◌, ◌⊎◌, inl, inr, ℕ, ◌+◌, ◌*◌, ◌<◌, ◌≤◌, Bool, true, false, List, Option, sym, ◌∙◌, ap, subst, arith, if◌then◌else◌}
use Rattle.std.proofs.lemmas.Bool.{true_from_ne_false}
use Rattle.std.specs.Prelude.{min, nat_le}
use Rattle.convergence.proofs.Common.{Phase, Signal, Timing, NodeState, on_beat, is_before_tree, hear_all, NoEntry, HearsWell, TicksWell, KnowsCoins, contrary}
use Rattle.convergence.proofs.turns.PhaseFacts.{contend-shake}
use Rattle.port_state.specs.declared.signal.Phase.TheVariants as phase
use Rattle.cable_world.proofs.Lemmas.{SuitsCables}
use Rattle.convergence.proofs.turns.Moves.{Drew, Fights, coin_of, beat-draws, beat-contending, beat-fought, beat-late}

pub zero-or : (n : ℕ) → (n ≡ 0) ⊎ (1 ≤ n)
zero-or n = grind arith

-- the wait shows the coin
pub drawn-coin :
    (d : ℕ) (t : Timing) (c : Bool) → 1 ≤ d → SuitsCables d t → nat_le t.long
    (if c then t.long else t.short) ≡ c
drawn-coin d t true o i = let l : t.long ≤ t.long = omega arith in grind (arith, l)
drawn-coin d t false o i = let l : t.short + 2 * d ≤ t.long = i.apart in grind (arith, l, o)

pub drawn-wait :
    (d : ℕ) (t : Timing) (n : ℕ) → SuitsCables d t → (n ≡ t.short) ⊎ (n ≡ t.long) → 2 * d < n
drawn-wait d t n i (inl s) = omega (arith, s, i.short_least)
drawn-wait d t n i (inr s) = omega (arith, s, i.long_least)

module _
    (d : ℕ) (signals : List (ℕ × Signal)) (b : Option Bool) (x : NodeState) (o : 1 ≤ d)
    (i : SuitsCables d x.timing) (h : HearsWell signals x)
    (t : TicksWell b (hear_all signals x).state) (k : KnowsCoins x) where
  abbrev m : NodeState
  m = (hear_all signals x).state

  abbrev n : NodeState
  n = (on_beat b m).state

  range : SuitsCables d m.timing
  range = subst (SuitsCables d) (sym h.timing) i

  -- after hearing
  heard-fresh : is_before_tree m.view.phase ≡ true → m.view.draws ≡ 0
  heard-fresh e = elim h.cases [ inl s ↦ s.draws ∙ k.fresh (sym (ap is_before_tree s.phase) ∙ e) | inr c ↦ c.draws ]

  heard-undrawn : m.view.draws ≡ 0 → m.view.first_draws ≡ 0
  heard-undrawn e = elim h.cases [ inl s ↦ s.first_draws ∙ k.undrawn (sym s.draws ∙ e) | inr c ↦ c.first_draws ]

  heard-counts : m.view.draws ≤ 65535
  heard-counts = elim h.cases [ inl s ↦ omega (arith, s.draws, k.counts) | inr c ↦ omega (arith, c.draws) ]

  drew-late : Drew (coin_of b) m n → is_before_tree n.view.phase ≡ true → ⊥
  drew-late e b = contrary b (ap is_before_tree e.phase)

  early-before : is_before_tree n.view.phase ≡ true → is_before_tree m.view.phase ≡ true
  early-before e = true_from_ne_false _ (λ a. contrary e (beat-late b m a))

  -- in T3 a node drew, and waits
  record InContend (z : NodeState) : Type 0 where
    drawn : 1 ≤ z.view.draws
    waits : z.view.timer < z.view.wait
    shows : (z.view.wait ≡ z.timing.short) ⊎ (z.view.wait ≡ z.timing.long)

  after-contend : n.view.phase ≡ phase.Contend → InContend n
  after-contend c = elim (beat-contending b m c) [
    | inl was ↦ elim h.cases [ inl s ↦ on s (sym s.phase ∙ was) (beat-fought b m h.valid was (omega (arith, s.timer, s.wait, k.waits (sym s.phase ∙ was)))) | inr e ↦ absurd (start m.view.phase was e.phase) ]
    | inr e ↦
        let w = drawn-wait d m.timing n.view.wait range (either (coin_of b) e.wait) in
        record {
          drawn = some e.draws;
          waits = omega (arith, e.timer, w, o);
          shows = subst (λ (s : Timing). (n.view.wait ≡ s.short) ⊎ (n.view.wait ≡ s.long)) (sym t.timing) (either (coin_of b) e.wait);
        }
  ]
    where
      clash : (f : Phase) → f ≡ phase.Contend → f ≡ phase.ChildShake → ⊥
      clash f a b = cc

      start : (f : Phase) → f ≡ phase.Contend → f ≡ phase.ResetStart → ⊥
      start f a b = cc

      some : n.view.draws ≡ min (m.view.draws + 1) 65535 → 1 ≤ n.view.draws
      some a = grind (arith, a)

      either :
          (b : Bool) → n.view.wait ≡ (if b then m.timing.long else m.timing.short) →
          (n.view.wait ≡ m.timing.short) ⊎ (n.view.wait ≡ m.timing.long)
      either true e = inr e
      either false e = inl e

      on :
          NoEntry x (hear_all signals x) → x.view.phase ≡ phase.Contend → Fights b m n (on_beat b m).sends →
          InContend n
      on s was (inl w) = elim (beat-draws b m) [
        | inl e ↦ absurd (contend-shake m.view.phase (s.phase ∙ was) e.before)
        | inr e ↦ record {
          drawn = omega (arith, e.draws, s.draws, k.drawn was);
          waits = omega (arith, w.not_yet, e.wait);
          shows = subst (λ (r : Timing). (n.view.wait ≡ r.short) ⊎ (n.view.wait ≡ r.long)) (sym (t.timing ∙ h.timing)) (subst (λ z. (z ≡ x.timing.short) ⊎ (z ≡ x.timing.long)) (sym (e.wait ∙ s.wait)) (k.shows was));
        }
      ]
      on s was (inr (inl w)) = absurd (clash n.view.phase c w.phase)
      on s was (inr (inr w)) = absurd (contend-shake n.view.phase c w.phase)

  pub knows-after : KnowsCoins n
  knows-after = record {
    fresh = λ e. elim (beat-draws b m) [ inl a ↦ absurd (drew-late a e) | inr a ↦ a.draws ∙ heard-fresh (early-before e) ];
    undrawn = λ e. elim (beat-draws b m) [ inl a ↦ absurd (some a.draws e) | inr a ↦ a.first_draws ∙ heard-undrawn (sym a.draws ∙ e) ];
    counts = elim (beat-draws b m) [ inl a ↦ most a.draws | inr a ↦ omega (arith, a.draws, heard-counts) ];
    drawn = λ c. (after-contend c).drawn;
    waits = λ c. (after-contend c).waits;
    shows = λ c. (after-contend c).shows;
  }
    where
      some : n.view.draws ≡ min (m.view.draws + 1) 65535 → n.view.draws ≡ 0 → ⊥
      some a b = grind (arith, a, b)

      most : n.view.draws ≡ min (m.view.draws + 1) 65535 → n.view.draws ≤ 65535
      most a = grind (arith, a)
