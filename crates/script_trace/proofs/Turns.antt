-- Turns, one after the other, as a voice tells them.
use Rattle.std.proofs.Common.{◌≡◌, ℕ, zero, suc, ◌+◌, ◌-◌, ◌<◌, ◌≤◌, List, [], ◌++◌, All, Option, Some, None, length, map, slice_get, refl, sym, ◌∙◌, ap, subst, arith}
use Rattle.std.specs.Option.{option_map}
use Rattle.std.proofs.lemmas.List.{append_assoc, length-map}
use Rattle.std.proofs.lemmas.Option.{slice_get-map, slice_get_within, get_or_from_slice_get}
use Rattle.port_state.specs.Clock.{Clock, even, slow, every, TicksFor}
use Rattle.port_state.specs.Idle.{after_ticks}
use Rattle.port_state.specs.Machine.{PortNode}
use Rattle.port_state.proofs.Lemmas.{ticks-later}
use Rattle.cable_world.specs.World.{CableWorld}
use Rattle.cable_world.specs.Turn.{turn, turns_after}
use Rattle.cable_world.specs.Still.{IsStillFor, after_still, StillTurnsPass}
use Rattle.cable_world.proofs.Lemmas.{none-some, some-same}
use Rattle.world_agenda.proofs.Lemmas.{still-first, still-later, still-turn}
use Rattle.script_trace.specs.Step.{seen_before_turn}
use Rattle.script_trace.specs.Voice.{Legend, Voice, turns_told, TellsNewsAlone, TellsNothing}
use Rattle.script_trace.proofs.News.{both-none, still-news, AllTick}
use Rattle.script_trace.proofs.Walked.{one-more}

-- ---- clocks that miss none of the next turns

ticks-first : (k : ℕ) (c : Clock) → TicksFor (suc k) c → TicksFor 1 c
ticks-first k even t = t
ticks-first k (slow n next) t = omega (arith, t)
ticks-first k (every gap n) t = omega (arith, t)

all-first : (k : ℕ) (w : CableWorld) → AllTick (suc k) w → AllTick 1 w
all-first k w ticks = λ i x at. ticks-first k x.clock (ticks i x at)

all-later : (k : ℕ) (w : CableWorld) → AllTick (suc k) w → AllTick k (after_still 1 w)
all-later k w ticks i y at = go (slice_get w.nodes i) refl
  where
    go : (o : Option PortNode) → slice_get w.nodes i ≡ o → TicksFor k y.clock
    go None e =
        absurd (none-some _ y (slice_get-map (after_ticks 1) w.nodes i ∙ ap (option_map (after_ticks 1)) e) at)
    go (Some x) e =
        let is : y ≡ after_ticks 1 x =
        some-same y (after_ticks 1 x) (sym at ∙ slice_get-map (after_ticks 1) w.nodes i ∙ ap (option_map (after_ticks 1)) e) in
        subst (λ (z : PortNode). TicksFor k z.clock) (sym is) (ticks-later k x.clock (ticks i x e))

-- as a world tells it
pub each-ticks : (k : ℕ) (w : CableWorld) → All (λ (x : PortNode). TicksFor k x.clock) w.nodes → AllTick k w
each-ticks k w all i x at =
    subst (λ (z : PortNode). TicksFor k z.clock) (get_or_from_slice_get w.nodes i x x at)
    (all i x (slice_get_within w.nodes i x at))

-- nothing is told of turns in which nothing happens, and which no clock misses
pub still-told :
    (voice : Voice) (legend : Legend) (k : ℕ) (w : CableWorld) → TellsNewsAlone voice → StillTurnsPass → length w.nodes ≡ length w.cabling →
    IsStillFor k w → AllTick k w → turns_told voice legend k w ≡ []
unfolding turns_told
still-told voice legend zero w news law e h ticks = refl
still-told voice legend (suc k) w news law e h ticks =
    let one = still-first k w h in
    both-none (voice.since legend (map seen_before_turn w.nodes) (turn w)) (turns_told voice legend k (turn w))
    (news legend (map seen_before_turn w.nodes) (turn w) (still-news w law e one (all-first k w ticks)))
    (ap (turns_told voice legend k) (still-turn law w e one)
    ∙ still-told voice legend k (after_still 1 w) news law (length-map w.nodes (after_ticks 1) ∙ e) (still-later k w h)
    (all-later k w ticks))

-- nor of any where nothing is ever told
pub mute-told : (voice : Voice) (legend : Legend) (k : ℕ) (w : CableWorld) → TellsNothing voice → turns_told voice legend k w ≡ []
unfolding turns_told
mute-told voice legend zero w h = refl
mute-told voice legend (suc k) w h =
    both-none (voice.since legend (map seen_before_turn w.nodes) (turn w)) (turns_told voice legend k (turn w))
    (h legend (map seen_before_turn w.nodes) (turn w)) (mute-told voice legend k (turn w) h)

module _ (voice : Voice) (legend : Legend) where
  abbrev told : ℕ → CableWorld → List ℕ
  told = turns_told voice legend

  abbrev once : CableWorld → List ℕ
  once w = voice.since legend (map seen_before_turn w.nodes) (turn w)

  -- some turns, and then others
  told-add : (j k : ℕ) (w : CableWorld) → told (j + k) w ≡ told j w ++ told k (turns_after j w)
  unfolding turns_told turns_after
  told-add zero k w = let e : 0 + k ≡ k = omega arith in ap (λ (n : ℕ). told n w) e
  told-add (suc j) k w =
      let e : suc j + k ≡ suc (j + k) = omega arith in
      ap (λ (n : ℕ). told n w) e ∙ ap (λ (l : List ℕ). once w ++ l) (told-add j k (turn w))
      ∙ sym (append_assoc (once w) (told j (turn w)) (told k (turns_after j (turn w))))

  -- of the turns that are left nothing is told of the next ones
  pub none-passed :
      (left passed next : ℕ) (v u : CableWorld) (out all : List ℕ) → passed + next ≡ left → u ≡ turns_after passed v →
      told passed v ≡ [] → out ++ told left v ≡ all → out ++ told next u ≡ all
  none-passed left passed next v u out all e is none so =
      let rest : told left v ≡ told next u =
      sym (ap (λ (n : ℕ). told n v) e) ∙ told-add passed next v
      ∙ ap (λ (l : List ℕ). l ++ told next (turns_after passed v)) none ∙ ap (told next) (sym is) in
      sym (ap (λ (l : List ℕ). out ++ l) rest) ∙ so

  turns-left : (n k : ℕ) (v : CableWorld) → k < n → told (n - k) v ≡ once v ++ told (n - (k + 1)) (turn v)
  unfolding turns_told
  turns-left n k v h =
      let e : n - k ≡ suc (n - (k + 1)) = omega (arith, h) in
      ap (λ (m : ℕ). told m v) e

  pub next-turn :
      (n k : ℕ) (v u : CableWorld) (before after all : List ℕ) → k < n → u ≡ turn v → after ≡ before ++ once v →
      before ++ told (n - k) v ≡ all → after ++ told (n - (k + 1)) u ≡ all
  next-turn n k v u before after all h done new so =
      let rest = told (n - (k + 1)) u in
      one-more before after (once v) rest (told (n - k) v) all new
      (turns-left n k v h ∙ ap (λ (z : CableWorld). once v ++ told (n - (k + 1)) z) (sym done))
      so

  pub no-turn-left : (n k : ℕ) (v : CableWorld) → n ≤ k → told (n - k) v ≡ []
  unfolding turns_told
  no-turn-left n k v h =
      let e : n - k ≡ 0 = omega (arith, h) in
      ap (λ (m : ℕ). told m v) e
