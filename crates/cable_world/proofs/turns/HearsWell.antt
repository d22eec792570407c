-- What is to be known of a node that hears a list of signals.
use Rattle.std.proofs.Common.{◌≡◌, ◌⊎◌, inl, inr, ℕ, Bool, true, false, not, ◌&&◌, ◌==◌, List, [], ◌∷◌, ◌++◌, Option, Some, None, slice_get, refl, sym, ◌∙◌, ap, subst, if◌then◌else◌}
use Rattle.std.specs.Option.{option_map}
use Rattle.std.proofs.lemmas.Bool.{and_parts, eqb-true, eq-eqb, or_right}
use Rattle.port_state.specs.declared.signal.Level.{Level}
use Rattle.port_state.specs.declared.signal.Level.TheVariants as level
use Rattle.port_state.specs.declared.signal.Signal.{Signal}
use Rattle.port_state.specs.declared.signal.Signal.TheVariants as signal
use Rattle.port_state.specs.declared.ports.PortView.{PortView}
use Rattle.port_state.specs.declared.states.NodeState.{NodeState}
use Rattle.port_state.specs.Ports.{passes, is_connected}
use Rattle.port_state.specs.Sends.{sent_on}
use Rattle.port_state.specs.Step.{Step, silent_step}
use Rattle.port_state.specs.Entry.{enter, with_port}
use Rattle.port_state.specs.Heard.{is_resetting, hears_packets, with_level, hears, has_effect, is_heard, on_signal}
use Rattle.port_state.specs.Sound.{IsSound}
use Rattle.port_state.specs.Valid.{IsValid}
use Rattle.port_state.proofs.Lemmas.{sound-on_signal, signal-cables, on_every-port, on_others-port, sent_on-append, port_is-changed}
use Rattle.cable_world.specs.Signals.{is_reset, has_reset, has_no_takeback, has_no_parent_signal}
use Rattle.cable_world.specs.Phases.{is_in_bus_reset}
use Rattle.cable_world.specs.Agreement.{shown_or_idle, level_shown, leads_down, level_after, level_sent_at}
use Rattle.cable_world.specs.Coupling.{HeedsReset}
use Rattle.cable_world.proofs.Options.{some-same}
use Rattle.cable_world.proofs.PhaseFacts.{start-bus_reset}
use Rattle.cable_world.proofs.levels.LastSent.{level_after-append, only, signal-says}
use Rattle.cable_world.proofs.levels.LastHeard.{shown_if_there, signal-shows}
use Rattle.cable_world.proofs.levels.LastSent.{cons-sent}
use Rattle.cable_world.specs.Turn.{hear_all}
use Rattle.cable_world.proofs.turns.NodeFacts.{NoEntry, EntersReset, HearsWell}
use Rattle.cable_world.proofs.coupling.Streams.{not-both, has_reset-append, has_no_takeback-append, has_no_parent_signal-append}

-- ---- one signal: a Reset begins a reset, or none did

-- none did, and a Reset that came to a port with a cable found the node in R0
record Passed (port : ℕ) (s : Signal) (x : NodeState) (h : Step) : Type 0 where
  heard : NoEntry x h
  unless :
      is_connected x.view.ports port ≡ true → is_reset s ≡ true → is_resetting x.view.phase ≡ true

abbrev Fate : ℕ → Signal → NodeState → Step → Type 0
Fate port s x h = Passed port s x h ⊎ EntersReset x h

-- nothing is sent, and phase, timers, parent port and child ports stay
still-heard :
    (x y : NodeState) → y.view.phase ≡ x.view.phase → y.view.timer ≡ x.view.timer →
    y.view.wait ≡ x.view.wait → y.view.parent ≡ x.view.parent → y.view.draws ≡ x.view.draws →
    y.view.first_draws ≡ x.view.first_draws → y.view.timed_out ≡ x.view.timed_out →
    ((k : ℕ) → leads_down y.view.ports k ≡ leads_down x.view.ports k) → NoEntry x (silent_step y)
still-heard x y ph t w p n f o c = record { phase = ph; timer = t; wait = w; parent = p; draws = n; first_draws = f; timed_out = o; child = c; sends = λ h. refl; calm = λ k. refl }

-- a port changes, and its role doesn't
port-heard :
    (n : ℕ) (f : PortView → PortView) → ((p : PortView) → (f p).child ≡ p.child) → (x : NodeState) →
    NoEntry x (silent_step (with_port n f x))
port-heard n f h x = still-heard x (with_port n f x) refl refl refl refl refl refl refl (port_is-changed (λ p. p.child) n f h x.view.ports)

level-heard : (n : ℕ) (l : Level) (x : NodeState) → NoEntry x (silent_step (with_level n l x))
level-heard n l x = port-heard n (λ p. record p { shown = l }) (λ p. refl) x

packet-heard :
    (n quad : ℕ) (x : NodeState) → hears_packets x.view.phase ≡ true →
    NoEntry x (hears n (signal.Packet quad) x)
packet-heard n quad x e = record {
  phase = refl;
  timer = refl;
  wait = refl;
  parent = refl;
  draws = refl;
  first_draws = refl;
  timed_out = refl;
  child = λ k. refl;
  sends = λ h. absurd cc;
  calm = λ k. ap has_reset (on_others-port k n (signal.Packet quad) x.view.ports) ∙ go (not (k == n) && is_connected x.view.ports k);
}
  where
    go : (b : Bool) → has_reset (only b (signal.Packet quad)) ≡ false
    go true = refl
    go false = refl

reset-fate :
    (n : ℕ) (x : NodeState) (b : Bool) → is_resetting x.view.phase ≡ b →
    Fate n signal.Reset x (if b then silent_step (with_level n level.Reset x) else enter false (with_level n level.Reset x))
unfolding enter
reset-fate n x true e = inl (record { heard = level-heard n level.Reset x; unless = λ c r. e })
reset-fate n x false e = inr (record { before = e; phase = refl; timer = refl; draws = refl; first_draws = refl })

hears-fate : (n : ℕ) (s : Signal) (x : NodeState) → is_heard n s x ≡ true → Fate n s x (hears n s x)
hears-fate n signal.Reset x e = reset-fate n x (is_resetting x.view.phase) refl
hears-fate n signal.Idle x e = inl (record { heard = level-heard n level.Idle x; unless = λ c r. absurd cc })
hears-fate n signal.Parent x e = inl (record { heard = level-heard n level.Parent x; unless = λ c r. absurd cc })
hears-fate n signal.Child x e = inl (record { heard = level-heard n level.Child x; unless = λ c r. absurd cc })
hears-fate n signal.Grant x e = inl (record { heard = still-heard x _ refl refl refl refl refl refl refl (λ k. refl); unless = λ c r. absurd cc })
hears-fate n (signal.Packet quad) x e =
    let both = and_parts (is_connected x.view.ports n) (hears_packets x.view.phase) e in
    inl (record { heard = packet-heard n quad x both.1; unless = λ c r. absurd cc })
hears-fate n signal.Done x e = inl (record { heard = port-heard n (λ p. record p { named = true }) (λ p. refl) x; unless = λ c r. absurd cc })

-- a Reset at a port with a cable is heard
reset-counts :
    (n : ℕ) (s : Signal) (x : NodeState) (b : Bool) → (b && has_effect n s x) ≡ false → b ≡ true →
    is_reset s ≡ true → ⊥
reset-counts n signal.Reset x true h c r = cc
reset-counts n signal.Reset x false h c r = cc
reset-counts n signal.Idle x b h c r = cc
reset-counts n signal.Parent x b h c r = cc
reset-counts n signal.Child x b h c r = cc
reset-counts n signal.Grant x b h c r = cc
reset-counts n (signal.Packet quad) x b h c r = cc
reset-counts n signal.Done x b h c r = cc

signal-fate : (n : ℕ) (s : Signal) (x : NodeState) → Fate n s x (on_signal n s x)
unfolding on_signal
signal-fate n s x = go (is_heard n s x) refl
  where
    go : (b : Bool) → is_heard n s x ≡ b → Fate n s x (if b then hears n s x else silent_step x)
    go true e = hears-fate n s x e
    go false e = inl (record { heard = still-heard x x refl refl refl refl refl refl refl (λ k. refl); unless = λ c r. absurd (reset-counts n s x (is_connected x.view.ports n) e c r) })

-- ---- many signals

heard-then :
    (x : NodeState) (first second : Step) → NoEntry x first → NoEntry first.state second →
    NoEntry x (record { state = second.state; sends = first.sends ++ second.sends })
heard-then x first second f g = record {
  phase = g.phase ∙ f.phase;
  timer = g.timer ∙ f.timer;
  wait = g.wait ∙ f.wait;
  parent = g.parent ∙ f.parent;
  draws = g.draws ∙ f.draws;
  first_draws = g.first_draws ∙ f.first_draws;
  timed_out = g.timed_out ∙ f.timed_out;
  child = λ k. g.child k ∙ f.child k;
  sends = λ h. rw (f.sends h) (g.sends (ap hears_packets f.phase ∙ h));
  calm = λ k.
      ap has_reset (sent_on-append k first.sends second.sends)
      ∙ has_reset-append (sent_on k first.sends) (sent_on k second.sends)
      ∙ (rw (f.calm k) (g.calm k));
}

hear-cases :
    (signals : List (ℕ × Signal)) (x : NodeState) →
    NoEntry x (hear_all signals x) ⊎ EntersReset x (hear_all signals x)
hear-cases [] x = inl (still-heard x x refl refl refl refl refl refl refl (λ k. refl))
hear-cases (s ∷ rest) x = go (signal-fate s.0 s.1 x) (hear-cases rest first.state)
  where
    first : Step
    first = on_signal s.0 s.1 x

    go :
        Fate s.0 s.1 x first →
        NoEntry first.state (hear_all rest first.state)
        ⊎ EntersReset first.state (hear_all rest first.state) →
        NoEntry x (hear_all (s ∷ rest) x) ⊎ EntersReset x (hear_all (s ∷ rest) x)
    go (inl f) (inl g) = inl (heard-then x first (hear_all rest first.state) f.heard g)
    go (inl f) (inr g) = inr (record { before = sym (ap is_resetting f.heard.phase) ∙ g.before; phase = g.phase; timer = g.timer; draws = g.draws; first_draws = g.first_draws })
    go (inr f) (inl g) = inr (record { before = f.before; phase = g.phase ∙ f.phase; timer = g.timer ∙ f.timer; draws = g.draws ∙ f.draws; first_draws = g.first_draws ∙ f.first_draws })
    go (inr f) (inr g) = let both : true ≡ false = sym (ap is_resetting f.phase) ∙ g.before in absurd cc

-- ---- R0

-- a node in R0 stays there
pub hear-stays :
    (signals : List (ℕ × Signal)) (x : NodeState) → is_resetting x.view.phase ≡ true →
    is_resetting (hear_all signals x).state.view.phase ≡ true
hear-stays signals x e = go (hear-cases signals x)
  where
    go :
        NoEntry x (hear_all signals x) ⊎ EntersReset x (hear_all signals x) →
        is_resetting (hear_all signals x).state.view.phase ≡ true
    go (inl f) = ap is_resetting f.phase ∙ e
    go (inr f) = ap is_resetting f.phase

signal-enters :
    (n : ℕ) (s : Signal) (x : NodeState) → is_connected x.view.ports n ≡ true → is_reset s ≡ true →
    is_resetting (on_signal n s x).state.view.phase ≡ true
signal-enters n s x c r = go (signal-fate n s x)
  where
    go : Fate n s x (on_signal n s x) → is_resetting (on_signal n s x).state.view.phase ≡ true
    go (inl f) = ap is_resetting f.heard.phase ∙ f.unless c r
    go (inr f) = ap is_resetting f.phase

hear-enters :
    (signals : List (ℕ × Signal)) (x : NodeState) (k : ℕ) → is_connected x.view.ports k ≡ true →
    has_reset (sent_on k signals) ≡ true → is_resetting (hear_all signals x).state.view.phase ≡ true
hear-enters [] x k c h = absurd cc
hear-enters (s ∷ rest) x k c h = go (hear-enters rest y k (signal-cables s.0 s.1 x k ∙ c)) (s.0 == k) refl (is_reset s.1) refl h
  where
    y : NodeState
    y = (on_signal s.0 s.1 x).state

    go :
        (has_reset (sent_on k rest) ≡ true → is_resetting (hear_all rest y).state.view.phase ≡ true) →
        (b : Bool) → (s.0 == k) ≡ b → (r : Bool) → is_reset s.1 ≡ r →
        has_reset (if b then s.1 ∷ sent_on k rest else sent_on k rest) ≡ true →
        is_resetting (hear_all rest y).state.view.phase ≡ true
    go later true at true r h =
        let on : is_connected x.view.ports s.0 ≡ true = subst (λ m. is_connected x.view.ports m ≡ true) (sym (eqb-true s.0 k at)) c in
        hear-stays rest y (signal-enters s.0 s.1 x on r)
    go later true at false r h = later (let same : has_reset (s.1 ∷ sent_on k rest) ≡ has_reset (sent_on k rest) = rw r refl in sym same ∙ h)
    go later false at r e h = later h

-- a node that a Reset brings to R0 heard it on a port with a cable
signal-came :
    (n : ℕ) (s : Signal) (x : NodeState) → is_resetting x.view.phase ≡ false →
    is_resetting (on_signal n s x).state.view.phase ≡ true →
    (is_connected x.view.ports n ≡ true) × (is_reset s ≡ true)
unfolding on_signal
signal-came n s x out h = go (is_heard n s x) refl h
  where
    hearing :
        (s : Signal) → is_heard n s x ≡ true → is_resetting (hears n s x).state.view.phase ≡ true →
        (is_connected x.view.ports n ≡ true) × (is_reset s ≡ true)
    hearing signal.Reset e h = ((and_parts (is_connected x.view.ports n) true e).0, refl)
    hearing signal.Idle e h = absurd (not-both (is_resetting x.view.phase) h out)
    hearing signal.Parent e h = absurd (not-both (is_resetting x.view.phase) h out)
    hearing signal.Child e h = absurd (not-both (is_resetting x.view.phase) h out)
    hearing signal.Grant e h = absurd (not-both (is_resetting x.view.phase) h out)
    hearing (signal.Packet quad) e h = absurd (not-both (is_resetting x.view.phase) h out)
    hearing signal.Done e h = absurd (not-both (is_resetting x.view.phase) h out)

    go :
        (b : Bool) → is_heard n s x ≡ b →
        is_resetting (if b then hears n s x else silent_step x).state.view.phase ≡ true →
        (is_connected x.view.ports n ≡ true) × (is_reset s ≡ true)
    go true e h = hearing s e h
    go false e h = absurd (not-both (is_resetting x.view.phase) h out)

pub hear-came :
    (signals : List (ℕ × Signal)) (x : NodeState) → is_resetting x.view.phase ≡ false →
    is_resetting (hear_all signals x).state.view.phase ≡ true →
    (k : ℕ) × (is_connected x.view.ports k ≡ true) × (has_reset (sent_on k signals) ≡ true)
hear-came [] x out h = absurd (not-both (is_resetting x.view.phase) h out)
hear-came (s ∷ rest) x out h = go (is_resetting y.view.phase) refl (hear-came rest y)
  where
    y : NodeState
    y = (on_signal s.0 s.1 x).state

    first :
        (b : Bool) → b ≡ true → is_reset s.1 ≡ true →
        has_reset (if b then s.1 ∷ sent_on s.0 rest else sent_on s.0 rest) ≡ true
    first true e r = rw r refl
    first false e r = absurd cc

    more :
        (b : Bool) (ss : List Signal) → has_reset ss ≡ true →
        has_reset (if b then s.1 ∷ ss else ss) ≡ true
    more true ss e = or_right (is_reset s.1) (has_reset ss) e
    more false ss e = e

    go :
        (b : Bool) → is_resetting y.view.phase ≡ b →
        (is_resetting y.view.phase ≡ false → is_resetting (hear_all rest y).state.view.phase ≡ true → (k : ℕ) × (is_connected y.view.ports k ≡ true) × (has_reset (sent_on k rest) ≡ true)) →
        (k : ℕ) × (is_connected x.view.ports k ≡ true) × (has_reset (sent_on k (s ∷ rest)) ≡ true)
    go true e later = let found = signal-came s.0 s.1 x out e in (s.0, found.0, first (s.0 == s.0) (eq-eqb s.0 s.0 refl) found.1)
    go false e later = let found = later e h in (found.0, sym (signal-cables s.0 s.1 x found.0) ∙ found.1, more (s.0 == found.0) (sent_on found.0 rest) found.2)

-- ---- what the ports show

-- the level of a port with a cable, from the level of the port, if it is there
level-of :
    (f : Level → Level) (x y : NodeState) (k : ℕ) → is_connected x.view.ports k ≡ true →
    shown_if_there y k ≡ option_map f (shown_if_there x k) → level_shown y k ≡ f (level_shown x k)
level-of f x y k c e = go (slice_get x.view.ports k) (slice_get y.view.ports k) c e
  where
    go :
        (o r : Option PortView) → passes (λ p. p.connected) o ≡ true →
        option_map (λ (p : PortView). p.shown) r
        ≡ option_map f (option_map (λ (p : PortView). p.shown) o) →
        shown_or_idle r ≡ f (shown_or_idle o)
    go None r c e = absurd cc
    go (Some p) None c e = absurd cc
    go (Some p) (Some q) c e = some-same q.shown (f p.shown) e

signal-shown :
    (n : ℕ) (s : Signal) (x : NodeState) (k : ℕ) → is_connected x.view.ports k ≡ true →
    level_shown (on_signal n s x).state k ≡ level_after (level_shown x k) (only (n == k) s)
signal-shown n s x k c = level-of (λ l. level_after l (only (n == k) s)) x (on_signal n s x).state k c (signal-shows n s x k c)

hear-shown :
    (signals : List (ℕ × Signal)) (x : NodeState) (k : ℕ) → is_connected x.view.ports k ≡ true →
    level_shown (hear_all signals x).state k ≡ level_after (level_shown x k) (sent_on k signals)
hear-shown [] x k c = refl
hear-shown (s ∷ rest) x k c =
    hear-shown rest (on_signal s.0 s.1 x).state k (signal-cables s.0 s.1 x k ∙ c)
    ∙ ap (λ l. level_after l (sent_on k rest)) (signal-shown s.0 s.1 x k c)
    ∙ sym (level_after-append (level_shown x k) (only (s.0 == k) s.1) (sent_on k rest))
    ∙ sym (ap (level_after (level_shown x k)) (cons-sent (s.0 == k) s.1 (sent_on k rest)))

-- a port shows Reset because it did, or because a Reset came
shown-reset :
    (l : Level) (b : Bool) (s : Signal) → level_after l (only b s) ≡ level.Reset →
    (l ≡ level.Reset) ⊎ ((b ≡ true) × (is_reset s ≡ true))
shown-reset l false s h = inl h
shown-reset l true signal.Reset h = inr (refl, refl)
shown-reset l true signal.Idle h = absurd cc
shown-reset l true signal.Parent h = absurd cc
shown-reset l true signal.Child h = absurd cc
shown-reset l true signal.Grant h = inl h
shown-reset l true (signal.Packet quad) h = inl h
shown-reset l true signal.Done h = inl h

signal-watches :
    (n : ℕ) (s : Signal) (x : NodeState) → HeedsReset x → HeedsReset (on_signal n s x).state
signal-watches n s x w k c e = go (signal-fate n s x) (shown-reset (level_shown x k) (n == k) s (sym (signal-shown n s x k on) ∙ e))
  where
    on : is_connected x.view.ports k ≡ true
    on = sym (signal-cables n s x k) ∙ c

    go :
        Fate n s x (on_signal n s x) →
        (level_shown x k ≡ level.Reset) ⊎ (((n == k) ≡ true) × (is_reset s ≡ true)) →
        is_in_bus_reset (on_signal n s x).state.view.phase ≡ true
    go (inr f) h = ap is_in_bus_reset f.phase
    go (inl f) (inl h) = ap is_in_bus_reset f.heard.phase ∙ w k on h
    go (inl f) (inr h) =
        let there : is_connected x.view.ports n ≡ true = subst (λ m. is_connected x.view.ports m ≡ true) (sym (eqb-true n k h.0)) on in
        start-bus_reset (on_signal n s x).state.view.phase (signal-enters n s x there h.1)

hear-watches :
    (signals : List (ℕ × Signal)) (x : NodeState) → HeedsReset x →
    HeedsReset (hear_all signals x).state
hear-watches [] x w = w
hear-watches (s ∷ rest) x w = hear-watches rest (on_signal s.0 s.1 x).state (signal-watches s.0 s.1 x w)

-- ---- what is sent

-- on a port, with one signal: nothing, Reset or a packet
sends-one :
    (P : List Signal → Type 0) → P [] → P (signal.Reset ∷ []) →
    ((quad : ℕ) → P (signal.Packet quad ∷ [])) → (n : ℕ) (s : Signal) (x : NodeState) (k : ℕ) →
    P (sent_on k (on_signal n s x).sends)
unfolding on_signal enter
sends-one P none reset packet n s x k = signalled (is_heard n s x)
  where
    chosen : (s : Signal) → P (s ∷ []) → (b : Bool) → P (only b s)
    chosen s h true = h
    chosen s h false = none

    entering :
        (b : Bool) →
        P (sent_on k (if b then silent_step (with_level n level.Reset x) else enter false (with_level n level.Reset x)).sends)
    entering true = none
    entering false =
        let y : NodeState = with_level n level.Reset x in
        subst P (sym (on_every-port k signal.Reset y.view.ports)) (chosen signal.Reset reset (is_connected y.view.ports k))

    hearing : (s : Signal) → P (sent_on k (hears n s x).sends)
    hearing signal.Reset = entering (is_resetting x.view.phase)
    hearing signal.Idle = none
    hearing signal.Parent = none
    hearing signal.Child = none
    hearing signal.Grant = none
    hearing (signal.Packet quad) = subst P (sym (on_others-port k n (signal.Packet quad) x.view.ports)) (chosen (signal.Packet quad) (packet quad) (not (k == n) && is_connected x.view.ports k))
    hearing signal.Done = none

    signalled : (b : Bool) → P (sent_on k (if b then hears n s x else silent_step x).sends)
    signalled true = hearing s
    signalled false = none

hear-takes_none_back :
    (signals : List (ℕ × Signal)) (x : NodeState) (k : ℕ) →
    has_no_takeback (sent_on k (hear_all signals x).sends) ≡ true
hear-takes_none_back [] x k = refl
hear-takes_none_back (s ∷ rest) x k =
    let first : Step = on_signal s.0 s.1 x in
    let later : Step = hear_all rest first.state in
    let now : has_no_takeback (sent_on k first.sends) ≡ true = sends-one (λ l. has_no_takeback l ≡ true) refl refl (λ quad. refl) s.0 s.1 x k in
    ap has_no_takeback (sent_on-append k first.sends later.sends)
    ∙ has_no_takeback-append (sent_on k first.sends) (sent_on k later.sends)
    ∙ (rw now (hear-takes_none_back rest first.state k))

hear-asks_none :
    (signals : List (ℕ × Signal)) (x : NodeState) (k : ℕ) →
    has_no_parent_signal (sent_on k (hear_all signals x).sends) ≡ true
hear-asks_none [] x k = refl
hear-asks_none (s ∷ rest) x k =
    let first : Step = on_signal s.0 s.1 x in
    let later : Step = hear_all rest first.state in
    let now : has_no_parent_signal (sent_on k first.sends) ≡ true = sends-one (λ l. has_no_parent_signal l ≡ true) refl refl (λ quad. refl) s.0 s.1 x k in
    ap has_no_parent_signal (sent_on-append k first.sends later.sends)
    ∙ has_no_parent_signal-append (sent_on k first.sends) (sent_on k later.sends)
    ∙ (rw now (hear-asks_none rest first.state k))

hear-says :
    (signals : List (ℕ × Signal)) (x : NodeState) (k : ℕ) → is_connected x.view.ports k ≡ true →
    level_after (level_sent_at x k) (sent_on k (hear_all signals x).sends)
    ≡ level_sent_at (hear_all signals x).state k
hear-says [] x k c = refl
hear-says (s ∷ rest) x k c =
    let first : Step = on_signal s.0 s.1 x in
    let later : Step = hear_all rest first.state in
    ap (level_after (level_sent_at x k)) (sent_on-append k first.sends later.sends)
    ∙ level_after-append (level_sent_at x k) (sent_on k first.sends) (sent_on k later.sends)
    ∙ ap (λ l. level_after l (sent_on k later.sends)) (signal-says s.0 s.1 x k c)
    ∙ hear-says rest first.state k (signal-cables s.0 s.1 x k ∙ c)

-- ---- what a node is made of

hear-valid :
    (signals : List (ℕ × Signal)) (x : NodeState) → IsValid x → IsValid (hear_all signals x).state
hear-valid [] x v = v
hear-valid (s ∷ rest) x v = hear-valid rest (on_signal s.0 s.1 x).state (sound-on_signal s.0 s.1 x v).valid

hear-timing :
    (signals : List (ℕ × Signal)) (x : NodeState) → IsValid x →
    (hear_all signals x).state.timing ≡ x.timing
hear-timing [] x v = refl
hear-timing (s ∷ rest) x v =
    let sound : IsSound x (on_signal s.0 s.1 x) = sound-on_signal s.0 s.1 x v in
    hear-timing rest (on_signal s.0 s.1 x).state sound.valid ∙ sound.timing

hear-cables :
    (signals : List (ℕ × Signal)) (x : NodeState) (k : ℕ) →
    is_connected (hear_all signals x).state.view.ports k ≡ is_connected x.view.ports k
hear-cables [] x k = refl
hear-cables (s ∷ rest) x k = hear-cables rest (on_signal s.0 s.1 x).state k ∙ signal-cables s.0 s.1 x k

pub hears-well : (signals : List (ℕ × Signal)) (x : NodeState) → IsValid x → HearsWell signals x
hears-well signals x v = record {
  valid = hear-valid signals x v;
  timing = hear-timing signals x v;
  cables = hear-cables signals x;
  cases = hear-cases signals x;
  enters = hear-enters signals x;
  shown = hear-shown signals x;
  says = hear-says signals x;
  watches = hear-watches signals x;
  takes_none_back = hear-takes_none_back signals x;
  asks_none = hear-asks_none signals x;
}
