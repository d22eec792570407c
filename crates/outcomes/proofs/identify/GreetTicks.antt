-- What a tick does to the ports of a node that comes to self identify.
use Rattle.std.proofs.Common.{◌≡◌, ◌⊎◌, inl, inr, ℕ, zero, suc, ◌≤◌, Bool, true, false, not, ◌==◌, List, [], ◌∷◌, ◌++◌, map, Option, Some, None, slice_get, refl, sym, ◌∙◌, ap, subst, arith, true≢false, if◌then◌else◌}
use Rattle.std.specs.Prelude.{nat_le}
use Rattle.std.specs.Option.{option_map}
use Rattle.std.proofs.lemmas.Bool.{eq-eqb, eqb-true, and_parts, and_from, leb-true}
use Rattle.outcomes.proofs.Common.{contrary, Level, Phase, ResetStart, ParentShake, SelfIdent, Ready, Signal, PortView, NodeState, is_unnamed, asks, is_remaining, is_parent, passes, port_is, is_connected, is_port, change_port, lowest, sent_on, packet, hears_packets, is_decided, may_name, granted_row, own_group, node_count, Row, raise_timer, does, next_row, row_of, tick, IsValid, on_every-port, sent_on-append, port_is-changed, is_shaking, shown_or_idle, level_shown, leads_down, is_asking, only, child-if, late-roles, risen, Chosen, chosen, any_child}
use Rattle.port_state.specs.declared.signal.Level.TheVariants as level
use Rattle.port_state.specs.declared.signal.Phase.TheVariants.{ResetWait, TreeStart, ChildShake, Contend}
use Rattle.port_state.specs.declared.signal.Signal.TheVariants as signal
use Rattle.port_state.specs.Ports.{is_idle, every}
use Rattle.port_state.specs.Sends.{packets_on_every, on_port}
use Rattle.port_state.specs.TreeIdentify.{adopt, parent_shake_at}
use Rattle.port_state.specs.Contention.{contend_at}
use Rattle.port_state.specs.Row as row
use Rattle.port_state.specs.Machine.{on_beat}
use Rattle.port_state.proofs.Lemmas.{notices-port, packets-port, map-port}
use Rattle.cable_world.specs.Signals.{has_no_takeback}
use Rattle.cable_world.proofs.Lemmas.{choose, elsewhere}
use Rattle.outcomes.proofs.identify.LinedTicks.{on-port}
use Rattle.outcomes.proofs.identify.Ports.{changed-other, changed-here}

-- ---- child ports

adopted-child :
    (o : Option PortView) → passes (λ p. p.child) o ≡ true → passes (λ p. p.child)
    (option_map adopt o) ≡ true
adopted-child None h = absurd (true≢false (sym h))
adopted-child (Some p) h = go (asks p)
  where
    go : (b : Bool) → (if b then record p { child = true } else p).child ≡ true
    go true = refl
    go false = h

asks-adopted :
    (o : Option PortView) → passes asks o ≡ true → passes (λ p. p.child) (option_map adopt o) ≡ true
asks-adopted None h = absurd (true≢false (sym h))
asks-adopted (Some p) h = go (asks p) h
  where
    go : (b : Bool) → b ≡ true → (if b then record p { child = true } else p).child ≡ true
    go true h = refl
    go false h = absurd (true≢false (sym h))

rival-stays :
    (p k : ℕ) (x : NodeState) → leads_down x.view.ports k ≡ true →
    leads_down (change_port p (λ q. record q { child = true }) x.view.ports) k ≡ true
rival-stays p k x h = go (k == p) refl
  where
    go :
        (b : Bool) → (k == p) ≡ b →
        leads_down (change_port p (λ q. record q { child = true }) x.view.ports) k ≡ true
    go true e = changed-here (λ q. q.child) (λ q. q.child) p k (λ q. record q { child = true }) x.view.ports (λ q. refl) e h
    go false e = changed-other (λ q. q.child) p k (λ q. record q { child = true }) x.view.ports e ∙ h

-- a child port stays one
pub ticks-child :
    (coin : Bool) (x : NodeState) (k : ℕ) → leads_down x.view.ports k ≡ true →
    leads_down (tick coin x).state.view.ports k ≡ true
unfolding tick
ticks-child coin x k h = go (next_row x)
  where
    go : (r : Row) → leads_down (does coin r (raise_timer x)).state.view.ports k ≡ true
    go row.takes_roles = ap (passes (λ p. p.child)) (map-port k adopt x.view.ports) ∙ adopted-child (slice_get x.view.ports k) h
    go (row.takes_rival p) = rival-stays p k x h
    go (row.asks_child p) = port_is-changed (λ q. q.child) p (λ q. record q { asked = true }) (λ q. refl) x.view.ports k ∙ h
    go r = h

-- and a port becomes one at the beginning of T1
pub becomes-child :
    (coin : Bool) (x : NodeState) (k : ℕ) → leads_down (tick coin x).state.view.ports k ≡ true →
    (leads_down x.view.ports k ≡ true) ⊎ ((tick coin x).state.view.phase ≡ ChildShake)
unfolding tick
becomes-child coin x k h = go (next_row x) h
  where
    go :
        (r : Row) → leads_down (does coin r (raise_timer x)).state.view.ports k ≡ true →
        (leads_down x.view.ports k ≡ true)
        ⊎ ((does coin r (raise_timer x)).state.view.phase ≡ ChildShake)
    go row.takes_roles h = inr refl
    go (row.takes_rival p) h = inr refl
    go (row.asks_child p) h = inl (sym (port_is-changed (λ q. q.child) p (λ q. record q { asked = true }) (λ q. refl) x.view.ports k) ∙ h)
    go r h = inl h

-- T1 ends where every child port shows Idle
idle-of :
    (o : Option PortView) →
    passes (λ p. if p.connected then (if p.child then is_idle p.shown else true) else true)
    o ≡ true → passes (λ p. p.connected) o ≡ true → passes (λ p. p.child) o ≡ true →
    shown_or_idle o ≡ level.Idle
idle-of None h c d = refl
idle-of (Some p) h c d = go p.connected p.child c d h
  where
    idle : (l : Level) → is_idle l ≡ true → l ≡ level.Idle
    idle l h = grind arith

    go :
        (b c : Bool) → b ≡ true → c ≡ true →
        (if b then (if c then is_idle p.shown else true) else true) ≡ true → p.shown ≡ level.Idle
    go true true eb ec h = idle p.shown h
    go false c eb ec h = absurd (true≢false (sym eb))
    go true false eb ec h = absurd (true≢false (sym ec))

every-passes :
    (test : PortView → Bool) (ports : List PortView) (k : ℕ) → every test ports ≡ true →
    is_connected ports k ≡ true → passes (λ p. if p.connected then test p else true)
    (slice_get ports k) ≡ true
every-passes test [] k e c = absurd (true≢false (sym c))
every-passes test (p ∷ ps) zero e c = (and_parts _ _ e).0
every-passes test (p ∷ ps) (suc k) e c = every-passes test ps k (and_parts _ _ e).1 c

pub leaves-shake :
    (coin : Bool) (x : NodeState) (k : ℕ) → x.view.phase ≡ ChildShake →
    is_connected x.view.ports k ≡ true → leads_down x.view.ports k ≡ true →
    ((tick coin x).state.view.phase ≡ ChildShake) ⊎ (level_shown x k ≡ level.Idle)
unfolding tick
leaves-shake coin x k e c d =
    subst (λ f. ((does coin (row_of f (raise_timer x)) (raise_timer x)).state.view.phase ≡ ChildShake) ⊎ (level_shown x k ≡ level.Idle)) (sym e)
    (go (every (λ p. if p.child then is_idle p.shown else true) x.view.ports) refl)
  where
    go :
        (b : Bool) → every (λ p. if p.child then is_idle p.shown else true) x.view.ports ≡ b →
        ((does coin (if b then row.awaits_parent else row.none) (raise_timer x)).state.view.phase ≡ ChildShake)
        ⊎ (level_shown x k ≡ level.Idle)
    go true h = inr (idle-of (slice_get x.view.ports k) (every-passes (λ p. if p.child then is_idle p.shown else true) x.view.ports k h c) c d)
    go false h = inl e

-- ---- Child is said by child ports

no-child-sent :
    (b : Bool) (s : Signal) → any_child (s ∷ []) ≡ false → any_child (only b s) ≡ true → ⊥
no-child-sent true s e h = contrary h e
no-child-sent false s e h = true≢false (sym h)

packets-no-child :
    (b : Bool) (quads : List ℕ) (i : Bool) →
    any_child ((if b then map packet quads else []) ++ only i signal.Done) ≡ false
packets-no-child true [] true = refl
packets-no-child true [] false = refl
packets-no-child true (q ∷ qs) i = packets-no-child true qs i
packets-no-child false quads true = refl
packets-no-child false quads false = refl

pub says-child :
    (coin : Bool) (x : NodeState) (k : ℕ) → is_connected x.view.ports k ≡ true →
    any_child (sent_on k (tick coin x).sends) ≡ true →
    leads_down (tick coin x).state.view.ports k ≡ true
unfolding tick
says-child coin x k c h = go (next_row x) h
  where
    notice :
        (a l : Bool) →
        any_child (if a then signal.Child ∷ [] else (if l then signal.Parent ∷ [] else [])) ≡ true →
        a ≡ true
    notice true l h = refl
    notice false true h = absurd (true≢false (sym h))
    notice false false h = absurd (true≢false (sym h))

    rival :
        (p : ℕ) (b : Bool) → (p == k) ≡ b → any_child (only b signal.Child) ≡ true → (k == p) ≡ true
    rival p true e h = eq-eqb k p (sym (eqb-true p k e))
    rival p false e h = absurd (true≢false (sym h))

    go :
        (r : Row) → any_child (sent_on k (does coin r (raise_timer x)).sends) ≡ true →
        leads_down (does coin r (raise_timer x)).state.view.ports k ≡ true
    go row.none h = absurd (true≢false (sym h))
    go row.begins_tree h = absurd (true≢false (sym h))
    go row.times_out h = absurd (true≢false (sym h))
    go row.awaits_parent h = absurd (true≢false (sym h))
    go row.becomes_root h = absurd (true≢false (sym h))
    go row.ends_reset h = absurd (no-child-sent (is_connected x.view.ports k) signal.Idle refl (sym (ap any_child (on_every-port k signal.Idle x.view.ports)) ∙ h))
    go row.takes_roles h =
        ap (passes (λ p. p.child)) (map-port k adopt x.view.ports)
        ∙ asks-adopted (slice_get x.view.ports k) (notice (port_is asks x.view.ports k) (port_is is_remaining x.view.ports k) (sym (ap any_child (notices-port k x.view.ports)) ∙ h))
    go (row.finds_parent p) h = absurd (no-child-sent (p == k) signal.Idle refl h)
    go (row.begins_contention p) h = absurd (no-child-sent (p == k) signal.Idle refl h)
    go (row.takes_rival p) h = changed-here (λ q. q.child) (λ q. q.connected) p k (λ q. record q { child = true }) x.view.ports (λ q. refl) (rival p (p == k) refl h) c
    go (row.asks_again p) h = absurd (no-child-sent (p == k) signal.Parent refl h)
    go (row.asks_child p) h = absurd (no-child-sent (p == k) signal.Grant refl h)
    go row.names_itself h =
        let quads = own_group x (node_count x.list.items) in
        absurd (true≢false (sym h
        ∙ ap any_child (sent_on-append k (packets_on_every quads x.view.ports) (on_port x.view.parent signal.Done))
        ∙ (rw (packets-port k quads x.view.ports, on-port k x.view.parent signal.Done) (packets-no-child (is_connected x.view.ports k) quads (is_port x.view.parent k)))))

-- ---- asking

-- what is known where a contention ends
abbrev Waited : Row → NodeState → Type 0
Waited (row.asks_again p) x = x.view.wait ≤ x.view.timer
Waited r x = Unit {0}

waited : (f : Phase) (x : NodeState) → Waited (row_of f x) x
waited ResetStart x = choose (λ r. Waited r x) _ row.ends_reset row.none (λ _. tt) (λ _. tt)
waited ResetWait x = choose (λ r. Waited r x) _ row.begins_tree row.none (λ _. tt) (λ _. tt)
waited TreeStart x = choose (λ r. Waited r x) (is_decided x) row.takes_roles _ (λ _. tt) (λ _. choose (λ r. Waited r x) _ row.times_out row.none (λ _. tt) (λ _. tt))
waited ChildShake x = choose (λ r. Waited r x) _ row.awaits_parent row.none (λ _. tt) (λ _. tt)
waited ParentShake x = go x.view.parent
  where
    go : (o : Option ℕ) → Waited (parent_shake_at o x) x
    go None = tt
    go (Some p) = choose (λ r. Waited r x) (port_is (λ q. _) x.view.ports p) (row.finds_parent p) _ (λ _. tt) (λ _. choose (λ r. Waited r x) (port_is (λ q. _) x.view.ports p) (row.begins_contention p) row.none (λ _. tt) (λ _. tt))
waited Contend x = choose (λ r. Waited r x) (nat_le x.view.wait x.view.timer) (contend_at x.view.parent x) row.none (λ h. go x.view.parent (leb-true _ _ h)) (λ _. tt)
  where
    go : (o : Option ℕ) → x.view.wait ≤ x.view.timer → Waited (contend_at o x) x
    go None w = tt
    go (Some p) w = choose (λ r. Waited r x) (port_is (λ q. _) x.view.ports p) (row.takes_rival p) (row.asks_again p) (λ _. tt) (λ _. w)
waited SelfIdent x = choose (λ r. Waited r x) x.view.granted (granted_row (lowest is_unnamed x.view.ports) x) row.none (λ _. go (lowest is_unnamed x.view.ports)) (λ _. tt)
  where
    go : (o : Option ℕ) → Waited (granted_row o x) x
    go None = choose (λ r. Waited r x) (may_name x) row.names_itself row.none (λ _. tt) (λ _. tt)
    go (Some p) = choose (λ r. Waited r x) (port_is (λ q. q.asked) x.view.ports p) row.none (row.asks_child p) (λ _. tt) (λ _. tt)
waited Ready x = tt

-- how a node comes to ask
abbrev pub Asked : NodeState → ℕ → Type 0
Asked x k = (is_asking x k ≡ true) ⊎ ((x.view.phase ≡ TreeStart) ⊎ ((x.view.phase ≡ Contend) × (is_port x.view.parent k ≡ true) × (x.view.wait ≤ risen x.view.timer)))

pub asked-before :
    (coin : Bool) (x : NodeState) (k : ℕ) → is_asking (tick coin x).state k ≡ true → Asked x k
unfolding tick
asked-before coin x k h = go (next_row x) (chosen x.view.phase (raise_timer x) refl) (waited x.view.phase (raise_timer x)) h
  where
    go :
        (r : Row) → Chosen r (raise_timer x) → Waited r (raise_timer x) →
        is_asking (does coin r (raise_timer x)).state k ≡ true → Asked x k
    go row.none c w h = inl h
    go row.times_out c w h = inl h
    go (row.asks_child p) c w h = inl h
    go row.takes_roles c w h = inr (inl c.0)
    go row.awaits_parent c w h = inl (and_from (is_shaking x.view.phase) (is_port x.view.parent k) (ap is_shaking c) h)
    go (row.asks_again p) c w h = inr (inr (c.0, h, w))
    go (row.takes_rival p) c w h = absurd (true≢false (sym h))
    go r c w h = absurd (true≢false (sym h))

-- what it says then takes no Parent back
one-kind :
    (b : Bool) (s : Signal) → has_no_takeback (s ∷ []) ≡ true → has_no_takeback (only b s) ≡ true
one-kind true s h = h
one-kind false s h = refl

pub asking-sends :
    (coin : Bool) (x : NodeState) (k : ℕ) → IsValid (tick coin x).state →
    is_connected (tick coin x).state.view.ports k ≡ true → is_asking (tick coin x).state k ≡ true →
    has_no_takeback (sent_on k (tick coin x).sends) ≡ true
unfolding tick
asking-sends coin x k v c h = go (next_row x) (chosen x.view.phase (raise_timer x) refl) v c h
  where
    notice :
        (a l : Bool) → (a ≡ true → ⊥) →
        has_no_takeback (if a then signal.Child ∷ [] else (if l then signal.Parent ∷ [] else []))
        ≡ true
    notice true l h = absurd (h refl)
    notice false true h = refl
    notice false false h = refl

    go :
        (r : Row) → Chosen r (raise_timer x) → IsValid (does coin r (raise_timer x)).state →
        is_connected (does coin r (raise_timer x)).state.view.ports k ≡ true →
        is_asking (does coin r (raise_timer x)).state k ≡ true →
        has_no_takeback (sent_on k (does coin r (raise_timer x)).sends) ≡ true
    go row.takes_roles c v on h =
        let role = child-if (lowest is_remaining x.view.ports) (map adopt x.view.ports) k (late-roles (does coin row.takes_roles (raise_timer x)).state v refl) on in
        ap has_no_takeback (notices-port k x.view.ports) ∙ notice (port_is asks x.view.ports k) (port_is is_remaining x.view.ports k)
        (λ a. contrary (asks-adopted (slice_get x.view.ports k) a) (sym (ap (passes (λ p. p.child)) (map-port k adopt x.view.ports)) ∙ role ∙ ap not h))
    go (row.asks_again p) c v on h = one-kind (p == k) signal.Parent refl
    go (row.asks_child p) c v on h = absurd (elsewhere is_shaking c refl (and_parts (is_shaking x.view.phase) (is_port x.view.parent k) h).0)
    go row.none c v on h = refl
    go row.times_out c v on h = refl
    go row.awaits_parent c v on h = refl
    go (row.takes_rival p) c v on h = absurd (true≢false (sym h))
    go r c v on h = absurd (true≢false (sym h))

-- where the parent shows no Parent, the node goes on asking, or comes to self identify
shows-parent :
    (o : Option PortView) → passes (λ q. is_parent q.shown) o ≡ true → is_parent (shown_or_idle o)
    ≡ true
shows-parent None h = absurd (true≢false (sym h))
shows-parent (Some q) h = h

pub asks-on :
    (coin : Bool) (x : NodeState) (k : ℕ) → is_asking x k ≡ true → is_parent (level_shown x k)
    ≡ false → (is_asking (tick coin x).state k ≡ true)
    ⊎ (hears_packets (tick coin x).state.view.phase ≡ true)
unfolding tick
asks-on coin x k h s = go (next_row x) (chosen x.view.phase (raise_timer x) refl)
  where
    both : (is_shaking x.view.phase ≡ true) × (is_port x.view.parent k ≡ true)
    both = and_parts (is_shaking x.view.phase) (is_port x.view.parent k) h

    go :
        (r : Row) → Chosen r (raise_timer x) →
        (is_asking (does coin r (raise_timer x)).state k ≡ true)
        ⊎ (hears_packets (does coin r (raise_timer x)).state.view.phase ≡ true)
    go row.none c = inl h
    go row.times_out c = inl h
    go row.awaits_parent c = inl both.1
    go row.becomes_root c = inr refl
    go (row.finds_parent p) c = inr refl
    go (row.begins_contention p) c =
        let same : p ≡ k = eqb-true p k (sym (ap (λ o. is_port o k) c.1) ∙ both.1) in
        contrary (shows-parent (slice_get x.view.ports k) (subst (λ i. port_is (λ q. is_parent q.shown) x.view.ports i ≡ true) same c.2)) s
    go row.ends_reset c = absurd (elsewhere is_shaking c.0 refl both.0)
    go row.begins_tree c = absurd (elsewhere is_shaking c.0 refl both.0)
    go row.takes_roles c = absurd (elsewhere is_shaking c.0 refl both.0)
    go (row.takes_rival p) c = absurd (elsewhere is_shaking c.0 refl both.0)
    go (row.asks_again p) c = absurd (elsewhere is_shaking c.0 refl both.0)
    go (row.asks_child p) c = absurd (elsewhere is_shaking c refl both.0)
    go row.names_itself c = absurd (elsewhere is_shaking c refl both.0)

-- ---- or the clock misses the turn

pub beat-ticks-child :
    (b : Option Bool) (x : NodeState) (k : ℕ) → leads_down x.view.ports k ≡ true →
    leads_down (on_beat b x).state.view.ports k ≡ true
beat-ticks-child None x k h = h
beat-ticks-child (Some coin) x k h = ticks-child coin x k h

pub beat-becomes-child :
    (b : Option Bool) (x : NodeState) (k : ℕ) → leads_down (on_beat b x).state.view.ports k ≡ true →
    (leads_down x.view.ports k ≡ true) ⊎ ((on_beat b x).state.view.phase ≡ ChildShake)
beat-becomes-child None x k h = inl h
beat-becomes-child (Some coin) x k h = becomes-child coin x k h

pub beat-leaves-shake :
    (b : Option Bool) (x : NodeState) (k : ℕ) → x.view.phase ≡ ChildShake →
    is_connected x.view.ports k ≡ true → leads_down x.view.ports k ≡ true →
    ((on_beat b x).state.view.phase ≡ ChildShake) ⊎ (level_shown x k ≡ level.Idle)
beat-leaves-shake None x k e c d = inl e
beat-leaves-shake (Some coin) x k e c d = leaves-shake coin x k e c d

pub beat-says-child :
    (b : Option Bool) (x : NodeState) (k : ℕ) → is_connected x.view.ports k ≡ true →
    any_child (sent_on k (on_beat b x).sends) ≡ true →
    leads_down (on_beat b x).state.view.ports k ≡ true
beat-says-child None x k c h = absurd (true≢false (sym h))
beat-says-child (Some coin) x k c h = says-child coin x k c h

pub beat-asked-before :
    (b : Option Bool) (x : NodeState) (k : ℕ) → is_asking (on_beat b x).state k ≡ true → Asked x k
beat-asked-before None x k h = inl h
beat-asked-before (Some coin) x k h = asked-before coin x k h

pub beat-asking-sends :
    (b : Option Bool) (x : NodeState) (k : ℕ) → IsValid (on_beat b x).state →
    is_connected (on_beat b x).state.view.ports k ≡ true → is_asking (on_beat b x).state k ≡ true →
    has_no_takeback (sent_on k (on_beat b x).sends) ≡ true
beat-asking-sends None x k v c h = refl
beat-asking-sends (Some coin) x k v c h = asking-sends coin x k v c h

pub beat-asks-on :
    (b : Option Bool) (x : NodeState) (k : ℕ) → is_asking x k ≡ true → is_parent (level_shown x k)
    ≡ false → (is_asking (on_beat b x).state k ≡ true)
    ⊎ (hears_packets (on_beat b x).state.view.phase ≡ true)
beat-asks-on None x k h s = inl h
beat-asks-on (Some coin) x k h s = asks-on coin x k h s
