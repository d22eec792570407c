-- What a tick does to the facts of the two ends of a cable, field by field, over the rows.
use Rattle.std.proofs.Common.{◌≡◌, ◌⊎◌, inl, inr, ℕ, zero, suc, ◌+◌, ◌<◌, ◌≤◌, Bool, true, false, not, ◌&&◌, ◌||◌, ◌==◌, List, [], ◌∷◌, ◌++◌, map, Option, Some, None, slice_get, refl, sym, ◌∙◌, ap, subst, arith, le_refl, true≢false, if◌then◌else◌}
use Rattle.std.specs.Prelude.{nat_le, IsSome}
use Rattle.std.specs.Option.{option_map}
use Rattle.std.proofs.lemmas.Bool.{eqb-true, leb-true, and_parts, and_from, or_from, or_right}
use Rattle.port_state.specs.declared.signal.Level.{Level}
use Rattle.port_state.specs.declared.signal.Level.TheVariants as level
use Rattle.port_state.specs.declared.signal.Phase.{Phase}
use Rattle.port_state.specs.declared.signal.Phase.TheVariants.{ResetStart, ResetWait, TreeStart, ChildShake, ParentShake, Contend, SelfIdent, Ready}
use Rattle.port_state.specs.declared.signal.Signal.{Signal}
use Rattle.port_state.specs.declared.signal.Signal.TheVariants as signal
use Rattle.port_state.specs.declared.ports.PortView.{PortView}
use Rattle.port_state.specs.declared.states.NodeState.{NodeState}
use Rattle.port_state.specs.Ports.{is_idle, is_parent, is_child, asks, is_remaining, is_unnamed, lowest, every, passes, port_is, is_connected, is_port, change_port}
use Rattle.port_state.specs.Sends.{packets_on_every, packet, on_port, sent_on}
use Rattle.port_state.specs.Heard.{is_resetting}
use Rattle.port_state.specs.Resetting.{is_calm}
use Rattle.port_state.specs.TreeIdentify.{is_decided, adopt, parent_shake_at}
use Rattle.port_state.specs.Contention.{contend_at}
use Rattle.port_state.specs.SelfIdentify.{may_name, granted_row}
use Rattle.self_id.specs.Group.{node_count}
use Rattle.port_state.specs.Group.{own_group}
use Rattle.port_state.specs.Row as row
use Rattle.port_state.specs.Row.{Row}
use Rattle.port_state.specs.Tick.{raise_timer, row_of, does, next_row, tick}
use Rattle.port_state.specs.Valid.{HasNoRoles, HasRoles, FitsPhase, IsValid}
use Rattle.port_state.proofs.Lemmas.{valid-raise_timer, sound-tick, tick-cables, on_every-port, notices-port, packets-port, map-port, changed-port, sent_on-append, port_is-changed, decided_few, left_is}
use Rattle.cable_world.specs.Signals.{is_reset, has_reset, shows_no_notice, has_no_notice, is_no_notice, is_parent_signal, has_no_parent_signal, has_no_takeback}
use Rattle.cable_world.specs.Phases.{is_before_tree, is_after_hold, is_in_bus_reset, is_shaking, is_contending, is_timed}
use Rattle.cable_world.specs.Agreement.{shown_or_idle, level_shown, leads_down}
use Rattle.cable_world.specs.Coupling.{is_asking}
use Rattle.cable_world.proofs.levels.LastSent.{tick-says, choose, only, child-if, no-child, turned, as_child, roles-at}
use Rattle.cable_world.proofs.levels.LastHeard.{shown-same, tick-shows}
use Rattle.cable_world.proofs.turns.NodeFacts.{risen, TicksWell}
use Rattle.cable_world.proofs.coupling.Streams.{has_reset-append, has_no_parent_signal-append}

-- ---- why a row applies

-- what is known where a row does
abbrev pub Chosen : Row → NodeState → Type 0
Chosen row.none x = Unit {0}
Chosen row.ends_reset x = (x.view.phase ≡ ResetStart) × (x.timing.hold ≤ x.view.timer)
Chosen row.begins_tree x = (x.view.phase ≡ ResetWait) × (every (λ p. is_calm p.shown) x.view.ports ≡ true)
Chosen row.takes_roles x = (x.view.phase ≡ TreeStart) × (is_decided x ≡ true)
Chosen row.times_out x = Unit {0}
Chosen row.awaits_parent x = x.view.phase ≡ ChildShake
Chosen row.becomes_root x = (x.view.phase ≡ ParentShake) × (x.view.parent ≡ None)
Chosen (row.finds_parent p) x = (x.view.phase ≡ ParentShake) × (x.view.parent ≡ Some p) × (port_is (λ q. is_child q.shown) x.view.ports p ≡ true)
Chosen (row.begins_contention p) x = (x.view.phase ≡ ParentShake) × (x.view.parent ≡ Some p) × (port_is (λ q. is_parent q.shown) x.view.ports p ≡ true)
Chosen (row.takes_rival p) x = (x.view.phase ≡ Contend) × (x.view.parent ≡ Some p) × (port_is (λ q. is_parent q.shown) x.view.ports p ≡ true) × (x.view.wait ≤ x.view.timer)
Chosen (row.asks_again p) x = (x.view.phase ≡ Contend) × (x.view.parent ≡ Some p) × (port_is (λ q. is_parent q.shown) x.view.ports p ≡ false) × (x.view.wait ≤ x.view.timer)
Chosen (row.asks_child p) x = x.view.phase ≡ SelfIdent
Chosen row.names_itself x = x.view.phase ≡ SelfIdent

shakes :
    (o : Option ℕ) (x : NodeState) → x.view.phase ≡ ParentShake → x.view.parent ≡ o →
    Chosen (parent_shake_at o x) x
shakes None x e f = (e, f)
shakes (Some p) x e f =
    choose (λ r. Chosen r x) (port_is (λ q. is_child q.shown) x.view.ports p) (row.finds_parent p) _ (λ h. (e, f, h))
    (λ _. choose (λ r. Chosen r x) (port_is (λ q. is_parent q.shown) x.view.ports p) (row.begins_contention p) row.none (λ h. (e, f, h)) (λ _. tt))

contends :
    (o : Option ℕ) (x : NodeState) → x.view.phase ≡ Contend → x.view.parent ≡ o →
    x.view.wait ≤ x.view.timer → Chosen (contend_at o x) x
contends None x e f w = tt
contends (Some p) x e f w =
    choose (λ r. Chosen r x) (port_is (λ q. is_parent q.shown) x.view.ports p) (row.takes_rival p) (row.asks_again p) (λ h. (e, f, h, w)) (λ h. (e, f, h, w))

granted : (o : Option ℕ) (x : NodeState) → x.view.phase ≡ SelfIdent → Chosen (granted_row o x) x
granted None x e = choose (λ r. Chosen r x) (may_name x) row.names_itself row.none (λ _. e) (λ _. tt)
granted (Some p) x e = choose (λ r. Chosen r x) (port_is (λ q. q.asked) x.view.ports p) row.none (row.asks_child p) (λ _. tt) (λ _. e)

pub chosen : (f : Phase) (x : NodeState) → x.view.phase ≡ f → Chosen (row_of f x) x
chosen ResetStart x e = choose (λ r. Chosen r x) (nat_le x.timing.hold x.view.timer) row.ends_reset row.none (λ h. (e, leb-true _ _ h)) (λ _. tt)
chosen ResetWait x e = choose (λ r. Chosen r x) (every (λ p. is_calm p.shown) x.view.ports) row.begins_tree row.none (λ h. (e, h)) (λ _. tt)
chosen TreeStart x e =
    choose (λ r. Chosen r x) (is_decided x) row.takes_roles _ (λ h. (e, h))
    (λ _. choose (λ r. Chosen r x) (nat_le x.timing.timeout x.view.timer) row.times_out row.none (λ _. tt) (λ _. tt))
chosen ChildShake x e = choose (λ r. Chosen r x) (every (λ p. if p.child then is_idle p.shown else true) x.view.ports) row.awaits_parent row.none (λ _. e) (λ _. tt)
chosen ParentShake x e = shakes x.view.parent x e refl
chosen Contend x e = choose (λ r. Chosen r x) (nat_le x.view.wait x.view.timer) (contend_at x.view.parent x) row.none (λ h. contends x.view.parent x e refl (leb-true _ _ h)) (λ _. tt)
chosen SelfIdent x e = choose (λ r. Chosen r x) x.view.granted (granted_row (lowest is_unnamed x.view.ports) x) row.none (λ _. granted (lowest is_unnamed x.view.ports) x e) (λ _. tt)
chosen Ready x e = tt

-- a phase that doesn't pass a test isn't one that does
pub elsewhere : (test : Phase → Bool) {f g : Phase} → f ≡ g → test g ≡ false → test f ≡ true → ⊥
elsewhere test e out in_it = true≢false (sym in_it ∙ ap test e ∙ out)

-- ---- what a port shows

pub is-parent : (l : Level) → is_parent l ≡ true → l ≡ level.Parent
is-parent level.Parent h = refl
is-parent l h = absurd (true≢false (sym h))

pub is-child : (l : Level) → is_child l ≡ true → l ≡ level.Child
is-child level.Child h = refl
is-child l h = absurd (true≢false (sym h))

-- the parent port shows the level that was looked for
at-port :
    (test : Level → Bool) (l : Level) → ((m : Level) → test m ≡ true → m ≡ l) →
    (x : NodeState) (p k : ℕ) → x.view.parent ≡ Some p →
    port_is (λ q. test q.shown) x.view.ports p ≡ true → is_port x.view.parent k ≡ true →
    level_shown x k ≡ l
at-port test l only-one x p k f h i = subst (λ j. level_shown x j ≡ l) (eqb-true p k (subst (λ o. is_port o k ≡ true) f i)) (go (slice_get x.view.ports p) h)
  where
    go : (o : Option PortView) → passes (λ q. test q.shown) o ≡ true → shown_or_idle o ≡ l
    go None e = absurd (true≢false (sym e))
    go (Some q) e = only-one q.shown e

-- a test that every connected port passes
every-at :
    (test : PortView → Bool) (ports : List PortView) (k : ℕ) → every test ports ≡ true →
    is_connected ports k ≡ true → port_is test ports k ≡ true
every-at test [] k e c = absurd (true≢false (sym c))
every-at test (p ∷ ps) zero e c = go p.connected c (and_parts _ _ e).0
  where
    go : (b : Bool) → b ≡ true → (if b then test p else true) ≡ true → test p ≡ true
    go true e h = h
    go false e h = absurd (true≢false (sym e))
every-at test (p ∷ ps) (suc k) e c = every-at test ps k (and_parts _ _ e).1 c

calm-at :
    (x : NodeState) (k : ℕ) → every (λ p. is_calm p.shown) x.view.ports ≡ true →
    is_connected x.view.ports k ≡ true → level_shown x k ≡ level.Reset → ⊥
calm-at x k e c s = go (slice_get x.view.ports k) (every-at (λ p. is_calm p.shown) x.view.ports k e c) s
  where
    go :
        (o : Option PortView) → passes (λ p. is_calm p.shown) o ≡ true →
        shown_or_idle o ≡ level.Reset → ⊥
    go None h s = true≢false (sym h)
    go (Some p) h s = true≢false (sym h ∙ ap is_calm s)

-- ---- phases

-- no tick begins a reset
leaves-out :
    (coin : Bool) (r : Row) (x : NodeState) → is_resetting x.view.phase ≡ false →
    is_resetting (does coin r x).state.view.phase ≡ false
leaves-out coin row.none x h = h
leaves-out coin row.times_out x h = h
leaves-out coin (row.asks_child p) x h = h
leaves-out coin r x h = refl

-- in R0, before the hold is over
holds-on :
    (coin : Bool) (r : Row) (x : NodeState) → Chosen r x → is_resetting x.view.phase ≡ true →
    x.view.timer < x.timing.hold →
    (is_resetting (does coin r x).state.view.phase ≡ true)
    × ((does coin r x).state.view.timer ≡ x.view.timer) × ((does coin r x).sends ≡ [])
holds-on coin row.none x c h t = (h, refl, refl)
holds-on coin row.ends_reset x c h t = absurd (omega (arith, c.1, t))
holds-on coin row.begins_tree x c h t = absurd (elsewhere is_resetting c.0 refl h)
holds-on coin row.takes_roles x c h t = absurd (elsewhere is_resetting c.0 refl h)
holds-on coin row.times_out x c h t = (h, refl, refl)
holds-on coin row.awaits_parent x c h t = absurd (elsewhere is_resetting c refl h)
holds-on coin row.becomes_root x c h t = absurd (elsewhere is_resetting c.0 refl h)
holds-on coin (row.finds_parent p) x c h t = absurd (elsewhere is_resetting c.0 refl h)
holds-on coin (row.begins_contention p) x c h t = absurd (elsewhere is_resetting c.0 refl h)
holds-on coin (row.takes_rival p) x c h t = absurd (elsewhere is_resetting c.0 refl h)
holds-on coin (row.asks_again p) x c h t = absurd (elsewhere is_resetting c.0 refl h)
holds-on coin (row.asks_child p) x c h t = absurd (elsewhere is_resetting c refl h)
holds-on coin row.names_itself x c h t = absurd (elsewhere is_resetting c refl h)

-- where the timer tells afterwards, nothing was sent, or it begins anew
times :
    (coin : Bool) (r : Row) (x : NodeState) → Chosen r x →
    is_timed (does coin r x).state.view.phase ≡ true →
    (((does coin r x).state.view.phase ≡ x.view.phase) × ((does coin r x).state.view.timer ≤ x.view.timer) × ((does coin r x).sends ≡ []))
    ⊎ ((does coin r x).state.view.timer ≡ 0)
times coin row.none x c h = inl (refl, le_refl _, refl)
times coin row.ends_reset x c h = inr refl
times coin row.begins_tree x c h = inr refl
times coin row.times_out x c h = inl (refl, le_refl _, refl)
times coin (row.begins_contention p) x c h = inr refl
times coin (row.asks_child p) x c h = absurd (elsewhere is_timed c refl h)
times coin r x c h = absurd (true≢false (sym h))

-- R1 begins where the hold is over
comes-between :
    (coin : Bool) (r : Row) (x : NodeState) → Chosen r x →
    is_after_hold (does coin r x).state.view.phase ≡ true →
    (is_after_hold x.view.phase ≡ true)
    ⊎ ((is_resetting x.view.phase ≡ true) × (x.timing.hold ≤ x.view.timer))
comes-between coin row.none x c h = inl h
comes-between coin row.ends_reset x c h = inr (ap is_resetting c.0, c.1)
comes-between coin row.begins_tree x c h = inl (ap is_after_hold c.0)
comes-between coin row.times_out x c h = inl h
comes-between coin (row.asks_child p) x c h = inl h
comes-between coin r x c h = absurd (true≢false (sym h))

-- R1 ends where no port shows Reset
waits-on :
    (coin : Bool) (r : Row) (x : NodeState) (k : ℕ) → Chosen r x →
    is_connected x.view.ports k ≡ true → level_shown x k ≡ level.Reset →
    is_in_bus_reset x.view.phase ≡ true → is_in_bus_reset (does coin r x).state.view.phase ≡ true
waits-on coin row.none x k c on s w = w
waits-on coin row.ends_reset x k c on s w = refl
waits-on coin row.begins_tree x k c on s w = absurd (calm-at x k c.1 on s)
waits-on coin row.takes_roles x k c on s w = absurd (elsewhere is_in_bus_reset c.0 refl w)
waits-on coin row.times_out x k c on s w = w
waits-on coin row.awaits_parent x k c on s w = absurd (elsewhere is_in_bus_reset c refl w)
waits-on coin row.becomes_root x k c on s w = absurd (elsewhere is_in_bus_reset c.0 refl w)
waits-on coin (row.finds_parent p) x k c on s w = absurd (elsewhere is_in_bus_reset c.0 refl w)
waits-on coin (row.begins_contention p) x k c on s w = absurd (elsewhere is_in_bus_reset c.0 refl w)
waits-on coin (row.takes_rival p) x k c on s w = absurd (elsewhere is_in_bus_reset c.0 refl w)
waits-on coin (row.asks_again p) x k c on s w = absurd (elsewhere is_in_bus_reset c.0 refl w)
waits-on coin (row.asks_child p) x k c on s w = w
waits-on coin row.names_itself x k c on s w = absurd (elsewhere is_in_bus_reset c refl w)

-- a contention goes on, or begins
contends-on :
    (coin : Bool) (r : Row) (x : NodeState) → (does coin r x).state.view.phase ≡ Contend →
    ((x.view.phase ≡ Contend) × ((does coin r x).state.view.parent ≡ x.view.parent) × ((does coin r x).state.view.timer ≤ x.view.timer) × ((does coin r x).state.view.wait ≡ x.view.wait))
    ⊎ (((does coin r x).state.view.timer ≡ 0) × (((does coin r x).state.view.wait ≡ x.timing.short) ⊎ ((does coin r x).state.view.wait ≡ x.timing.long)))
contends-on coin row.none x h = inl (h, refl, le_refl _, refl)
contends-on coin row.times_out x h = inl (h, refl, le_refl _, refl)
contends-on coin (row.begins_contention p) x h = inr (refl, drawn coin)
  where
    drawn :
        (b : Bool) →
        ((if b then x.timing.long else x.timing.short) ≡ x.timing.short)
        ⊎ ((if b then x.timing.long else x.timing.short) ≡ x.timing.long)
    drawn true = inr refl
    drawn false = inl refl
contends-on coin (row.asks_child p) x h = inl (h, refl, le_refl _, refl)
contends-on coin r x h = absurd (elsewhere is_contending (sym h) refl refl)

-- ---- parent ports and child ports

has-roles :
    (x : NodeState) (p : ℕ) → IsValid x → x.view.phase ≡ Contend → x.view.parent ≡ Some p →
    HasRoles (Some p) x.view.ports
has-roles x p v e f =
    let fit : HasRoles x.view.parent x.view.ports × IsSome x.view.parent = subst (λ ph. FitsPhase ph x.view.parent x.view.ports) e v.fits in
    roles-at x (Some p) f fit.0

no-roles :
    (x : NodeState) → IsValid x → x.view.phase ≡ TreeStart → HasNoRoles x.view.parent x.view.ports
no-roles x v e = subst (λ ph. FitsPhase ph x.view.parent x.view.ports) e v.fits

-- the one port that is left is the parent port
left-at :
    (x : NodeState) (k : ℕ) → is_decided x ≡ true → is_connected x.view.ports k ≡ true →
    shows_no_notice (level_shown x k) ≡ true → is_port (lowest is_remaining x.view.ports) k ≡ true
left-at x k d c l = go (slice_get x.view.ports k) refl c l
  where
    left :
        (b : Bool) (l : Level) → b ≡ true → shows_no_notice l ≡ true →
        (b && not (is_parent l)) ≡ true
    left b level.Reset e h = rw e refl
    left b level.Idle e h = rw e refl
    left b level.Parent e h = absurd (true≢false (sym h))
    left b level.Child e h = absurd (true≢false (sym h))

    go :
        (o : Option PortView) → slice_get x.view.ports k ≡ o → passes (λ p. p.connected) o ≡ true →
        shows_no_notice (shown_or_idle o) ≡ true →
        is_port (lowest is_remaining x.view.ports) k ≡ true
    go None at c l = absurd (true≢false (sym c))
    go (Some p) at c l =
        let same : 0 + k ≡ k = omega arith in
        subst (λ j. is_port (lowest is_remaining x.view.ports) j ≡ is_remaining p) same (left_is 0 x.view.ports (decided_few x d) k p at) ∙ left p.connected p.shown c l

-- before the tree, or asking on this port, if this is the phase
abbrev early_in : Phase → NodeState → ℕ → Bool
early_in f x k = is_before_tree f || (is_shaking f && is_port x.view.parent k)

-- a node that is early stays so, where it is shown Reset or Idle alone
asks-early :
    (coin : Bool) (r : Row) (x : NodeState) (k : ℕ) → Chosen r x →
    is_connected x.view.ports k ≡ true → shows_no_notice (level_shown x k) ≡ true →
    (is_before_tree x.view.phase || is_asking x k) ≡ true →
    (is_before_tree (does coin r x).state.view.phase || is_asking (does coin r x).state k) ≡ true
asks-early coin row.none x k c on l h = h
asks-early coin row.ends_reset x k c on l h = refl
asks-early coin row.begins_tree x k c on l h = refl
asks-early coin row.takes_roles x k c on l h = left-at x k c.1 on l
asks-early coin row.times_out x k c on l h = h
asks-early coin row.awaits_parent x k c on l h = subst (λ f. early_in f x k ≡ true) c h
asks-early coin row.becomes_root x k c on l h =
    let asking : is_port x.view.parent k ≡ true = subst (λ f. early_in f x k ≡ true) c.0 h in
    absurd (true≢false (sym asking ∙ ap (λ o. is_port o k) c.1))
asks-early coin (row.finds_parent p) x k c on l h =
    let asking : is_port x.view.parent k ≡ true = subst (λ f. early_in f x k ≡ true) c.0 h in
    absurd (true≢false (sym l ∙ ap shows_no_notice (at-port is_child level.Child is-child x p k c.1 c.2 asking)))
asks-early coin (row.begins_contention p) x k c on l h =
    let asking : is_port x.view.parent k ≡ true = subst (λ f. early_in f x k ≡ true) c.0 h in
    absurd (true≢false (sym l ∙ ap shows_no_notice (at-port is_parent level.Parent is-parent x p k c.1 c.2 asking)))
asks-early coin (row.takes_rival p) x k c on l h = absurd (true≢false (sym h ∙ ap (λ f. early_in f x k) c.0))
asks-early coin (row.asks_again p) x k c on l h = absurd (true≢false (sym h ∙ ap (λ f. early_in f x k) c.0))
asks-early coin (row.asks_child p) x k c on l h = absurd (true≢false (sym h ∙ ap (λ f. early_in f x k) c))
asks-early coin row.names_itself x k c on l h = absurd (true≢false (sym h ∙ ap (λ f. early_in f x k) c))

-- a parent port that shows no Parent stays the parent port
stays-parent :
    (coin : Bool) (r : Row) (x : NodeState) (k : ℕ) → IsValid x → Chosen r x →
    is_port x.view.parent k ≡ true → is_parent (level_shown x k) ≡ false →
    is_port (does coin r x).state.view.parent k ≡ true
stays-parent coin row.takes_roles x k v c h s = absurd (true≢false (sym h ∙ ap (λ o. is_port o k) (no-roles x v c.0).1))
stays-parent coin (row.takes_rival p) x k v c h s = absurd (true≢false (sym (ap is_parent (at-port is_parent level.Parent is-parent x p k c.1 c.2 h)) ∙ s))
stays-parent coin r x k v c h s = h

-- a port that takes the role of a child shows Parent
asks-of :
    (o : Option PortView) → passes (λ p. p.child) (option_map adopt o) ≡ true →
    passes (λ p. p.child) o ≡ false → passes asks o ≡ true
asks-of None h n = h
asks-of (Some p) h n = go (asks p) h
  where
    go : (b : Bool) → (if b then record p { child = true } else p).child ≡ true → b ≡ true
    go true e = refl
    go false e = absurd (true≢false (sym e ∙ n))

asks-at :
    (x : NodeState) (k : ℕ) → IsValid x → x.view.phase ≡ TreeStart →
    leads_down (map adopt x.view.ports) k ≡ true → port_is asks x.view.ports k ≡ true
asks-at x k v e h = asks-of (slice_get x.view.ports k) (sym (ap (passes (λ p. p.child)) (map-port k adopt x.view.ports)) ∙ h) (no-child x.view.parent x.view.ports k (no-roles x v e))

asks-shows : (o : Option PortView) → passes asks o ≡ true → shown_or_idle o ≡ level.Parent
asks-shows None h = absurd (true≢false (sym h))
asks-shows (Some p) h = is-parent p.shown (and_parts _ _ h).1

-- how a port becomes a child port
abbrev Adopts : NodeState → ℕ → Type 0
Adopts x k =
    (leads_down x.view.ports k ≡ true) ⊎ (((x.view.phase ≡ TreeStart) × (level_shown x k ≡ level.Parent)) ⊎
    ((x.view.phase ≡ Contend) × (x.view.parent ≡ Some k) × (level_shown x k ≡ level.Parent) × (x.view.wait ≤ x.view.timer)))

takes-rival :
    (x : NodeState) (p k : ℕ) → Chosen (row.takes_rival p) x →
    leads_down (change_port p as_child x.view.ports) k ≡ true → Adopts x k
takes-rival x p k c h = go (k == p) refl (sym (ap (passes (λ q. q.child)) (changed-port p k as_child x.view.ports)) ∙ h)
  where
    go :
        (b : Bool) → (k == p) ≡ b →
        passes (λ q. q.child) (if b then option_map as_child (slice_get x.view.ports k) else slice_get x.view.ports k)
        ≡ true →
        Adopts x k
    go true e h =
        let same : (p == k) ≡ true = sym (turned p k) ∙ e in
        let parent : x.view.parent ≡ Some k = c.1 ∙ ap Some (eqb-true p k same) in
        inr (inr (c.0, parent, at-port is_parent level.Parent is-parent x p k c.1 c.2 (ap (λ o. is_port o k) c.1 ∙ same), c.3))
    go false e h = inl h

adopts :
    (coin : Bool) (r : Row) (x : NodeState) (k : ℕ) → IsValid x → Chosen r x →
    leads_down (does coin r x).state.view.ports k ≡ true → Adopts x k
adopts coin row.takes_roles x k v c h = inr (inl (c.0, asks-shows (slice_get x.view.ports k) (asks-at x k v c.0 h)))
adopts coin (row.takes_rival p) x k v c h = takes-rival x p k c h
adopts coin (row.asks_child p) x k v c h = inl (sym (port_is-changed (λ q. q.child) p (λ q. record q { asked = true }) (λ q. refl) x.view.ports k) ∙ h)
adopts coin r x k v c h = inl h

-- ---- what is sent on a port

-- neither a Reset nor a Parent
abbrev Plain : List Signal → Type 0
Plain ss = (has_reset ss ≡ false) × (has_no_parent_signal ss ≡ true)

plain-append : (xs ys : List Signal) → Plain xs → Plain ys → Plain (xs ++ ys)
plain-append xs ys h g = (has_reset-append xs ys ∙ or_from _ _ h.0 g.0, has_no_parent_signal-append xs ys ∙ and_from _ _ h.1 g.1)

plain-packets : (b : Bool) (quads : List ℕ) → Plain (if b then map packet quads else [])
plain-packets true [] = (refl, refl)
plain-packets true (q ∷ qs) = plain-packets true qs
plain-packets false quads = (refl, refl)

plain-done : (k : ℕ) (o : Option ℕ) → Plain (sent_on k (on_port o signal.Done))
plain-done k None = (refl, refl)
plain-done k (Some p) = go (p == k)
  where
    go : (b : Bool) → Plain (only b signal.Done)
    go true = (refl, refl)
    go false = (refl, refl)

plain-names :
    (x : NodeState) (k : ℕ) (quads : List ℕ) →
    Plain (sent_on k (packets_on_every quads x.view.ports ++ on_port x.view.parent signal.Done))
plain-names x k quads =
    rw (sent_on-append k (packets_on_every quads x.view.ports) (on_port x.view.parent signal.Done), packets-port k quads x.view.ports)
    (plain-append (if is_connected x.view.ports k then map packet quads else []) (sent_on k (on_port x.view.parent signal.Done)) (plain-packets (is_connected x.view.ports k) quads) (plain-done k x.view.parent))

-- what is said on at most one port
one-calm : (b : Bool) (s : Signal) → is_reset s ≡ false → has_reset (only b s) ≡ false
one-calm true s h = rw h refl
one-calm false s h = refl

one-plain :
    (b : Bool) (s : Signal) → is_parent_signal s ≡ false → has_no_parent_signal (only b s) ≡ true
one-plain true s h = rw h refl
one-plain false s h = refl

one-low : (b : Bool) (s : Signal) → is_no_notice s ≡ true → has_no_notice (only b s) ≡ true
one-low true s h = rw h refl
one-low false s h = refl

one-batch :
    (b : Bool) (s : Signal) → (has_no_takeback (only b s) || has_no_parent_signal (only b s)) ≡ true
one-batch true signal.Reset = refl
one-batch true signal.Idle = refl
one-batch true signal.Parent = refl
one-batch true signal.Child = refl
one-batch true signal.Grant = refl
one-batch true (signal.Packet quad) = refl
one-batch true signal.Done = refl
one-batch false s = refl

abbrev noticed : Bool → Bool → List Signal
noticed a l = if a then signal.Child ∷ [] else (if l then signal.Parent ∷ [] else [])

notices-calm :
    (a l : Bool) →
    (has_reset (noticed a l) ≡ false)
    × ((has_no_takeback (noticed a l) || has_no_parent_signal (noticed a l)) ≡ true)
notices-calm true l = (refl, refl)
notices-calm false true = (refl, refl)
notices-calm false false = (refl, refl)

-- no tick sends a Reset
sends-calm :
    (coin : Bool) (r : Row) (x : NodeState) (k : ℕ) →
    has_reset (sent_on k (does coin r x).sends) ≡ false
sends-calm coin row.ends_reset x k = rw (on_every-port k signal.Idle x.view.ports) (one-calm (is_connected x.view.ports k) signal.Idle refl)
sends-calm coin row.takes_roles x k = rw (notices-port k x.view.ports) (notices-calm (port_is asks x.view.ports k) (port_is is_remaining x.view.ports k)).0
sends-calm coin (row.finds_parent p) x k = one-calm (p == k) signal.Idle refl
sends-calm coin (row.begins_contention p) x k = one-calm (p == k) signal.Idle refl
sends-calm coin (row.takes_rival p) x k = one-calm (p == k) signal.Child refl
sends-calm coin (row.asks_again p) x k = one-calm (p == k) signal.Parent refl
sends-calm coin (row.asks_child p) x k = one-calm (p == k) signal.Grant refl
sends-calm coin row.names_itself x k = (plain-names x k (own_group x (node_count x.list.items))).0
sends-calm coin r x k = refl

-- before the tree nothing is sent but what is low
sends-low :
    (coin : Bool) (r : Row) (x : NodeState) (k : ℕ) →
    is_before_tree (does coin r x).state.view.phase ≡ true →
    has_no_notice (sent_on k (does coin r x).sends) ≡ true
sends-low coin row.none x k h = refl
sends-low coin row.ends_reset x k h = rw (on_every-port k signal.Idle x.view.ports) (one-low (is_connected x.view.ports k) signal.Idle refl)
sends-low coin row.begins_tree x k h = refl
sends-low coin row.times_out x k h = refl
sends-low coin (row.asks_child p) x k h = one-low (p == k) signal.Grant refl
sends-low coin r x k h = absurd (true≢false (sym h))

-- what is sent on a port at once takes no Parent back, or has none
sends-batch :
    (coin : Bool) (r : Row) (x : NodeState) (k : ℕ) →
    (has_no_takeback (sent_on k (does coin r x).sends) || has_no_parent_signal (sent_on k (does coin r x).sends))
    ≡ true
sends-batch coin row.ends_reset x k = rw (on_every-port k signal.Idle x.view.ports) (one-batch (is_connected x.view.ports k) signal.Idle)
sends-batch coin row.takes_roles x k = rw (notices-port k x.view.ports) (notices-calm (port_is asks x.view.ports k) (port_is is_remaining x.view.ports k)).1
sends-batch coin (row.finds_parent p) x k = one-batch (p == k) signal.Idle
sends-batch coin (row.begins_contention p) x k = one-batch (p == k) signal.Idle
sends-batch coin (row.takes_rival p) x k = one-batch (p == k) signal.Child
sends-batch coin (row.asks_again p) x k = one-batch (p == k) signal.Parent
sends-batch coin (row.asks_child p) x k = one-batch (p == k) signal.Grant
sends-batch coin row.names_itself x k = or_right _ _ (plain-names x k (own_group x (node_count x.list.items))).1
sends-batch coin r x k = refl

-- a child is asked for nothing
asks-no-child :
    (coin : Bool) (r : Row) (x : NodeState) (k : ℕ) → IsValid x → Chosen r x →
    is_connected x.view.ports k ≡ true → leads_down (does coin r x).state.view.ports k ≡ true →
    has_no_parent_signal (sent_on k (does coin r x).sends) ≡ true
asks-no-child coin row.ends_reset x k v c on h = rw (on_every-port k signal.Idle x.view.ports) (one-plain (is_connected x.view.ports k) signal.Idle refl)
asks-no-child coin row.takes_roles x k v c on h = rw (notices-port k x.view.ports, asks-at x k v c.0 h) refl
asks-no-child coin (row.finds_parent p) x k v c on h = one-plain (p == k) signal.Idle refl
asks-no-child coin (row.begins_contention p) x k v c on h = one-plain (p == k) signal.Idle refl
asks-no-child coin (row.takes_rival p) x k v c on h = one-plain (p == k) signal.Child refl
asks-no-child coin (row.asks_again p) x k v c on h = go (p == k) (sym (child-if (Some p) x.view.ports k (has-roles x p v c.0 c.1) on) ∙ h)
  where
    go : (b : Bool) → not b ≡ true → has_no_parent_signal (only b signal.Parent) ≡ true
    go true h = absurd (true≢false (sym h))
    go false h = refl
asks-no-child coin (row.asks_child p) x k v c on h = one-plain (p == k) signal.Grant refl
asks-no-child coin row.names_itself x k v c on h = (plain-names x k (own_group x (node_count x.list.items))).1
asks-no-child coin r x k v c on h = refl

-- a node that asks its parent, and is shown Idle, goes on asking
asks-on :
    (coin : Bool) (r : Row) (x : NodeState) (k : ℕ) → Chosen r x → is_shaking x.view.phase ≡ true →
    is_port x.view.parent k ≡ true → level_shown x k ≡ level.Idle →
    has_no_takeback (sent_on k (does coin r x).sends) ≡ true
asks-on coin row.ends_reset x k c sh i s = absurd (elsewhere is_shaking c.0 refl sh)
asks-on coin row.takes_roles x k c sh i s = absurd (elsewhere is_shaking c.0 refl sh)
asks-on coin (row.finds_parent p) x k c sh i s = absurd (true≢false (sym (ap is_child (at-port is_child level.Child is-child x p k c.1 c.2 i)) ∙ ap is_child s))
asks-on coin (row.begins_contention p) x k c sh i s = absurd (true≢false (sym (ap is_parent (at-port is_parent level.Parent is-parent x p k c.1 c.2 i)) ∙ ap is_parent s))
asks-on coin (row.takes_rival p) x k c sh i s = absurd (elsewhere is_shaking c.0 refl sh)
asks-on coin (row.asks_again p) x k c sh i s = absurd (elsewhere is_shaking c.0 refl sh)
asks-on coin (row.asks_child p) x k c sh i s = absurd (elsewhere is_shaking c refl sh)
asks-on coin row.names_itself x k c sh i s = absurd (elsewhere is_shaking c refl sh)
asks-on coin r x k c sh i s = refl

-- ---- a tick

-- below the hold the timer isn't at its greatest value
risen-below : (t hold : ℕ) → t + 1 < hold → hold ≤ 65535 → risen t ≡ t + 1
risen-below t hold h l = omega (arith, h, l)

risen-grows : (t s : ℕ) → s ≤ risen t → s ≤ t + 1
risen-grows t s h = grind arith

at_most : (t : ℕ) {A B C : Type 0} (s : ℕ) → (A × (s ≤ risen t) × B) ⊎ C → (A × (s ≤ t + 1) × B) ⊎ C
at_most t s (inl a) = inl (a.0, risen-grows t s a.1, a.2)
at_most t s (inr c) = inr c

goes_on :
    (t : ℕ) {A B C D : Type 0} (s : ℕ) → (A × B × (s ≤ risen t) × C) ⊎ D →
    (A × B × (s ≤ t + 1) × C) ⊎ D
goes_on t s (inl a) = inl (a.0, a.1, risen-grows t s a.2, a.3)
goes_on t s (inr d) = inr d

ticked-well : (coin : Bool) (x : NodeState) → IsValid x → TicksWell (Some coin) x
unfolding tick
ticked-well coin x v =
    let y : NodeState = raise_timer x in
    let r : Row = next_row x in
    let w : IsValid y = valid-raise_timer x v in
    let c : Chosen r y = chosen x.view.phase y refl in
    let sound = sound-tick coin x v in
    record {
      valid = sound.valid;
      timing = sound.timing;
      cables = tick-cables coin x;
      shown = λ k. shown-same (tick coin x).state x k (tick-shows coin x k);
      says = tick-says coin x v;
      out = leaves-out coin r y;
      calm = sends-calm coin r y;
      holds = λ h below least.
          let rises = risen-below x.view.timer x.timing.hold below least in
          let held = holds-on coin r y c h (subst (λ t. t < x.timing.hold) (sym rises) below) in
          (held.0, omega (arith, held.1, rises), omega (arith, held.1, rises), held.2);
      rises = λ h below least.
          let up = risen-below x.view.timer x.timing.hold below least in
          inr ((holds-on coin r y c h (subst (λ t. t < x.timing.hold) (sym up) below)).1 ∙ up);
      timed = λ t. at_most x.view.timer _ (times coin r y c t);
      between = comes-between coin r y c;
      watches = λ k on before s. waits-on coin r y k c on s (before s);
      early = λ k on l h. asks-early coin r y k c on l h;
      no_notice = λ k on h. sends-low coin r y k h;
      parent = λ k h s. stays-parent coin r y k w c h s;
      asks_no_child = λ k on h. asks-no-child coin r y k w c on h;
      child = λ k on h. adopts coin r y k w c h;
      contend = λ e. goes_on x.view.timer _ (contends-on coin r y e);
      batch = λ k on. sends-batch coin r y k;
      asks = λ k on sh i s. asks-on coin r y k c sh i s;
    }

-- a turn that is missed changes nothing
missed-well : (x : NodeState) → IsValid x → TicksWell None x
missed-well x v = record {
  valid = v;
  timing = refl;
  cables = λ k. refl;
  shown = λ k. refl;
  says = λ k on. refl;
  out = λ h. h;
  calm = λ k. refl;
  holds = λ h below least. (h, omega arith, omega arith, refl);
  rises = λ h below least. inl refl;
  timed = λ t. inl (refl, omega arith, refl);
  between = λ m. inl m;
  watches = λ k on before s. before s;
  early = λ k on l h. h;
  no_notice = λ k on h. refl;
  parent = λ k h s. h;
  asks_no_child = λ k on h. refl;
  child = λ k on h. inl h;
  contend = λ e. inl (e, refl, omega arith, refl);
  batch = λ k on. refl;
  asks = λ k on sh i s. refl;
}

pub ticks-well : (b : Option Bool) (x : NodeState) → IsValid x → TicksWell b x
ticks-well None x v = missed-well x v
ticks-well (Some coin) x v = ticked-well coin x v
