-- How long a node rests is right: the rows of so many ticks change nothing, and the next one's does.
use Rattle.std.proofs.Common.{◌≡◌, ℕ, zero, suc, ◌+◌, ◌-◌, ◌<◌, ◌≤◌, Bool, true, false, not, ◌&&◌, ◌||◌, ◌==◌, min, Option, Some, None, refl, sym, ◌∙◌, ap, subst, inl, inr, arith, count_by, slice_get, if◌then◌else◌}
use Rattle.std.specs.Prelude.{nat_le, nat_lt, ◌⊎◌}
use Rattle.std.proofs.lemmas.Bool.{leb-true, leb-false, ltb-true, ltb-false, lt-ltb, le-ltb, cases_lt}
use Rattle.port_state.specs.declared.signal.Level.{Level}
use Rattle.port_state.specs.declared.signal.Level.TheVariants as level
use Rattle.port_state.specs.declared.signal.Phase.{Phase}
use Rattle.port_state.specs.declared.signal.Phase.TheVariants.{ResetStart, ResetWait, TreeStart, ChildShake, ParentShake, Contend, SelfIdent, Ready}
use Rattle.port_state.specs.declared.ports.PortView.{PortView}
use Rattle.port_state.specs.declared.states.NodeState.{NodeState}
use Rattle.port_state.specs.Ports.{asks, is_child, is_parent, is_idle, is_unnamed, connected_count, every, lowest, passes, port_is}
use Rattle.port_state.specs.Resetting.{is_calm}
use Rattle.port_state.specs.TreeIdentify.{is_decided, parent_shake_at}
use Rattle.port_state.specs.Contention.{contend_at}
use Rattle.port_state.specs.SelfIdentify.{may_name, granted_row}
use Rattle.port_state.specs.Row as row
use Rattle.port_state.specs.Row.{Row}
use Rattle.port_state.specs.Tick.{raise_timer, row_of}
use Rattle.port_state.specs.Clock.{even}
use Rattle.port_state.specs.Machine.{PortNode}
use Rattle.port_state.specs.Idle.{changes_nothing, rests, with_later_timer, after_ticks, IsIdleTick, IsIdleFor}
use Rattle.port_state.proofs.Lemmas.{idle_ticks-rest, after-idle_ticks}
use Rattle.port_state.specs.Coins.{Coins}
use Rattle.phy_machine.specs.Node.{node_of}
use Rattle.phy_machine.specs.codings.IdleTime.{HasTimes, RestsFor, StirsAfter, look_ahead, ticks_before, idle_unless, until_timeout, until_roles, is_answer, until_answer, until_waited, until_done, idle_in}

-- ---- tests of numbers

-- the timer reaches a time at a later tick
reached :
    (time timer k : ℕ) → time ≤ 65535 →
    nat_le time (min (min (timer + k) 65535 + 1) 65535) ≡ not (nat_lt k (time - (timer + 1)))
reached time timer k h = go (nat_le time (min (min (timer + k) 65535 + 1) 65535)) refl (nat_lt k (time - (timer + 1))) refl
  where
    go :
        (a : Bool) → nat_le time (min (min (timer + k) 65535 + 1) 65535) ≡ a → (b : Bool) →
        nat_lt k (time - (timer + 1)) ≡ b → a ≡ not b
    go true e true f = let p = leb-true time (min (min (timer + k) 65535 + 1) 65535) e in let q = ltb-true k (time - (timer + 1)) f in absurd (omega arith)
    go true e false f = refl
    go false e true f = refl
    go false e false f = let p = leb-false time (min (min (timer + k) 65535 + 1) 65535) e in let q = ltb-false k (time - (timer + 1)) f in absurd (omega arith)

below-min : (k a b : ℕ) → nat_lt k (min a b) ≡ (nat_lt k a && nat_lt k b)
below-min k a b = go (nat_lt k (min a b)) refl (nat_lt k a) refl (nat_lt k b) refl
  where
    go :
        (c : Bool) → nat_lt k (min a b) ≡ c → (d : Bool) → nat_lt k a ≡ d → (e : Bool) →
        nat_lt k b ≡ e → c ≡ (d && e)
    go true f true g true h = refl
    go true f true g false h = let p = ltb-true k (min a b) f in let q = ltb-false k b h in absurd (omega arith)
    go true f false g e h = let p = ltb-true k (min a b) f in let q = ltb-false k a g in absurd (omega arith)
    go false f true g true h = let p = ltb-false k (min a b) f in let q = ltb-true k a g in let r = ltb-true k b h in absurd (omega arith)
    go false f true g false h = refl
    go false f false g e h = refl

below-zero : (k : ℕ) → nat_lt k 0 ≡ false
below-zero k = le-ltb k 0 (omega arith)

below-idle_unless : (k : ℕ) (b : Bool) → k < look_ahead → nat_lt k (idle_unless b) ≡ not b
below-idle_unless k true h = below-zero k
below-idle_unless k false h = lt-ltb k look_ahead h

not-not : (b : Bool) → not (not b) ≡ b
not-not true = refl
not-not false = refl

-- ---- rows

-- a row that applies where a test holds
idle-if :
    (b : Bool) (r : Row) (x : NodeState) → changes_nothing r x ≡ false →
    changes_nothing (if b then r else row.none) x ≡ not b
idle-if true r x e = e
idle-if false r x e = refl

-- a row that applies at a time
idle-at :
    (time k : ℕ) (r : Row) (x : NodeState) → time ≤ 65535 →
    changes_nothing r (with_later_timer k x) ≡ false →
    changes_nothing (if nat_le time (min (min (x.view.timer + k) 65535 + 1) 65535) then r else row.none) (with_later_timer k x)
    ≡ nat_lt k (ticks_before time x)
idle-at time k r x h e =
    idle-if (nat_le time (min (min (x.view.timer + k) 65535 + 1) 65535)) r (with_later_timer k x) e
    ∙ ap not (reached time x.view.timer k h) ∙ not-not (nat_lt k (ticks_before time x))

-- a row that applies where the ports let it
idle-idle_unless :
    (b : Bool) (k : ℕ) (r : Row) (x : NodeState) → k < look_ahead → changes_nothing r x ≡ false →
    changes_nothing (if b then r else row.none) x ≡ nat_lt k (idle_unless b)
idle-idle_unless b k r x h e = idle-if b r x e ∙ sym (below-idle_unless k b h)

-- ---- T0

abbrev later : ℕ → NodeState → NodeState
later k x = raise_timer (with_later_timer k x)

idle-roles :
    (a b f w : Bool) (force k : ℕ) → k < look_ahead → f ≡ not (nat_lt k force) →
    not (a || (b && (not w || f)))
    ≡ nat_lt k (if a then 0 else (if b then (if w then force else 0) else look_ahead))
idle-roles true b f w force k h e = sym (below-zero k)
idle-roles false false f w force k h e = sym (lt-ltb k look_ahead h)
idle-roles false true f false force k h e = sym (below-zero k)
idle-roles false true f true force k h e = ap not e ∙ not-not (nat_lt k force)

idle-timeout : (t told : Bool) (timeout k : ℕ) → k < look_ahead → t ≡ not (nat_lt k timeout)
    → (if t then told else true) ≡ nat_lt k (if told then look_ahead else timeout)
idle-timeout true true timeout k h e = sym (lt-ltb k look_ahead h)
idle-timeout false true timeout k h e = sym (lt-ltb k look_ahead h)
idle-timeout true false timeout k h e = ap not e ∙ not-not (nat_lt k timeout)
idle-timeout false false timeout k h e = ap not e ∙ not-not (nat_lt k timeout)

idle-choice :
    (d t : Bool) (y : NodeState) →
    changes_nothing (if d then row.takes_roles else (if t then row.times_out else row.none)) y
    ≡ (not d && (if t then y.view.timed_out else true))
idle-choice true t y = refl
idle-choice false true y = refl
idle-choice false false y = refl

idle-tree_start :
    (k : ℕ) (x : NodeState) → HasTimes x → k < look_ahead →
    changes_nothing (row_of TreeStart (later k x)) (with_later_timer k x)
    ≡ nat_lt k (idle_in TreeStart x)
idle-tree_start k x t h =
    let asking = count_by asks x.view.ports in
    let now = (later k x).view.timer in
    idle-choice (is_decided (later k x)) (nat_le x.timing.timeout now) (with_later_timer k x)
    ∙ ap (λ b. b && (if nat_le x.timing.timeout now then x.view.timed_out else true))
    (idle-roles (asking == connected_count x.view.ports) (asking + 1 == connected_count x.view.ports) (nat_le x.timing.force now) x.view.force (ticks_before x.timing.force x) k h (reached x.timing.force x.view.timer k t.force))
    ∙ ap (λ b. nat_lt k (until_roles x) && b) (idle-timeout (nat_le x.timing.timeout now) x.view.timed_out (ticks_before x.timing.timeout x) k h (reached x.timing.timeout x.view.timer k t.timeout))
    ∙ sym (below-min k (until_roles x) (until_timeout x))

-- ---- T2, T3 and self identify

idle-level :
    (l : Level) (parent : ℕ) (y : NodeState) →
    changes_nothing (if is_child l then row.finds_parent parent else (if is_parent l then row.begins_contention parent else row.none)) y
    ≡ not (is_answer l)
idle-level level.Reset parent y = refl
idle-level level.Idle parent y = refl
idle-level level.Parent parent y = refl
idle-level level.Child parent y = refl

idle-port :
    (o : Option PortView) (parent : ℕ) (y : NodeState) →
    changes_nothing (if passes (λ p. is_child p.shown) o then row.finds_parent parent else (if passes (λ p. is_parent p.shown) o then row.begins_contention parent else row.none)) y
    ≡ not (passes (λ p. is_answer p.shown) o)
idle-port None parent y = refl
idle-port (Some p) parent y = idle-level p.shown parent y

idle-parent_shake :
    (k : ℕ) (o : Option ℕ) (x : NodeState) → k < look_ahead →
    changes_nothing (parent_shake_at o (later k x)) (with_later_timer k x)
    ≡ nat_lt k (until_answer o x)
idle-parent_shake k None x h = sym (below-zero k)
idle-parent_shake k (Some parent) x h =
    idle-port (slice_get x.view.ports parent) parent (with_later_timer k x)
    ∙ sym (below-idle_unless k (port_is (λ p. is_answer p.shown) x.view.ports parent) h)

idle-contend :
    (k : ℕ) (o : Option ℕ) (x : NodeState) → HasTimes x → k < look_ahead →
    changes_nothing (if nat_le x.view.wait (later k x).view.timer then contend_at o (later k x) else row.none) (with_later_timer k x)
    ≡ nat_lt k (until_waited o x)
idle-contend k None x t h = go (nat_le x.view.wait (later k x).view.timer)
  where
    go :
        (b : Bool) →
        changes_nothing (if b then row.none else row.none) (with_later_timer k x)
        ≡ nat_lt k look_ahead
    go true = sym (lt-ltb k look_ahead h)
    go false = sym (lt-ltb k look_ahead h)
idle-contend k (Some rival) x t h =
    idle-at x.view.wait k (contend_at (Some rival) (later k x)) x t.wait (go (port_is (λ p. is_parent p.shown) x.view.ports rival))
  where
    go :
        (b : Bool) →
        changes_nothing (if b then row.takes_rival rival else row.asks_again rival) (with_later_timer k x)
        ≡ false
    go true = refl
    go false = refl

idle-granted : (k : ℕ) (o : Option ℕ) (x : NodeState) → k < look_ahead
    → changes_nothing (granted_row o (later k x)) (with_later_timer k x) ≡ nat_lt k (until_done o x)
idle-granted k None x h = idle-idle_unless (may_name x) k row.names_itself (with_later_timer k x) h refl
idle-granted k (Some port) x h =
    go (port_is (λ p. p.asked) x.view.ports port) ∙ sym (below-idle_unless k (not (port_is (λ p. p.asked) x.view.ports port)) h)
  where
    go :
        (b : Bool) →
        changes_nothing (if b then row.none else row.asks_child port) (with_later_timer k x)
        ≡ not (not b)
    go true = refl
    go false = refl

idle-self_ident :
    (k : ℕ) (g : Bool) (x : NodeState) → k < look_ahead →
    changes_nothing (if g then granted_row (lowest is_unnamed x.view.ports) (later k x) else row.none) (with_later_timer k x)
    ≡ nat_lt k (if g then until_done (lowest is_unnamed x.view.ports) x else look_ahead)
idle-self_ident k true x h = idle-granted k (lowest is_unnamed x.view.ports) x h
idle-self_ident k false x h = sym (lt-ltb k look_ahead h)

-- ---- each phase

idle-phase : (ph : Phase) (k : ℕ) (x : NodeState) → HasTimes x → k < look_ahead
    → changes_nothing (row_of ph (later k x)) (with_later_timer k x) ≡ nat_lt k (idle_in ph x)
idle-phase ResetStart k x t h = idle-at x.timing.hold k row.ends_reset x t.hold refl
idle-phase ResetWait k x t h = idle-idle_unless (every (λ p. is_calm p.shown) x.view.ports) k row.begins_tree (with_later_timer k x) h refl
idle-phase TreeStart k x t h = idle-tree_start k x t h
idle-phase ChildShake k x t h = idle-idle_unless (every (λ p. if p.child then is_idle p.shown else true) x.view.ports) k row.awaits_parent (with_later_timer k x) h refl
idle-phase ParentShake k x t h = idle-parent_shake k x.view.parent x h
idle-phase Contend k x t h = idle-contend k x.view.parent x t h
idle-phase SelfIdent k x t h = idle-self_ident k x.view.granted x h
idle-phase Ready k x t h = sym (lt-ltb k look_ahead h)

-- ---- the answer of a machine

idle_unless-few : (b : Bool) → idle_unless b ≤ look_ahead
idle_unless-few true = omega arith
idle_unless-few false = omega arith

choice-few :
    (b : Bool) (m n : ℕ) → m ≤ look_ahead → n ≤ look_ahead → (if b then m else n) ≤ look_ahead
choice-few true m n h k = h
choice-few false m n h k = k

idle_in-few : (ph : Phase) (x : NodeState) → HasTimes x → idle_in ph x ≤ look_ahead
idle_in-few ResetStart x t = omega (arith, t.hold)
idle_in-few ResetWait x t = idle_unless-few (every (λ p. is_calm p.shown) x.view.ports)
idle_in-few TreeStart x t =
    let few : until_timeout x ≤ look_ahead = choice-few x.view.timed_out look_ahead (ticks_before x.timing.timeout x) (omega arith) (omega (arith, t.timeout)) in
    omega (arith, few)
idle_in-few ChildShake x t = idle_unless-few (every (λ p. if p.child then is_idle p.shown else true) x.view.ports)
idle_in-few ParentShake x t = go x.view.parent
  where
    go : (o : Option ℕ) → until_answer o x ≤ look_ahead
    go None = omega arith
    go (Some parent) = idle_unless-few (port_is (λ p. is_answer p.shown) x.view.ports parent)
idle_in-few Contend x t = go x.view.parent
  where
    go : (o : Option ℕ) → until_waited o x ≤ look_ahead
    go None = omega arith
    go (Some rival) = omega (arith, t.wait)
idle_in-few SelfIdent x t = choice-few x.view.granted (until_done (lowest is_unnamed x.view.ports) x) look_ahead (go (lowest is_unnamed x.view.ports)) (omega arith)
  where
    go : (o : Option ℕ) → until_done o x ≤ look_ahead
    go None = idle_unless-few (may_name x)
    go (Some port) = idle_unless-few (not (port_is (λ p. p.asked) x.view.ports port))
idle_in-few Ready x t = omega arith

pub idle_in-most : (x : NodeState) → HasTimes x → idle_in x.view.phase x ≤ 4000000
idle_in-most x t = idle_in-few x.view.phase x t

pub rests-for : (x : NodeState) → HasTimes x → RestsFor (idle_in x.view.phase x) x
rests-for x t k h =
    idle-phase x.view.phase k x t (let few = idle_in-few x.view.phase x t in omega arith)
    ∙ lt-ltb k (idle_in x.view.phase x) h

pub stirs-after : (x : NodeState) → HasTimes x → StirsAfter (idle_in x.view.phase x) x
stirs-after x t h =
    let k = idle_in x.view.phase x in
    idle-phase x.view.phase k x t h ∙ le-ltb k k (omega arith)
