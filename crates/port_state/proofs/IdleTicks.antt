-- A tick is idle exactly where its row changes nothing, and then it raises the timer alone.
use Rattle.std.proofs.Common.{◌≡◌, ℕ, zero, suc, ◌+◌, ◌≤◌, Bool, true, false, [], min, Option, Some, None, refl, sym, ◌∙◌, ap, arith, if◌then◌else◌}
use Rattle.std.specs.Prelude.{◌↔◌, nat_le}
use Rattle.port_state.specs.declared.signal.Phase.{Phase}
use Rattle.port_state.specs.declared.signal.Phase.TheVariants.{ResetStart, ResetWait, TreeStart, ChildShake, ParentShake, Contend, SelfIdent, Ready}
use Rattle.port_state.specs.declared.states.NodeState.{NodeState}
use Rattle.port_state.specs.Ports.{is_idle, is_parent, is_child, is_unnamed, lowest, every, port_is}
use Rattle.port_state.specs.Step.{Step, silent_step}
use Rattle.port_state.specs.Resetting.{is_calm}
use Rattle.port_state.specs.TreeIdentify.{is_decided, parent_shake_at}
use Rattle.port_state.specs.Contention.{contend_at}
use Rattle.port_state.specs.SelfIdentify.{may_name, granted_row}
use Rattle.port_state.specs.Row as row
use Rattle.port_state.specs.Row.{Row}
use Rattle.port_state.specs.Tick.{raise_timer, row_of, does, next_row, row_draws_coin}
use Rattle.port_state.specs.Tick as step
use Rattle.port_state.specs.Names.{timer, without}
use Rattle.port_state.specs.Coins.{coin}
use Rattle.port_state.specs.Clock.{Clock, misses, clock_after, clock_on, ticks_in}
use Rattle.port_state.specs.Machine.{PortNode, beat, on_beat, node_tick}
use Rattle.port_state.specs.Idle.{IsIdleTick, IsIdleFor, after_ticks, changes_nothing, rests, with_later_timer}

-- ---- a row that changes nothing

does-nothing :
    (c : Bool) (r : Row) (x : NodeState) → changes_nothing r x ≡ true →
    does c r (raise_timer x) ≡ silent_step (raise_timer x)
does-nothing c row.none x e = refl
does-nothing c row.times_out x e = rw (sym e) refl
does-nothing c row.ends_reset x e = absurd cc
does-nothing c row.begins_tree x e = absurd cc
does-nothing c row.takes_roles x e = absurd cc
does-nothing c row.awaits_parent x e = absurd cc
does-nothing c row.becomes_root x e = absurd cc
does-nothing c (row.finds_parent parent) x e = absurd cc
does-nothing c (row.begins_contention parent) x e = absurd cc
does-nothing c (row.takes_rival rival) x e = absurd cc
does-nothing c (row.asks_again rival) x e = absurd cc
does-nothing c (row.asks_child port) x e = absurd cc
does-nothing c row.names_itself x e = absurd cc

draws-nothing : (r : Row) (x : NodeState) → changes_nothing r x ≡ true → row_draws_coin r ≡ false
draws-nothing row.none x e = refl
draws-nothing row.times_out x e = refl
draws-nothing row.ends_reset x e = refl
draws-nothing row.begins_tree x e = refl
draws-nothing row.takes_roles x e = refl
draws-nothing row.awaits_parent x e = refl
draws-nothing row.becomes_root x e = refl
draws-nothing (row.finds_parent parent) x e = refl
draws-nothing (row.begins_contention parent) x e = absurd cc
draws-nothing (row.takes_rival rival) x e = refl
draws-nothing (row.asks_again rival) x e = refl
draws-nothing (row.asks_child port) x e = refl
draws-nothing row.names_itself x e = refl

-- a tick of a node that rests
pub tick-rests :
    (n : PortNode) → misses n.clock ≡ false → rests n.state ≡ true →
    node_tick n
    ≡ record {
      node = record n { state = raise_timer n.state; clock = clock_after n.clock };
      sends = [];
    }
unfolding step.tick
tick-rests n c e = rw (c, draws-nothing (next_row n.state) n.state e, does-nothing (coin n.coins) (next_row n.state) n.state e) refl

idle-rests : (n : PortNode) → misses n.clock ≡ false → rests n.state ≡ true → IsIdleTick n
idle-rests n c e = record {
  sends = ap (λ s. s.sends) (tick-rests n c e);
  state = ap (λ s. without timer s.node.state) (tick-rests n c e);
  coins = ap (λ s. s.node.coins) (tick-rests n c e);
}

-- ---- a turn that the clock misses

turn-missed :
    (n : PortNode) → misses n.clock ≡ true →
    node_tick n ≡ record { node = record n { clock = clock_after n.clock }; sends = [] }
turn-missed n c = rw c refl

pub missed-idle : (n : PortNode) → misses n.clock ≡ true → IsIdleTick n
missed-idle n c = record {
  sends = ap (λ s. s.sends) (turn-missed n c);
  state = ap (λ s. without timer s.node.state) (turn-missed n c);
  coins = ap (λ s. s.node.coins) (turn-missed n c);
}

-- ---- any other row goes to another phase, sends something, or tells of a timeout

-- what of a step tells an idle tick from others
record LooksIdle (x : NodeState) (s : Step) : Type 0 where
  silent : s.sends ≡ []
  phase : s.state.view.phase ≡ x.view.phase
  timed_out : s.state.view.timed_out ≡ x.view.timed_out

stirs :
    (c : Bool) (ph : Phase) (x : NodeState) → x.view.phase ≡ ph →
    changes_nothing (row_of ph (raise_timer x)) x ≡ false →
    LooksIdle x (does c (row_of ph (raise_timer x)) (raise_timer x)) → ⊥
stirs c ResetStart x p e l = go (nat_le x.timing.hold (raise_timer x).view.timer) e l
  where
    go :
        (b : Bool) → let r = if b then row.ends_reset else row.none in changes_nothing r x ≡ false →
        LooksIdle x (does c r (raise_timer x)) → ⊥
    go true e l = let h = l.phase in cc
    go false e l = cc
stirs c ResetWait x p e l = go (every (λ q. is_calm q.shown) x.view.ports) e l
  where
    go :
        (b : Bool) →
        let r = if b then row.begins_tree else row.none in changes_nothing r x ≡ false →
        LooksIdle x (does c r (raise_timer x)) → ⊥
    go true e l = let h = l.phase in cc
    go false e l = cc
stirs c TreeStart x p e l = go (is_decided (raise_timer x)) (nat_le x.timing.timeout (raise_timer x).view.timer) e l
  where
    go :
        (a b : Bool) →
        let r = if a then row.takes_roles else (if b then row.times_out else row.none) in changes_nothing r x
        ≡ false →
        LooksIdle x (does c r (raise_timer x)) → ⊥
    go true b e l = let h = l.phase in cc
    go false true e l = let h = l.timed_out in cc
    go false false e l = cc
stirs c ChildShake x p e l = go (every (λ q. if q.child then is_idle q.shown else true) x.view.ports) e l
  where
    go :
        (b : Bool) →
        let r = if b then row.awaits_parent else row.none in changes_nothing r x ≡ false →
        LooksIdle x (does c r (raise_timer x)) → ⊥
    go true e l = let h = l.phase in cc
    go false e l = cc
stirs c ParentShake x p e l = at x.view.parent e l
  where
    go :
        (q : ℕ) (a b : Bool) →
        let r = if a then row.finds_parent q else (if b then row.begins_contention q else row.none) in changes_nothing r x
        ≡ false →
        LooksIdle x (does c r (raise_timer x)) → ⊥
    go q true b e l = let h = l.silent in cc
    go q false true e l = let h = l.silent in cc
    go q false false e l = cc

    at :
        (o : Option ℕ) → changes_nothing (parent_shake_at o (raise_timer x)) x ≡ false →
        LooksIdle x (does c (parent_shake_at o (raise_timer x)) (raise_timer x)) → ⊥
    at None e l = let h = l.phase in cc
    at (Some q) e l = go q (port_is (λ v. is_child v.shown) x.view.ports q) (port_is (λ v. is_parent v.shown) x.view.ports q) e l
stirs c Contend x p e l = over (nat_le x.view.wait (raise_timer x).view.timer) e l
  where
    go :
        (q : ℕ) (a : Bool) →
        let r = if a then row.takes_rival q else row.asks_again q in changes_nothing r x ≡ false →
        LooksIdle x (does c r (raise_timer x)) → ⊥
    go q true e l = let h = l.silent in cc
    go q false e l = let h = l.silent in cc

    at :
        (o : Option ℕ) → changes_nothing (contend_at o (raise_timer x)) x ≡ false →
        LooksIdle x (does c (contend_at o (raise_timer x)) (raise_timer x)) → ⊥
    at None e l = cc
    at (Some q) e l = go q (port_is (λ v. is_parent v.shown) x.view.ports q) e l

    over :
        (b : Bool) →
        let r = if b then contend_at x.view.parent (raise_timer x) else row.none in changes_nothing r x
        ≡ false →
        LooksIdle x (does c r (raise_timer x)) → ⊥
    over true e l = at x.view.parent e l
    over false e l = cc
stirs c SelfIdent x p e l = granted x.view.granted e l
  where
    asks :
        (q : ℕ) (a : Bool) →
        let r = if a then row.none else row.asks_child q in changes_nothing r x ≡ false →
        LooksIdle x (does c r (raise_timer x)) → ⊥
    asks q true e l = cc
    asks q false e l = let h = l.silent in cc

    names :
        (b : Bool) →
        let r = if b then row.names_itself else row.none in changes_nothing r x ≡ false →
        LooksIdle x (does c r (raise_timer x)) → ⊥
    names true e l = let h = l.phase in cc
    names false e l = cc

    at :
        (o : Option ℕ) → changes_nothing (granted_row o (raise_timer x)) x ≡ false →
        LooksIdle x (does c (granted_row o (raise_timer x)) (raise_timer x)) → ⊥
    at None e l = names (may_name (raise_timer x)) e l
    at (Some q) e l = asks q (port_is (λ v. v.asked) x.view.ports q) e l

    granted :
        (b : Bool) →
        let r = if b then granted_row (lowest is_unnamed x.view.ports) (raise_timer x) else row.none in changes_nothing r x
        ≡ false →
        LooksIdle x (does c r (raise_timer x)) → ⊥
    granted true e l = at (lowest is_unnamed x.view.ports) e l
    granted false e l = cc
stirs c Ready x p e l = cc

-- a tick
beat-ticks :
    (n : PortNode) → misses n.clock ≡ false →
    does (coin n.coins) (next_row n.state) (raise_timer n.state) ≡ on_beat (beat n) n.state
unfolding step.tick
beat-ticks n c = rw c refl

looks-idle :
    (n : PortNode) → misses n.clock ≡ false → IsIdleTick n →
    LooksIdle n.state (does (coin n.coins) (next_row n.state) (raise_timer n.state))
looks-idle n c i = record {
  silent = ap (λ (s : Step). s.sends) (beat-ticks n c) ∙ i.sends;
  phase = ap (λ (s : Step). s.state.view.phase) (beat-ticks n c) ∙ ap (λ x. x.view.phase) i.state;
  timed_out = ap (λ (s : Step). s.state.view.timed_out) (beat-ticks n c) ∙ ap (λ x. x.view.timed_out) i.state;
}

idle-row : (n : PortNode) → misses n.clock ≡ false → IsIdleTick n → rests n.state ≡ true
idle-row n c i = go (rests n.state) refl
  where
    go : (b : Bool) → rests n.state ≡ b → b ≡ true
    go true e = refl
    go false e = absurd (stirs (coin n.coins) n.state.view.phase n.state refl e (looks-idle n c i))

pub idle_ticks-rest : (n : PortNode) → misses n.clock ≡ false → IsIdleTick n ↔ (rests n.state ≡ true)
idle_ticks-rest n c = (idle-row n c, idle-rests n c)

-- ---- idle ticks raise the timer

-- the node after so many turns, in which so many ticks raised the timer alone
abbrev later : ℕ → ℕ → PortNode → PortNode
later turns ticks n = record n { state = with_later_timer ticks n.state; clock = clock_on turns n.clock }

one-later :
    (turns ticks : ℕ) (n m : PortNode) → m ≡ later turns ticks n → IsIdleTick m →
    (node_tick m).node ≡ later (suc turns) (ticks + (if misses (clock_on turns n.clock) then 0 else 1)) n
one-later turns ticks n m is idle = go (misses (clock_on turns n.clock)) refl
  where
    now : misses m.clock ≡ misses (clock_on turns n.clock)
    now = ap (λ (u : PortNode). misses u.clock) is

    go :
        (b : Bool) → misses (clock_on turns n.clock) ≡ b →
        (node_tick m).node ≡ later (suc turns) (ticks + (if b then 0 else 1)) n
    go true e =
        let z : ticks + 0 ≡ ticks = omega arith in
        ap (λ s. s.node) (turn-missed m (now ∙ e)) ∙ rw (is, z) refl
    go false e =
        let z : min (min (n.state.view.timer + ticks) 65535 + 1) 65535 ≡ min (n.state.view.timer + (ticks + 1)) 65535 = omega arith in
        ap (λ s. s.node) (tick-rests m (now ∙ e) (idle-row m (now ∙ e) idle)) ∙ rw (is, z) refl

pub after-idle_ticks :
    (count : ℕ) (n : PortNode) → n.state.view.timer ≤ 65535 → IsIdleFor count n →
    after_ticks count n
    ≡ record n {
      state = with_later_timer (ticks_in count n.clock) n.state;
      clock = clock_on count n.clock;
    }
after-idle_ticks zero n h i =
    let e : min (n.state.view.timer + 0) 65535 ≡ n.state.view.timer = omega arith in
    rw e refl
after-idle_ticks (suc k) n h i =
    one-later k (ticks_in k n.clock) n (after_ticks k n) (after-idle_ticks k n h (λ j l. i j (omega arith))) (i k (omega arith))
