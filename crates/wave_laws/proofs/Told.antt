-- What the changes at the nodes tell of the variable with a code.
use Rattle.std.proofs.Common.{◌≡◌, ◌≢◌, ℕ, zero, suc, ◌+◌, ◌==◌, Bool, true, false, List, [], ◌∷◌, ◌++◌, drop, Option, Some, None, cond, codes, refl, sym, subst, arith}
use Rattle.std.specs.Prelude.{slice_get, slice_index_or}
use Rattle.std.proofs.lemmas.Bool.{eqb-true}
use Rattle.port_state.specs.declared.signal.Signal.{Signal}
use Rattle.port_state.specs.declared.signal.Signal.TheVariants as signal
use Rattle.port_state.specs.declared.signal.Level.{Level}
use Rattle.port_state.specs.declared.signal.Level.TheVariants as level
use Rattle.port_state.specs.declared.signal.Phase.{Phase}
use Rattle.port_state.specs.declared.signal.Phase.TheVariants as phase
use Rattle.port_state.specs.declared.ports.PortView.{PortView}
use Rattle.port_state.specs.declared.view.View.{View}
use Rattle.port_state.specs.Machine.{PortNode}
use Rattle.cable_world.specs.declared.wire.Travelling.{Travelling}
use Rattle.cable_world.specs.World.{CableWorld, wire_of}
use Rattle.cable_world.proofs.Lemmas.{some-same}
use Rattle.script_trace.specs.Event.{Seen, state_number}
use Rattle.script_trace.specs.waves.Value.{node_code, port_code, node_line, port_line, number, flag, state_value, id_value, id_number, is_root, level_value, level_number, role, role_value, state_lines, role_lines, shown_lines, sent_value}
use Rattle.script_trace.specs.waves.Change.{unless_same, miss_change, state_change, id_change, timeout_change, root_change, port_at, role_change, shown_change, gone_change, signal_line, sent_change, sent_changes, port_changes, all_port_changes, node_changes}
use Rattle.script_trace.specs.waves.Moment.{all_changes}
use Rattle.wave_laws.proofs.Reading.{Teller, Tells, tells-nothing, tells-first, tells-then, tells-last}
use Rattle.wave_laws.proofs.Lines.{Misses, IsValue, a-number, a-role, unknown, digit-one, node-other, port-other}

-- ---- values

pub a-state : (p : Phase) → IsValue (state_value p)
a-state phase.ResetStart = record { reads = λ c code. refl; untimed = λ code. refl; flat = refl }
a-state phase.ResetWait = record { reads = λ c code. refl; untimed = λ code. refl; flat = refl }
a-state phase.TreeStart = record { reads = λ c code. refl; untimed = λ code. refl; flat = refl }
a-state phase.ChildShake = record { reads = λ c code. refl; untimed = λ code. refl; flat = refl }
a-state phase.ParentShake = record { reads = λ c code. refl; untimed = λ code. refl; flat = refl }
a-state phase.Contend = record { reads = λ c code. refl; untimed = λ code. refl; flat = refl }
a-state phase.SelfIdent = record { reads = λ c code. refl; untimed = λ code. refl; flat = refl }
a-state phase.Ready = record { reads = λ c code. refl; untimed = λ code. refl; flat = refl }

pub a-level : (l : Level) → IsValue (level_value l)
a-level level.Reset = record { reads = λ c code. refl; untimed = λ code. refl; flat = refl }
a-level level.Idle = record { reads = λ c code. refl; untimed = λ code. refl; flat = refl }
a-level level.Parent = record { reads = λ c code. refl; untimed = λ code. refl; flat = refl }
a-level level.Child = record { reads = λ c code. refl; untimed = λ code. refl; flat = refl }

pub an-id : (id : Option ℕ) → IsValue (id_value id)
an-id None = unknown
an-id (Some n) = a-number 6 n

-- ---- conditions

tells-if : (c : Teller) (s : List ℕ) (b : Bool) → Tells c s None → Tells c (cond b s []) None
tells-if c s true h = h
tells-if c s false h = tells-nothing c

quiet-unless : (c : Teller) (s : List ℕ) (m n : ℕ) → Tells c s None → Tells c (unless_same m n s) None
quiet-unless c s m n h = go (m == n)
  where
    go : (b : Bool) → Tells c (cond b [] s) None
    go true = tells-nothing c
    go false = h

pub tells-unless : (c : Teller) (s v : List ℕ) (m n : ℕ) → Tells c s (Some v) → Tells c (unless_same m n s) (cond (m == n) None (Some v))
tells-unless c s v m n h = go (m == n)
  where
    go : (b : Bool) → Tells c (cond b [] s) (cond b None (Some v))
    go true = tells-nothing c
    go false = h

-- a value that is told where the numbers differ, and was told before where they don't
pub changed : (c : Teller) (before text old new : List ℕ) (m n : ℕ) → Tells c before (Some old) → (m ≡ n → old ≡ new) →
    Tells c text (cond (m == n) None (Some new)) → Tells c (before ++ text) (Some new)
changed c before text old new m n x same y = go (m == n) refl y
  where
    go : (b : Bool) → (m == n) ≡ b → Tells c text (cond b None (Some new)) → Tells c (before ++ text) (Some new)
    go true e z = subst (λ v. Tells c (before ++ text) (Some v)) (same (eqb-true m n e)) (tells-first c before text (Some old) x z)
    go false e z = tells-last c before text new (Some old) x z

-- ---- what isn't told

-- the code is none of this port's
abbrev pub MissesPort : Teller → ℕ → ℕ → Type 0
MissesPort c k j = (z : ℕ) → Misses c ((33 + k) ∷ (33 + j) ∷ z ∷ [])

-- nor of this node, and of its ports
pub record MissesNode (c : Teller) (k : ℕ) : Type 0 where
  pub own : (z : ℕ) → Misses c ((33 + k) ∷ z ∷ [])
  pub ports : (j : ℕ) → MissesPort c k j

-- ---- signals that are sent

-- the code is none of what is sent
pub record MissesSent (code : Teller) (k j : ℕ) : Type 0 where
  pub sends : Misses code (port_code k j (codes "s"))
  pub sends_code : Misses code (port_code k j (codes "c"))
  pub grant : Misses code (port_code k j (codes "g"))
  pub packet : Misses code (port_code k j (codes "p"))
  pub done : Misses code (port_code k j (codes "d"))

module _ (c : Teller) (k j : ℕ) (h : MissesSent c k j) where
  pub quiet-value : (value : List ℕ) (n : ℕ) → IsValue value → Tells c (sent_value k j value n) None
  unfolding sent_value
  quiet-value value n is =
      tells-first c (port_line k j (codes "s") value) (port_line k j (codes "c") (number 3 n)) None
      (port-other c k j (codes "s") value refl is h.sends)
      (port-other c k j (codes "c") (number 3 n) refl (a-number 3 n) h.sends_code)

  pub quiet-signal : (s : Signal) → Tells c (signal_line k j s) None
  quiet-signal signal.Reset = quiet-value (codes "sBUS_RESET ") 0 (record { reads = λ e code. refl; untimed = λ code. refl; flat = refl })
  quiet-signal signal.Idle = quiet-value (codes "sIDLE ") 1 (record { reads = λ e code. refl; untimed = λ code. refl; flat = refl })
  quiet-signal signal.Parent = quiet-value (codes "sTX_PARENT_NOTIFY ") 2 (record { reads = λ e code. refl; untimed = λ code. refl; flat = refl })
  quiet-signal signal.Child = quiet-value (codes "sTX_CHILD_NOTIFY ") 3 (record { reads = λ e code. refl; untimed = λ code. refl; flat = refl })
  quiet-signal signal.Grant = port-other c k j (codes "g") (codes "1") refl digit-one h.grant
  quiet-signal (signal.Packet quad) = port-other c k j (codes "p") (number 32 quad) refl (a-number 32 quad) h.packet
  quiet-signal signal.Done = port-other c k j (codes "d") (codes "1") refl digit-one h.done

  pub quiet-sent : (ts : List Travelling) → Tells c (sent_changes k j ts) None
  quiet-sent [] = tells-nothing c
  quiet-sent (t ∷ ts) =
      tells-first c (sent_change k j t) (sent_changes k j ts) None (tells-if c (signal_line k j t.signal) (t.age == 0) (quiet-signal t.signal))
      (quiet-sent ts)

  pub quiet-gone : (u : View) (p : PortView) → Tells c (gone_change k u j p) None
  quiet-gone u p = tells-if c (sent_value k j (codes "s- ") 4) _ (quiet-value (codes "s- ") 4 (record { reads = λ e code. refl; untimed = λ code. refl; flat = refl }))

  -- and what comes behind the role and the level
  pub quiet-rest : (w : CableWorld) (seen : Seen) (p : PortView) → Tells c
      (gone_change k seen.view j p ++ sent_changes k j (drop (slice_index_or seen.there j 0) (wire_of w (record { node = k; port = j })).signals)) None
  quiet-rest w seen p =
      tells-first c (gone_change k seen.view j p) (sent_changes k j (drop (slice_index_or seen.there j 0) (wire_of w (record { node = k; port = j })).signals)) None
      (quiet-gone seen.view p)
      (quiet-sent (drop (slice_index_or seen.there j 0) (wire_of w (record { node = k; port = j })).signals))

-- ---- roles and levels

module _ (c : Teller) (k j : ℕ) where
  pub quiet-role : Misses c (port_code k j (codes "r")) → Misses c (port_code k j (codes "a")) → (u v : View) (p : PortView) →
      Tells c (role_change k u v j p) None
  unfolding role_lines
  quiet-role x y u v p =
      let n = role v.parent j p in
      quiet-unless c (role_lines k j n) (role u.parent j (port_at u j)) n
      (tells-first c (port_line k j (codes "r") (role_value n)) (port_line k j (codes "a") (number 2 n)) None
      (port-other c k j (codes "r") (role_value n) refl (a-role n) x)
      (port-other c k j (codes "a") (number 2 n) refl (a-number 2 n) y))

  pub quiet-shown : Misses c (port_code k j (codes "h")) → Misses c (port_code k j (codes "b")) → (u : View) (p : PortView) →
      Tells c (shown_change k u j p) None
  unfolding shown_lines
  quiet-shown x y u p =
      quiet-unless c (shown_lines k j p.shown) (level_number (port_at u j).shown) (level_number p.shown)
      (tells-first c (port_line k j (codes "h") (level_value p.shown)) (port_line k j (codes "b") (number 2 (level_number p.shown))) None
      (port-other c k j (codes "h") (level_value p.shown) refl (a-level p.shown) x)
      (port-other c k j (codes "b") (number 2 (level_number p.shown)) refl (a-number 2 (level_number p.shown)) y))

-- ---- a port of which nothing is told

pub quiet-port : (c : Teller) (k j : ℕ) → MissesPort c k j → (w : CableWorld) (seen : Seen) (v : View) (p : PortView) →
    Tells c (port_changes w k seen v j p) None
quiet-port c k j h w seen v p =
    tells-first c (role_change k seen.view v j p) _ None (quiet-role c k j (h 114) (h 97) seen.view v p)
    (tells-first c (shown_change k seen.view j p) _ None (quiet-shown c k j (h 104) (h 98) seen.view p)
    (quiet-rest c k j (record { sends = h 115; sends_code = h 99; grant = h 103; packet = h 112; done = h 100 }) w seen p))

pub quiet-ports : (c : Teller) (k : ℕ) (w : CableWorld) (seen : Seen) (v : View) (j : ℕ) (ports : List PortView) →
    ((i : ℕ) → MissesPort c k (j + i)) → Tells c (all_port_changes w k seen v j ports) None
quiet-ports c k w seen v j [] h = tells-nothing c
quiet-ports c k w seen v j (p ∷ ports) h =
    let here : j + 0 ≡ j = omega arith in
    tells-first c (port_changes w k seen v j p) (all_port_changes w k seen v (j + 1) ports) None
    (quiet-port c k j (subst (MissesPort c k) here (h 0)) w seen v p)
    (quiet-ports c k w seen v (j + 1) ports (λ i.
    let next : j + suc i ≡ j + 1 + i = omega arith in
    subst (MissesPort c k) next (h (suc i))))

-- ---- a node's own, of which nothing is told

module _ (c : Teller) (k : ℕ) where
  pub quiet-miss : Misses c (node_code k (codes "m")) → (missed : Bool) → Tells c (miss_change k missed) None
  quiet-miss x missed = tells-if c (node_line k (codes "m") (codes "1")) missed (node-other c k (codes "m") (codes "1") refl digit-one x)

  pub quiet-state : Misses c (node_code k (codes "s")) → Misses c (node_code k (codes "c")) → (u v : View) →
      Tells c (state_change k u v) None
  unfolding state_lines
  quiet-state x y u v =
      quiet-unless c (state_lines k v.phase) (state_number u.phase) (state_number v.phase)
      (tells-first c (node_line k (codes "s") (state_value v.phase)) (node_line k (codes "c") (number 3 (state_number v.phase))) None
      (node-other c k (codes "s") (state_value v.phase) refl (a-state v.phase) x)
      (node-other c k (codes "c") (number 3 (state_number v.phase)) refl (a-number 3 (state_number v.phase)) y))

  pub quiet-id : Misses c (node_code k (codes "i")) → (u v : View) → Tells c (id_change k u v) None
  quiet-id x u v =
      quiet-unless c _ (id_number u.id) (id_number v.id) (node-other c k (codes "i") (id_value v.id) refl (an-id v.id) x)

  pub quiet-timeout : Misses c (node_code k (codes "t")) → (u v : View) → Tells c (timeout_change k u v) None
  quiet-timeout x u v =
      quiet-unless c _ (flag u.timed_out) (flag v.timed_out) (node-other c k (codes "t") (number 1 (flag v.timed_out)) refl (a-number 1 (flag v.timed_out)) x)

  pub quiet-root : Misses c (node_code k (codes "r")) → (u v : View) → Tells c (root_change k u v) None
  quiet-root x u v =
      quiet-unless c _ (flag (is_root u)) (flag (is_root v)) (node-other c k (codes "r") (number 1 (flag (is_root v))) refl (a-number 1 (flag (is_root v))) x)

pub quiet-node : (c : Teller) (k : ℕ) → MissesNode c k → (w : CableWorld) (seen : Seen) (v : View) →
    Tells c (node_changes w k seen v) None
quiet-node c k h w seen v =
    tells-first c (miss_change k seen.missed) _ None (quiet-miss c k (h.own 109) seen.missed)
    (tells-first c (state_change k seen.view v) _ None (quiet-state c k (h.own 115) (h.own 99) seen.view v)
    (tells-first c (id_change k seen.view v) _ None (quiet-id c k (h.own 105) seen.view v)
    (tells-first c (timeout_change k seen.view v) _ None (quiet-timeout c k (h.own 116) seen.view v)
    (tells-first c (root_change k seen.view v) _ None (quiet-root c k (h.own 114) seen.view v)
    (quiet-ports c k w seen v 0 v.ports (λ i. h.ports (0 + i)))))))

-- ---- all nodes but one

-- nothing is told by the nodes from number k on
pub quiet-nodes : (c : Teller) (w : CableWorld) (k : ℕ) (seen : List Seen) (nodes : List PortNode) →
    ((i : ℕ) → MissesNode c (k + i)) → Tells c (all_changes w k seen nodes) None
quiet-nodes c w k [] nodes h = tells-nothing c
quiet-nodes c w k (s ∷ seen) [] h = tells-nothing c
quiet-nodes c w k (s ∷ seen) (x ∷ nodes) h =
    let here : k + 0 ≡ k = omega arith in
    tells-first c (node_changes w k s x.state.view) (all_changes w (k + 1) seen nodes) None
    (quiet-node c k (subst (MissesNode c) here (h 0)) w s x.state.view)
    (quiet-nodes c w (k + 1) seen nodes (λ i.
    let next : k + suc i ≡ k + 1 + i = omega arith in
    subst (MissesNode c) next (h (suc i))))

-- what all nodes tell, one node tells
pub one-node : (c : Teller) (w : CableWorld) (o : Option (List ℕ)) (k m i : ℕ) (seen : List Seen) (nodes : List PortNode) (s : Seen) (x : PortNode) →
    ((n : ℕ) → n ≢ i → MissesNode c n) → k + m ≡ i → slice_get seen m ≡ Some s → slice_get nodes m ≡ Some x →
    Tells c (node_changes w i s x.state.view) o → Tells c (all_changes w k seen nodes) o
one-node c w o k m i [] nodes s x h e at has t = absurd cc
one-node c w o k m i (a ∷ seen) [] s x h e at has t = absurd cc
one-node c w o k zero i (a ∷ seen) (b ∷ nodes) s x h e at has t =
    let here : i ≡ k = omega (arith, e) in
    let first : Tells c (node_changes w k a b.state.view) o =
    subst (λ n. Tells c (node_changes w n a b.state.view) o) here
    (subst (λ y. Tells c (node_changes w i y b.state.view) o) (sym (some-same a s at))
    (subst (λ (y : PortNode). Tells c (node_changes w i s y.state.view) o) (sym (some-same b x has)) t)) in
    tells-first c (node_changes w k a b.state.view) (all_changes w (k + 1) seen nodes) o first
    (quiet-nodes c w (k + 1) seen nodes (λ n. h (k + 1 + n) (λ z. omega (arith, z, here))))
one-node c w o k (suc m) i (a ∷ seen) (b ∷ nodes) s x h e at has t =
    let next : k + 1 + m ≡ i = omega (arith, e) in
    tells-then c (node_changes w k a b.state.view) (all_changes w (k + 1) seen nodes) o
    (quiet-node c k (h k (λ z. omega (arith, z, e))) w a b.state.view)
    (one-node c w o (k + 1) m i seen nodes s x h next at has t)

-- what all ports of a node tell, one port tells
pub one-port : (c : Teller) (w : CableWorld) (k : ℕ) (seen : Seen) (v : View) (o : Option (List ℕ)) (j m i : ℕ) (ports : List PortView) (p : PortView) →
    ((n : ℕ) → n ≢ i → MissesPort c k n) → j + m ≡ i → slice_get ports m ≡ Some p →
    Tells c (port_changes w k seen v i p) o → Tells c (all_port_changes w k seen v j ports) o
one-port c w k seen v o j m i [] p h e at t = absurd cc
one-port c w k seen v o j zero i (a ∷ ports) p h e at t =
    let here : i ≡ j = omega (arith, e) in
    let first : Tells c (port_changes w k seen v j a) o =
    subst (λ n. Tells c (port_changes w k seen v n a) o) here
    (subst (λ y. Tells c (port_changes w k seen v i y) o) (sym (some-same a p at)) t) in
    tells-first c (port_changes w k seen v j a) (all_port_changes w k seen v (j + 1) ports) o first
    (quiet-ports c k w seen v (j + 1) ports (λ n. h (j + 1 + n) (λ z. omega (arith, z, here))))
one-port c w k seen v o j (suc m) i (a ∷ ports) p h e at t =
    let next : j + 1 + m ≡ i = omega (arith, e) in
    tells-then c (port_changes w k seen v j a) (all_port_changes w k seen v (j + 1) ports) o
    (quiet-port c k j (h j (λ z. omega (arith, z, e))) w seen v a)
    (one-port c w k seen v o (j + 1) m i ports p h next at t)
