-- What the head of a dump tells: the values of nodes that were just powered on.
use Rattle.std.proofs.Common.{◌≡◌, ◌≢◌, ℕ, zero, suc, ◌+◌, ◌<◌, Bool, false, List, [], ◌∷◌, ◌++◌, length, Option, Some, None, codes, refl, sym, ◌∙◌, ap, subst, arith, append_assoc}
use Rattle.std.specs.Prelude.{slice_get}
use Rattle.std.specs.Str.{bytes_eq}
use Rattle.std.proofs.lemmas.Option.{slice_get_within}
use Rattle.port_state.specs.declared.signal.Level.TheVariants as level
use Rattle.port_state.specs.declared.signal.Phase.TheVariants as phase
use Rattle.port_state.specs.declared.ports.PortView.{PortView}
use Rattle.port_state.specs.declared.view.View.{View}
use Rattle.port_state.specs.PowerOn.{free_port}
use Rattle.port_state.specs.Machine.{PortNode}
use Rattle.cable_world.specs.World.{CableWorld}
use Rattle.cable_world.proofs.Lemmas.{some-same}
use Rattle.script_trace.specs.Voice.{Legend}
use Rattle.script_trace.specs.waves.Value.{node_code, port_code, node_line, port_line, number, flag, id_value, state_value, is_root, level_value, level_number, role, role_value, state_lines, role_lines, shown_lines, sent_value}
use Rattle.script_trace.specs.waves.Head.{port_values, all_port_values, own_values, node_values, all_scopes, all_values, opening, head}
use Rattle.wave_laws.specs.Reading.{last_in, value_for}
use Rattle.script_trace.specs.Event.{state_number}
use Rattle.wave_laws.proofs.Reading.{Teller, Tells, tells-nothing, tells-first, tells-then, tells-last, tells-line, tells-some}
use Rattle.wave_laws.proofs.Lines.{Misses, misses, IsValue, a-number, a-role, unknown, other-tail, other-head, node-own, node-other, port-own, port-other}
use Rattle.wave_laws.proofs.Told.{MissesNode, MissesPort, MissesSent, a-state, a-level, quiet-value}
use Rattle.wave_laws.proofs.Own.{no-other-node}
use Rattle.wave_laws.proofs.Shown.{TellsNode, TellsPort, TellsWorld, IsWithin}

zero-value : IsValue (codes "b0 ")
zero-value = record { reads = λ c code. refl; untimed = λ code. refl; flat = refl }

no-cable : IsValue (codes "s- ")
no-cable = record { reads = λ c code. refl; untimed = λ code. refl; flat = refl }

-- what stands behind a node's state and its ID, and behind a port's role and its level
abbrev behind-id : ℕ → List ℕ
behind-id k = node_line k (codes "t") (codes "b0 ") ++ node_line k (codes "r") (codes "b0 ")

abbrev behind-state : ℕ → List ℕ
behind-state k = node_line k (codes "i") (codes "bx ") ++ behind-id k

abbrev behind-level : ℕ → ℕ → List ℕ
behind-level k j = sent_value k j (codes "s- ") 4 ++ port_line k j (codes "p") (codes "bx ")

abbrev behind-role : ℕ → ℕ → List ℕ
behind-role k j = shown_lines k j level.Idle ++ behind-level k j

-- ---- a port

module _ (c : Teller) (k j : ℕ) where
  quiet-roles : Misses c (port_code k j (codes "r")) → Misses c (port_code k j (codes "a")) → Tells c (role_lines k j 0) None
  unfolding role_lines
  quiet-roles x y =
      tells-first c (port_line k j (codes "r") (role_value 0)) (port_line k j (codes "a") (number 2 0)) None
      (port-other c k j (codes "r") (role_value 0) refl (a-role 0) x) (port-other c k j (codes "a") (number 2 0) refl (a-number 2 0) y)

  quiet-levels : Misses c (port_code k j (codes "h")) → Misses c (port_code k j (codes "b")) → Tells c (shown_lines k j level.Idle) None
  unfolding shown_lines
  quiet-levels x y =
      tells-first c (port_line k j (codes "h") (codes "sIDLE ")) (port_line k j (codes "b") (number 2 1)) None
      (port-other c k j (codes "h") (codes "sIDLE ") refl (a-level level.Idle) x) (port-other c k j (codes "b") (number 2 1) refl (a-number 2 1) y)

  quiet-sends : MissesSent c k j → Tells c (sent_value k j (codes "s- ") 4 ++ port_line k j (codes "p") (codes "bx ")) None
  quiet-sends h =
      tells-first c (sent_value k j (codes "s- ") 4) (port_line k j (codes "p") (codes "bx ")) None (quiet-value c k j h (codes "s- ") 4 no-cable)
      (port-other c k j (codes "p") (codes "bx ") refl unknown h.packet)

quiet-port-values : (c : Teller) (k j : ℕ) → MissesPort c k j → Tells c (port_values k j) None
unfolding port_values
quiet-port-values c k j h =
    tells-first c (role_lines k j 0) (behind-role k j) None (quiet-roles c k j (h 114) (h 97))
    (tells-first c (shown_lines k j level.Idle) (behind-level k j) None (quiet-levels c k j (h 104) (h 98))
    (quiet-sends c k j (record { sends = h 115; sends_code = h 99; grant = h 103; packet = h 112; done = h 100 })))

quiet-all-port-values : (c : Teller) (k j : ℕ) (ports : List PortView) → ((i : ℕ) → MissesPort c k (j + i)) → Tells c (all_port_values k j ports) None
quiet-all-port-values c k j [] h = tells-nothing c
quiet-all-port-values c k j (p ∷ ports) h =
    let here : j + 0 ≡ j = omega arith in
    tells-first c (port_values k j) (all_port_values k (j + 1) ports) None (quiet-port-values c k j (subst (MissesPort c k) here (h 0)))
    (quiet-all-port-values c k (j + 1) ports (λ i.
    let next : j + suc i ≡ j + 1 + i = omega arith in
    subst (MissesPort c k) next (h (suc i))))

one-port-values : (c : Teller) (k : ℕ) (o : Option (List ℕ)) (j m i : ℕ) (ports : List PortView) → ((n : ℕ) → n ≢ i → MissesPort c k n) →
    j + m ≡ i → m < length ports → Tells c (port_values k i) o → Tells c (all_port_values k j ports) o
one-port-values c k o j m i [] h e less t = absurd (omega (arith, less))
one-port-values c k o j zero i (p ∷ ports) h e less t =
    let here : i ≡ j = omega (arith, e) in
    tells-first c (port_values k j) (all_port_values k (j + 1) ports) o (subst (λ n. Tells c (port_values k n) o) here t)
    (quiet-all-port-values c k (j + 1) ports (λ n. h (j + 1 + n) (λ z. omega (arith, z, here))))
one-port-values c k o j (suc m) i (p ∷ ports) h e less t =
    let next : j + 1 + m ≡ i = omega (arith, e) in
    tells-then c (port_values k j) (all_port_values k (j + 1) ports) o (quiet-port-values c k j (h j (λ z. omega (arith, z, e))))
    (one-port-values c k o (j + 1) m i ports h next (omega (arith, less)) t)

module _ (k j : ℕ) where
  other : (letter z : ℕ) → bytes_eq (z ∷ []) (letter ∷ []) ≡ false →
      Misses (value_for ((33 + k) ∷ (33 + j) ∷ letter ∷ [])) ((33 + k) ∷ (33 + j) ∷ z ∷ [])
  other letter z h =
      misses ((33 + k) ∷ (33 + j) ∷ letter ∷ []) ((33 + k) ∷ (33 + j) ∷ z ∷ [])
      (other-tail (33 + k) (33 + k) ((33 + j) ∷ z ∷ []) ((33 + j) ∷ letter ∷ [])
      (other-tail (33 + j) (33 + j) (z ∷ []) (letter ∷ []) h))

  first-role : Tells (value_for (port_code k j (codes "r"))) (port_values k j) (Some (role_value 0))
  unfolding port_values role_lines
  first-role =
      let c = value_for (port_code k j (codes "r")) in
      let o : Option (List ℕ) = Some (role_value 0) in
      tells-first c (role_lines k j 0) (behind-role k j) o
      (tells-first c (port_line k j (codes "r") (role_value 0)) (port_line k j (codes "a") (number 2 0)) o
      (port-own k j (codes "r") (role_value 0) refl (a-role 0))
      (port-other c k j (codes "a") (number 2 0) refl (a-number 2 0) (other 114 97 refl)))
      (tells-first c (shown_lines k j level.Idle) (behind-level k j) None (quiet-levels c k j (other 114 104 refl) (other 114 98 refl))
      (quiet-sends c k j (record { sends = other 114 115 refl; sends_code = other 114 99 refl; grant = other 114 103 refl; packet = other 114 112 refl; done = other 114 100 refl })))

  first-role-code : Tells (value_for (port_code k j (codes "a"))) (port_values k j) (Some (number 2 0))
  unfolding port_values role_lines
  first-role-code =
      let c = value_for (port_code k j (codes "a")) in
      let o : Option (List ℕ) = Some (number 2 0) in
      tells-first c (role_lines k j 0) (behind-role k j) o
      (tells-then c (port_line k j (codes "r") (role_value 0)) (port_line k j (codes "a") (number 2 0)) o
      (port-other c k j (codes "r") (role_value 0) refl (a-role 0) (other 97 114 refl))
      (port-own k j (codes "a") (number 2 0) refl (a-number 2 0)))
      (tells-first c (shown_lines k j level.Idle) (behind-level k j) None (quiet-levels c k j (other 97 104 refl) (other 97 98 refl))
      (quiet-sends c k j (record { sends = other 97 115 refl; sends_code = other 97 99 refl; grant = other 97 103 refl; packet = other 97 112 refl; done = other 97 100 refl })))

  first-level : Tells (value_for (port_code k j (codes "h"))) (port_values k j) (Some (level_value level.Idle))
  unfolding port_values shown_lines
  first-level =
      let c = value_for (port_code k j (codes "h")) in
      let o : Option (List ℕ) = Some (codes "sIDLE ") in
      tells-then c (role_lines k j 0) (behind-role k j) o (quiet-roles c k j (other 104 114 refl) (other 104 97 refl))
      (tells-first c (shown_lines k j level.Idle) (behind-level k j) o
      (tells-first c (port_line k j (codes "h") (codes "sIDLE ")) (port_line k j (codes "b") (number 2 1)) o
      (port-own k j (codes "h") (codes "sIDLE ") refl (a-level level.Idle))
      (port-other c k j (codes "b") (number 2 1) refl (a-number 2 1) (other 104 98 refl)))
      (quiet-sends c k j (record { sends = other 104 115 refl; sends_code = other 104 99 refl; grant = other 104 103 refl; packet = other 104 112 refl; done = other 104 100 refl })))

  first-level-code : Tells (value_for (port_code k j (codes "b"))) (port_values k j) (Some (number 2 1))
  unfolding port_values shown_lines
  first-level-code =
      let c = value_for (port_code k j (codes "b")) in
      let o : Option (List ℕ) = Some (number 2 1) in
      tells-then c (role_lines k j 0) (behind-role k j) o (quiet-roles c k j (other 98 114 refl) (other 98 97 refl))
      (tells-first c (shown_lines k j level.Idle) (behind-level k j) o
      (tells-then c (port_line k j (codes "h") (codes "sIDLE ")) (port_line k j (codes "b") (number 2 1)) o
      (port-other c k j (codes "h") (codes "sIDLE ") refl (a-level level.Idle) (other 98 104 refl))
      (port-own k j (codes "b") (number 2 1) refl (a-number 2 1)))
      (quiet-sends c k j (record { sends = other 98 115 refl; sends_code = other 98 99 refl; grant = other 98 103 refl; packet = other 98 112 refl; done = other 98 100 refl })))

-- ---- a node

module _ (c : Teller) (k : ℕ) where
  quiet-states : Misses c (node_code k (codes "s")) → Misses c (node_code k (codes "c")) → Tells c (state_lines k phase.ResetStart) None
  unfolding state_lines
  quiet-states x y =
      tells-first c (node_line k (codes "s") (codes "sR0 ")) (node_line k (codes "c") (number 3 0)) None
      (node-other c k (codes "s") (codes "sR0 ") refl (a-state phase.ResetStart) x) (node-other c k (codes "c") (number 3 0) refl (a-number 3 0) y)

  quiet-ids : Misses c (node_code k (codes "i")) → Tells c (node_line k (codes "i") (codes "bx ")) None
  quiet-ids x = node-other c k (codes "i") (codes "bx ") refl unknown x

  quiet-timeouts : Misses c (node_code k (codes "t")) → Tells c (node_line k (codes "t") (codes "b0 ")) None
  quiet-timeouts x = node-other c k (codes "t") (codes "b0 ") refl zero-value x

  quiet-roots : Misses c (node_code k (codes "r")) → Tells c (node_line k (codes "r") (codes "b0 ")) None
  quiet-roots x = node-other c k (codes "r") (codes "b0 ") refl zero-value x

  -- all of a node's own are of other variables
  quiet-own : ((z : ℕ) → Misses c ((33 + k) ∷ z ∷ [])) → Tells c (own_values k) None
  unfolding own_values
  quiet-own h =
      tells-first c (state_lines k phase.ResetStart) (behind-state k) None (quiet-states (h 115) (h 99))
      (tells-first c (node_line k (codes "i") (codes "bx ")) (behind-id k) None (quiet-ids (h 105))
      (tells-first c (node_line k (codes "t") (codes "b0 ")) (node_line k (codes "r") (codes "b0 ")) None (quiet-timeouts (h 116)) (quiet-roots (h 114))))

quiet-node-values : (c : Teller) (k : ℕ) → MissesNode c k → (ports : List PortView) → Tells c (node_values k ports) None
quiet-node-values c k h ports =
    tells-first c (own_values k) (all_port_values k 0 ports) None (quiet-own c k h.own) (quiet-all-port-values c k 0 ports (λ i. h.ports (0 + i)))

module _ (k : ℕ) where
  own : (letter z : ℕ) → bytes_eq (z ∷ []) (letter ∷ []) ≡ false → Misses (value_for ((33 + k) ∷ letter ∷ [])) ((33 + k) ∷ z ∷ [])
  own letter z h = misses ((33 + k) ∷ letter ∷ []) ((33 + k) ∷ z ∷ []) (other-tail (33 + k) (33 + k) (z ∷ []) (letter ∷ []) h)

  first-state : Tells (value_for (node_code k (codes "s"))) (own_values k) (Some (codes "sR0 "))
  unfolding own_values state_lines
  first-state =
      let c = value_for (node_code k (codes "s")) in
      let o : Option (List ℕ) = Some (codes "sR0 ") in
      tells-first c (state_lines k phase.ResetStart) (behind-state k) o
      (tells-first c (node_line k (codes "s") (codes "sR0 ")) (node_line k (codes "c") (number 3 0)) o
      (node-own k (codes "s") (codes "sR0 ") refl (a-state phase.ResetStart)) (node-other c k (codes "c") (number 3 0) refl (a-number 3 0) (own 115 99 refl)))
      (tells-first c (node_line k (codes "i") (codes "bx ")) (behind-id k) None (quiet-ids c k (own 115 105 refl))
      (tells-first c (node_line k (codes "t") (codes "b0 ")) (node_line k (codes "r") (codes "b0 ")) None (quiet-timeouts c k (own 115 116 refl)) (quiet-roots c k (own 115 114 refl))))

  first-state-code : Tells (value_for (node_code k (codes "c"))) (own_values k) (Some (number 3 0))
  unfolding own_values state_lines
  first-state-code =
      let c = value_for (node_code k (codes "c")) in
      let o : Option (List ℕ) = Some (number 3 0) in
      tells-first c (state_lines k phase.ResetStart) (behind-state k) o
      (tells-then c (node_line k (codes "s") (codes "sR0 ")) (node_line k (codes "c") (number 3 0)) o
      (node-other c k (codes "s") (codes "sR0 ") refl (a-state phase.ResetStart) (own 99 115 refl)) (node-own k (codes "c") (number 3 0) refl (a-number 3 0)))
      (tells-first c (node_line k (codes "i") (codes "bx ")) (behind-id k) None (quiet-ids c k (own 99 105 refl))
      (tells-first c (node_line k (codes "t") (codes "b0 ")) (node_line k (codes "r") (codes "b0 ")) None (quiet-timeouts c k (own 99 116 refl)) (quiet-roots c k (own 99 114 refl))))

  first-id : Tells (value_for (node_code k (codes "i"))) (own_values k) (Some (codes "bx "))
  unfolding own_values
  first-id =
      let c = value_for (node_code k (codes "i")) in
      let o : Option (List ℕ) = Some (codes "bx ") in
      tells-then c (state_lines k phase.ResetStart) (behind-state k) o (quiet-states c k (own 105 115 refl) (own 105 99 refl))
      (tells-first c (node_line k (codes "i") (codes "bx ")) (behind-id k) o (node-own k (codes "i") (codes "bx ") refl unknown)
      (tells-first c (node_line k (codes "t") (codes "b0 ")) (node_line k (codes "r") (codes "b0 ")) None (quiet-timeouts c k (own 105 116 refl)) (quiet-roots c k (own 105 114 refl))))

  first-timeout : Tells (value_for (node_code k (codes "t"))) (own_values k) (Some (codes "b0 "))
  unfolding own_values
  first-timeout =
      let c = value_for (node_code k (codes "t")) in
      let o : Option (List ℕ) = Some (codes "b0 ") in
      tells-then c (state_lines k phase.ResetStart) (behind-state k) o (quiet-states c k (own 116 115 refl) (own 116 99 refl))
      (tells-then c (node_line k (codes "i") (codes "bx ")) (behind-id k) o (quiet-ids c k (own 116 105 refl))
      (tells-first c (node_line k (codes "t") (codes "b0 ")) (node_line k (codes "r") (codes "b0 ")) o (node-own k (codes "t") (codes "b0 ") refl zero-value) (quiet-roots c k (own 116 114 refl))))

  first-root : Tells (value_for (node_code k (codes "r"))) (own_values k) (Some (codes "b0 "))
  unfolding own_values
  first-root =
      let c = value_for (node_code k (codes "r")) in
      let o : Option (List ℕ) = Some (codes "b0 ") in
      tells-then c (state_lines k phase.ResetStart) (behind-state k) o (quiet-states c k (own 114 115 refl) (own 114 99 refl))
      (tells-then c (node_line k (codes "i") (codes "bx ")) (behind-id k) o (quiet-ids c k (own 114 105 refl))
      (tells-then c (node_line k (codes "t") (codes "b0 ")) (node_line k (codes "r") (codes "b0 ")) o (quiet-timeouts c k (own 114 116 refl)) (node-own k (codes "r") (codes "b0 ") refl zero-value)))

-- ---- all nodes

quiet-all-values : (c : Teller) (k : ℕ) (nodes : List PortNode) → ((i : ℕ) → MissesNode c (k + i)) → Tells c (all_values k nodes) None
quiet-all-values c k [] h = tells-nothing c
quiet-all-values c k (x ∷ nodes) h =
    let here : k + 0 ≡ k = omega arith in
    tells-first c (node_values k x.state.view.ports) (all_values (k + 1) nodes) None
    (quiet-node-values c k (subst (MissesNode c) here (h 0)) x.state.view.ports)
    (quiet-all-values c (k + 1) nodes (λ i.
    let next : k + suc i ≡ k + 1 + i = omega arith in
    subst (MissesNode c) next (h (suc i))))

one-node-values : (c : Teller) (o : Option (List ℕ)) (k m i : ℕ) (nodes : List PortNode) (x : PortNode) → ((n : ℕ) → n ≢ i → MissesNode c n) →
    k + m ≡ i → slice_get nodes m ≡ Some x → Tells c (node_values i x.state.view.ports) o → Tells c (all_values k nodes) o
one-node-values c o k m i [] x h e at t = absurd cc
one-node-values c o k zero i (y ∷ nodes) x h e at t =
    let here : i ≡ k = omega (arith, e) in
    let is : x ≡ y = sym (some-same y x at) in
    tells-first c (node_values k y.state.view.ports) (all_values (k + 1) nodes) o
    (subst (λ n. Tells c (node_values n y.state.view.ports) o) here (subst (λ (z : PortNode). Tells c (node_values i z.state.view.ports) o) is t))
    (quiet-all-values c (k + 1) nodes (λ n. h (k + 1 + n) (λ z. omega (arith, z, here))))
one-node-values c o k (suc m) i (y ∷ nodes) x h e at t =
    let next : k + 1 + m ≡ i = omega (arith, e) in
    tells-then c (node_values k y.state.view.ports) (all_values (k + 1) nodes) o
    (quiet-node-values c k (h k (λ z. omega (arith, z, e))) y.state.view.ports)
    (one-node-values c o (k + 1) m i nodes x h next at t)

-- ---- the head

-- what all values tell, the head tells
in-head : (code v : List ℕ) (legend : Legend) (w : CableWorld) → Tells (value_for code) (all_values 0 w.nodes) (Some v) →
    Tells (value_for code) (head legend w) (Some v)
unfolding head
in-head code v legend w t =
    let c = value_for code in
    let a = opening legend.nanoseconds w.delay in
    let b = all_scopes legend.names 0 w.nodes in
    let m = codes "$enddefinitions $end\n#0\n$dumpvars" in
    let rest = all_values 0 w.nodes ++ codes "$end\n" in
    let values : Tells c rest (Some v) =
    tells-first c (all_values 0 w.nodes) (codes "$end\n") (Some v) t (tells-line c (codes "$end") refl) in
    let whole = tells-last c ((a ++ (b ++ m)) ++ 10 ∷ []) rest v (last_in c (a ++ (b ++ m))) (tells-some c (a ++ (b ++ m))) values in
    let parts : ((a ++ (b ++ m)) ++ 10 ∷ []) ++ rest ≡ a ++ (b ++ (m ++ 10 ∷ rest)) =
    append_assoc (a ++ (b ++ m)) (10 ∷ []) rest ∙ append_assoc a (b ++ m) (10 ∷ rest)
    ∙ ap (λ (l : List ℕ). a ++ l) (append_assoc b m (10 ∷ rest)) in
    subst (λ (l : List ℕ). Tells c l (Some v)) parts whole

-- a node that was just powered on
pub record IsAtStart (v : View) : Type 0 where
  pub phase : v.phase ≡ phase.ResetStart
  pub id : v.id ≡ None
  pub parent : v.parent ≡ None
  pub timeout : v.timed_out ≡ false
  pub ports : (j : ℕ) (p : PortView) → slice_get v.ports j ≡ Some p → p ≡ free_port

module _ (legend : Legend) (w : CableWorld) (k : ℕ) (x : PortNode) (at : slice_get w.nodes k ≡ Some x) where
  node-told : (letter : ℕ) (v : List ℕ) → Tells (value_for ((33 + k) ∷ letter ∷ [])) (own_values k) (Some v) → Tells (value_for ((33 + k) ∷ letter ∷ [])) (head legend w) (Some v)
  node-told letter v t =
      let c = value_for ((33 + k) ∷ letter ∷ []) in
      in-head ((33 + k) ∷ letter ∷ []) v legend w (one-node-values c (Some v) 0 k k w.nodes x (λ n. no-other-node k n (letter ∷ [])) (omega arith) at
      (tells-first c (own_values k) (all_port_values k 0 x.state.view.ports) (Some v) t
      (quiet-all-port-values c k 0 x.state.view.ports (λ i z. no-port (0 + i) z))))
    where
      no-port : (j z : ℕ) → Misses (value_for ((33 + k) ∷ letter ∷ [])) ((33 + k) ∷ (33 + j) ∷ z ∷ [])
      no-port j z = misses ((33 + k) ∷ letter ∷ []) ((33 + k) ∷ (33 + j) ∷ z ∷ []) (other-tail (33 + k) (33 + k) ((33 + j) ∷ z ∷ []) (letter ∷ []) (other-tail (33 + j) letter (z ∷ []) [] refl))

  port-told : (j letter : ℕ) (v : List ℕ) → j < length x.state.view.ports → Tells (value_for ((33 + k) ∷ (33 + j) ∷ letter ∷ [])) (port_values k j) (Some v) →
      Tells (value_for ((33 + k) ∷ (33 + j) ∷ letter ∷ [])) (head legend w) (Some v)
  port-told j letter v less t =
      let c = value_for ((33 + k) ∷ (33 + j) ∷ letter ∷ []) in
      in-head ((33 + k) ∷ (33 + j) ∷ letter ∷ []) v legend w (one-node-values c (Some v) 0 k k w.nodes x (λ n. no-other-node k n ((33 + j) ∷ letter ∷ [])) (omega arith) at
      (tells-then c (own_values k) (all_port_values k 0 x.state.view.ports) (Some v) (quiet-own c k none)
      (one-port-values c k (Some v) 0 j j x.state.view.ports others (omega arith) less t)))
    where
      none : (z : ℕ) → Misses (value_for ((33 + k) ∷ (33 + j) ∷ letter ∷ [])) ((33 + k) ∷ z ∷ [])
      none z = misses ((33 + k) ∷ (33 + j) ∷ letter ∷ []) ((33 + k) ∷ z ∷ []) (other-tail (33 + k) (33 + k) (z ∷ []) ((33 + j) ∷ letter ∷ []) (other-tail z (33 + j) [] (letter ∷ []) refl))

      others : (n : ℕ) → n ≢ j → MissesPort (value_for ((33 + k) ∷ (33 + j) ∷ letter ∷ [])) k n
      others n ne z =
          misses ((33 + k) ∷ (33 + j) ∷ letter ∷ []) ((33 + k) ∷ (33 + n) ∷ z ∷ [])
          (other-tail (33 + k) (33 + k) ((33 + n) ∷ z ∷ []) ((33 + j) ∷ letter ∷ []) (other-head n j (z ∷ []) (letter ∷ []) ne))

  start-node : (v : View) → IsAtStart v → TellsNode (head legend w) k v
  start-node v h = record {
    state_word = subst (λ o. Tells (value_for (node_code k (codes "s"))) (head legend w) (Some (state_value o))) (sym h.phase) (node-told 115 (codes "sR0 ") (first-state k));
    state_code = subst (λ o. Tells (value_for (node_code k (codes "c"))) (head legend w) (Some (number 3 (state_number o)))) (sym h.phase) (node-told 99 (number 3 0) (first-state-code k));
    id = subst (λ o. Tells (value_for (node_code k (codes "i"))) (head legend w) (Some (id_value o))) (sym h.id) (node-told 105 (codes "bx ") (first-id k));
    timeout = subst (λ o. Tells (value_for (node_code k (codes "t"))) (head legend w) (Some (number 1 (flag o)))) (sym h.timeout) (node-told 116 (codes "b0 ") (first-timeout k));
    root = subst (λ (o : Bool). Tells (value_for (node_code k (codes "r"))) (head legend w) (Some (number 1 (flag o)))) (sym no-root) (node-told 114 (codes "b0 ") (first-root k));
  }
    where
      no-root : is_root v ≡ false
      no-root = rw (h.parent, h.phase) refl

  start-port : (v : View) (j : ℕ) (p : PortView) → IsAtStart v → slice_get v.ports j ≡ Some p → j < length x.state.view.ports →
      TellsPort (head legend w) k j v p
  start-port v j p h there less =
      let none : role v.parent j p ≡ 0 = rw (h.parent, h.ports j p there) refl in
      let idle : p.shown ≡ level.Idle = ap (λ (q : PortView). q.shown) (h.ports j p there) in
      record {
        role_word = subst (λ n. Tells (value_for (port_code k j (codes "r"))) (head legend w) (Some (role_value n))) (sym none) (port-told j 114 (role_value 0) less (first-role k j));
        role_code = subst (λ n. Tells (value_for (port_code k j (codes "a"))) (head legend w) (Some (number 2 n))) (sym none) (port-told j 97 (number 2 0) less (first-role-code k j));
        level_word = subst (λ l. Tells (value_for (port_code k j (codes "h"))) (head legend w) (Some (level_value l))) (sym idle) (port-told j 104 (level_value level.Idle) less (first-level k j));
        level_code = subst (λ l. Tells (value_for (port_code k j (codes "b"))) (head legend w) (Some (number 2 (level_number l)))) (sym idle) (port-told j 98 (number 2 1) less (first-level-code k j));
      }

-- the head of a dump shows a world whose nodes were just powered on, which has no other nodes and ports than that at the end
pub start-told : (legend : Legend) (end start : CableWorld) → ((k : ℕ) (x : PortNode) → slice_get start.nodes k ≡ Some x → IsAtStart x.state.view) →
    IsWithin end start → TellsWorld (head legend end) start
start-told legend end start fresh within = record {
  nodes = λ k y at.
      let x = within k y at in
      start-node legend end k x.0 x.1 y.state.view (fresh k y at);
  ports = λ k y j p at there.
      let x = within k y at in
      start-port legend end k x.0 x.1 y.state.view j p (fresh k y at) there
      (omega (arith, slice_get_within y.state.view.ports j p there, x.2));
}
