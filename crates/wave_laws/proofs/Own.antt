-- What a node's own changes tell of each of its variables, and of those of its ports.
use Rattle.std.proofs.Common.{◌≡◌, ◌≢◌, ℕ, ◌+◌, ◌==◌, false, List, [], ◌∷◌, Option, Some, None, cond, codes, refl, sym, ◌∙◌, ap, arith}
use Rattle.std.specs.Str.{bytes_eq}
use Rattle.port_state.specs.declared.signal.Level.{Level}
use Rattle.port_state.specs.declared.signal.Level.TheVariants as level
use Rattle.port_state.specs.declared.signal.Phase.{Phase}
use Rattle.port_state.specs.declared.signal.Phase.TheVariants as phase
use Rattle.port_state.specs.declared.view.View.{View}
use Rattle.cable_world.specs.World.{CableWorld}
use Rattle.script_trace.specs.Event.{Seen, state_number}
use Rattle.script_trace.specs.waves.Value.{node_code, node_line, number, flag, state_value, id_value, id_number, is_root, level_value, level_number, state_lines}
use Rattle.script_trace.specs.waves.Change.{miss_change, state_change, id_change, timeout_change, root_change, all_port_changes, node_changes}
use Rattle.wave_laws.specs.Reading.{value_for}
use Rattle.wave_laws.proofs.Reading.{Tells, tells-first, tells-then}
use Rattle.wave_laws.proofs.Lines.{Misses, misses, a-number, other-tail, other-head, node-own, node-other}
use Rattle.wave_laws.proofs.Told.{MissesNode, MissesPort, a-state, an-id, tells-unless, quiet-miss, quiet-state, quiet-id, quiet-timeout, quiet-root, quiet-ports}

-- ---- whose numbers are the same, they are

state-by : ℕ → List ℕ
state-by n =
    cond (n == 0) (codes "sR0 ") (cond (n == 1) (codes "sR1 ") (cond (n == 2) (codes "sT0 ") (cond (n == 3) (codes "sT1 ")
    (cond (n == 4) (codes "sT2 ") (cond (n == 5) (codes "sT3 ") (cond (n == 6) (codes "sS0 ") (codes "sA0 ")))))))

state-is : (p : Phase) → state_value p ≡ state-by (state_number p)
unfolding state-by
state-is phase.ResetStart = refl
state-is phase.ResetWait = refl
state-is phase.TreeStart = refl
state-is phase.ChildShake = refl
state-is phase.ParentShake = refl
state-is phase.Contend = refl
state-is phase.SelfIdent = refl
state-is phase.Ready = refl

pub same-state : (p q : Phase) → state_number p ≡ state_number q → state_value p ≡ state_value q
same-state p q e = state-is p ∙ ap state-by e ∙ sym (state-is q)

level-by : ℕ → List ℕ
level-by n =
    cond (n == 0) (codes "sBUS_RESET ") (cond (n == 1) (codes "sIDLE ")
    (cond (n == 2) (codes "sRX_PARENT_NOTIFY ") (codes "sRX_CHILD_NOTIFY ")))

level-is : (l : Level) → level_value l ≡ level-by (level_number l)
unfolding level-by
level-is level.Reset = refl
level-is level.Idle = refl
level-is level.Parent = refl
level-is level.Child = refl

pub same-level : (l m : Level) → level_number l ≡ level_number m → level_value l ≡ level_value m
same-level l m e = level-is l ∙ ap level-by e ∙ sym (level-is m)

pub same-id : (a b : Option ℕ) → id_number a ≡ id_number b → id_value a ≡ id_value b
same-id None None e = refl
same-id None (Some n) e = absurd (omega (arith, e))
same-id (Some n) None e = absurd (omega (arith, e))
same-id (Some n) (Some m) e =
    let is : n ≡ m = omega (arith, e) in
    ap (number 6) is

-- ---- a node's own variables

-- of no port is this code
no-port : (k i : ℕ) (letter : ℕ) → (j : ℕ) → MissesPort (value_for ((33 + i) ∷ letter ∷ [])) k j
no-port k i letter j z =
    misses ((33 + i) ∷ letter ∷ []) ((33 + k) ∷ (33 + j) ∷ z ∷ [])
    (other-tail (33 + k) (33 + i) ((33 + j) ∷ z ∷ []) (letter ∷ []) (other-tail (33 + j) letter (z ∷ []) [] refl))

-- of no other node is it
pub no-other-node : (i k : ℕ) (rest : List ℕ) → k ≢ i → MissesNode (value_for ((33 + i) ∷ rest)) k
no-other-node i k rest ne = record {
  own = λ z. misses ((33 + i) ∷ rest) ((33 + k) ∷ z ∷ []) (other-head k i (z ∷ []) rest ne);
  ports = λ j z. misses ((33 + i) ∷ rest) ((33 + k) ∷ (33 + j) ∷ z ∷ []) (other-head k i ((33 + j) ∷ z ∷ []) rest ne);
}

module _ (w : CableWorld) (k : ℕ) (seen : Seen) (v : View) where
  abbrev u : View
  u = seen.view

  abbrev tells : ℕ → Option (List ℕ) → Type 0
  tells letter o = Tells (value_for ((33 + k) ∷ letter ∷ [])) (node_changes w k seen v) o

  other : (letter z : ℕ) → bytes_eq (z ∷ []) (letter ∷ []) ≡ false → Misses (value_for ((33 + k) ∷ letter ∷ [])) ((33 + k) ∷ z ∷ [])
  other letter z h = misses ((33 + k) ∷ letter ∷ []) ((33 + k) ∷ z ∷ []) (other-tail (33 + k) (33 + k) (z ∷ []) (letter ∷ []) h)

  silent-ports : (letter : ℕ) → Tells (value_for ((33 + k) ∷ letter ∷ [])) (all_port_changes w k seen v 0 v.ports) None
  silent-ports letter = quiet-ports (value_for ((33 + k) ∷ letter ∷ [])) k w seen v 0 v.ports (λ i. no-port k k letter (0 + i))

  pub own-state : tells 115 (cond (state_number u.phase == state_number v.phase) None (Some (state_value v.phase)))
  unfolding state_lines
  own-state =
      let c = value_for (node_code k (codes "s")) in
      let o = cond (state_number u.phase == state_number v.phase) None (Some (state_value v.phase)) in
      let line : Tells c (state_lines k v.phase) (Some (state_value v.phase)) =
      tells-first c (node_line k (codes "s") (state_value v.phase)) (node_line k (codes "c") (number 3 (state_number v.phase))) (Some (state_value v.phase))
      (node-own k (codes "s") (state_value v.phase) refl (a-state v.phase))
      (node-other c k (codes "c") (number 3 (state_number v.phase)) refl (a-number 3 (state_number v.phase)) (other 115 99 refl)) in
      tells-then c (miss_change k seen.missed) _ o (quiet-miss c k (other 115 109 refl) seen.missed)
      (tells-first c (state_change k u v) _ o (tells-unless c (state_lines k v.phase) (state_value v.phase) (state_number u.phase) (state_number v.phase) line)
      (tells-first c (id_change k u v) _ None (quiet-id c k (other 115 105 refl) u v)
      (tells-first c (timeout_change k u v) _ None (quiet-timeout c k (other 115 116 refl) u v)
      (tells-first c (root_change k u v) _ None (quiet-root c k (other 115 114 refl) u v) (silent-ports 115)))))

  pub own-state-code : tells 99 (cond (state_number u.phase == state_number v.phase) None (Some (number 3 (state_number v.phase))))
  unfolding state_lines
  own-state-code =
      let c = value_for (node_code k (codes "c")) in
      let o = cond (state_number u.phase == state_number v.phase) None (Some (number 3 (state_number v.phase))) in
      let line : Tells c (state_lines k v.phase) (Some (number 3 (state_number v.phase))) =
      tells-then c (node_line k (codes "s") (state_value v.phase)) (node_line k (codes "c") (number 3 (state_number v.phase))) (Some (number 3 (state_number v.phase)))
      (node-other c k (codes "s") (state_value v.phase) refl (a-state v.phase) (other 99 115 refl))
      (node-own k (codes "c") (number 3 (state_number v.phase)) refl (a-number 3 (state_number v.phase))) in
      tells-then c (miss_change k seen.missed) _ o (quiet-miss c k (other 99 109 refl) seen.missed)
      (tells-first c (state_change k u v) _ o (tells-unless c (state_lines k v.phase) (number 3 (state_number v.phase)) (state_number u.phase) (state_number v.phase) line)
      (tells-first c (id_change k u v) _ None (quiet-id c k (other 99 105 refl) u v)
      (tells-first c (timeout_change k u v) _ None (quiet-timeout c k (other 99 116 refl) u v)
      (tells-first c (root_change k u v) _ None (quiet-root c k (other 99 114 refl) u v) (silent-ports 99)))))

  pub own-id : tells 105 (cond (id_number u.id == id_number v.id) None (Some (id_value v.id)))
  own-id =
      let c = value_for (node_code k (codes "i")) in
      let o = cond (id_number u.id == id_number v.id) None (Some (id_value v.id)) in
      tells-then c (miss_change k seen.missed) _ o (quiet-miss c k (other 105 109 refl) seen.missed)
      (tells-then c (state_change k u v) _ o (quiet-state c k (other 105 115 refl) (other 105 99 refl) u v)
      (tells-first c (id_change k u v) _ o
      (tells-unless c (node_line k (codes "i") (id_value v.id)) (id_value v.id) (id_number u.id) (id_number v.id) (node-own k (codes "i") (id_value v.id) refl (an-id v.id)))
      (tells-first c (timeout_change k u v) _ None (quiet-timeout c k (other 105 116 refl) u v)
      (tells-first c (root_change k u v) _ None (quiet-root c k (other 105 114 refl) u v) (silent-ports 105)))))

  pub own-timeout : tells 116 (cond (flag u.timed_out == flag v.timed_out) None (Some (number 1 (flag v.timed_out))))
  own-timeout =
      let c = value_for (node_code k (codes "t")) in
      let n = flag v.timed_out in
      let o = cond (flag u.timed_out == n) None (Some (number 1 n)) in
      tells-then c (miss_change k seen.missed) _ o (quiet-miss c k (other 116 109 refl) seen.missed)
      (tells-then c (state_change k u v) _ o (quiet-state c k (other 116 115 refl) (other 116 99 refl) u v)
      (tells-then c (id_change k u v) _ o (quiet-id c k (other 116 105 refl) u v)
      (tells-first c (timeout_change k u v) _ o
      (tells-unless c (node_line k (codes "t") (number 1 n)) (number 1 n) (flag u.timed_out) n (node-own k (codes "t") (number 1 n) refl (a-number 1 n)))
      (tells-first c (root_change k u v) _ None (quiet-root c k (other 116 114 refl) u v) (silent-ports 116)))))

  pub own-root : tells 114 (cond (flag (is_root u) == flag (is_root v)) None (Some (number 1 (flag (is_root v)))))
  own-root =
      let c = value_for (node_code k (codes "r")) in
      let n = flag (is_root v) in
      let o = cond (flag (is_root u) == n) None (Some (number 1 n)) in
      tells-then c (miss_change k seen.missed) _ o (quiet-miss c k (other 114 109 refl) seen.missed)
      (tells-then c (state_change k u v) _ o (quiet-state c k (other 114 115 refl) (other 114 99 refl) u v)
      (tells-then c (id_change k u v) _ o (quiet-id c k (other 114 105 refl) u v)
      (tells-then c (timeout_change k u v) _ o (quiet-timeout c k (other 114 116 refl) u v)
      (tells-first c (root_change k u v) _ o
      (tells-unless c (node_line k (codes "r") (number 1 n)) (number 1 n) (flag (is_root u)) n (node-own k (codes "r") (number 1 n) refl (a-number 1 n)))
      (silent-ports 114)))))
