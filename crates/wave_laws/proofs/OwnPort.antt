-- What the changes of a port tell of each of its variables.
use Rattle.std.proofs.Common.{◌≡◌, ◌≢◌, ℕ, ◌+◌, ◌==◌, false, List, [], ◌∷◌, Option, Some, None, cond, codes, refl, arith}
use Rattle.std.specs.Prelude.{slice_get}
use Rattle.std.specs.Str.{bytes_eq}
use Rattle.port_state.specs.declared.ports.PortView.{PortView}
use Rattle.port_state.specs.declared.view.View.{View}
use Rattle.cable_world.specs.World.{CableWorld}
use Rattle.script_trace.specs.Event.{Seen}
use Rattle.script_trace.specs.waves.Value.{port_code, port_line, number, level_value, level_number, role, role_value, role_lines, shown_lines}
use Rattle.script_trace.specs.waves.Change.{miss_change, state_change, id_change, timeout_change, root_change, port_at, role_change, shown_change, port_changes, node_changes}
use Rattle.wave_laws.specs.Reading.{value_for}
use Rattle.wave_laws.proofs.Reading.{Tells, tells-first, tells-then}
use Rattle.wave_laws.proofs.Lines.{Misses, misses, a-number, a-role, other-tail, other-head, port-own, port-other}
use Rattle.wave_laws.proofs.Told.{MissesPort, a-level, tells-unless, quiet-miss, quiet-state, quiet-id, quiet-timeout, quiet-root, quiet-role, quiet-shown, quiet-rest, one-port}

module _ (w : CableWorld) (k j : ℕ) (seen : Seen) (v : View) (p : PortView) where
  abbrev u : View
  u = seen.view

  abbrev before : PortView
  before = port_at u j

  abbrev tells : ℕ → Option (List ℕ) → Type 0
  tells letter o = Tells (value_for ((33 + k) ∷ (33 + j) ∷ letter ∷ [])) (port_changes w k seen v j p) o

  other : (letter z : ℕ) → bytes_eq (z ∷ []) (letter ∷ []) ≡ false →
      Misses (value_for ((33 + k) ∷ (33 + j) ∷ letter ∷ [])) ((33 + k) ∷ (33 + j) ∷ z ∷ [])
  other letter z h =
      misses ((33 + k) ∷ (33 + j) ∷ letter ∷ []) ((33 + k) ∷ (33 + j) ∷ z ∷ [])
      (other-tail (33 + k) (33 + k) ((33 + j) ∷ z ∷ []) ((33 + j) ∷ letter ∷ [])
      (other-tail (33 + j) (33 + j) (z ∷ []) (letter ∷ []) h))

  pub own-role : tells 114 (cond (role u.parent j before == role v.parent j p) None (Some (role_value (role v.parent j p))))
  unfolding role_lines
  own-role =
      let c = value_for (port_code k j (codes "r")) in
      let n = role v.parent j p in
      let o = cond (role u.parent j before == n) None (Some (role_value n)) in
      let line : Tells c (role_lines k j n) (Some (role_value n)) =
      tells-first c (port_line k j (codes "r") (role_value n)) (port_line k j (codes "a") (number 2 n)) (Some (role_value n))
      (port-own k j (codes "r") (role_value n) refl (a-role n))
      (port-other c k j (codes "a") (number 2 n) refl (a-number 2 n) (other 114 97 refl)) in
      tells-first c (role_change k u v j p) _ o (tells-unless c (role_lines k j n) (role_value n) (role u.parent j before) n line)
      (tells-first c (shown_change k u j p) _ None (quiet-shown c k j (other 114 104 refl) (other 114 98 refl) u p)
      (quiet-rest c k j (record { sends = other 114 115 refl; sends_code = other 114 99 refl; grant = other 114 103 refl; packet = other 114 112 refl; done = other 114 100 refl }) w seen p))

  pub own-role-code : tells 97 (cond (role u.parent j before == role v.parent j p) None (Some (number 2 (role v.parent j p))))
  unfolding role_lines
  own-role-code =
      let c = value_for (port_code k j (codes "a")) in
      let n = role v.parent j p in
      let o = cond (role u.parent j before == n) None (Some (number 2 n)) in
      let line : Tells c (role_lines k j n) (Some (number 2 n)) =
      tells-then c (port_line k j (codes "r") (role_value n)) (port_line k j (codes "a") (number 2 n)) (Some (number 2 n))
      (port-other c k j (codes "r") (role_value n) refl (a-role n) (other 97 114 refl))
      (port-own k j (codes "a") (number 2 n) refl (a-number 2 n)) in
      tells-first c (role_change k u v j p) _ o (tells-unless c (role_lines k j n) (number 2 n) (role u.parent j before) n line)
      (tells-first c (shown_change k u j p) _ None (quiet-shown c k j (other 97 104 refl) (other 97 98 refl) u p)
      (quiet-rest c k j (record { sends = other 97 115 refl; sends_code = other 97 99 refl; grant = other 97 103 refl; packet = other 97 112 refl; done = other 97 100 refl }) w seen p))

  pub own-level : tells 104 (cond (level_number before.shown == level_number p.shown) None (Some (level_value p.shown)))
  unfolding shown_lines
  own-level =
      let c = value_for (port_code k j (codes "h")) in
      let n = level_number p.shown in
      let o = cond (level_number before.shown == n) None (Some (level_value p.shown)) in
      let line : Tells c (shown_lines k j p.shown) (Some (level_value p.shown)) =
      tells-first c (port_line k j (codes "h") (level_value p.shown)) (port_line k j (codes "b") (number 2 n)) (Some (level_value p.shown))
      (port-own k j (codes "h") (level_value p.shown) refl (a-level p.shown))
      (port-other c k j (codes "b") (number 2 n) refl (a-number 2 n) (other 104 98 refl)) in
      tells-then c (role_change k u v j p) _ o (quiet-role c k j (other 104 114 refl) (other 104 97 refl) u v p)
      (tells-first c (shown_change k u j p) _ o (tells-unless c (shown_lines k j p.shown) (level_value p.shown) (level_number before.shown) n line)
      (quiet-rest c k j (record { sends = other 104 115 refl; sends_code = other 104 99 refl; grant = other 104 103 refl; packet = other 104 112 refl; done = other 104 100 refl }) w seen p))

  pub own-level-code : tells 98 (cond (level_number before.shown == level_number p.shown) None (Some (number 2 (level_number p.shown))))
  unfolding shown_lines
  own-level-code =
      let c = value_for (port_code k j (codes "b")) in
      let n = level_number p.shown in
      let o = cond (level_number before.shown == n) None (Some (number 2 n)) in
      let line : Tells c (shown_lines k j p.shown) (Some (number 2 n)) =
      tells-then c (port_line k j (codes "h") (level_value p.shown)) (port_line k j (codes "b") (number 2 n)) (Some (number 2 n))
      (port-other c k j (codes "h") (level_value p.shown) refl (a-level p.shown) (other 98 104 refl))
      (port-own k j (codes "b") (number 2 n) refl (a-number 2 n)) in
      tells-then c (role_change k u v j p) _ o (quiet-role c k j (other 98 114 refl) (other 98 97 refl) u v p)
      (tells-first c (shown_change k u j p) _ o (tells-unless c (shown_lines k j p.shown) (number 2 n) (level_number before.shown) n line)
      (quiet-rest c k j (record { sends = other 98 115 refl; sends_code = other 98 99 refl; grant = other 98 103 refl; packet = other 98 112 refl; done = other 98 100 refl }) w seen p))

-- ---- in all of a node

-- what a port tells of a variable of its own, its node tells
pub in-node : (w : CableWorld) (k j letter : ℕ) (seen : Seen) (v : View) (p : PortView) (o : Option (List ℕ)) →
    slice_get v.ports j ≡ Some p →
    Tells (value_for ((33 + k) ∷ (33 + j) ∷ letter ∷ [])) (port_changes w k seen v j p) o →
    Tells (value_for ((33 + k) ∷ (33 + j) ∷ letter ∷ [])) (node_changes w k seen v) o
in-node w k j letter seen v p o at t =
    let c = value_for ((33 + k) ∷ (33 + j) ∷ letter ∷ []) in
    tells-then c (miss_change k seen.missed) _ o (quiet-miss c k (none 109) seen.missed)
    (tells-then c (state_change k seen.view v) _ o (quiet-state c k (none 115) (none 99) seen.view v)
    (tells-then c (id_change k seen.view v) _ o (quiet-id c k (none 105) seen.view v)
    (tells-then c (timeout_change k seen.view v) _ o (quiet-timeout c k (none 116) seen.view v)
    (tells-then c (root_change k seen.view v) _ o (quiet-root c k (none 114) seen.view v)
    (one-port c w k seen v o 0 j j v.ports p others (omega arith) at t)))))
  where
    none : (z : ℕ) → Misses (value_for ((33 + k) ∷ (33 + j) ∷ letter ∷ [])) ((33 + k) ∷ z ∷ [])
    none z = misses ((33 + k) ∷ (33 + j) ∷ letter ∷ []) ((33 + k) ∷ z ∷ []) (other-tail (33 + k) (33 + k) (z ∷ []) ((33 + j) ∷ letter ∷ []) (other-tail z (33 + j) [] (letter ∷ []) refl))

    others : (n : ℕ) → n ≢ j → MissesPort (value_for ((33 + k) ∷ (33 + j) ∷ letter ∷ [])) k n
    others n ne z =
        misses ((33 + k) ∷ (33 + j) ∷ letter ∷ []) ((33 + k) ∷ (33 + n) ∷ z ∷ [])
        (other-tail (33 + k) (33 + k) ((33 + n) ∷ z ∷ []) ((33 + j) ∷ letter ∷ []) (other-head n j (z ∷ []) (letter ∷ []) ne))
