-- What a dump tells of a world, from moment to moment.
use Rattle.std.proofs.Common.{◌≡◌, ℕ, ◌+◌, ◌==◌, Bool, true, false, List, [], ◌∷◌, ◌++◌, length, Option, Some, None, inl, inr, cond, codes, refl, sym, ap, subst, arith, append_assoc}
use Rattle.std.specs.Prelude.{slice_get, decimal}
use Rattle.std.proofs.lemmas.Bool.{eqb-true}
use Rattle.std.proofs.lemmas.List.{nil_from_length}
use Rattle.std.proofs.lemmas.Option.{get_or_from_slice_get, slice_get_cases, slice_get_within}
use Rattle.port_state.specs.declared.ports.PortView.{PortView}
use Rattle.port_state.specs.declared.view.View.{View}
use Rattle.port_state.specs.PowerOn.{free_port}
use Rattle.port_state.specs.Machine.{PortNode}
use Rattle.cable_world.specs.World.{CableWorld}
use Rattle.script_text.specs.ReportText.{numbered}
use Rattle.script_trace.specs.Event.{Seen, state_number}
use Rattle.script_trace.specs.waves.Value.{node_code, port_code, number, flag, state_value, id_value, id_number, is_root, level_value, level_number, role, role_value}
use Rattle.script_trace.specs.waves.Change.{port_at, node_changes}
use Rattle.script_trace.specs.waves.Moment.{all_changes, at_time, time_of, waves_since}
use Rattle.wave_laws.specs.Reading.{value_for, time_in, last_time}
use Rattle.wave_laws.specs.Shown.{ShowsNode, ShowsPort, ShowsWorld}
use Rattle.wave_laws.proofs.Reading.{flat-both, decimal-flat, Tells, told, tells-then, tells-line}
use Rattle.wave_laws.proofs.Lines.{no-time}
use Rattle.wave_laws.proofs.Told.{changed, one-node, quiet-nodes}
use Rattle.wave_laws.proofs.Own.{same-state, same-level, same-id, no-other-node, own-state, own-state-code, own-id, own-timeout, own-root}
use Rattle.wave_laws.proofs.OwnPort.{own-role, own-role-code, own-level, own-level-code, in-node}

-- ---- what a text tells, whatever comes behind it

pub record TellsNode (text : List ℕ) (k : ℕ) (v : View) : Type 0 where
  pub state_word : Tells (value_for (node_code k (codes "s"))) text (Some (state_value v.phase))
  pub state_code : Tells (value_for (node_code k (codes "c"))) text (Some (number 3 (state_number v.phase)))
  pub id : Tells (value_for (node_code k (codes "i"))) text (Some (id_value v.id))
  pub timeout : Tells (value_for (node_code k (codes "t"))) text (Some (number 1 (flag v.timed_out)))
  pub root : Tells (value_for (node_code k (codes "r"))) text (Some (number 1 (flag (is_root v))))

pub record TellsPort (text : List ℕ) (k j : ℕ) (v : View) (p : PortView) : Type 0 where
  pub role_word : Tells (value_for (port_code k j (codes "r"))) text (Some (role_value (role v.parent j p)))
  pub role_code : Tells (value_for (port_code k j (codes "a"))) text (Some (number 2 (role v.parent j p)))
  pub level_word : Tells (value_for (port_code k j (codes "h"))) text (Some (level_value p.shown))
  pub level_code : Tells (value_for (port_code k j (codes "b"))) text (Some (number 2 (level_number p.shown)))

pub record TellsWorld (text : List ℕ) (w : CableWorld) : Type 0 where
  pub nodes : (k : ℕ) (x : PortNode) → slice_get w.nodes k ≡ Some x → TellsNode text k x.state.view
  pub ports :
      (k : ℕ) (x : PortNode) (j : ℕ) (p : PortView) → slice_get w.nodes k ≡ Some x → slice_get x.state.view.ports j ≡ Some p →
      TellsPort text k j x.state.view p

node-shown : (text : List ℕ) (k : ℕ) (v : View) → TellsNode text k v → ShowsNode text k v
node-shown text k v t = record {
  state_word = told (value_for (node_code k (codes "s"))) text (Some (state_value v.phase)) refl t.state_word;
  state_code = told (value_for (node_code k (codes "c"))) text (Some (number 3 (state_number v.phase))) refl t.state_code;
  id = told (value_for (node_code k (codes "i"))) text (Some (id_value v.id)) refl t.id;
  timeout = told (value_for (node_code k (codes "t"))) text (Some (number 1 (flag v.timed_out))) refl t.timeout;
  root = told (value_for (node_code k (codes "r"))) text (Some (number 1 (flag (is_root v)))) refl t.root;
}

port-shown : (text : List ℕ) (k j : ℕ) (v : View) (p : PortView) → TellsPort text k j v p → ShowsPort text k j v p
port-shown text k j v p t = record {
  role_word = told (value_for (port_code k j (codes "r"))) text (Some (role_value (role v.parent j p))) refl t.role_word;
  role_code = told (value_for (port_code k j (codes "a"))) text (Some (number 2 (role v.parent j p))) refl t.role_code;
  level_word = told (value_for (port_code k j (codes "h"))) text (Some (level_value p.shown)) refl t.level_word;
  level_code = told (value_for (port_code k j (codes "b"))) text (Some (number 2 (level_number p.shown))) refl t.level_code;
}

pub world-shown : (text : List ℕ) (w : CableWorld) → TellsWorld text w → ShowsWorld text w
world-shown text w t = record {
  nodes = λ k x e. node-shown text k x.state.view (t.nodes k x e);
  ports = λ k x j p e f. port-shown text k j x.state.view p (t.ports k x j p e f);
}

-- a world whose nodes are the same
pub same-nodes : (text : List ℕ) (w v : CableWorld) → v.nodes ≡ w.nodes → TellsWorld text w → TellsWorld text v
same-nodes text w v is t = record {
  nodes = λ k x e. t.nodes k x (subst (λ (ns : List PortNode). slice_get ns k ≡ Some x) is e);
  ports = λ k x j p e f. t.ports k x j p (subst (λ (ns : List PortNode). slice_get ns k ≡ Some x) is e) f;
}

-- ---- a moment's time

time-line : (code : List ℕ) (time : ℕ) (changes : List ℕ) (o : Option (List ℕ)) → Tells (value_for code) changes o →
    Tells (value_for code) (numbered (codes "#") time ++ (codes "\n" ++ changes)) o
unfolding numbered
time-line code time changes o h =
    let c = value_for code in
    let line = codes "#" ++ decimal time in
    let quiet : Tells c (line ++ 10 ∷ []) None = tells-line c line (flat-both (codes "#") (decimal time) refl (decimal-flat time)) in
    subst (λ t. Tells c t o) (append_assoc line (10 ∷ []) changes) (tells-then c (line ++ 10 ∷ []) changes o quiet h)

-- what changes tell, they tell under their time
in-time : (code : List ℕ) (time : ℕ) (changes : List ℕ) (o : Option (List ℕ)) → Tells (value_for code) changes o →
    Tells (value_for code) (at_time time changes) o
in-time code time changes o h = go (length changes == 0) refl
  where
    go : (b : Bool) → (length changes == 0) ≡ b → Tells (value_for code) (cond b [] (numbered (codes "#") time ++ (codes "\n" ++ changes))) o
    go true e = subst (λ t. Tells (value_for code) t o) (nil_from_length changes (eqb-true (length changes) 0 e)) h
    go false e = time-line code time changes o h

-- the changes tell no time
pub untimed : (w : CableWorld) (seen : List Seen) → last_time (all_changes w 0 seen w.nodes) ≡ None
untimed w seen =
    told time_in (all_changes w 0 seen w.nodes) None refl
    (quiet-nodes time_in w 0 seen w.nodes (λ i. record {
      own = λ z. no-time ((33 + (0 + i)) ∷ z ∷ []);
      ports = λ j z. no-time ((33 + (0 + i)) ∷ (33 + j) ∷ z ∷ []);
    }))

-- ---- from one moment to the next

module _ (before : List ℕ) (nanoseconds : Option ℕ) (seen : List Seen) (v : CableWorld) (k : ℕ) (s : Seen) (y : PortNode)
    (was : slice_get seen k ≡ Some s) (now : slice_get v.nodes k ≡ Some y)
  where
    abbrev after : List ℕ
    after = before ++ waves_since nanoseconds seen v

    -- what the node tells of a variable of its own, the moment tells
    in-moment : (rest : List ℕ) (o : Option (List ℕ)) → Tells (value_for ((33 + k) ∷ rest)) (node_changes v k s y.state.view) o →
        Tells (value_for ((33 + k) ∷ rest)) (waves_since nanoseconds seen v) o
    in-moment rest o t =
        in-time ((33 + k) ∷ rest) (time_of nanoseconds v.delay v.turns) (all_changes v 0 seen v.nodes) o
        (one-node (value_for ((33 + k) ∷ rest)) v o 0 k k seen v.nodes s y (λ n. no-other-node k n rest) (omega arith) was now t)

    moves : (rest old new : List ℕ) (m n : ℕ) → Tells (value_for ((33 + k) ∷ rest)) before (Some old) → (m ≡ n → old ≡ new) →
        Tells (value_for ((33 + k) ∷ rest)) (node_changes v k s y.state.view) (cond (m == n) None (Some new)) → Tells (value_for ((33 + k) ∷ rest)) after (Some new)
    moves rest old new m n x same t =
        changed (value_for ((33 + k) ∷ rest)) before (waves_since nanoseconds seen v) old new m n x same (in-moment rest (cond (m == n) None (Some new)) t)

    pub node-moves : TellsNode before k s.view → TellsNode after k y.state.view
    node-moves t =
        let u = s.view in
        let z = y.state.view in
        record {
          state_word = moves (codes "s") (state_value u.phase) (state_value z.phase) (state_number u.phase) (state_number z.phase) t.state_word
              (same-state u.phase z.phase) (own-state v k s z);
          state_code = moves (codes "c") (number 3 (state_number u.phase)) (number 3 (state_number z.phase)) (state_number u.phase) (state_number z.phase) t.state_code
              (λ e. ap (number 3) e) (own-state-code v k s z);
          id = moves (codes "i") (id_value u.id) (id_value z.id) (id_number u.id) (id_number z.id) t.id
              (same-id u.id z.id) (own-id v k s z);
          timeout = moves (codes "t") (number 1 (flag u.timed_out)) (number 1 (flag z.timed_out)) (flag u.timed_out) (flag z.timed_out) t.timeout
              (λ e. ap (number 1) e) (own-timeout v k s z);
          root = moves (codes "r") (number 1 (flag (is_root u))) (number 1 (flag (is_root z))) (flag (is_root u)) (flag (is_root z)) t.root
              (λ e. ap (number 1) e) (own-root v k s z);
        }

    pub port-moves : (j : ℕ) (p : PortView) → slice_get y.state.view.ports j ≡ Some p → TellsPort before k j s.view (port_at s.view j) →
        TellsPort after k j y.state.view p
    port-moves j p at t =
        let u = s.view in
        let q = port_at s.view j in
        let z = y.state.view in
        let m = role u.parent j q in
        let n = role z.parent j p in
        record {
          role_word = moves ((33 + j) ∷ codes "r") (role_value m) (role_value n) m n t.role_word (λ e. ap role_value e)
              (in-node v k j 114 s z p (cond (m == n) None (Some (role_value n))) at (own-role v k j s z p));
          role_code = moves ((33 + j) ∷ codes "a") (number 2 m) (number 2 n) m n t.role_code (λ e. ap (number 2) e)
              (in-node v k j 97 s z p (cond (m == n) None (Some (number 2 n))) at (own-role-code v k j s z p));
          level_word = moves ((33 + j) ∷ codes "h") (level_value q.shown) (level_value p.shown) (level_number q.shown) (level_number p.shown) t.level_word
              (same-level q.shown p.shown)
              (in-node v k j 104 s z p (cond (level_number q.shown == level_number p.shown) None (Some (level_value p.shown))) at (own-level v k j s z p));
          level_code = moves ((33 + j) ∷ codes "b") (number 2 (level_number q.shown)) (number 2 (level_number p.shown)) (level_number q.shown) (level_number p.shown) t.level_code
              (λ e. ap (number 2) e)
              (in-node v k j 98 s z p (cond (level_number q.shown == level_number p.shown) None (Some (number 2 (level_number p.shown)))) at (own-level-code v k j s z p));
        }

-- ---- all nodes of a world

-- each node of the second world is one of the first, with as many ports
abbrev pub IsWithin : CableWorld → CableWorld → Type 0
IsWithin w v =
    (k : ℕ) (y : PortNode) → slice_get v.nodes k ≡ Some y →
    (x : PortNode) × (slice_get w.nodes k ≡ Some x) × (length y.state.view.ports ≡ length x.state.view.ports)

-- this is what the nodes of a world showed
abbrev pub IsSeen : CableWorld → List Seen → Type 0
IsSeen w seen =
    (k : ℕ) (x : PortNode) → slice_get w.nodes k ≡ Some x →
    (s : Seen) × (slice_get seen k ≡ Some s) × (s.view ≡ x.state.view)

pub port-there : {X : Type 0} → (xs ys : List X) (j : ℕ) (y : X) → length ys ≡ length xs → slice_get ys j ≡ Some y →
    (x : X) × (slice_get xs j ≡ Some x)
port-there xs ys j y e at = elim (slice_get_cases xs j).1 [
  | inl found ↦ (found.0, found.2)
  | inr lacks ↦ absurd (omega (arith, lacks.0, slice_get_within ys j y at, e))
]

pub world-moves :
    (before : List ℕ) (nanoseconds : Option ℕ) (seen : List Seen) (w v : CableWorld) → IsWithin w v → IsSeen w seen →
    TellsWorld before w → TellsWorld (before ++ waves_since nanoseconds seen v) v
world-moves before nanoseconds seen w v within seen_so t = record {
  nodes = λ k y now.
      let x = within k y now in
      let s = seen_so k x.0 x.1 in
      node-moves before nanoseconds seen v k s.0 y s.1 now
      (subst (TellsNode before k) (sym s.2) (t.nodes k x.0 x.1));
  ports = λ k y j p now at.
      let x = within k y now in
      let s = seen_so k x.0 x.1 in
      let q = port-there x.0.state.view.ports y.state.view.ports j p x.2 at in
      let is : port_at x.0.state.view j ≡ q.0 = get_or_from_slice_get x.0.state.view.ports j q.0 free_port q.1 in
      port-moves before nanoseconds seen v k s.0 y s.1 now j p at
      (subst (λ (u : View). TellsPort before k j u (port_at u j)) (sym s.2)
      (subst (TellsPort before k j x.0.state.view) (sym is) (t.ports k x.0 j q.0 x.1 q.1)));
}
