-- The group that a node sends is that of its label in the tree.
use Rattle.std.proofs.Common.{◌≡◌, ℕ, suc, ◌+◌, ◌-◌, Bool, true, false, not, cond, is_some, Option, Some, None, List, [], ◌∷◌, ◌++◌, length, get_or, slice_get, replicate, option_map, refl, sym, subst, ap, ◌∙◌, arith}
use Rattle.std.proofs.lemmas.Option.{slice_get-map, get_or_from_slice_get}
use Rattle.outcomes.proofs.Common.{Attrs, Node, End, far, ports_of, slot_count, PortView, NodeState, is_port, is_connected, FitsRole, PortNode, CableWorld, attrs_now}
use Rattle.self_id.specs.declared.node.PortStatus.{PortStatus}
use Rattle.self_id.specs.declared.node.PortStatus.TheVariants.{Absent, Unplugged, Up, Down}
use Rattle.cabling.proofs.Lemmas.{is_from}
use Rattle.cabling.specs.Labels as label
use Rattle.cabling.proofs.Lemmas as seen
use Rattle.port_state.specs.Valid.{HasRoles}
use Rattle.port_state.specs.Group as own
use Rattle.cable_world.specs.Lawful.{FitsCables}

-- ---- one port

same-test : (from : Option ℕ) (p : ℕ) → is_from from p ≡ is_port from p
same-test None p = refl
same-test (Some q) p = refl

port-status :
    (from : Option ℕ) (p : ℕ) (v : PortView) (o : Option End) → FitsRole from p v →
    v.connected ≡ is_some o → own.status (is_port from p) v ≡ seen.status from p o
port-status from p v None r e = rw ((r.none e).0, (r.none e).1) refl
port-status from p v (Some far) r e = plugged (is_port from p) v.child (r.one e) ∙ ap (λ (b : Bool). cond b Up Down) (sym (same-test from p))
  where
    plugged :
        (parent child : Bool) → parent ≡ not child →
        cond parent Up (cond child Down Unplugged) ≡ cond parent Up Down
    plugged parent true e = refl
    plugged parent false e = rw e refl

-- ---- all ports

port-statuses :
    (from : Option ℕ) (p : ℕ) (ps : List PortView) (row : List (Option End)) →
    length ps ≡ length row →
    ((i q : ℕ) (v : PortView) → q ≡ p + i → slice_get ps i ≡ Some v →
    FitsRole from q v × (v.connected ≡ is_some (get_or row i None)))
    → own.statuses_from p from ps ≡ seen.statuses_from from p row
port-statuses from p [] [] e h = refl
port-statuses from p [] (o ∷ row) e h = absurd (omega (arith, e))
port-statuses from p (v ∷ ps) [] e h = absurd (omega (arith, e))
port-statuses from p (v ∷ ps) (o ∷ row) e h =
    let first = h 0 p v (omega arith) refl in
    ap (λ (s : PortStatus). s ∷ own.statuses_from (p + 1) from ps) (port-status from p v o first.0 first.1)
    ∙ ap (λ (ss : List PortStatus). seen.status from p o ∷ ss) (port-statuses from (p + 1) ps row (omega (arith, e)) (λ i q u is at. h (suc i) q u (omega arith) at))

-- ---- a node

pub shown-by-label :
    (w : CableWorld) (k : ℕ) (x : PortNode) → slice_get w.nodes k ≡ Some x →
    FitsCables w k x.state → HasRoles x.state.view.parent x.state.view.ports →
    own.shown_node x.state ≡ seen.shown_node w.cabling (label.labels (attrs_now w))
    (record { node = k; from = x.state.view.parent })
shown-by-label w k x at fits roles-are =
    ap (λ (a : Attrs). node a (own.statuses_from 0 s.view.parent s.view.ports ++ replicate (slot_count s.ports - s.ports) Absent)) (sym attrs)
    ∙ ap (λ (ss : List PortStatus). node a (ss ++ replicate (slot_count s.ports - s.ports) Absent)) ports
    ∙ ap (λ (n : ℕ). node a (seen.statuses_from s.view.parent 0 row ++ replicate n Absent)) pad
  where
    s : NodeState
    s = x.state

    row : List (Option End)
    row = ports_of w.cabling k

    node : Attrs → List PortStatus → Node
    node a ss = record { attrs = a; ports = ss; kept_a = 0; kept_b = 0 }

    a : Attrs
    a = get_or (attrs_now w) k label.no_attrs

    attrs : a ≡ own.shown_attrs x.state
    attrs = get_or_from_slice_get (attrs_now w) k (own.shown_attrs x.state) label.no_attrs (slice_get-map (λ (y : PortNode). own.shown_attrs y.state) w.nodes k ∙ ap (λ (o : Option PortNode). option_map (λ (y : PortNode). own.shown_attrs y.state) o) at)

    ports : own.statuses_from 0 s.view.parent s.view.ports ≡ seen.statuses_from s.view.parent 0 row
    ports = port-statuses s.view.parent 0 s.view.ports row (fits.valid.bounded.views ∙ sym fits.ports) (λ i q v is there.
        let same : i ≡ q = omega arith in
        (subst (λ (n : ℕ). FitsRole s.view.parent n v) same (roles-are i v there), read i v there ∙ fits.connected i))
      where
        read :
            (i : ℕ) (v : PortView) → slice_get s.view.ports i ≡ Some v →
            v.connected ≡ is_connected s.view.ports i
        read i v there = rw there refl

    pad : slot_count s.ports - s.ports ≡ slot_count (length row) - length row
    pad = let n : length row ≡ s.ports = fits.ports in rw n refl
