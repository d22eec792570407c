-- A wiring and its slots are one cabling, and show the same trees.
use Rattle.std.proofs.Common.{◌≡◌, ℕ, zero, suc, ◌+◌, ◌-◌, ◌^◌, ◌<◌, ◌≤◌, Bool, true, false, nat_le, if◌then◌else◌, IsTrue, Option, Some, None, List, [], ◌∷◌, ◌++◌, map, length, slice_get, slice_index_or, refl, sym, ◌∙◌, ap, subst, arith, length-append}
use Rattle.std.proofs.Math.ListN.{replicate}
use Rattle.std.proofs.lemmas.Bool.Decides.{nat_tests}
use Rattle.std.proofs.lemmas.List.{length-map, length-replicate}
use Rattle.std.proofs.lemmas.Nat.{pow_pos}
use Rattle.std.proofs.lemmas.Option.{slice_get_within}
use Rattle.std.specs.Prelude.{IsSomeAnd}
use Rattle.std.proofs.Math.Nat.{zero-mod}
use Rattle.self_id.specs.declared.node.Attrs.{Attrs}
use Rattle.self_id.specs.declared.standard.Standard.TheVariants.{Ieee2000}
use Rattle.self_id.specs.Node.{is_width, is_width_of, kept_a_bits, kept_b_bits, blank_b_bits}
use Rattle.self_id.specs.Slots.{slot_count}
use Rattle.topology_stack.specs.Tree.{Label, Tree, emits, branch, Slots, no_more, absent, unplugged, up, down, statuses}
use Rattle.cabling.specs.declared.cable.End.{End}
use Rattle.cabling.specs.Wiring.{Wiring, ports_of, far, IsCabling}
use Rattle.cabling.specs.Labels.{labels}
use Rattle.cabling.specs.Sees.{Sees, SeesFrom}
use Rattle.cabling.proofs.Lemmas.{Fit, RowAt, end_at, labels_fit, plugged, row_all, row_head, row_tail}
use Rattle.port_state.specs.Group.{shown_attrs}
use Rattle.port_state.specs.Machine.{PortNode}
use Rattle.cable_world.specs.Lawful.{IsWellFormed}
use Rattle.cable_world.specs.Outcome.{attrs_now}
use Rattle.cable_world.proofs.Lemmas.{reached-lawful, some-of, attrs-fit}
use Rattle.slot_cabling.specs.SlotCabling.{Place, no_port, cable_to, Leads, AreLabels, SeesSlots, SeesRow}
use Rattle.world_laws.specs.SeenTrees.{IsSeenTree}
use Rattle.world_laws.specs.WiringSlots.{place_of, row_of, slots_of, IsEmittedBySlots, PortsAreSlots, SlotsShowTheSame, SeenListsAreEmitted, SettledListsAreEmitted}

-- ---- the row of a node

row-there : (c : Wiring) (x : ℕ) → x < length c → slice_get (slots_of c) x ≡ Some (row_of (ports_of c x))
row-there [] x less = absurd (omega (arith, less))
row-there (r ∷ c) zero less = refl
row-there (r ∷ c) (suc x) less = row-there c x (omega (arith, less))

same-row : (one other : List Place) → Some one ≡ Some other → one ≡ other
same-row one other e = cc

row-is : (c : Wiring) (x : ℕ) (row : List Place) → slice_get (slots_of c) x ≡ Some row →
    (row ≡ row_of (ports_of c x)) × (x < length c)
row-is [] x row e = absurd cc
row-is (r ∷ c) zero row e = (sym (same-row (row_of r) row e), omega arith)
row-is (r ∷ c) (suc x) row e = let h = row-is c x row e in (h.0, omega (arith, h.1))

-- the ports, and so many slots behind them
abbrev padded : List (Option End) → ℕ → List Place
padded ports k = map place_of ports ++ replicate k no_port

cable-in :
    (ports : List (Option End)) (k p : ℕ) (e : End) → slice_get (padded ports k) p ≡ Some (cable_to e) →
    slice_index_or ports p None ≡ Some e
cable-in [] zero p e at = absurd cc
cable-in [] (suc k) zero e at = absurd cc
cable-in [] (suc k) (suc p) e at = cable-in [] k p e at
cable-in (None ∷ ports) k zero e at = absurd cc
cable-in (Some f ∷ ports) k zero e at = cc
cable-in (q ∷ ports) k (suc p) e at = cable-in ports k p e at

cable-out :
    (ports : List (Option End)) (k p : ℕ) (e : End) → slice_index_or ports p None ≡ Some e →
    slice_get (padded ports k) p ≡ Some (cable_to e)
cable-out [] k p e at = absurd cc
cable-out (None ∷ ports) k zero e at = absurd cc
cable-out (Some f ∷ ports) k zero e at = cc
cable-out (q ∷ ports) k (suc p) e at = cable-out ports k p e at

-- ---- one cabling

far-of : (c : Wiring) (a b : End) → Leads (slots_of c) a b → far c a ≡ Some b
far-of c a b l =
    let ports : List (Option End) = ports_of c a.node in
    let at : slice_get (row_of ports) a.port ≡ Some (cable_to b) =
    ap (λ (r : List Place). slice_get r a.port) (sym (row-is c a.node l.row l.node).0) ∙ l.slot in
    cable-in ports (slot_count (length ports) - length ports) a.port b at

leads-to : (c : Wiring) (a b : End) → far c a ≡ Some b → Leads (slots_of c) a b
leads-to c a b e =
    let ports : List (Option End) = ports_of c a.node in
    record {
      row = row_of ports;
      node = row-there c a.node (plugged c a b e).node;
      slot = cable-out ports (slot_count (length ports) - length ports) a.port b e;
    }

wide : (n : ℕ) → n ≤ 16 → n ≤ slot_count n
wide n h = grind (arith, nat_tests)

row-long : (ports : List (Option End)) → length ports ≤ 16 → length (row_of ports) ≡ slot_count (length ports)
row-long ports few =
    let rest : List Place = replicate (slot_count (length ports) - length ports) no_port in
    omega (arith, length-append (map place_of ports) rest, length-map ports place_of, length-replicate (slot_count (length ports) - length ports) no_port, wide (length ports) few)

widths : (n : ℕ) → IsTrue (is_width_of Ieee2000 (slot_count n)) × IsTrue (is_width (slot_count n))
widths n = go (nat_le n 3) (nat_le n 11)
  where
    go :
        (a b : Bool) → IsTrue (is_width_of Ieee2000 (if a then 3 else (if b then 11 else 16)))
        × IsTrue (is_width (if a then 3 else (if b then 11 else 16)))
    go true b = (refl, refl)
    go false true = (refl, refl)
    go false false = (refl, refl)

pub ports-slots : PortsAreSlots
ports-slots c is = record {
  both_ways = λ a b l. leads-to c b a (is.both_ways a b (far-of c a b l));
  two_nodes = λ a b l. is.two_nodes a b (far-of c a b l);
  few_nodes = omega (arith, is.few_nodes, length-map c row_of);
  widths = λ k row at.
      let h = row-is c k row at in
      let long : length row ≡ slot_count (length (ports_of c k)) = ap length h.0 ∙ row-long (ports_of c k) (is.few_ports k h.1) in
      subst (λ (n : ℕ). IsTrue (is_width_of Ieee2000 n)) (sym long) (widths (length (ports_of c k))).0;
}

-- ---- the same trees

module _ (c : Wiring) (is : IsCabling c) (label : ℕ → Label) where
  far-there : (x p : ℕ) (f : End) (row : List (Option End)) → RowAt c x p (Some f ∷ row) → f.node < length c
  far-there x p f row at =
      (plugged c f (end_at x p) (is.both_ways (end_at x p) f (row_head c x p (Some f) row at))).node

  -- slots without a port
  rest-to : (s : Slots) (p k : ℕ) (come : Option ℕ) → length (statuses s) ≡ k → SeesFrom c label come p [] s →
      SeesRow (slots_of c) label come p (replicate k no_port) s
  rest-to no_more p zero come e h = tt
  rest-to no_more p (suc k) come e h = absurd (omega (arith, e))
  rest-to (absent s) p zero come e h = absurd (omega (arith, e))
  rest-to (absent s) p (suc k) come e h = rest-to s (p + 1) k come (omega (arith, e)) h
  rest-to (unplugged s) p k come e h = absurd h
  rest-to (up s) p k come e h = absurd h
  rest-to (down t s) p k come e h = absurd h

  rest-from : (s : Slots) (p k : ℕ) (come : Option ℕ) → SeesRow (slots_of c) label come p (replicate k no_port) s →
      (length (statuses s) ≡ k) × SeesFrom c label come p [] s
  rest-from no_more p zero come h = (refl, tt)
  rest-from no_more p (suc k) come h = absurd h
  rest-from (absent s) p zero come h = absurd h
  rest-from (absent s) p (suc k) come h = let r = rest-from s (p + 1) k come h in (ap suc r.0, r.1)
  rest-from (unplugged s) p zero come h = absurd h
  rest-from (unplugged s) p (suc k) come h = absurd h
  rest-from (up s) p zero come h = absurd h
  rest-from (up s) p (suc k) come h = absurd h
  rest-from (down t s) p zero come h = absurd h
  rest-from (down t s) p (suc k) come h = absurd h

  mutual
    to-slots : (t : Tree) (x : ℕ) (come : Option ℕ) → x < length c → Sees c label x come t →
        SeesSlots (slots_of c) label x come t
    to-slots (branch a s) x come there h =
        let ports : List (Option End) = ports_of c x in (
          h.0,
          row_of ports,
          row-there c x there,
          to-row ports s x 0 (slot_count (length ports) - length ports) come (row_all c x)
              (omega (arith, h.1, wide (length ports) (is.few_ports x there))) h.2,
        )

    to-row :
        (row : List (Option End)) (s : Slots) (x p k : ℕ) (come : Option ℕ) → RowAt c x p row →
        length (statuses s) ≡ length row + k → SeesFrom c label come p row s →
        SeesRow (slots_of c) label come p (padded row k) s
    to-row [] s x p k come at e h = rest-to s p k come (omega (arith, e)) h
    to-row (None ∷ row) (unplugged s) x p k come at e h =
        to-row row s x (p + 1) k come (row_tail c x p None row at) (omega (arith, e)) h
    to-row (Some f ∷ row) (up s) x p k come at e h =
        (h.0, to-row row s x (p + 1) k come (row_tail c x p (Some f) row at) (omega (arith, e)) h.1)
    to-row (Some f ∷ row) (down t s) x p k come at e h = (
      h.0,
      to-slots t f.node (Some f.port) (far-there x p f row at) h.1,
      to-row row s x (p + 1) k come (row_tail c x p (Some f) row at) (omega (arith, e)) h.2,
    )
    to-row (r ∷ row) s x p k come at e h = absurd h

  mutual
    from-slots : (t : Tree) (x : ℕ) (come : Option ℕ) → x < length c → SeesSlots (slots_of c) label x come t →
        Sees c label x come t
    from-slots (branch a s) x come there h =
        let ports : List (Option End) = ports_of c x in
        let seen : SeesRow (slots_of c) label come 0 (row_of ports) s =
        subst (λ (r : List Place). SeesRow (slots_of c) label come 0 r s) (row-is c x h.1 h.2).0 h.3 in
        let r = from-row ports s x 0 (slot_count (length ports) - length ports) come (row_all c x) seen in
        (h.0, omega (arith, r.0, wide (length ports) (is.few_ports x there)), r.1)

    from-row :
        (row : List (Option End)) (s : Slots) (x p k : ℕ) (come : Option ℕ) → RowAt c x p row →
        SeesRow (slots_of c) label come p (padded row k) s →
        (length (statuses s) ≡ length row + k) × SeesFrom c label come p row s
    from-row [] s x p k come at h = let r = rest-from s p k come h in (omega (arith, r.0), r.1)
    from-row (None ∷ row) (unplugged s) x p k come at h =
        let r = from-row row s x (p + 1) k come (row_tail c x p None row at) h in (omega (arith, r.0), r.1)
    from-row (Some f ∷ row) (up s) x p k come at h =
        let r = from-row row s x (p + 1) k come (row_tail c x p (Some f) row at) h.1 in
        (omega (arith, r.0), (h.0, r.1))
    from-row (Some f ∷ row) (down t s) x p k come at h =
        let r = from-row row s x (p + 1) k come (row_tail c x p (Some f) row at) h.2 in
        (omega (arith, r.0), (h.0, from-slots t f.node (Some f.port) (far-there x p f row at) h.1, r.1))
    from-row (r ∷ row) s x p k come at h = absurd h

pub slots-same : SlotsShowTheSame
slots-same c label node from t is there =
    ((λ h. to-slots c is label t node from there h), (λ h. from-slots c is label t node from there h))

-- ---- lists

labels-room : (c : Wiring) (attrs : List Attrs) → IsCabling c → Fit c (labels attrs) →
    AreLabels (slots_of c) (labels attrs)
labels-room c attrs is fit k row at ports long =
    let h = row-is c k row at in
    let wide : length ports ≡ slot_count (length (ports_of c k)) = long ∙ ap length h.0 ∙ row-long (ports_of c k) (is.few_ports k h.1) in
    record {
      attrs = fit.attrs k h.1;
      width = subst (λ (n : ℕ). IsTrue (is_width n)) (sym wide) (widths (length (ports_of c k))).1;
      kept_a = pow_pos (kept_a_bits (length ports));
      kept_b = pow_pos (kept_b_bits (length ports));
      blank_b = zero-mod (2 ^ blank_b_bits (length ports));
    }

pub seen-emitted : SeenListsAreEmitted
seen-emitted c attrs root t h = record {
  emitted = record {
    cabling = slots_of c;
    label = labels attrs;
    root = root;
    tree = t;
    is = ports-slots c h.cabling;
    labels = labels-room c attrs h.cabling (labels_fit c attrs h.each h.fit);
    seen = to-slots c h.cabling (labels attrs) t root None h.there h.seen;
    emits_it = refl;
  };
  cabling_is = refl;
  root_is = refl;
  tree_is = refl;
}

-- ---- what has settled

pub settled-emitted : SettledListsAreEmitted
settled-emitted w reached set root t h node has =
    let f : IsWellFormed w = (reached-lawful w reached).well_formed in
    let top = some-of (slice_get w.nodes root) (λ (x : PortNode). x.state.view.parent ≡ None) h.no_parent in
    let listed = some-of (slice_get w.nodes node) (λ (x : PortNode). x.state.list.items ≡ emits t) (h.lists node has) in
    let shown : IsSeenTree w.cabling (attrs_now w) root t = record {
      cabling = f.cabling;
      there = omega (arith, f.count, slice_get_within w.nodes root top.0 top.1);
      each = length-map w.nodes (λ (x : PortNode). shown_attrs x.state) ∙ f.count;
      fit = attrs-fit w f;
      seen = h.seen;
    } in
    subst (λ (o : Option PortNode). IsSomeAnd o (λ x. IsEmittedBySlots w.cabling root t x.state.list.items)) (sym listed.1)
    (subst (IsEmittedBySlots w.cabling root t) (sym listed.2) (seen-emitted w.cabling (attrs_now w) root t shown))
