-- How far the sweeps have come after one more part of a row.
use Rattle.std.proofs.Common.{◌≡◌, ◌≢◌, ℕ, ◌+◌, ◌-◌, ◌*◌, ◌<◌, ◌≤◌, List, [], ◌∷◌, length, min, get_or, set, replicate, Some, refl, sym, ap, subst, ◌∙◌, inl, inr, ⊎_elim, arith, length-set}
use Rattle.std.specs.Prelude.{slice_get}
use Rattle.std.proofs.Math.Nat.{min_comm}
use Rattle.std.proofs.lemmas.Bool.{cases_lt, cases_eq}
use Rattle.std.proofs.lemmas.List.{get_or-set_same, get_or-set_other, length-replicate, get_or-replicate}
use Rattle.self_id.specs.Node.{Node}
use Rattle.topology_stack.specs.Tree.{Tree, walk, IsBusTree}
use Rattle.topology_stack.specs.Far.{Far}
use Rattle.speed_map.specs.Path.{IsNew, speed_at, path_speed}
use Rattle.speed_map.specs.Rows.{cell, AreRows}
use Rattle.speed_map.specs.codings.Sweep.{first_of, IsUnder, Written, AllDown, IsDown, AllBetween, Leads, IsFull, Rising, Taking, Falling}
use Rattle.speed_map.proofs.Facts.{one_far, slot_within, first_le, child_in, parent_in, in_child, nested, first_of_root}

-- ---- paths

-- a path down from a child, seen from its parent
lowered : (t : Tree) (id k to : ℕ) (ids : List ℕ) → k < id → AllDown t k to ids →
    AllDown t id to ids × IsNew id ids
lowered t id k to [] lt all = (tt, tt)
lowered t id k to (j ∷ ids) lt all =
    let rest = lowered t id k to ids lt all.2 in
    ((omega (arith, all.0, lt), all.1, rest.0), (omega (arith, all.0, lt), rest.1))

pub down_one : (t : Tree) (id slot k to speed cap new : ℕ) → Far t id slot (Some k) → k < id →
    IsUnder t to k → IsDown t k to speed → cap ≡ speed_at t id → new ≡ min speed cap →
    IsDown t id to new
down_one t id slot k to speed cap new far lt under d limit is =
    let r = lowered t id k to d.ids lt d.down_all in
    record {
      ids = k ∷ d.ids;
      path = (record { slot = slot; far = far }, (omega (arith, lt), r.1), d.path);
      down_all = (lt, under, r.0);
      speed_is = is ∙ (rw (d.speed_is, limit) (min_comm (path_speed t k d.ids) (speed_at t id)));
    }

-- a path down leads to a node
down_leads : (t : Tree) (id to : ℕ) (ids : List ℕ) → id < length (walk t) → AllDown t id to ids →
    AllBetween t id to ids
down_leads t id to [] lt all = tt
down_leads t id to (k ∷ ids) lt all = (omega (arith, all.0, lt), inr all.1, down_leads t id to ids lt all.2)

pub leads_down : (t : Tree) (id to speed : ℕ) → id < length (walk t) → IsDown t id to speed →
    Leads t id to speed
leads_down t id to speed lt d = record { ids = d.ids; path = d.path; between = down_leads t id to d.ids lt d.down_all; speed_is = d.speed_is }

-- a path from the parent to a node outside of the subtree, seen from the node
raised : (t : Tree) (id p to : ℕ) (ids : List ℕ) → id < p → first_of t p ≤ first_of t id →
    first_of t id ≤ id → (IsUnder t to id → ⊥) → AllBetween t p to ids →
    AllBetween t id to ids × IsNew id ids
raised t id p to [] lt low own out all = (tt, tt)
raised t id p to (k ∷ ids) lt low own out all =
    let rest = raised t id p to ids lt low own out all.2 in
    ⊎_elim
    (λ (u : IsUnder t p k).
    let inner = nested t k p all.0 u in
    let high = u.high in
    ((all.0, inl (record { low = omega (arith, inner, low, own); high = omega (arith, high, lt) }), rest.0), (omega (arith, high, lt), rest.1)))
    (λ (u : IsUnder t to k). ((all.0, inr u, rest.0), ((λ (same : id ≡ k). out (subst (IsUnder t to) (sym same) u)), rest.1)))
    all.1

pub leads_one : (t : Tree) (id slot p to speed cap new : ℕ) → Far t id slot (Some p) → id < p →
    p < length (walk t) → first_of t p ≤ first_of t id → first_of t id ≤ id →
    (IsUnder t to id → ⊥) →
    Leads t p to speed → cap ≡ speed_at t id → new ≡ min speed cap → Leads t id to new
leads_one t id slot p to speed cap new far lt within low own out l limit is =
    let r = raised t id p to l.ids lt low own out l.between in
    record {
      ids = p ∷ l.ids;
      path = (record { slot = slot; far = far }, (omega (arith, lt), r.1), l.path);
      between = (within, inl (record { low = omega (arith, low, own); high = omega (arith, lt) }), r.0);
      speed_is = is ∙ (rw (l.speed_is, limit) (min_comm (path_speed t p l.ids) (speed_at t id)));
    }

-- ---- the first sweep

pub rising_start : (t : Tree) (rows : List ℕ) → rows ≡ replicate (64 * length (walk t)) 0 →
    Rising t rows 0
rising_start t rows e = record {
  size = ap length e ∙ length-replicate (64 * length (walk t)) 0;
  clear = λ (n m : ℕ) (ln : n < length (walk t)) (lm : length (walk t) ≤ m) (le : m < 64).
      ap (λ (l : List ℕ). get_or l (64 * n + m) 0) e ∙ get_or-replicate (64 * length (walk t)) (64 * n + m) 0 0 (omega (arith, ln, le));
  lower = λ (k : ℕ) (lt : k < 0). absurd (omega (arith, lt));
}

-- a byte that isn't the one written
other_cell : (rows : List ℕ) (id v n m : ℕ) → id < 64 → m < 64 → (n ≡ id → m ≡ id → ⊥) →
    cell (set rows (64 * id + id) v) n m ≡ cell rows n m
other_cell rows id v n m small le ne = get_or-set_other rows (64 * id + id) (64 * n + m) v 0 (λ (e : 64 * n + m ≡ 64 * id + id). ne (omega (arith, e, small, le)) (omega (arith, e, small, le)))

pub taking_start : (t : Tree) (rows : List ℕ) (id v : ℕ) → IsBusTree t → id < length (walk t) →
    Rising t rows id → v ≡ speed_at t id → Taking t (set rows (64 * id + id) v) id 0 id
taking_start t rows id v bus lt h is =
    let few = bus.small in
    let size = h.size in
    record {
      rising = record {
        size = length-set rows (64 * id + id) v ∙ size;
        clear = λ (n m : ℕ) (ln : n < length (walk t)) (lm : length (walk t) ≤ m) (le : m < 64).
            other_cell rows id v n m (omega (arith, few, lt)) le (λ (a : n ≡ id) (b : m ≡ id). omega (arith, lm, lt, b)) ∙ h.clear n m ln lm le;
        lower = λ (k : ℕ) (lk : k < id) (m : ℕ) (u : IsUnder t m k).
            let high = u.high in
            subst (IsDown t k m) (sym (other_cell rows id v k m (omega (arith, few, lt)) (omega (arith, few, lt, lk, high)) (λ (a : k ≡ id) (b : m ≡ id). omega (arith, lk, a)))) (h.lower k lk m u);
      };
      own = record { ids = []; path = refl; down_all = tt; speed_is = get_or-set_same rows (64 * id + id) v 0 (omega (arith, size, lt, few)) ∙ is };
      first_low = first_le t id lt;
      first_high = omega arith;
      taken = λ (s k : ℕ) (ls : s < 0). absurd (omega (arith, ls));
    }

-- a slot that leads to no child
pub taking_skip : (t : Tree) (rows : List ℕ) (id slot first : ℕ) → Taking t rows id slot first →
    ((k : ℕ) → Far t id slot (Some k) → id ≤ k) → Taking t rows id (slot + 1) first
taking_skip t rows id slot first h none = record {
  rising = h.rising;
  own = h.own;
  first_low = h.first_low;
  first_high = h.first_high;
  taken = λ (s k : ℕ) (ls : s < slot + 1) (far : Far t id s (Some k)) (lk : k < id). ⊎_elim
      (λ (before : s < slot). h.taken s k before far lk)
      (λ (here : slot ≤ s). let same : s ≡ slot = omega (arith, ls, here) in absurd (let le = none k (subst (λ (x : ℕ). Far t id x (Some k)) same far) in omega (arith, le, lk)))
      (cases_lt s slot);
}

-- a slot that leads to a child
pub taking_more : (t : Tree) (rows new : List ℕ) (id slot first k cap : ℕ) → IsBusTree t →
    id < length (walk t) → Taking t rows id slot first → Far t id slot (Some k) → k < id →
    cap ≡ speed_at t id →
    length new ≡ length rows → Written rows new k id (first_of t k) (k + 1) cap → Taking t new id (slot + 1) (min first (first_of t k))
taking_more t rows new id slot first k cap bus lt h far lk limit long w =
    let few = bus.small in
    let inside = child_in t id slot k bus lt far lk in
    let low_k = first_le t k (omega (arith, lt, lk)) in
    let old_low = h.first_low in
    let old_high = h.first_high in
    let fresh : (m : ℕ) → IsUnder t m k → IsDown t id m (cell new id m)
    = λ (m : ℕ) (u : IsUnder t m k). let high = u.high in down_one t id slot k m (cell rows k m) cap (cell new id m) far lk u (h.rising.lower k lk m u) limit (w.part m u.low (omega (arith, high))) in
    let kept : (m : ℕ) → m < 64 → IsDown t id m (cell rows id m) → IsDown t id m (cell new id m)
    = λ (m : ℕ) (lm : m < 64) (d : IsDown t id m (cell rows id m)). ⊎_elim
    (λ (below : m < first_of t k). subst (IsDown t id m) (sym (w.before m below)) d)
    (λ (from : first_of t k ≤ m). ⊎_elim
    (λ (within : m < k + 1). fresh m (record { low = from; high = omega (arith, within) }))
    (λ (behind : k + 1 ≤ m). subst (IsDown t id m) (sym (w.behind m behind lm)) d)
    (cases_lt m (k + 1)))
    (cases_lt m (first_of t k)) in
    record {
      rising = record {
        size = long ∙ h.rising.size;
        clear = λ (n m : ℕ) (ln : n < length (walk t)) (lm : length (walk t) ≤ m) (le : m < 64). ⊎_elim
            (λ (same : n ≡ id). ap (λ (x : ℕ). cell new x m) same ∙ w.behind m (omega (arith, lm, lt, lk)) le ∙ ap (λ (x : ℕ). cell rows x m) (sym same) ∙ h.rising.clear n m ln lm le)
            (λ (ne : n ≢ id). w.others n m ne le ∙ h.rising.clear n m ln lm le)
            (cases_eq n id);
        lower = λ (j : ℕ) (lj : j < id) (m : ℕ) (u : IsUnder t m j).
            let high = u.high in
            subst (IsDown t j m) (sym (w.others j m (omega (arith, lj)) (omega (arith, few, lt, lj, high)))) (h.rising.lower j lj m u);
      };
      own = kept id (omega (arith, few, lt)) h.own;
      first_low = omega (arith, inside, old_low);
      first_high = omega (arith, old_high);
      taken = λ (s j : ℕ) (ls : s < slot + 1) (g : Far t id s (Some j)) (lj : j < id). ⊎_elim
          (λ (before : s < slot).
          let p = h.taken s j before g lj in
          (let le = p.0 in omega (arith, le), λ (m : ℕ) (u : IsUnder t m j). let high = u.high in kept m (omega (arith, few, lt, lj, high)) (p.1 m u)))
          (λ (here : slot ≤ s).
          let same : s ≡ slot = omega (arith, ls, here) in
          let is : k ≡ j = one_far t id slot k j far (subst (λ (x : ℕ). Far t id x (Some j)) same g) in
          subst (λ (x : ℕ). (min first (first_of t k) ≤ first_of t x) × ((m : ℕ) → IsUnder t m x → IsDown t id m (cell new id m))) is (omega arith, fresh))
          (cases_lt s slot);
    }

pub record Done (t : Tree) (rows : List ℕ) (id first : ℕ) : Type 0 where
  pub first_is : first ≡ first_of t id
  pub rising : Rising t rows (id + 1)

-- all slots
pub taking_all : (t : Tree) (rows : List ℕ) (id slot first : ℕ) (n : Node) → id < length (walk t) →
    slice_get (walk t) id ≡ Some n → length n.ports ≤ slot → Taking t rows id slot first →
    Done t rows id first
taking_all t rows id slot first n lt e all h =
    let low = h.first_low in
    let high = h.first_high in
    let own_low = first_le t id lt in
    let each : (m : ℕ) → IsUnder t m id → m < id → (first ≤ m) × IsDown t id m (cell rows id m)
    = λ (m : ℕ) (u : IsUnder t m id) (lm : m < id).
    let c = in_child t id m lt u lm in
    let within = slot_within t id c.slot (Some c.k) n lt c.far e in
    let p = h.taken c.slot c.k (omega (arith, within, all)) c.far c.before in
    let le = p.0 in
    let under = c.under.low in
    (omega (arith, le, under), p.1 m c.under) in
    let first_same : first ≡ first_of t id = ⊎_elim
    (λ (less : first_of t id < id). let p = (each (first_of t id) (record { low = omega arith; high = own_low }) less).0 in omega (arith, p, low))
    (λ (ge : id ≤ first_of t id). omega (arith, ge, low, high, own_low))
    (cases_lt (first_of t id) id) in
    record {
      first_is = first_same;
      rising = record {
        size = h.rising.size;
        clear = h.rising.clear;
        lower = λ (k : ℕ) (lk : k < id + 1) (m : ℕ) (u : IsUnder t m k). ⊎_elim
            (λ (before : k < id). h.rising.lower k before m u)
            (λ (here : id ≤ k).
            let same : id ≡ k = omega (arith, lk, here) in
            let v : IsUnder t m id = subst (IsUnder t m) (sym same) u in
            let top = v.high in
            let d : IsDown t id m (cell rows id m) = ⊎_elim
            (λ (less : m < id). (each m v less).1)
            (λ (ge : id ≤ m). let at : id ≡ m = omega (arith, ge, top) in subst (λ (x : ℕ). IsDown t id x (cell rows id x)) at h.own)
            (cases_lt m id) in
            subst (λ (x : ℕ). IsDown t x m (cell rows x m)) same d)
            (cases_lt k id);
      };
    }

-- ---- the second sweep

pub falling_start : (t : Tree) (rows : List ℕ) (root : ℕ) → root + 1 ≡ length (walk t) →
    Rising t rows (length (walk t)) → Falling t rows root
falling_start t rows root e h =
    let at : length (walk t) - 1 ≡ root = omega (arith, e) in
    let first : first_of t root ≡ 0 = ap (first_of t) (sym at) ∙ first_of_root t in
    record {
      size = h.size;
      clear = h.clear;
      lower = λ (k : ℕ) (lk : k < root). h.lower k (omega (arith, lk, e));
      full = λ (k : ℕ) (le : root ≤ k) (lt : k < length (walk t)) (m : ℕ) (lm : m < length (walk t)).
          let same : root ≡ k = omega (arith, le, lt, e) in
          let d : IsDown t root m (cell rows root m) = h.lower root (omega (arith, e)) m (record { low = omega (arith, first); high = omega (arith, lm, e) }) in
          leads_down t k m (cell rows k m) lt (subst (λ (x : ℕ). IsDown t x m (cell rows x m)) same d);
    }

pub falling_more : (t : Tree) (rows half new : List ℕ) (id slot p cap : ℕ) → IsBusTree t →
    id + 1 < length (walk t) → Falling t rows (id + 1) → Far t id slot (Some p) → id < p →
    cap ≡ speed_at t id →
    length half ≡ length rows → length new ≡ length half → Written rows half p id 0 (first_of t id) cap → Written half new p id (id + 1) (length (walk t)) cap → Falling t new id
falling_more t rows half new id slot p cap bus lt h far after limit long long' w v =
    let few = bus.small in
    let q = parent_in t id slot p lt far after in
    let own = first_le t id (omega (arith, lt)) in
    let other : (n m : ℕ) → n ≢ id → m < 64 → cell new n m ≡ cell rows n m
    = λ (n m : ℕ) (ne : n ≢ id) (lm : m < 64). v.others n m ne lm ∙ w.others n m ne lm in
    let front : (m : ℕ) → m < first_of t id → cell new id m ≡ min (cell rows p m) cap
    = λ (m : ℕ) (lm : m < first_of t id). v.before m (omega (arith, lm, own)) ∙ w.part m (omega arith) lm in
    let back : (m : ℕ) → id + 1 ≤ m → m < length (walk t) → cell new id m ≡ min (cell rows p m) cap
    = λ (m : ℕ) (gt : id + 1 ≤ m) (lm : m < length (walk t)).
    v.part m gt lm ∙ ap (λ (x : ℕ). min x cap) (w.others p m (omega (arith, after)) (omega (arith, lm, few))) in
    let middle : (m : ℕ) → first_of t id ≤ m → m < id + 1 → cell new id m ≡ cell rows id m
    = λ (m : ℕ) (ge : first_of t id ≤ m) (lm : m < id + 1). v.before m lm ∙ w.behind m ge (omega (arith, lm, lt, few)) in
    let outside : (m : ℕ) → m < length (walk t) → (IsUnder t m id → ⊥) → cell new id m ≡ min (cell rows p m) cap → Leads t id m (cell new id m)
    = λ (m : ℕ) (lm : m < length (walk t)) (out : IsUnder t m id → ⊥) (is : cell new id m ≡ min (cell rows p m) cap).
    leads_one t id slot p m (cell rows p m) cap (cell new id m) far after q.0 q.1 own out (h.full p (omega (arith, after)) q.0 m lm) limit is in
    let mine : IsFull t new id
    = λ (m : ℕ) (lm : m < length (walk t)). ⊎_elim
    (λ (below : m < first_of t id). outside m lm (λ (u : IsUnder t m id). let low = u.low in omega (arith, low, below)) (front m below))
    (λ (ge : first_of t id ≤ m). ⊎_elim
    (λ (within : m < id + 1). subst (Leads t id m) (sym (middle m ge within)) (leads_down t id m (cell rows id m) (omega (arith, lt)) (h.lower id (omega arith) m (record { low = ge; high = omega (arith, within) }))))
    (λ (behind : id + 1 ≤ m). outside m lm (λ (u : IsUnder t m id). let high = u.high in omega (arith, high, behind)) (back m behind lm))
    (cases_lt m (id + 1)))
    (cases_lt m (first_of t id)) in
    record {
      size = long' ∙ long ∙ h.size;
      clear = λ (n m : ℕ) (ln : n < length (walk t)) (lm : length (walk t) ≤ m) (le : m < 64). ⊎_elim
          (λ (same : n ≡ id).
          ap (λ (x : ℕ). cell new x m) same ∙ v.behind m lm le ∙ w.behind m (omega (arith, lm, lt, own)) le ∙ ap (λ (x : ℕ). cell rows x m) (sym same) ∙ h.clear n m ln lm le)
          (λ (ne : n ≢ id). other n m ne le ∙ h.clear n m ln lm le)
          (cases_eq n id);
      lower = λ (k : ℕ) (lk : k < id) (m : ℕ) (u : IsUnder t m k).
          let high = u.high in
          subst (IsDown t k m) (sym (other k m (omega (arith, lk)) (omega (arith, lk, lt, few, high)))) (h.lower k (omega (arith, lk)) m u);
      full = λ (k : ℕ) (le : id ≤ k) (ln : k < length (walk t)). ⊎_elim
          (λ (later : id < k) (m : ℕ) (lm : m < length (walk t)). subst (Leads t k m) (sym (other k m (omega (arith, later)) (omega (arith, lm, few)))) (h.full k (omega (arith, later)) ln m lm))
          (λ (here : k ≤ id). let same : id ≡ k = omega (arith, le, here) in subst (IsFull t new) same mine)
          (cases_lt id k);
    }

pub rows_done : (t : Tree) (rows : List ℕ) → Falling t rows 0 → AreRows t rows
rows_done t rows h = record {
  size = h.size;
  speeds = λ (n m : ℕ) (ln : n < length (walk t)) (lm : m < length (walk t)). let l = h.full n (omega arith) ln m lm in record { ids = l.ids; path = l.path; speed_is = l.speed_is };
  zeros = h.clear;
}

-- the same, where the first ID was read from a table
pub taking_read : (t : Tree) (rows new : List ℕ) (id slot first k low cap : ℕ) → IsBusTree t →
    id < length (walk t) → Taking t rows id slot first → Far t id slot (Some k) → k < id →
    cap ≡ speed_at t id →
    length new ≡ length rows → low ≡ first_of t k → Written rows new k id low (k + 1) cap → Taking t new id (slot + 1) (min first low)
taking_read t rows new id slot first k low cap bus lt h far lk limit long is w =
    subst (λ (x : ℕ). Taking t new id (slot + 1) (min first x)) (sym is) (taking_more t rows new id slot first k cap bus lt h far lk limit long (subst (λ (x : ℕ). Written rows new k id x (k + 1) cap) is w))
