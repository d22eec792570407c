-- Ready nodes are the first of the walk.
use Rattle.std.proofs.Common.{◌≡◌, ℕ, zero, suc, ◌+◌, ◌<◌, ◌≤◌, inl, inr, Bool, true, Option, Some, None, List, length, refl, sym, subst, ap, arith}
use Rattle.std.proofs.lemmas.Bool.{cases_eq, cases_lt}
use Rattle.std.proofs.lemmas.Option.{slice_get_within}
use Rattle.outcomes.proofs.Common.{End, Wiring, ports_of, far, IsCabling, Holds, IsClosed, LeadsUp, place, Marked, plugged, end_at, from_or_not}
use Rattle.outcomes.specs.Parents.{HasParents}
use Rattle.outcomes.specs.Intervals.{LeadsToChild}
use Rattle.outcomes.specs.InTurn.{InTurn, ReadyFirst}
use Rattle.outcomes.proofs.walks.Rising.{places-differ, child-before}

-- the child below which a place lies, among the ports below a number
record Child (c : Wiring) (parent : ℕ → Option ℕ) (mark : ℕ → ℕ → ℕ) (k n i : ℕ) : Type 0 where
  pub port : ℕ
  pub end : End
  pub leads : LeadsToChild c parent k port end
  pub small : port < n
  pub low : mark end.node 0 ≤ i
  pub high : i ≤ place c mark end.node

module _
    (c : Wiring) (parent : ℕ → Option ℕ) (set root : ℕ) (order : List ℕ) (mark : ℕ → ℕ → ℕ)
    (is : IsCabling c) (closed : IsClosed c set) (m : Marked c parent set root order mark)
    (ups : HasParents c set root parent) where
  child-at :
      (k p i : ℕ) → Holds set k → p < length (ports_of c k) → mark k p ≤ i → i < mark k (p + 1) →
      (n : ℕ) → p < n → Child c parent mark k n i
  child-at k p i h less low high n small = go (far c (end_at k p)) refl
    where
      go : (o : Option End) → far c (end_at k p) ≡ o → Child c parent mark k n i
      go None e = absurd (omega (arith, m.stays k p h less (inl e), low, high))
      go (Some b) e = elim (from_or_not (parent k) p) [
        | inl up ↦ absurd (omega (arith, m.stays k p h less (inr up), low, high))
        | inr ne ↦ record {
          port = p;
          end = b;
          leads = record { joined = e; onward = ne };
          small = small;
          low = omega (arith, m.enters k p b h e ne, low);
          high = omega (arith, m.leaves k p b h e ne, high);
        }
      ]

  child-of :
      (k n i : ℕ) → Holds set k → n ≤ length (ports_of c k) → mark k 0 ≤ i → i < mark k n →
      (top : ℕ) → n ≤ top → Child c parent mark k top i
  child-of k zero i h most low high top le = absurd (omega (arith, low, high))
  child-of k (suc n) i h most low high top le = elim (cases_lt i (mark k n)) [
    | inl less ↦ child-of k n i h (omega (arith, most)) low less top (omega (arith, le))
    | inr more ↦ let next : suc n ≡ n + 1 = omega arith in child-at k n i h (omega (arith, most)) more (omega (arith, high, ap (mark k) next)) top (omega (arith, le))
  ]

  module _ (turn ready : ℕ → Bool) (t : InTurn c parent set turn ready) where
    -- below a ready node all are ready
    below-ready :
        (fuel k j : ℕ) → place c mark k < fuel → Holds set k → Holds set j → ready k ≡ true →
        mark k 0 ≤ place c mark j → place c mark j ≤ place c mark k → ready j ≡ true
    below-ready zero k j less hk hj r low high = absurd (omega (arith, less))
    below-ready (suc fuel) k j less hk hj r low high = elim (cases_eq (place c mark j) (place c mark k)) [
      | inl same ↦ subst (λ (n : ℕ). ready n ≡ true) (sym (places-differ c parent set root order mark m j k hj hk same)) r
      | inr ne ↦
          let b : Child c parent mark k (length (ports_of c k)) (place c mark j) = child-of k (length (ports_of c k)) (place c mark j) hk (omega arith) low (omega (arith, ne, high)) (length (ports_of c k)) (omega arith) in
          below-ready fuel b.end.node j
          (omega (arith, less, child-before c parent set root order mark m k b.port b.end hk b.leads.joined b.leads.onward))
          (closed (end_at k b.port) b.end b.leads.joined hk) hj (t.down k b.port b.end hk b.leads r) b.low b.high
    ]

    -- before a node that has its turn all are ready
    before-turn :
        (fuel k j : ℕ) → length order ≤ place c mark k + fuel → Holds set k → Holds set j →
        turn k ≡ true → place c mark j < mark k 0 → ready j ≡ true
    before-turn zero k j few hk hj r less = absurd (omega (arith, few, slice_get_within order (place c mark k) k (m.at k hk)))
    before-turn (suc fuel) k j few hk hj r less = elim (cases_eq k root) [
      | inl same ↦ absurd (omega (arith, less, m.first, ap (λ (n : ℕ). mark n 0) same))
      | inr ne ↦
          let u : LeadsUp c parent k = ups.others k hk ne in
          let w : End = u.end in
          let here : Holds set w.node = closed (end_at k u.port) w u.joined hk in
          let leads : LeadsToChild c parent w.node w.port (end_at k u.port) = record { joined = is.both_ways (end_at k u.port) w u.joined; onward = u.child } in
          let from : mark k 0 ≡ mark w.node w.port = m.enters w.node w.port (end_at k u.port) here leads.joined leads.onward in
          elim (cases_lt (place c mark j) (mark w.node 0)) [
            | inl earlier ↦
                before-turn fuel w.node j
                (omega (arith, few, child-before c parent set root order mark m w.node w.port (end_at k u.port) here leads.joined leads.onward))
                here hj (t.up w.node w.port (end_at k u.port) here leads r) earlier
            | inr later ↦
                let d : Child c parent mark w.node w.port (place c mark j) = child-of w.node w.port (place c mark j) here (omega (arith, (plugged c (end_at w.node w.port) (end_at k u.port) leads.joined).port)) later (omega (arith, less, from)) w.port (omega arith) in
                below-ready (suc (place c mark d.end.node)) d.end.node j (omega arith)
                (closed (end_at w.node d.port) d.end d.leads.joined here) hj
                (t.left w.node d.port w.port d.end (end_at k u.port) here d.leads leads d.small r) d.low d.high
          ]
    ]

    pub ready-first : ReadyFirst c set mark turn ready
    ready-first = record {
      before = λ j k hj hk r less. before-turn (length order) k j (omega arith) hk hj r less;
      first = λ j k hj hk r le. elim (cases_lt (place c mark j) (mark k 0)) [
        | inl less ↦ before-turn (length order) k j (omega arith) hk hj (t.own k hk r) less
        | inr more ↦ below-ready (suc (place c mark k)) k j (omega arith) hk hj r more le
      ];
    }
