-- The cables are split one by one.
use Rattle.std.proofs.Common.{◌≡◌, ◌≢◌, ℕ, ◌+◌, ◌^◌, ◌<◌, ◌⊎◌, inl, inr, List, [], ◌∷◌, ◌++◌, length, refl, sym, subst}
use Rattle.cabling.specs.declared.cable.End.{End}
use Rattle.cabling.specs.declared.cable.Cable.{Cable}
use Rattle.cabling.specs.Wiring.{Wiring, IsCabling}
use Rattle.cabling.specs.NodeSet.{Holds, size_below}
use Rattle.cabling.specs.Component.{IsClosed, IsComponent}
use Rattle.cabling.proofs.Lemmas.{below}
use Rattle.loop_advice.specs.Cables.{IsSame, Lists, IsCableOf, HoldsEachOnce}
use Rattle.loop_advice.specs.Order.{ComesBefore, AreRising, AreInOrder}
use Rattle.loop_advice.specs.Advised.{IsLowFirst, IsAdvised, AreAdvised}
use Rattle.loop_advice.specs.Certificate.{IsCertificate}
use Rattle.loop_advice.specs.codings.Collected.{AllComeBefore}
use Rattle.loop_advice.specs.codings.Groups.{group, merged}
use Rattle.loop_advice.specs.codings.Placed.{WasPlaced}
use Rattle.loop_advice.specs.declared.groups.Groups.{Groups}
use Rattle.loop_advice.proofs.Listed.{lists_append, lists_left, lists_right, lists_last, lists_same, once_parts, once_both, of_turned, same_back}
use Rattle.loop_advice.proofs.Components.{HaveTheSame, of_other, same_each}
use Rattle.loop_advice.proofs.Collecting.{all_before_last, rising_last, rising_once}
use Rattle.loop_advice.proofs.Grouping.{Grouped, grouped_first, grouped_next, grouped_same, not_joined}
use Rattle.loop_advice.proofs.Before.{same_low, rising_before, rising_from, joined_by, advised_by}
use Rattle.loop_advice.proofs.Rooted.{Rooted, rooted_first, rooted_next, one_group, one_root}

-- a list has cables of another one, in their order
pub record Part (done part : List Cable) : Type 0 where
  pub within : (z : Cable) → Lists part z → Lists done z
  pub rise : AreRising part
  pub before : (e : End) → AllComeBefore done e → AllComeBefore part e

part_first : Part [] []
part_first = record { within = λ z l. l; rise = tt; before = λ e h. tt }

before_first : (xs : List Cable) (x : Cable) (e : End) → AllComeBefore (xs ++ x ∷ []) e →
    AllComeBefore xs e × ComesBefore x.a e
before_first [] x e h = (tt, h.0)
before_first (y ∷ ys) x e h = let rest = before_first ys x e h.1 in ((h.0, rest.0), rest.1)

-- the next cable goes elsewhere
part_same : (done part : List Cable) (x : Cable) → Part done part → Part (done ++ x ∷ []) part
part_same done part x p = record {
  within = λ z l. lists_left done (x ∷ []) z (p.within z l);
  rise = p.rise;
  before = λ e h. p.before e (before_first done x e h).0;
}

-- it goes here
part_next : (done part : List Cable) (x : Cable) → AllComeBefore done x.a → x.a.node < x.b.node →
    Part done part → Part (done ++ x ∷ []) (part ++ x ∷ [])
part_next done part x h low p = record {
  within = λ z l. elim (lists_last part x z l) [
    | inl old ↦ lists_left done (x ∷ []) z (p.within z old)
    | inr s ↦ lists_right done (x ∷ []) z (inl s)
  ];
  rise = rising_last part x p.rise (p.before x.a h) low;
  before = λ e all. let both = before_first done x e all in all_before_last part x e (p.before e both.0) both.1;
}

-- the cables so far, split
pub record Split (c : Wiring) (set n : ℕ) (done : List Cable) (g : Groups) (pulls kept : List Cable) : Type 0 where
  pub grouped : Grouped g done
  pub joins : Grouped g kept
  pub rooted : Rooted set n g kept
  pub first : Part done pulls
  pub second : Part done kept
  pub each : (z : Cable) → Lists done z → Lists pulls z ⊎ Lists kept z
  pub apart : (z : Cable) → Lists pulls z → Lists kept z → ⊥
  pub pulled : (z : Cable) → Lists pulls z → z.a.node < z.b.node → IsAdvised c set z
  pub left : (z : Cable) → Lists kept z → z.a.node < z.b.node → IsAdvised c set z → ⊥

pub split_first : (c : Wiring) (set n : ℕ) (g : Groups) → set < 2 ^ 63 →
    ((node : ℕ) → node < 63 → group g node ≡ node) → Split c set n [] g [] []
split_first c set n g small own = record {
  grouped = grouped_first g own;
  joins = grouped_first g own;
  rooted = rooted_first set n g small own;
  first = part_first;
  second = part_first;
  each = λ z l. absurd l;
  apart = λ z l m. l;
  pulled = λ z l low. absurd l;
  left = λ z l low advised. l;
}

-- the place where a cable stands in the order
pub record Place (c : Wiring) (set : ℕ) (done : List Cable) (x : Cable) (rest : List Cable) : Type 0 where
  pub cabling : IsCabling c
  pub closed : IsClosed c set
  pub small : set < 2 ^ 63
  pub order : AreInOrder c set (done ++ x ∷ rest)

place_of : (c : Wiring) (set : ℕ) (done : List Cable) (x : Cable) (rest : List Cable) →
    Place c set done x rest → IsCableOf c set x
place_of c set done x rest p = (p.order.each.all x).0 (lists_right done (x ∷ rest) x (inl (inl refl)))

place_far : (c : Wiring) (set : ℕ) (done : List Cable) (x : Cable) (rest : List Cable) →
    Place c set done x rest → Holds set x.b.node
place_far c set done x rest p = (of_turned c set x p.cabling p.closed (place_of c set done x rest p)).here

place_low : (c : Wiring) (set : ℕ) (done : List Cable) (x : Cable) (rest : List Cable) →
    Place c set done x rest → x.a.node < x.b.node
place_low c set done x rest p = (rising_from done (x ∷ rest) p.order.rising).0

place_new : (c : Wiring) (set : ℕ) (done : List Cable) (x z : Cable) (rest : List Cable) →
    Place c set done x rest → IsSame z x → Lists done z → ⊥
place_new c set done x z rest p s l = once_parts done x rest p.order.each.once (lists_same done z x (same_back z x s) l)

small_a : (c : Wiring) (set : ℕ) (done : List Cable) (x : Cable) (rest : List Cable) →
    Place c set done x rest → (z : Cable) → Lists done z → z.a.node < 63
small_a c set done x rest p z l = below set z.a.node p.small ((p.order.each.all z).0 (lists_left done (x ∷ rest) z l)).here

small_b : (c : Wiring) (set : ℕ) (done : List Cable) (x : Cable) (rest : List Cable) →
    Place c set done x rest → (z : Cable) → Lists done z → z.b.node < 63
small_b c set done x rest p z l = below set z.b.node p.small (of_turned c set z p.cabling p.closed ((p.order.each.all z).0 (lists_left done (x ∷ rest) z l))).here

-- a cable whose nodes are in one group
split_pulled : (c : Wiring) (set n : ℕ) (done : List Cable) (x : Cable) (rest pulls kept : List Cable) (g : Groups) →
    Place c set done x rest → group g x.a.node ≡ group g x.b.node →
    Split c set n done g pulls kept →
    Split c set n (done ++ x ∷ []) g (pulls ++ x ∷ []) kept
split_pulled c set n done x rest pulls kept g p same s =
    let low : x.a.node < x.b.node = place_low c set done x rest p in
    let near : x.a.node < 63 = below set x.a.node p.small (place_of c set done x rest p).here in
    let other : x.b.node < 63 = below set x.b.node p.small (place_far c set done x rest p) in
    record {
      grouped = grouped_same g done x s.grouped same;
      joins = s.joins;
      rooted = s.rooted;
      first = part_next done pulls x (rising_before done x rest p.order.rising) low s.first;
      second = part_same done kept x s.second;
      each = λ z l. elim (lists_last done x z l) [
        | inl old ↦ elim (s.each z old) [ inl a ↦ inl (lists_left pulls (x ∷ []) z a) | inr b ↦ inr b ]
        | inr is ↦ inl (lists_right pulls (x ∷ []) z (inl is))
      ];
      apart = λ z l m. elim (lists_last pulls x z l) [
        | inl old ↦ s.apart z old m
        | inr is ↦ place_new c set done x z rest p is (s.second.within z m)
      ];
      pulled = λ z l lower. elim (lists_last pulls x z l) [
        | inl old ↦ s.pulled z old lower
        | inr is ↦ subst (λ (y : Cable). IsAdvised c set y) (sym (same_low x z low lower is))
            (advised_by c set done x rest p.order (s.grouped.joined x.a.node x.b.node near other same))
      ];
      left = s.left;
    }

-- a cable that joins two groups
split_kept : (c : Wiring) (set n : ℕ) (done : List Cable) (x : Cable) (rest pulls kept : List Cable) (g after : Groups) →
    n ≡ 63 → Place c set done x rest → group g x.a.node ≢ group g x.b.node →
    ((node : ℕ) → node < 63 → group after node ≡ merged (group g x.b.node) (group g x.a.node) (group g node)) →
    Split c set n done g pulls kept →
    Split c set n (done ++ x ∷ []) after pulls (kept ++ x ∷ [])
split_kept c set n done x rest pulls kept g after e p ne is s =
    let low : x.a.node < x.b.node = place_low c set done x rest p in
    let here : Holds set x.a.node = (place_of c set done x rest p).here in
    let there : Holds set x.b.node = place_far c set done x rest p in
    let near : x.a.node < 63 = below set x.a.node p.small here in
    let other : x.b.node < 63 = below set x.b.node p.small there in
    record {
      grouped = grouped_next g after done x near other s.grouped (small_a c set done x rest p) (small_b c set done x rest p) is;
      joins = grouped_next g after kept x near other s.joins (λ z l. small_a c set done x rest p z (s.second.within z l)) (λ z l. small_b c set done x rest p z (s.second.within z l)) is;
      rooted = rooted_next set n g after kept x e p.small here there ne is s.rooted;
      first = part_same done pulls x s.first;
      second = part_next done kept x (rising_before done x rest p.order.rising) low s.second;
      each = λ z l. elim (lists_last done x z l) [
        | inl old ↦ elim (s.each z old) [ inl a ↦ inl a | inr b ↦ inr (lists_left kept (x ∷ []) z b) ]
        | inr i ↦ inr (lists_right kept (x ∷ []) z (inl i))
      ];
      apart = λ z l m. elim (lists_last kept x z m) [
        | inl old ↦ s.apart z l old
        | inr i ↦ place_new c set done x z rest p i (s.first.within z l)
      ];
      pulled = s.pulled;
      left = λ z l lower advised. elim (lists_last kept x z l) [
        | inl old ↦ s.left z old lower advised
        | inr i ↦ not_joined g done x.a.node x.b.node s.grouped ne
            (joined_by c set done x rest p.order (subst (λ (y : Cable). IsAdvised c set y) (same_low x z low lower i) advised))
      ];
    }

-- the next cable was placed
pub split_next : (c : Wiring) (set n : ℕ) (done : List Cable) (x : Cable) (rest : List Cable) (g after : Groups) (pulls pulls_after kept kept_after : List Cable) →
    n ≡ 63 → Place c set done x rest →
    WasPlaced (record { groups = g; pulls = pulls; kept = kept }) (record { groups = after; pulls = pulls_after; kept = kept_after }) x →
    Split c set n done g pulls kept → Split c set n (done ++ x ∷ []) after pulls_after kept_after
split_next c set n done x rest g after pulls pulls_after kept kept_after e p (inl w) s =
    subst (λ (h : Groups). Split c set n (done ++ x ∷ []) h pulls_after kept_after) (sym w.groups)
    (subst (λ (ps : List Cable). Split c set n (done ++ x ∷ []) g ps kept_after) (sym w.pulls)
    (subst (λ (ks : List Cable). Split c set n (done ++ x ∷ []) g (pulls ++ x ∷ []) ks) (sym w.kept)
    (split_pulled c set n done x rest pulls kept g p w.joined s)))
split_next c set n done x rest g after pulls pulls_after kept kept_after e p (inr w) s =
    subst (λ (ps : List Cable). Split c set n (done ++ x ∷ []) after ps kept_after) (sym w.pulls)
    (subst (λ (ks : List Cable). Split c set n (done ++ x ∷ []) after pulls ks) (sym w.kept)
    (split_kept c set n done x rest pulls kept g after e p w.apart w.groups s))

-- ---- all cables were placed

each_once : (c : Wiring) (set n : ℕ) (cables : List Cable) (g : Groups) (pulls kept : List Cable) →
    AreInOrder c set cables → Split c set n cables g pulls kept →
    HoldsEachOnce c set (pulls ++ kept)
each_once c set n cables g pulls kept order s = record {
  once = once_both pulls kept (rising_once pulls s.first.rise) (rising_once kept s.second.rise) s.apart;
  all = λ z. (
    (λ l. (order.each.all z).0 (elim (lists_append pulls kept z l) [ inl a ↦ s.first.within z a | inr b ↦ s.second.within z b ])),
    (λ of. elim (s.each z ((order.each.all z).1 of)) [ inl a ↦ lists_left pulls kept z a | inr b ↦ lists_right pulls kept z b ]),
  );
}

pub split_advised : (c : Wiring) (set n : ℕ) (cables : List Cable) (g : Groups) (pulls kept : List Cable) →
    AreInOrder c set cables → Split c set n cables g pulls kept → AreAdvised c set pulls kept
split_advised c set n cables g pulls kept order s = record {
  each = each_once c set n cables g pulls kept order s;
  pulls_rise = s.first.rise;
  kept_rise = s.second.rise;
  pulled = λ z is. (
    (λ l. s.pulled z l is.low),
    (λ advised. elim (s.each z ((order.each.all z).1 is.of_set)) [ inl a ↦ a | inr b ↦ absurd (s.left z b is.low advised) ]),
  );
  left = λ z is. (
    (λ l. s.left z l is.low),
    (λ out. elim (s.each z ((order.each.all z).1 is.of_set)) [ inl a ↦ absurd (out (s.pulled z a is.low)) | inr b ↦ b ]),
  );
}

pub split_valid : (c : Wiring) (node set n : ℕ) (cables : List Cable) (g : Groups) (pulls kept : List Cable) →
    n ≡ 63 → set < 2 ^ 63 → IsComponent c node set → AreInOrder c set cables →
    Split c set n cables g pulls kept → IsCertificate c node pulls kept
split_valid c node set n cables g pulls kept e small is order s =
    let same : (x : ℕ) → Holds set x → group g node ≡ group g x = one_group c node set n g cables e small is order.each s.grouped in
    record {
      component = set;
      of_node = is;
      each = each_once c set n cables g pulls kept order s;
      count = subst (λ (m : ℕ). length kept + 1 ≡ size_below set m) e (one_root set n node g kept e small is.holds s.rooted same);
      join = λ other h. s.joins.joined node other (below set node small is.holds) (below set other small h) (same other h);
    }

-- ---- the same nodes in another set

low_first_of : (c : Wiring) (set other : ℕ) (z : Cable) → HaveTheSame set other →
    IsLowFirst c set z → IsLowFirst c other z
low_first_of c set other z h is = record { of_set = of_other c set other z h is.of_set; low = is.low }

back : (set other : ℕ) → HaveTheSame set other → HaveTheSame other set
back set other h x = ((h x).1, (h x).0)

advised_of : (c : Wiring) (set other : ℕ) (z : Cable) → HaveTheSame set other → IsAdvised c set z →
    IsAdvised c other z
advised_of c set other z h advised test none = advised test (λ y is before. none y (low_first_of c set other y h is) before)

pub same_advised : (c : Wiring) (set other : ℕ) (pulls kept : List Cable) → HaveTheSame set other →
    AreAdvised c set pulls kept → AreAdvised c other pulls kept
same_advised c set other pulls kept h a = record {
  each = same_each c set other (pulls ++ kept) h a.each;
  pulls_rise = a.pulls_rise;
  kept_rise = a.kept_rise;
  pulled = λ z is.
      let was = a.pulled z (low_first_of c other set z (back set other h) is) in
      ((λ l. advised_of c set other z h (was.0 l)), (λ advised. was.1 (advised_of c other set z (back set other h) advised)));
  left = λ z is.
      let was = a.left z (low_first_of c other set z (back set other h) is) in
      ((λ l advised. was.0 l (advised_of c other set z (back set other h) advised)), (λ out. was.1 (λ advised. out (advised_of c set other z h advised))));
}
