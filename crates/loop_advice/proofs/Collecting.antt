-- The cables of a set of nodes are found end by end.
use Rattle.std.proofs.Common.{◌≡◌, ◌≢◌, ℕ, ◌+◌, ◌<◌, ◌≤◌, ◌⊎◌, inl, inr, Some, List, [], ◌∷◌, ◌++◌, length, refl, sym, subst, ap, ◌∙◌, arith}
use Rattle.std.proofs.lemmas.Bool.{cases_lt}
use Rattle.cabling.specs.declared.cable.End.{End}
use Rattle.cabling.specs.declared.cable.Cable.{Cable}
use Rattle.cabling.specs.Wiring.{Wiring, ports_of, far, IsCabling}
use Rattle.cabling.specs.NodeSet.{Holds}
use Rattle.cabling.specs.Component.{IsClosed}
use Rattle.cabling.proofs.Lemmas.{plugged, one_other, same_end, end_at}
use Rattle.loop_advice.specs.Cables.{turned, Lists, HasNoneTwice}
use Rattle.loop_advice.specs.Order.{ComesBefore, ComesBeforeAll, AreRising, AreInOrder}
use Rattle.loop_advice.specs.codings.Collected.{AllComeBefore, Collected}
use Rattle.loop_advice.proofs.Listed.{lists_left, lists_right, lists_last, lists_same, of_same}
use Rattle.loop_advice.proofs.Marking.{cable}

pub before_along : (a b d : End) → ComesBefore a b → ComesBefore b d → ComesBefore a d
before_along a b d (inl p) (inl q) = inl (omega (arith, p, q))
before_along a b d (inl p) (inr q) = inl (omega (arith, p, q.0))
before_along a b d (inr p) (inl q) = inl (omega (arith, p.0, q))
before_along a b d (inr p) (inr q) = inr (omega (arith, p.0, q.0), omega (arith, p.1, q.1))

pub not_before : (a : End) → ComesBefore a a → ⊥
not_before a (inl p) = omega (arith, p)
not_before a (inr p) = omega (arith, p.1)

before_last : (a : End) (xs : List Cable) (x : Cable) → ComesBeforeAll a xs → ComesBefore a x.a →
    ComesBeforeAll a (xs ++ x ∷ [])
before_last a [] x h p = (p, tt)
before_last a (y ∷ ys) x h p = (h.0, before_last a ys x h.1 p)

pub rising_last : (xs : List Cable) (x : Cable) → AreRising xs → AllComeBefore xs x.a →
    x.a.node < x.b.node → AreRising (xs ++ x ∷ [])
rising_last [] x h b low = (low, tt, tt)
rising_last (y ∷ ys) x h b low = (h.0, before_last y.a ys x h.1 b.0, rising_last ys x h.2 b.1 low)

all_before : (xs : List Cable) (a b : End) → AllComeBefore xs a → ComesBefore a b →
    AllComeBefore xs b
all_before [] a b h p = tt
all_before (x ∷ xs) a b h p = (before_along x.a a b h.0 p, all_before xs a b h.1 p)

pub all_before_last : (xs : List Cable) (x : Cable) (b : End) → AllComeBefore xs b →
    ComesBefore x.a b → AllComeBefore (xs ++ x ∷ []) b
all_before_last [] x b h p = (p, tt)
all_before_last (y ∷ ys) x b h p = (h.0, all_before_last ys x b h.1 p)

-- in a rising list no cable is twice
none_again : (x : Cable) (xs : List Cable) → x.a.node < x.b.node → ComesBeforeAll x.a xs →
    AreRising xs → Lists xs x → ⊥
none_again x [] low h r l = l
none_again x (y ∷ ys) low h r (inl (inl e)) = not_before x.a (subst (λ (z : Cable). ComesBefore x.a z.a) (sym e) h.0)
none_again x (y ∷ ys) low h r (inl (inr e)) = let a : x.a.node ≡ y.b.node = ap (λ (z : Cable). z.a.node) e in let b : x.b.node ≡ y.a.node = ap (λ (z : Cable). z.b.node) e in omega (arith, low, r.0, a, b)
none_again x (y ∷ ys) low h r (inr l) = none_again x ys low h.1 r.2 l

pub rising_once : (xs : List Cable) → AreRising xs → HasNoneTwice xs
rising_once [] r = tt
rising_once (x ∷ xs) r = (none_again x xs r.0 r.1 r.2, rising_once xs r.2)

pub collected_first : (c : Wiring) (set : ℕ) → Collected c set 0 0 []
collected_first c set = record {
  rising = tt;
  before = tt;
  valid = λ x l. absurd l;
  all = λ a b e h low before. elim before [ inl p ↦ absurd (omega (arith, p)) | inr p ↦ absurd (omega (arith, p.1)) ];
}

-- an end before the next port is at this port or before it
this_or_before : (a : End) (node port : ℕ) → ComesBefore a (end_at node (port + 1)) →
    (a ≡ end_at node port) ⊎ ComesBefore a (end_at node port)
this_or_before a node port (inl p) = inr (inl p)
this_or_before a node port (inr p) = elim (cases_lt a.port port) [
  | inl less ↦ inr (inr (p.0, less))
  | inr more ↦ inl (same_end a (end_at node port) p.0 (omega (arith, more, p.1)))
]

step : (node port : ℕ) → ComesBefore (end_at node port) (end_at node (port + 1))
step node port = inr (refl, omega arith)

-- a port without a cable to a greater node
pub collected_none : (c : Wiring) (set node port : ℕ) (cables : List Cable) →
    ((b : End) → far c (end_at node port) ≡ Some b → node < b.node → ⊥) →
    Collected c set node port cables → Collected c set node (port + 1) cables
collected_none c set node port cables none k = record {
  rising = k.rising;
  before = all_before cables (end_at node port) (end_at node (port + 1)) k.before (step node port);
  valid = k.valid;
  all = λ a b e h low before. elim (this_or_before a node port before) [
    | inl same ↦ absurd (none b (subst (λ (y : End). far c y ≡ Some b) same e) (subst (λ (y : End). y.node < b.node) same low))
    | inr old ↦ k.all a b e h low old
  ];
}

-- a port with one
pub collected_one : (c : Wiring) (set node port : ℕ) (other : End) (cables : List Cable) →
    IsCabling c → IsClosed c set → Holds set node → far c (end_at node port) ≡ Some other →
    node < other.node → Collected c set node port cables →
    Collected c set node (port + 1) (cables ++ cable (end_at node port) other ∷ [])
collected_one c set node port other cables is closed here joined low k =
    let x : Cable = cable (end_at node port) other in
    record {
      rising = rising_last cables (cable (end_at node port) other) k.rising k.before low;
      before = all_before_last cables (cable (end_at node port) other) (end_at node (port + 1)) (all_before cables (end_at node port) (end_at node (port + 1)) k.before (step node port)) (step node port);
      valid = λ z l. elim (lists_last cables (cable (end_at node port) other) z l) [
        | inl old ↦ k.valid z old
        | inr s ↦ of_same c set (cable (end_at node port) other) z is closed s (record { joined = joined; here = here })
      ];
      all = λ a b e h less before. elim (this_or_before a node port before) [
        | inl same ↦
            let end : b ≡ other = one_other (far c (end_at node port)) b other (subst (λ (y : End). far c y ≡ Some b) same e) joined in
            lists_right cables (cable (end_at node port) other ∷ []) (cable a b) (inl (inl (ap (λ (y : End). cable y b) same ∙ ap (cable (end_at node port)) end)))
        | inr old ↦ lists_left cables (cable (end_at node port) other ∷ []) (cable a b) (k.all a b e h less old)
      ];
    }

-- after a node's last port comes the next node
pub collected_row : (c : Wiring) (set node ports : ℕ) (cables : List Cable) →
    length (ports_of c node) ≤ ports → Collected c set node ports cables →
    Collected c set (node + 1) 0 cables
collected_row c set node ports cables last k = record {
  rising = k.rising;
  before = all_before cables (end_at node ports) (end_at (node + 1) 0) k.before (inl (omega arith));
  valid = k.valid;
  all = λ a b e h low before. k.all a b e h low (elim before [
    | inr p ↦ absurd (omega (arith, p.1))
    | inl p ↦ elim (cases_lt a.node node) [
      | inl less ↦ inl less
      | inr more ↦
          let same : a.node ≡ node = omega (arith, p, more) in
          inr (same, omega (arith, last, subst (λ (n : ℕ). a.port < length (ports_of c n)) same (plugged c a b e).port))
    ]
  ]);
}

-- a node outside the set has no cable of it
pub collected_skip : (c : Wiring) (set node : ℕ) (cables : List Cable) → (Holds set node → ⊥) →
    Collected c set node 0 cables → Collected c set (node + 1) 0 cables
collected_skip c set node cables out k = record {
  rising = k.rising;
  before = all_before cables (end_at node 0) (end_at (node + 1) 0) k.before (inl (omega arith));
  valid = k.valid;
  all = λ a b e h low before. elim before [
    | inr p ↦ absurd (omega (arith, p.1))
    | inl p ↦ elim (cases_lt a.node node) [
      | inl less ↦ k.all a b e h low (inl less)
      | inr more ↦ let same : a.node ≡ node = omega (arith, p, more) in absurd (out (subst (Holds set) same h))
    ]
  ];
}

-- after the last node all are found
pub collected_all : (c : Wiring) (set nodes : ℕ) (cables : List Cable) → IsCabling c →
    IsClosed c set → length c ≤ nodes → Collected c set nodes 0 cables → AreInOrder c set cables
collected_all c set nodes cables is closed last k = record {
  each = record {
    once = rising_once cables k.rising;
    all = λ x. (
      k.valid x,
      λ of.
          let back : far c x.b ≡ Some x.a = is.both_ways x.a x.b of.joined in
          let near : x.a.node < length c = (plugged c x.a x.b of.joined).node in
          let other : x.b.node < length c = (plugged c x.b x.a back).node in
          elim (cases_lt x.a.node x.b.node) [
            | inl low ↦ k.all x.a x.b of.joined of.here low (inl (omega (arith, near, last)))
            | inr high ↦
                let ne : x.b.node ≢ x.a.node = is.two_nodes x.b x.a back in
                let low : x.b.node < x.a.node = omega (arith, high, ne) in
                lists_same cables (turned x) x (inr refl) (k.all x.b x.a back (closed x.a x.b of.joined of.here) low (inl (omega (arith, other, last))))
          ],
    );
  };
  rising = k.rising;
}
