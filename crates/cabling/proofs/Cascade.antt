-- Where no part of a set is looped, a node with at most one cable into the rest can be taken away, and
-- it needn't be the root.
use Rattle.std.proofs.Common.{◌≡◌, ◌≢◌, ℕ, zero, suc, ◌+◌, ◌*◌, ◌%◌, ◌^◌, ◌<◌, ◌↔◌, ◌⊎◌, inl, inr, Bool, true, false, length, Option, Some, None, refl, sym, subst, ap, arith, bit_and}
use Rattle.std.specs.Int.{bit_at, bit_not, w64}
use Rattle.std.proofs.lemmas.Bool.{cases_eq, cases_lt, cases_order}
use Rattle.cabling.specs.declared.cable.End.{End}
use Rattle.cabling.specs.Wiring.{Wiring, ports_of, far, IsCabling}
use Rattle.cabling.specs.NodeSet.{Holds, IsWithin}
use Rattle.cabling.specs.Looped.{LeadsInto, HasTwo, IsLooped}
use Rattle.cabling.proofs.Bits.{below, removed, removed-gone, removed-others, removed-small, fewer}
use Rattle.cabling.proofs.Ends.{one_other, none_some}
use Rattle.cabling.proofs.Near.{end_at}
use Rattle.cabling.proofs.Stripping.{Counted, counted_no, counted_first, counted_second, counted_all}

-- ---- what can be decided

pub holds_or_not : (set x : ℕ) → Holds set x ⊎ (Holds set x → ⊥)
holds_or_not set x = elim (cases_eq (bit_at set x) 1) [ inl h ↦ inl h | inr n ↦ inr n ]

leads_by : (c : Wiring) (set : ℕ) (end : End) (x : Option End) → far c end ≡ x →
    LeadsInto c set end ⊎ (LeadsInto c set end → ⊥)
leads_by c set end None e = inr (λ l. none_some (far c end) l.0 e l.1)
leads_by c set end (Some other) e = elim (holds_or_not set other.node) [
  | inl h ↦ inl (other, e, h)
  | inr n ↦ inr (λ l. n (subst (λ (o : End). Holds set o.node) (one_other (far c end) l.0 other l.1 e) l.2))
]

leads_or_not : (c : Wiring) (set : ℕ) (end : End) → LeadsInto c set end ⊎ (LeadsInto c set end → ⊥)
leads_or_not c set end = leads_by c set end (far c end) refl

abbrev CountedSome : Wiring → ℕ → ℕ → ℕ → Type 0
CountedSome c set node ports = HasTwo c set node ⊎ ((one : Bool) × Counted c set node ports one)

counted_next : (c : Wiring) (set node port : ℕ) (one : Bool) → Counted c set node port one →
    CountedSome c set node (port + 1)
counted_next c set node port true before = elim (leads_or_not c set (end_at node port)) [
  | inl l ↦ inl (counted_second c set node port before l)
  | inr n ↦ inr (true, counted_no c set node port true n before)
]
counted_next c set node port false before = elim (leads_or_not c set (end_at node port)) [
  | inl l ↦ inr (true, counted_first c set node port before l)
  | inr n ↦ inr (false, counted_no c set node port false n before)
]

counted_to : (c : Wiring) (set node ports : ℕ) → CountedSome c set node ports
counted_to c set node zero = inr (false, λ q less l. omega (arith, less))
counted_to c set node (suc ports) = elim (counted_to c set node ports) [
  | inl two ↦ inl two
  | inr before ↦ subst (λ (n : ℕ). CountedSome c set node n) (omega arith) (counted_next c set node ports before.0 before.1)
]

pub two_or_not : (c : Wiring) (set node : ℕ) → HasTwo c set node ⊎ (HasTwo c set node → ⊥)
two_or_not c set node = elim (counted_to c set node (length (ports_of c node))) [
  | inl two ↦ inl two
  | inr before ↦ inr (counted_all c set node (length (ports_of c node)) before.0 before.1 (omega arith))
]

-- two different ports that lead into a set
pub two_of : (c : Wiring) (set node p q : ℕ) → p ≢ q → LeadsInto c set (end_at node p) →
    LeadsInto c set (end_at node q) → HasTwo c set node
two_of c set node p q ne lp lq = elim (cases_order p q) [
  | inl same ↦ absurd (ne same)
  | inr differ ↦ elim differ [
    | inl less ↦ record { low = p; high = q; apart = less; low_leads = lp; high_leads = lq }
    | inr more ↦ record { low = q; high = p; apart = more; low_leads = lq; high_leads = lp }
  ]
]

-- of the first nodes one other than this has fewer than two cables into the set, or each has two
pub record Weak (c : Wiring) (set but x : ℕ) : Type 0 where
  pub here : Holds set x
  pub other : x ≢ but
  pub weak : HasTwo c set x → ⊥

weak_below : (c : Wiring) (set but n : ℕ) →
    ((x : ℕ) × Weak c set but x) ⊎ ((x : ℕ) → x < n → Holds set x → x ≢ but → HasTwo c set x)
weak_below c set but zero = inr (λ x less h ne. absurd (omega (arith, less)))
weak_below c set but (suc n) = elim (weak_below c set but n) [
  | inl found ↦ inl found
  | inr all ↦ elim (holds_or_not set n) [
    | inr out ↦ inr (λ x less h ne. elim (cases_lt x n) [ inl b ↦ all x b h ne | inr a ↦ let same : x ≡ n = omega arith in absurd (out (subst (λ (y : ℕ). Holds set y) same h)) ])
    | inl is ↦ elim (cases_eq n but) [
      | inl same_but ↦ inr (λ x less h ne. elim (cases_lt x n) [ inl b ↦ all x b h ne | inr a ↦ absurd (ne (omega arith)) ])
      | inr ne_but ↦ elim (two_or_not c set n) [
        | inr weak ↦ inl (n, record { here = is; other = ne_but; weak = weak })
        | inl two ↦ inr (λ x less h ne. elim (cases_lt x n) [ inl b ↦ all x b h ne | inr a ↦ let same : n ≡ x = omega arith in subst (λ (y : ℕ). HasTwo c set y) same two ])
      ]
    ]
  ]
]

pub weak_or_all : (c : Wiring) (set but : ℕ) → set < 2 ^ 63 →
    ((x : ℕ) × Weak c set but x) ⊎ ((x : ℕ) → Holds set x → x ≢ but → HasTwo c set x)
weak_or_all c set but small = elim (weak_below c set but 63) [
  | inl found ↦ inl found
  | inr all ↦ inr (λ x h ne. all x (below set x small h) h ne)
]

-- ---- one node less

pub record Less (set node less : ℕ) : Type 0 where
  pub gone : Holds less node → ⊥
  pub others : (x : ℕ) → x ≢ node → (Holds less x ↔ Holds set x)
  pub value : less < set
  pub small : less < 2 ^ 63

pub less_by : (set node : ℕ) → set < 2 ^ 63 → Holds set node → (less : ℕ) × Less set node less
less_by set node small h =
    let in_64 : node < 64 = omega (arith, below set node small h) in
    let less : ℕ = bit_and set (bit_not w64 (1 * 2 ^ node % 2 ^ 64)) in (
      less,
      record {
        gone = removed-gone set node in_64;
        others = removed-others set node (omega arith) in_64;
        value = fewer set less node (removed set node (omega arith) in_64 h);
        small = removed-small set (bit_not w64 (1 * 2 ^ node % 2 ^ 64)) small;
      },
    )

pub less_within : (set node less : ℕ) → Less set node less → IsWithin less set
less_within set node less l x h = elim (cases_eq x node) [
  | inl same ↦ absurd (l.gone (subst (λ (y : ℕ). Holds less y) same h))
  | inr ne ↦ (l.others x ne).0 h
]

pub not_gone : (set node less x : ℕ) → Less set node less → Holds less x → x ≢ node
not_gone set node less x l h same = l.gone (subst (λ (y : ℕ). Holds less y) same h)

-- a port that leads into the set leads to the node that is gone, or into the rest
leads_less : (c : Wiring) (set node less : ℕ) (end : End) → Less set node less →
    LeadsInto c set end →
    ((other : End) × (far c end ≡ Some other) × (other.node ≡ node)) ⊎ LeadsInto c less end
leads_less c set node less end l leads = elim (cases_eq leads.0.node node) [
  | inl same ↦ inl (leads.0, leads.1, same)
  | inr ne ↦ inr (leads.0, leads.1, (l.others leads.0.node ne).1 leads.2)
]

-- whoever had two has two into the rest, or has a port to the node that is gone
two_less : (c : Wiring) (set node less x : ℕ) → Less set node less → HasTwo c set x →
    ((port : ℕ) × (other : End) × (far c (end_at x port) ≡ Some other) × (other.node ≡ node)) ⊎ HasTwo c less x
two_less c set node less x l two = elim (leads_less c set node less (end_at x two.low) l two.low_leads) [
  | inl g ↦ inl (two.low, g.0, g.1, g.2)
  | inr low ↦ elim (leads_less c set node less (end_at x two.high) l two.high_leads) [
    | inl g ↦ inl (two.high, g.0, g.1, g.2)
    | inr high ↦ inr (record { low = two.low; high = two.high; apart = two.apart; low_leads = low; high_leads = high })
  ]
]

-- ---- the cascade

abbrev pub NoLoop : Wiring → ℕ → Type 0
NoLoop c set = (part x : ℕ) → IsWithin part set → IsLooped c part → Holds part x → ⊥

back_port : (c : Wiring) (node x port : ℕ) (other : End) → IsCabling c →
    far c (end_at x port) ≡ Some other → other.node ≡ node →
    far c (end_at node other.port) ≡ Some (end_at x port)
back_port c node x port other is e same = subst (λ (n : ℕ). far c (end_at n other.port) ≡ Some (end_at x port)) same (is.both_ways (end_at x port) other e)

-- two ports of other nodes that lead to a node, or two ports of one: the node has two cables into the set
two_back : (c : Wiring) (set node x y p q : ℕ) (ox oy : End) → IsCabling c → Holds set x →
    Holds set y → far c (end_at x p) ≡ Some ox → ox.node ≡ node → far c (end_at y q) ≡ Some oy →
    oy.node ≡ node → end_at x p ≢ end_at y q → HasTwo c set node
two_back c set node x y p q ox oy is hx hy ex nx ey ny apart =
    let bx : far c (end_at node ox.port) ≡ Some (end_at x p) = back_port c node x p ox is ex nx in
    let by : far c (end_at node oy.port) ≡ Some (end_at y q) = back_port c node y q oy is ey ny in
    two_of c set node ox.port oy.port
    (λ same. apart (one_other (far c (end_at node oy.port)) (end_at x p) (end_at y q) (subst (λ (n : ℕ). far c (end_at node n) ≡ Some (end_at x p)) same bx) by))
    (end_at x p, bx, hx) (end_at y q, by, hy)

apart_nodes : (x y p q : ℕ) → x ≢ y → end_at x p ≢ end_at y q
apart_nodes x y p q ne same = ne (ap (λ (e : End). e.node) same)

apart_ports : (x p q : ℕ) → p < q → end_at x p ≢ end_at x q
apart_ports x p q less same = let e : p ≡ q = ap (λ (e : End). e.port) same in omega arith

-- All nodes but one have two cables into the set, and there is another one: some part is looped.
pub cascade : (fuel : ℕ) (c : Wiring) (all set node other : ℕ) → IsCabling c → NoLoop c all →
    set < fuel → set < 2 ^ 63 → IsWithin set all → Holds set node → (HasTwo c set node → ⊥) →
    ((x : ℕ) → Holds set x → x ≢ node → HasTwo c set x) → Holds set other → other ≢ node → ⊥
cascade zero c all set node other is none less small within has weak strong there ne = omega (arith, less)
cascade (suc fuel) c all set node other is none less small within has weak strong there ne =
    let rest = less_by set node small has in
    let l : Less set node rest.0 = rest.1 in
    let keeps : (x : ℕ) → Holds rest.0 x → HasTwo c set x = λ x h. strong x (less_within set node rest.0 l x h) (not_gone set node rest.0 x l h) in
    elim (weak_or_all c rest.0 63 l.small) [
      | inr looped ↦ none rest.0 other (λ x h. within x (less_within set node rest.0 l x h)) (λ x h. looped x h (λ same. omega (arith, below rest.0 x l.small h))) ((l.others other ne).1 there)
      | inl found ↦
          let w : ℕ = found.0 in
          let in_rest : Holds rest.0 w = found.1.here in
          elim (two_less c set node rest.0 w l (keeps w in_rest)) [
            | inr two ↦ found.1.weak two
            | inl w_port ↦
                let strong_rest : (x : ℕ) → Holds rest.0 x → x ≢ w → HasTwo c rest.0 x = λ x h ne_w. elim (two_less c set node rest.0 x l (keeps x h)) [
                  | inr two ↦ two
                  | inl x_port ↦ absurd (weak (two_back c set node x w x_port.0 w_port.0 x_port.1 w_port.1 is (less_within set node rest.0 l x h) (less_within set node rest.0 l w in_rest) x_port.2 x_port.3 w_port.2 w_port.3 (apart_nodes x w x_port.0 w_port.0 ne_w)))
                ] in
                let two : HasTwo c set w = keeps w in_rest in
                let onward : (end : End) (port : ℕ) → far c (end_at w port) ≡ Some end → Holds rest.0 end.node → ⊥ = λ end port e h.
                cascade fuel c all rest.0 w end.node is none (omega (arith, l.value, less)) l.small (λ x g. within x (less_within set node rest.0 l x g)) in_rest found.1.weak strong_rest h (λ same. is.two_nodes (end_at w port) end e (sym same)) in
                elim (leads_less c set node rest.0 (end_at w two.low) l two.low_leads) [
                  | inr low ↦ onward low.0 two.low low.1 low.2
                  | inl low ↦ elim (leads_less c set node rest.0 (end_at w two.high) l two.high_leads) [
                    | inr high ↦ onward high.0 two.high high.1 high.2
                    | inl high ↦ weak (two_back c set node w w two.low two.high low.0 high.0 is (less_within set node rest.0 l w in_rest) (less_within set node rest.0 l w in_rest) low.1 low.2 high.1 high.2 (apart_ports w two.low two.high two.apart))
                  ]
                ]
          ]
    ]
