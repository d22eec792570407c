-- A core is what is left where nodes with fewer than two cables into the rest were taken away.
use Rattle.std.proofs.Common.{◌≡◌, ◌≢◌, ℕ, ◌+◌, ◌<◌, ◌≤◌, ◌↔◌, ◌⊎◌, inl, inr, Bool, true, false, MatchBool, List, get_or, length, Option, Some, None, sym, subst, ap, ◌∙◌, refl, arith}
use Rattle.std.proofs.lemmas.Bool.{cases_eq, cases_lt}
use Rattle.cabling.specs.declared.cable.End.{End}
use Rattle.cabling.specs.Wiring.{Wiring, ports_of, far, IsCabling}
use Rattle.cabling.specs.NodeSet.{Holds, IsWithin}
use Rattle.cabling.specs.Component.{IsNeighbour}
use Rattle.cabling.specs.Looped.{LeadsInto, HasTwo, IsLooped, IsCore}
use Rattle.cabling.proofs.Ends.{plugged}
use Rattle.cabling.proofs.Near.{end_at, at_row}

-- ---- counting to two

-- of the ports below a number exactly one leads into the set
pub record OneLeads (c : Wiring) (set node ports : ℕ) : Type 0 where
  pub port : ℕ
  pub there : port < ports
  pub leads : LeadsInto c set (end_at node port)
  pub only : (q : ℕ) → q < ports → LeadsInto c set (end_at node q) → q ≡ port

abbrev pub Counted : Wiring → ℕ → ℕ → ℕ → Bool → Type 0
Counted c set node ports true = OneLeads c set node ports
Counted c set node ports false = (q : ℕ) → q < ports → LeadsInto c set (end_at node q) → ⊥

pub counted_no : (c : Wiring) (set node port : ℕ) (one : Bool) →
    (LeadsInto c set (end_at node port) → ⊥) → Counted c set node port one →
    Counted c set node (port + 1) one
counted_no c set node port false not_here before = λ q less leads. elim (cases_lt q port) [
  | inl below ↦ before q below leads
  | inr above ↦ let same : q ≡ port = omega arith in not_here (subst (λ (p : ℕ). LeadsInto c set (end_at node p)) same leads)
]
counted_no c set node port true not_here before = record {
  port = before.port;
  there = omega (arith, before.there);
  leads = before.leads;
  only = λ q less leads. elim (cases_lt q port) [
    | inl below ↦ before.only q below leads
    | inr above ↦ let same : q ≡ port = omega arith in absurd (not_here (subst (λ (p : ℕ). LeadsInto c set (end_at node p)) same leads))
  ];
}

pub counted_first : (c : Wiring) (set node port : ℕ) → Counted c set node port false →
    LeadsInto c set (end_at node port) → Counted c set node (port + 1) true
counted_first c set node port before leads = record {
  port = port;
  there = omega arith;
  leads = leads;
  only = λ q less l. elim (cases_lt q port) [
    | inl below ↦ absurd (before q below l)
    | inr above ↦ omega arith
  ];
}

pub counted_second : (c : Wiring) (set node port : ℕ) → Counted c set node port true →
    LeadsInto c set (end_at node port) → HasTwo c set node
counted_second c set node port before leads = record {
  low = before.port;
  high = port;
  apart = before.there;
  low_leads = before.leads;
  high_leads = leads;
}

port_there : (c : Wiring) (set node port : ℕ) → LeadsInto c set (end_at node port) →
    port < length (ports_of c node)
port_there c set node port l = (plugged c (end_at node port) l.0 l.1).port

pub counted_all : (c : Wiring) (set node ports : ℕ) (one : Bool) → Counted c set node ports one →
    length (ports_of c node) ≤ ports → HasTwo c set node → ⊥
counted_all c set node ports false none all two = none two.low (omega (arith, all, port_there c set node two.low two.low_leads)) two.low_leads
counted_all c set node ports true one all two =
    omega (
      arith,
      two.apart,
      one.only two.low (omega (arith, all, port_there c set node two.low two.low_leads)) two.low_leads,
      one.only two.high (omega (arith, all, port_there c set node two.high two.high_leads)) two.high_leads,
    )

-- what the test of one port says
abbrev pub Tested : ℕ → Option End → Bool → Type 0
Tested set x r = MatchBool r ((other : End) × (x ≡ Some other) × Holds set other.node) ((other : End) → x ≡ Some other → Holds set other.node → ⊥)

pub leads_if : (c : Wiring) (set node port : ℕ) (row : List (Option End)) (r : Bool) →
    row ≡ ports_of c node → r ≡ true → Tested set (get_or row port None) r →
    LeadsInto c set (end_at node port)
leads_if c set node port row true e is t = (t.0, at_row c row node port (Some t.0) e t.1, t.2)
leads_if c set node port row false e is t = absurd cc

pub leads_not : (c : Wiring) (set node port : ℕ) (row : List (Option End)) (r : Bool) →
    row ≡ ports_of c node → r ≡ false → Tested set (get_or row port None) r →
    LeadsInto c set (end_at node port) → ⊥
leads_not c set node port row true e is t l = absurd cc
leads_not c set node port row false e is t l = t l.0 (ap (λ (x : List (Option End)). get_or x port None) e ∙ l.1) l.2

-- ---- what is left

pub record Stripped (c : Wiring) (set core doubtful : ℕ) : Type 0 where
  pub within : IsWithin core set
  pub kept : (part : ℕ) → IsWithin part set → IsLooped c part → IsWithin part core
  pub firm : (x : ℕ) → Holds core x → Holds doubtful x ⊎ HasTwo c core x
  pub inside : IsWithin doubtful core

pub stripped_first : (c : Wiring) (set : ℕ) → Stripped c set set set
stripped_first c set = record {
  within = λ x h. h;
  kept = λ part within looped. within;
  firm = λ x h. inl h;
  inside = λ x h. h;
}

-- a node that has two stays
pub stripped_stays : (c : Wiring) (set core doubtful node doubtful_after : ℕ) →
    Stripped c set core doubtful → HasTwo c core node → (Holds doubtful_after node → ⊥) →
    ((x : ℕ) → x ≢ node → (Holds doubtful_after x ↔ Holds doubtful x)) →
    Stripped c set core doubtful_after
stripped_stays c set core doubtful node after s two gone others = record {
  within = s.within;
  kept = s.kept;
  firm = λ x h. elim (cases_eq x node) [
    | inl same ↦ inr (subst (λ (n : ℕ). HasTwo c core n) (sym same) two)
    | inr ne ↦ elim (s.firm x h) [
      | inl d ↦ inl ((others x ne).1 d)
      | inr t ↦ inr t
    ]
  ];
  inside = λ x h. elim (cases_eq x node) [
    | inl same ↦ absurd (gone (subst (λ (n : ℕ). Holds after n) same h))
    | inr ne ↦ s.inside x ((others x ne).0 h)
  ];
}

-- more nodes, more cables
pub more_two : (c : Wiring) (small large node : ℕ) → IsWithin small large → HasTwo c small node →
    HasTwo c large node
more_two c small large node within two = record {
  low = two.low;
  high = two.high;
  apart = two.apart;
  low_leads = (two.low_leads.0, two.low_leads.1, within two.low_leads.0.node two.low_leads.2);
  high_leads = (two.high_leads.0, two.high_leads.1, within two.high_leads.0.node two.high_leads.2);
}

-- one node that hasn't two goes, and its neighbours are doubtful
pub record Strips (c : Wiring) (core doubtful node doubtful_less core_after close both doubtful_after : ℕ) : Type 0 where
  pub gone : Holds core_after node → ⊥
  pub others : (x : ℕ) → x ≢ node → (Holds core_after x ↔ Holds core x)
  pub less_gone : Holds doubtful_less node → ⊥
  pub less_others : (x : ℕ) → x ≢ node → (Holds doubtful_less x ↔ Holds doubtful x)
  pub close_is : (x : ℕ) → (Holds close x ↔ IsNeighbour c node x)
  pub both_is : (x : ℕ) → (Holds both x ↔ (Holds doubtful_less x ⊎ Holds close x))
  pub after : (x : ℕ) → (Holds doubtful_after x ↔ (Holds both x × Holds core_after x))

-- a port that leads into the core leads into the rest of it, or to the node that goes
rest_or_gone : (c : Wiring) (core doubtful node less core_after close both after : ℕ) →
    Strips c core doubtful node less core_after close both after → (end : End) →
    LeadsInto c core end →
    (LeadsInto c core_after end) ⊎ ((other : End) × (far c end ≡ Some other) × (other.node ≡ node))
rest_or_gone c core doubtful node less core_after close both after s end l = elim (cases_eq l.0.node node) [
  | inl same ↦ inr (l.0, l.1, same)
  | inr ne ↦ inl (l.0, l.1, (s.others l.0.node ne).1 l.2)
]

-- whoever has a cable to the node is its neighbour
neighbour_back : (c : Wiring) (node x port : ℕ) (other : End) → IsCabling c →
    far c (end_at x port) ≡ Some other → other.node ≡ node → IsNeighbour c node x
neighbour_back c node x port other is e same =
    let back : far c other ≡ Some (end_at x port) = is.both_ways (end_at x port) other e in
    record {
      port = other.port;
      end = end_at x port;
      joined = subst (λ (n : ℕ). far c (end_at n other.port) ≡ Some (end_at x port)) same back;
      is = refl;
    }

pub stripped_goes : (c : Wiring) (set core doubtful node less core_after close both after : ℕ) →
    IsCabling c → Stripped c set core doubtful → (HasTwo c core node → ⊥) →
    Strips c core doubtful node less core_after close both after → Stripped c set core_after after
stripped_goes c set core doubtful node less core_after close both after is s not_two step =
    let ne_node : (x : ℕ) → Holds core_after x → x ≢ node = λ x h same. step.gone (subst (λ (n : ℕ). Holds core_after n) same h) in
    let was : (x : ℕ) → Holds core_after x → Holds core x = λ x h. (step.others x (ne_node x h)).0 h in
    let near : (x port : ℕ) (other : End) → Holds core_after x → far c (end_at x port) ≡ Some other → other.node ≡ node → Holds after x = λ x port other h e same.
    (step.after x).1 ((step.both_is x).1 (inr ((step.close_is x).1 (neighbour_back c node x port other is e same))), h) in
    record {
      within = λ x h. s.within x (was x h);
      kept = λ part within looped x h. (step.others x (λ same. not_two (more_two c part core node (s.kept part within looped) (subst (λ (n : ℕ). HasTwo c part n) same (looped x h))))).1 (s.kept part within looped x h);
      firm = λ x h. elim (s.firm x (was x h)) [
        | inl d ↦ inl ((step.after x).1 ((step.both_is x).1 (inl ((step.less_others x (ne_node x h)).1 d)), h))
        | inr two ↦ elim (rest_or_gone c core doubtful node less core_after close both after step (end_at x two.low) two.low_leads) [
          | inr g ↦ inl (near x two.low g.0 h g.1 g.2)
          | inl low ↦ elim (rest_or_gone c core doubtful node less core_after close both after step (end_at x two.high) two.high_leads) [
            | inr g ↦ inl (near x two.high g.0 h g.1 g.2)
            | inl high ↦ inr (record { low = two.low; high = two.high; apart = two.apart; low_leads = low; high_leads = high })
          ]
        ]
      ];
      inside = λ x h. ((step.after x).0 h).1;
    }

pub stripped_last : (c : Wiring) (set core doubtful : ℕ) → Stripped c set core doubtful →
    ((x : ℕ) → Holds doubtful x → ⊥) → IsCore c set core
stripped_last c set core doubtful s none node = (
  λ h. (core, s.within, (λ x k. elim (s.firm x k) [ inl d ↦ absurd (none x d) | inr two ↦ two ]), h),
  λ p. s.kept p.0 p.1 p.2 node p.3,
)
