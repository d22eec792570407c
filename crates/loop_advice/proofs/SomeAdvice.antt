-- Each component has an advice: its cables are listed end by end, and then split one by one.
use Rattle.std.proofs.Common.{◌≡◌, ℕ, zero, suc, ◌+◌, ◌^◌, ◌<◌, inl, inr, Option, Some, None, List, [], ◌∷◌, ◌++◌, length, map, refl, sym, subst, arith, append_assoc}
use Rattle.std.specs.List.{range_with_len}
use Rattle.std.proofs.lemmas.Bool.{cases_lt, cases_eq}
use Rattle.std.proofs.lemmas.List.{append-nil}
use Rattle.std.proofs.lemmas.List.FromFn.{get_or-map-range_with_len}
use Rattle.cabling.specs.declared.cable.End.{End}
use Rattle.cabling.specs.declared.cable.Cable.{Cable}
use Rattle.cabling.specs.Wiring.{Wiring, ports_of, far, IsCabling}
use Rattle.cabling.specs.NodeSet.{Holds}
use Rattle.cabling.specs.Component.{IsClosed}
use Rattle.cabling.proofs.Lemmas.{none_some, one_other, end_at, holds_or_not, component_exists}
use Rattle.loop_advice.specs.Order.{AreInOrder}
use Rattle.loop_advice.specs.SomeAdvice.{AdvicesExist}
use Rattle.loop_advice.specs.declared.groups.Groups.{Groups}
use Rattle.loop_advice.specs.codings.Collected.{Collected}
use Rattle.loop_advice.specs.codings.Groups.{group, merged}
use Rattle.loop_advice.specs.codings.Placed.{Stand, WasPlaced}
use Rattle.loop_advice.proofs.Marking.{cable}
use Rattle.loop_advice.proofs.Components.{one_component}
use Rattle.loop_advice.proofs.Collecting.{collected_first, collected_none, collected_one, collected_row, collected_skip, collected_all}
use Rattle.loop_advice.proofs.Splitting.{Split, Place, split_first, split_next, split_advised, split_valid, same_advised}

-- ---- the cables of a set, in order

record Found (c : Wiring) (set node port : ℕ) : Type 0 where
  cables : List Cable
  are : Collected c set node port cables

at_port : (c : Wiring) (set node port : ℕ) (x : Option End) → IsCabling c → IsClosed c set →
    Holds set node → far c (end_at node port) ≡ x → Found c set node port →
    Found c set node (port + 1)
at_port c set node port None is closed h e f = record {
  cables = f.cables;
  are = collected_none c set node port f.cables (λ b g low. none_some (far c (end_at node port)) b e g) f.are;
}
at_port c set node port (Some other) is closed h e f = elim (cases_lt node other.node) [
  | inl low ↦ record {
    cables = f.cables ++ cable (end_at node port) other ∷ [];
    are = collected_one c set node port other f.cables is closed h e low f.are;
  }
  | inr high ↦ record {
    cables = f.cables;
    are = collected_none c set node port f.cables
        (λ b g low. omega (arith, high, subst (λ (y : End). node < y.node) (one_other (far c (end_at node port)) b other g e) low)) f.are;
  }
]

to_port : (c : Wiring) (set node ports : ℕ) → IsCabling c → IsClosed c set → Holds set node →
    Found c set node 0 → Found c set node ports
to_port c set node zero is closed h f = f
to_port c set node (suc ports) is closed h f =
    subst (λ (n : ℕ). Found c set node n) (omega arith)
    (at_port c set node ports (far c (end_at node ports)) is closed h refl (to_port c set node ports is closed h f))

at_node : (c : Wiring) (set node : ℕ) → IsCabling c → IsClosed c set → Found c set node 0 →
    Found c set (node + 1) 0
at_node c set node is closed f = elim (holds_or_not set node) [
  | inr out ↦ record { cables = f.cables; are = collected_skip c set node f.cables out f.are }
  | inl h ↦
      let all : Found c set node (length (ports_of c node)) = to_port c set node (length (ports_of c node)) is closed h f in
      record { cables = all.cables; are = collected_row c set node (length (ports_of c node)) all.cables (omega arith) all.are }
]

to_node : (c : Wiring) (set nodes : ℕ) → IsCabling c → IsClosed c set → Found c set nodes 0
to_node c set zero is closed = record { cables = []; are = collected_first c set }
to_node c set (suc nodes) is closed = subst (λ (n : ℕ). Found c set n 0) (omega arith) (at_node c set nodes is closed (to_node c set nodes is closed))

record InOrder (c : Wiring) (set : ℕ) : Type 0 where
  cables : List Cable
  are : AreInOrder c set cables

in_order : (c : Wiring) (set : ℕ) → IsCabling c → IsClosed c set → InOrder c set
in_order c set is closed =
    let all : Found c set (length c) 0 = to_node c set (length c) is closed in
    record { cables = all.cables; are = collected_all c set (length c) all.cables is closed (omega arith) all.are }

-- ---- the cables are placed

-- groups with these numbers
groups_of : ℕ → (ℕ → ℕ) → Groups
groups_of n number = record { of = map number (range_with_len 0 n) }

group-groups_of : (n : ℕ) (number : ℕ → ℕ) (node : ℕ) → node < n →
    group (groups_of n number) node ≡ number node
unfolding groups_of
group-groups_of n number node less = get_or-map-range_with_len number 0 n node node 0 less (omega arith)

record Next (old : Stand) (x : Cable) : Type 0 where
  new : Stand
  placed : WasPlaced old new x

next : (n : ℕ) (old : Stand) (x : Cable) → n ≡ 63 → Next old x
next n old x e = elim (cases_eq (group old.groups x.a.node) (group old.groups x.b.node)) [
  | inl same ↦ record {
    new = record { groups = old.groups; pulls = old.pulls ++ x ∷ []; kept = old.kept };
    placed = inl (record { joined = same; groups = refl; pulls = refl; kept = refl });
  }
  | inr apart ↦ record {
    new = record {
      groups = groups_of n (λ node. merged (group old.groups x.b.node) (group old.groups x.a.node) (group old.groups node));
      pulls = old.pulls;
      kept = old.kept ++ x ∷ [];
    };
    placed = inr (record {
      apart = apart;
      groups = λ node less. group-groups_of n (λ y. merged (group old.groups x.b.node) (group old.groups x.a.node) (group old.groups y)) node (omega (arith, less, e));
      pulls = refl;
      kept = refl;
    });
  }
]

record Placed (c : Wiring) (set n : ℕ) (done : List Cable) : Type 0 where
  stand : Stand
  split : Split c set n done stand.groups stand.pulls stand.kept

placed_first : (c : Wiring) (set n : ℕ) → n ≡ 63 → set < 2 ^ 63 → Placed c set n []
placed_first c set n e small =
    let groups : Groups = groups_of n (λ node. node) in
    record {
      stand = record { groups = groups; pulls = []; kept = [] };
      split = split_first c set n groups small (λ node less. group-groups_of n (λ y. y) node (omega (arith, less, e)));
    }

placed_next : (c : Wiring) (set n : ℕ) (done : List Cable) (x : Cable) (rest : List Cable) →
    n ≡ 63 → Place c set done x rest → Placed c set n done → Placed c set n (done ++ x ∷ [])
placed_next c set n done x rest e place p =
    let s : Next p.stand x = next n p.stand x e in
    record {
      stand = s.new;
      split = split_next c set n done x rest p.stand.groups s.new.groups p.stand.pulls s.new.pulls p.stand.kept s.new.kept e place s.placed p.split;
    }

placed_all : (c : Wiring) (set n : ℕ) (done rest : List Cable) → n ≡ 63 → IsCabling c →
    IsClosed c set → set < 2 ^ 63 → AreInOrder c set (done ++ rest) → Placed c set n done →
    Placed c set n (done ++ rest)
placed_all c set n done [] e is closed small order p = subst (λ (xs : List Cable). Placed c set n xs) (sym (append-nil done)) p
placed_all c set n done (x ∷ rest) e is closed small order p =
    let same : (done ++ x ∷ []) ++ rest ≡ done ++ x ∷ rest = append_assoc done (x ∷ []) rest in
    let place : Place c set done x rest = record { cabling = is; closed = closed; small = small; order = order } in
    subst (λ (xs : List Cable). Placed c set n xs) same
    (placed_all c set n (done ++ x ∷ []) rest e is closed small
    (subst (λ (xs : List Cable). AreInOrder c set xs) (sym same) order)
    (placed_next c set n done x rest e place p))

-- ---- of a component

pub some_advice : AdvicesExist
some_advice c node set is there component =
    let own = component_exists c node is there in
    let order : InOrder c own.set = in_order c own.set is own.is.closed in
    let all : Placed c own.set 63 order.cables =
    placed_all c own.set 63 [] order.cables refl is own.is.closed own.small order.are (placed_first c own.set 63 refl own.small)
    in
    let s = all.stand in
    record {
      pulls = s.pulls;
      kept = s.kept;
      advised = same_advised c own.set set s.pulls s.kept (one_component c node own.set set own.is component)
          (split_advised c own.set 63 order.cables s.groups s.pulls s.kept order.are all.split);
      valid = split_valid c node own.set 63 order.cables s.groups s.pulls s.kept refl own.small own.is order.are all.split;
    }
