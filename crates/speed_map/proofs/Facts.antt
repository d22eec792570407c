-- What the slots of a bus tree's nodes say, by ID.
use Rattle.std.proofs.Common.{◌≡◌, ◌≢◌, ℕ, ◌+◌, ◌-◌, ◌<◌, ◌≤◌, length, map, Option, Some, sym, ap, subst, ◌∙◌, ⊎_elim, arith}
use Rattle.std.specs.Prelude.{slice_get}
use Rattle.std.specs.Option.{option_map}
use Rattle.std.proofs.lemmas.Bool.{cases_lt}
use Rattle.std.proofs.lemmas.Option.{get_or_from_slice_get, slice_get_within, slice_get-map, same_Some}
use Rattle.self_id.specs.Node.{Node}
use Rattle.topology_stack.specs.Tree.{Tree, branch, walk, walk_below, IsBusTree}
use Rattle.topology_stack.specs.Far.{Far, ends, slot_ends}
use Rattle.speed_map.specs.Path.{node_speed, speed_at}
use Rattle.speed_map.specs.codings.Sweep.{firsts_from, first_of, IsUnder}
use Rattle.speed_map.proofs.Nodes.{Ends, NodeT, NodeS, nodeT, toldT, withinT, withinS}
use Rattle.speed_map.proofs.Kin.{Kin, child, outer, above, kinT, coverT, nestedT, raisedS, lastT, no_up}
use Rattle.speed_map.proofs.Apart.{apartT}
use Rattle.topology_stack.proofs.Lemmas.{one_end, length-walk}

record NodeAt (t : Tree) (id : ℕ) : Type 0 where
  e : Ends
  node : NodeT 0 63 t id e (first_of t id)
  ends_are : slice_get (ends t) id ≡ Some e
  info : Node
  info_is : slice_get (walk t) id ≡ Some info
  slots : length e ≡ length info.ports

-- the first ID that a node's place tells
first_is : (t : Tree) (id : ℕ) (e : Ends) (f : ℕ) → NodeT 0 63 t id e f → first_of t id ≡ f
unfolding first_of
first_is t id e f h = get_or_from_slice_get (firsts_from 0 t) id f 0 (toldT 0 63 t id e f h).first_is

node_at : (t : Tree) (id : ℕ) → id < length (walk t) → NodeAt t id
node_at t id lt =
    let h = nodeT 0 63 t id lt in
    let w = toldT 0 63 t id h.0 h.1 h.2 in
    record { e = h.0; node = subst (λ (f : ℕ). NodeT 0 63 t id h.0 f) (sym (first_is t id h.0 h.1 h.2)) h.2; ends_are = w.ends_are; info = w.node; info_is = w.node_is; slots = w.slots }

-- the end that a slot of a node has
far_end : (t : Tree) (id slot : ℕ) (r : Option ℕ) (h : NodeAt t id) → Far t id slot r →
    slice_get h.e slot ≡ Some r
far_end t id slot r h far =
    let same : far.of_node ≡ h.e = same_Some far.of_node h.e (sym far.node ∙ h.ends_are) in
    ap (λ (x : Ends). slice_get x slot) (sym same) ∙ far.slot_end

kin : (t : Tree) (id slot k : ℕ) → id < length (walk t) → Far t id slot (Some k) →
    Kin 0 63 t id (first_of t id) k
kin t id slot k lt far = let h = node_at t id lt in kinT 0 63 t id h.e (first_of t id) slot k h.node (far_end t id slot (Some k) h far)

-- one slot leads to one node
pub one_far : (t : Tree) (id slot j k : ℕ) → Far t id slot (Some j) → Far t id slot (Some k) → j ≡ k
one_far t id slot j k f g = same_Some j k (one_end t id slot (Some j) (Some k) f g)

pub slot_within : (t : Tree) (id slot : ℕ) (r : Option ℕ) (n : Node) → id < length (walk t) →
    Far t id slot r → slice_get (walk t) id ≡ Some n → slot < length n.ports
slot_within t id slot r n lt far e =
    let h = node_at t id lt in
    let same : h.info ≡ n = same_Some h.info n (sym h.info_is ∙ e) in
    let within : slot < length h.e = slice_get_within h.e slot r (far_end t id slot r h far) in
    let count : length h.e ≡ length n.ports = h.slots ∙ ap (λ (m : Node). length m.ports) same in
    omega (arith, within, count)

pub speed_is : (t : Tree) (id : ℕ) (n : Node) → slice_get (walk t) id ≡ Some n →
    speed_at t id ≡ node_speed n
speed_is t id n e = get_or_from_slice_get (map node_speed (walk t)) id (node_speed n) 0 (slice_get-map node_speed (walk t) id ∙ ap (option_map node_speed) e)

-- ---- subtrees

pub first_le : (t : Tree) (id : ℕ) → id < length (walk t) → first_of t id ≤ id
first_le t id lt = let h = node_at t id lt in let w = withinT 0 63 t id h.e (first_of t id) h.node in omega (arith, w.high)

-- a child's subtree lies in the node's
pub child_in : (t : Tree) (id slot k : ℕ) → IsBusTree t → id < length (walk t) →
    Far t id slot (Some k) → k < id → first_of t id ≤ first_of t k
child_in t id slot k bus lt far before = elim (kin t id slot k lt far) [
  | child j e g n is less le ↦
      let same : k ≡ j = omega (arith, is) in
      let first : first_of t k ≡ g = ap (first_of t) same ∙ first_is t j e g n in
      omega (arith, first, le)
  | outer at is ↦ absurd (let few = bus.small in omega (arith, is))
  | above j e g n is less le back ↦ absurd (omega (arith, is, less, before))
]

-- a node's subtree lies in the parent's
pub parent_in : (t : Tree) (id slot k : ℕ) → id + 1 < length (walk t) → Far t id slot (Some k) →
    id < k → (k < length (walk t)) × (first_of t k ≤ first_of t id)
parent_in t id slot k lt far after = elim (kin t id slot k (omega (arith, lt)) far) [
  | child j e g n is less le ↦ absurd (omega (arith, is, less, after))
  | outer at is ↦ absurd (omega (arith, at, lt))
  | above j e g n is less le back ↦
      let same : k ≡ j = omega (arith, is) in
      let first : first_of t k ≡ g = ap (first_of t) same ∙ first_is t j e g n in
      let w = withinT 0 63 t j e g n in
      (omega (arith, same, w.place), omega (arith, first, le))
]

-- a child in whose subtree a node is
pub record InChild (t : Tree) (id m : ℕ) : Type 0 where
  pub slot : ℕ
  pub k : ℕ
  pub far : Far t id slot (Some k)
  pub before : k < id
  pub under : IsUnder t m k

pub in_child : (t : Tree) (id m : ℕ) → id < length (walk t) → IsUnder t m id → m < id →
    InChild t id m
in_child t id m lt under less =
    let h = node_at t id lt in
    let c = coverT 0 63 t id h.e (first_of t id) m h.node (omega (arith, under.low)) less in
    let at : 0 + c.j ≡ c.j = omega arith in
    let first : first_of t c.j ≡ c.first = first_is t c.j c.of_child c.first c.node in
    record {
      slot = c.slot;
      k = c.j;
      far = record { of_node = h.e; node = h.ends_are; slot_end = c.far ∙ ap (λ (k : ℕ). Some (Some k)) at };
      before = c.before;
      under = record { low = omega (arith, first, c.low); high = c.high };
    }

pub nested : (t : Tree) (top id : ℕ) → top < length (walk t) → IsUnder t id top →
    first_of t top ≤ first_of t id
nested t top id lt under =
    let h = node_at t top lt in
    let k = node_at t id (omega (arith, under.high, lt)) in
    nestedT 0 63 t top h.e (first_of t top) id k.e (first_of t id) h.node k.node (omega (arith, under.low)) under.high

pub first_of_root : (t : Tree) → first_of t (length (walk t) - 1) ≡ 0
first_of_root t = let h = lastT 0 63 t in first_is t (length (walk t) - 1) h.0 0 h.1

-- the parent of a node
pub record HasParent (t : Tree) (id : ℕ) : Type 0 where
  pub slot : ℕ
  pub k : ℕ
  pub far : Far t id slot (Some k)
  pub after : id < k

pub has_parent : (t : Tree) (id : ℕ) → IsBusTree t → id + 1 < length (walk t) → HasParent t id
has_parent (branch a s) id bus lt =
    let t = branch a s in
    let h = node_at t id (omega (arith, lt)) in
    ⊎_elim
    (λ (top : (id ≡ length (walk_below s)) × (h.e ≡ slot_ends 0 63 s) × (first_of t id ≡ 0)). absurd (omega (arith, top.0, lt, length-walk a s)))
    (λ (below : NodeS 0 (0 + length (walk_below s)) s id h.e (first_of t id)).
    let r = raisedS 0 (0 + length (walk_below s)) s id h.e (first_of t id) bus.whole.2 (omega arith) below in
    record { slot = r.slot; k = r.k; far = record { of_node = h.e; node = h.ends_are; slot_end = r.far }; after = omega (arith, r.later) })
    h.node

-- no slot so far leads to the parent, and this one doesn't
pub not_past : (t : Tree) (id slot : ℕ) (r : Option ℕ) →
    ((s k : ℕ) → s < slot → Far t id s (Some k) → k ≤ id) → Far t id slot r →
    ((k : ℕ) → r ≡ Some k → k ≤ id) →
    (s k : ℕ) → s < slot + 1 → Far t id s (Some k) → k ≤ id
not_past t id slot r before far low s k lt g = ⊎_elim
    (λ (less : s < slot). before s k less g)
    (λ (ge : slot ≤ s).
    let same : s ≡ slot = omega (arith, lt, ge) in
    let h : Far t id slot (Some k) = subst (λ (x : ℕ). Far t id x (Some k)) same g in
    low k (one_end t id slot r (Some k) far h))
    (cases_lt s slot)

-- ---- both ways

-- the root's slots lead down, and each other node's to nodes of the bus
pub joined_within : (t : Tree) (id slot k : ℕ) → IsBusTree t → id < length (walk t) →
    Far t id slot (Some k) → (k < length (walk t)) × (k ≢ id)
joined_within (branch a s) id slot k bus lt far =
    let t = branch a s in
    let h = node_at t id lt in
    let few = bus.small in
    elim (kin t id slot k lt far) [
      | child j e g n is less le ↦ (omega (arith, is, less, lt), omega (arith, is, less))
      | outer at is ↦ ⊎_elim
          (λ (top : (id ≡ length (walk_below s)) × (h.e ≡ slot_ends 0 63 s) × (first_of t id ≡ 0)).
          let end_is : slice_get (slot_ends 0 63 s) slot ≡ Some (Some k) = ap (λ (x : Ends). slice_get x slot) (sym top.1) ∙ far_end t id slot (Some k) h far in
          let low = no_up 0 63 s slot k bus.whole.1 end_is in
          absurd (omega (arith, low, is, few, length-walk a s)))
          (λ (below : NodeS 0 (0 + length (walk_below s)) s id h.e (first_of t id)). absurd (let w = withinS 0 (0 + length (walk_below s)) s id h.e (first_of t id) below in omega (arith, w.place, at, length-walk a s)))
          h.node
      | above j e g n is less le back ↦ let w = withinT 0 63 t j e g n in (omega (arith, is, w.place), omega (arith, is, less))
    ]

-- a slot that leads up has one that leads back down
pub down_again : (t : Tree) (id slot k : ℕ) → IsBusTree t → id < length (walk t) →
    k < length (walk t) → Far t id slot (Some k) → id < k → (back : ℕ) × Far t k back (Some id)
down_again t id slot k bus lt lk far after =
    let few = bus.small in
    elim (kin t id slot k lt far) [
      | child j e g n is less le ↦ absurd (omega (arith, is, less, after))
      | outer at is ↦ absurd (omega (arith, is, lk, few))
      | above j e g n is less le back ↦
          let same : k ≡ j = omega (arith, is) in
          let at : 0 + id ≡ id = omega arith in
          let f : Far t j back.0 (Some id) = record { of_node = e; node = (toldT 0 63 t j e g n).ends_are; slot_end = back.1 ∙ ap (λ (x : ℕ). Some (Some x)) at } in
          (back.0, subst (λ (x : ℕ). Far t x back.0 (Some id)) (sym same) f)
    ]

-- of two children the subtree of the second begins behind the first
pub apart : (t : Tree) (id a b x y : ℕ) → IsBusTree t → id < length (walk t) → Far t id a (Some x) →
    Far t id b (Some y) → x < y → y < id → x < first_of t y
apart t id a b x y bus lt fa fb less before =
    let h = node_at t id lt in
    let few = bus.small in
    let r = apartT 0 63 t id h.e (first_of t id) a b x y (omega (arith, few)) h.node (far_end t id a (Some x) h fa) (far_end t id b (Some y) h fb) less (omega (arith, before)) in
    let same : y ≡ r.j = omega (arith, r.at) in
    let first : first_of t y ≡ r.g = ap (first_of t) same ∙ first_is t r.j r.e r.g r.node in
    omega (arith, first, r.behind)
