-- Which record a slot and a node have.
use Rattle.std.proofs.Common.{◌≡◌, ℕ, ◌<◌, ◌≤◌, List, length, get_or, ◌∙◌, refl, sym, ap, subst, arith}
use Rattle.std.specs.Prelude.{Option, Some, None, slice_get}
use Rattle.std.proofs.lemmas.Option.{get_or_from_slice_get, slice_get_past}
use Rattle.self_id.specs.declared.node.PortStatus.{PortStatus}
use Rattle.self_id.specs.declared.node.PortStatus.TheVariants.{Absent}
use Rattle.self_id.specs.Node.{Node}
use Rattle.topology_stack.specs.Tree.{Tree, walk}
use Rattle.topology_stack.specs.Far.{Far}
use Rattle.c_records.specs.declared.records.SlotRecord.{SlotRecord}
use Rattle.c_records.specs.declared.records.NodeRecord.{NodeRecord}
use Rattle.c_records.specs.Shown.{slot_record, no_slot, IsSlotOf, said, IsNodeRecord}
use Rattle.topology_stack.proofs.Lemmas.{one_end}

one_node : (m n : Node) (o : Option Node) → o ≡ Some m → o ≡ Some n → m ≡ n
one_node m n o a b = cc

apart : (s : PortStatus) (o : Option PortStatus) → o ≡ Some s → o ≡ None → ⊥
apart s o a b = cc

-- a slot of the node
pub slot_of : (t : Tree) (id k : ℕ) (n : Node) (far : Option ℕ) (r : SlotRecord) →
    slice_get (walk t) id ≡ Some n → k < length n.ports → Far t id k far →
    r ≡ slot_record (get_or n.ports k Absent) far → IsSlotOf t id k r
slot_of t id k n far r at inside end is = record {
  shown = λ m status other at_m shows far_m.
      let same : m ≡ n = one_node m n _ at_m at in
      let status_is : get_or n.ports k Absent ≡ status = get_or_from_slice_get n.ports k status Absent (subst (λ (x : Node). slice_get x.ports k ≡ Some status) same shows) in
      is ∙ ap (λ (s : PortStatus). slot_record s far) status_is ∙ ap (slot_record status) (one_end t id k far other end far_m);
  blank = λ m at_m past.
      let same : m ≡ n = one_node m n _ at_m at in
      let past_n : length n.ports ≤ k = subst (λ (x : Node). length x.ports ≤ k) same past in
      absurd (omega (arith, inside));
}

-- a slot behind the last
pub slot_past : (t : Tree) (id k : ℕ) (n : Node) (r : SlotRecord) → slice_get (walk t) id ≡ Some n →
    length n.ports ≤ k → r ≡ no_slot → IsSlotOf t id k r
slot_past t id k n r at past is = record {
  shown = λ m status other at_m shows far_m.
      let same : m ≡ n = one_node m n _ at_m at in
      let none : slice_get n.ports k ≡ None = slice_get_past n.ports k past in
      absurd (apart status (slice_get n.ports k) (subst (λ (x : Node). slice_get x.ports k ≡ Some status) same shows) none);
  blank = λ m at_m past_m. is;
}

-- what a node says of itself, beside the records of its slots
pub node_shown : (t : Tree) (id : ℕ) (n : Node) (slots : List SlotRecord) (r : NodeRecord) →
    slice_get (walk t) id ≡ Some n → r ≡ said id n slots →
    ((slot : ℕ) → slot < 27 → IsSlotOf t id slot (get_or slots slot no_slot)) → IsNodeRecord t id r
node_shown t id n slots r at is shown = subst (IsNodeRecord t id) (sym is) (record { node = n; at = at; said_is = refl; slots = shown })
