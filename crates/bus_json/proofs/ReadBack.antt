-- The text of a value is read as that value.
use Rattle.std.proofs.Common.{◌≡◌, ◌∙◌, ℕ, ◌+◌, ◌≤◌, Option, Some, None, List, [], ◌∷◌, append-nil, ap, sym, arith}
use Rattle.std.specs.Prelude.{option_and_then, slice_get}
use Rattle.self_id.specs.declared.node.PortStatus.{PortStatus}
use Rattle.self_id.specs.Node.{Node}
use Rattle.topology_stack.specs.Tree.{Tree, walk}
use Rattle.topology_stack.specs.Far.{ends}
use Rattle.topology_stack.specs.Elect.{elected}
use Rattle.capture_reading.specs.declared.fault.CaptureFault.{CaptureFault}
use Rattle.capture_reading.specs.declared.refusal.Counts.{Counts}
use Rattle.capture_reading.specs.Line.{refusal_of}
use Rattle.json.specs.Lex.{tokens}
use Rattle.json.specs.Json.{Json, value, if_last, max_depth, document}
use Rattle.json.specs.Print.{print}
use Rattle.json.specs.Tree.{json_tokens, depth, items_depth, members_depth}
use Rattle.json.proofs.Printed.Trees.{value-json_tokens}
use Rattle.bus_json.specs.Text.{json_text}
use Rattle.bus_json.specs.Bus.{end_at, port_value, port_items, node_value, node_items, manager_value, tree_members, bus_value}
use Rattle.bus_json.specs.Refusal.{counts_members, fault_members, refused_members, fault_value, line_refusal_value}

-- where the text is read as the value's tokens
pub reads_back : (v : Json) → tokens (print (json_tokens v)) ≡ json_tokens v →
    depth v ≤ max_depth → document (json_text v) ≡ Some v
reads_back v e shallow =
    ap (option_and_then (λ p. if_last p.0 p.1))
    (ap (value max_depth) (e ∙ sym (append-nil (json_tokens v))) ∙ value-json_tokens v max_depth [] shallow)

-- ---- how deep a bus nests

port_shallow : (p : PortStatus) (far : Option ℕ) → depth (port_value p far) ≤ 1
port_shallow p None = omega arith
port_shallow p (Some id) = omega arith

ports_shallow : (t : Tree) (id slot : ℕ) (ps : List PortStatus) → items_depth (port_items t id slot ps) ≤ 1
ports_shallow t id slot [] = omega arith
ports_shallow t id slot (p ∷ ps) =
    omega (arith, port_shallow p (end_at slot (slice_get (ends t) id)), ports_shallow t id (slot + 1) ps)

node_shallow : (t : Tree) (id : ℕ) (n : Node) (name : Option (List ℕ)) → depth (node_value t id n name) ≤ 3
node_shallow t id n None = omega (arith, ports_shallow t id 0 n.ports)
node_shallow t id n (Some name) = omega (arith, ports_shallow t id 0 n.ports)

nodes_shallow : (t : Tree) (names : List (List ℕ)) (id : ℕ) (ns : List Node) →
    items_depth (node_items t names id ns) ≤ 3
nodes_shallow t names id [] = omega arith
nodes_shallow t names id (n ∷ ns) =
    omega (arith, node_shallow t id n (slice_get names id), nodes_shallow t names (id + 1) ns)

manager_shallow : (m : Option ℕ) → depth (manager_value m) ≤ 0
manager_shallow None = omega arith
manager_shallow (Some id) = omega arith

pub tree_shallow : (names : List (List ℕ)) (t : Tree) → members_depth (tree_members names t) ≤ 4
tree_shallow names t =
    omega (arith, nodes_shallow t names 0 (walk t), manager_shallow (elected t))

pub bus_shallow : (t : Tree) → depth (bus_value t) ≤ max_depth
bus_shallow t = omega (arith, tree_shallow [] t)

counts_shallow : (c : Option Counts) → members_depth (counts_members c) ≤ 0
counts_shallow None = omega arith
counts_shallow (Some c) = omega arith

pub refusal_shallow : (f : CaptureFault) → members_depth (refused_members (fault_members f)) ≤ 1
refusal_shallow f = omega (arith, counts_shallow (refusal_of f).counts)

pub fault_shallow : (f : CaptureFault) → depth (fault_value f) ≤ max_depth
fault_shallow f = omega (arith, refusal_shallow f)

pub line_shallow : (line : ℕ) (kind : List ℕ) → depth (line_refusal_value line kind) ≤ max_depth
line_shallow line kind = omega arith
