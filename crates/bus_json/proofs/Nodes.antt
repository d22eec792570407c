-- The members of a node, one behind the other, are the node.
use Rattle.std.proofs.Common.{◌≡◌, ℕ, Option, Some, None, List, [], ◌∷◌, ◌++◌, append_assoc}
use Rattle.std.specs.Prelude.{codes, decimal}
use Rattle.self_id.specs.Node.{Node}
use Rattle.topology_stack.specs.Tree.{Tree}
use Rattle.json.specs.Token.{Token, begin_object, end_object, begin_array, key, number}
use Rattle.json.specs.Tree.{json_tokens, items_tokens}
use Rattle.bus_json.specs.codings.Written.{attrs_tokens, name_tokens}
use Rattle.bus_json.specs.Bus.{port_items, node_value}

pub node_written :
    (t : Tree) (id : ℕ) (n : Node) (name : Option (List ℕ)) (old a b c d e f g h : List Token) →
    a ≡ old ++ begin_object ∷ [] → b ≡ a ++ key (codes "id") ∷ number (decimal id) ∷ [] →
    c ≡ b ++ name_tokens name → d ≡ c ++ attrs_tokens n.attrs → e ≡ d ++ key (codes "ports") ∷ [] →
    f ≡ e ++ begin_array ∷ [] → g ≡ f ++ items_tokens (port_items t id 0 n.ports) →
    h ≡ g ++ end_object ∷ [] → h ≡ old ++ json_tokens (node_value t id n name)
node_written t id n None old a b c d e f g h ea eb ec ed ee ef eg eh =
    simp (eh, eg, ef, ee, ed, ec, eb, ea, append_assoc)
node_written t id n (Some name) old a b c d e f g h ea eb ec ed ee ef eg eh =
    simp (eh, eg, ef, ee, ed, ec, eb, ea, append_assoc)
