-- A worked row: the value of a bus of two nodes.
use Rattle.std.proofs.Common.{◌≡◌, ℕ, true, false, refl}
use Rattle.std.specs.Prelude.{codes}
use Rattle.topology_stack.specs.Tree.{Label, Tree, branch, no_more, absent, unplugged, up, down}
use Rattle.json.specs.Json.{Json, null, boolean, string, array, object, Items, no_items, item, Members, no_members, member}
use Rattle.bus_json.specs.Text.{numeral}
use Rattle.bus_json.specs.Bus.{bus_value}

abbrev label : ℕ → ℕ → Label
label gap speed = record {
  attrs = record { link = true; gap = gap; speed = speed; delay = 1; contender = false; power = 4; initiated = true };
  kept_a = 0;
  kept_b = 0;
}

-- a node below another, by its second port
abbrev pair : Tree
pair = branch (label 5 2) (unplugged (down (branch (label 63 1) (up (unplugged (absent no_more)))) (absent no_more)))

abbrev port : Json → Members → Json
port status far = object (member (codes "status") status far)

abbrev far_at : ℕ → Members
far_at id = member (codes "far") (numeral id) no_members

abbrev node : ℕ → ℕ → ℕ → Items → Json
node id gap speed ports =
    object (member (codes "id") (numeral id) (member (codes "link") (boolean true)
    (member (codes "gap") (numeral gap) (member (codes "speed") (numeral speed)
    (member (codes "contender") (boolean false) (member (codes "power") (numeral 4)
    (member (codes "initiated") (boolean true) (member (codes "ports") (array ports) no_members))))))))

value :
    bus_value pair
    ≡ object (member (codes "schema") (numeral 1)
    (member (codes "nodes") (array
    (item (node 0 63 1 (item (port (string (codes "parent")) (far_at 1))
    (item (port (string (codes "inactive")) no_members) (item (port (string (codes "absent")) no_members) no_items))))
    (item (node 1 5 2 (item (port (string (codes "inactive")) no_members)
    (item (port (string (codes "child")) (far_at 0)) (item (port (string (codes "absent")) no_members) no_items))))
    no_items)))
    (member (codes "root") (numeral 1) (member (codes "manager") null no_members))))
value = refl
