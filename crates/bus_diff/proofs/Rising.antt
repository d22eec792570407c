-- The cables of a bus by rising parent.
use Rattle.std.proofs.Common.{ℕ, ◌+◌, ◌≤◌, Option, Some, None, List, [], ◌∷◌, ◌++◌, arith}
use Rattle.self_id.specs.declared.node.PortStatus.{PortStatus}
use Rattle.self_id.specs.declared.node.PortStatus.TheVariants.{Absent, Unplugged, Up, Down}
use Rattle.self_id.specs.Node.{Node}
use Rattle.topology_stack.specs.Tree.{Tree, walk}
use Rattle.topology_stack.specs.Far.{ends}
use Rattle.view_text.specs.declared.cable.Cable.{Cable}
use Rattle.view_text.specs.Cable.{cables, cables_of, cables_from}

-- no parent is below that of the cable before it, nor the first below this one
abbrev pub Rising : ℕ → List Cable → Type 0
Rising m [] = Unit {0}
Rising m (c ∷ cs) = (m ≤ c.parent) × Rising c.parent cs

lower : (k m : ℕ) (cs : List Cable) → m ≤ k → Rising k cs → Rising m cs
lower k m [] le r = tt
lower k m (c ∷ cs) le r = (omega (arith, le, r.0), r.1)

of_rising : (t : Tree) (id slot m : ℕ) (ps : List PortStatus) (es : List (Option ℕ)) (rest : List Cable) →
    m ≤ id → Rising id rest → Rising m (cables_of t id slot ps es ++ rest)
of_rising t id slot m [] es rest le r = lower id m rest le r
of_rising t id slot m (p ∷ ps) [] rest le r = lower id m rest le r
of_rising t id slot m (Absent ∷ ps) (e ∷ es) rest le r = of_rising t id (slot + 1) m ps es rest le r
of_rising t id slot m (Unplugged ∷ ps) (e ∷ es) rest le r = of_rising t id (slot + 1) m ps es rest le r
of_rising t id slot m (Up ∷ ps) (e ∷ es) rest le r = of_rising t id (slot + 1) m ps es rest le r
of_rising t id slot m (Down ∷ ps) (None ∷ es) rest le r = of_rising t id (slot + 1) m ps es rest le r
of_rising t id slot m (Down ∷ ps) (Some child ∷ es) rest le r =
    (le, of_rising t id (slot + 1) id ps es rest (omega arith) r)

from_rising : (t : Tree) (id m : ℕ) (ns : List Node) (es : List (List (Option ℕ))) → m ≤ id →
    Rising m (cables_from t id ns es)
from_rising t id m [] es le = tt
from_rising t id m (n ∷ ns) [] le = tt
from_rising t id m (n ∷ ns) (e ∷ es) le =
    of_rising t id 0 m n.ports e (cables_from t (id + 1) ns es) le (from_rising t (id + 1) id ns es (omega arith))

pub cables_rising : (t : Tree) → Rising 0 (cables t)
cables_rising t = from_rising t 0 0 (walk t) (ends t) (omega arith)
