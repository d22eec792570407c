-- The end of a slot.
use Rattle.std.proofs.Common.{◌≡◌, ℕ, Option, refl}
use Rattle.std.specs.Prelude.{slice_get}
use Rattle.topology_stack.specs.Tree.{Tree}
use Rattle.topology_stack.specs.Far.{ends, Far}
use Rattle.bus_json.specs.Bus.{end_at}

-- it is what stands there
pub far_is : (t : Tree) (id slot : ℕ) (far : Option ℕ) → Far t id slot far →
    end_at slot (slice_get (ends t) id) ≡ far
far_is t id slot far f = rw (f.node, f.slot_end) refl
