use Rattle.std.proofs.Common.{◌≡◌, ℕ, ◌+◌, ◌<◌, List, ◌∷◌, length, drop, get_or, sym, arith, add-one, drop-cons}
use Rattle.self_id.specs.declared.node.PortStatus.{PortStatus}
use Rattle.self_id.specs.declared.node.PortStatus.TheVariants.{Absent}
use Rattle.self_id.proofs.Summed.{room, next}
use Rattle.self_id.proofs.writing.fields.Goals as goal

pub overflow_mul-value : goal.overflow_mul-value
overflow_mul-value c = search (arith, room c.args.ports.now c.loop-port.port-index c.loop-port.value 0 c.loop-port-test.true c.requires c.loop-port.invariant (omega arith))

pub overflow_add-value : goal.overflow_add-value
overflow_add-value c = rw c.from.ensures (search (arith, room c.args.ports.now c.loop-port.port-index c.loop-port.value c.field.result c.loop-port-test.true c.requires c.loop-port.invariant c.field.ensures.small))

-- the slots from one on
from_here : (ports : List PortStatus) (i : ℕ) → i < length ports →
    drop i ports ≡ get_or ports i Absent ∷ drop (i + 1) ports
from_here ports i lt = rw (add-one i) (drop-cons ports i Absent lt)

pub loop-port-preserved : goal.loop-port-preserved
loop-port-preserved c =
    rw c.from.ensures
    (next c.args.ports.now c.loop-port.port-index c.loop-port.value (get_or c.args.ports.now c.loop-port.port-index Absent) c.field.result c.loop-port-test.true
    (from_here c.args.ports.now c.loop-port.port-index c.loop-port-test.true) (sym c.field.ensures.value) c.field.ensures.small c.loop-port.invariant)
