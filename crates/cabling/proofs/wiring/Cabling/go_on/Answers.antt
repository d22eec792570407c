use Rattle.cabling.specs.Wiring.{ports_of}
use Rattle.cabling.proofs.Waiting.{onward_room}
use Rattle.cabling.proofs.wiring.Cabling.go_on.Goals as goal

pub push-requires : goal.push-requires
push-requires c = onward_room c.args.visit.from c.loop-port.port (ports_of c.args.self.now c.args.visit.node) c.loop-port.waiting c.args.waiting.now c.in-Some.next
    (rw (← c.ends-far-items.ensures.value) c.loop-port-test.true) c.loop-port.invariant (rw (← c.ends-far-items.ensures.value) c.in-Some.ensures) c.requires.room
