use Rattle.std.proofs.Common.{arith, inl}
use Rattle.cabling.proofs.Bits.{more_than}
use Rattle.cabling.proofs.Growing.{growing_first, growing_next, growing_last}
use Rattle.cabling.proofs.wiring.Cabling.component.Goals as goal

pub insert-requires : goal.insert-requires
insert-requires c = omega (arith, c.requires, c.cables_are_two_ended.ensures.few_nodes)

pub loop-next-init : goal.loop-next-init
loop-next-init c = record {
  growing = growing_first c.args.self.now c.args.node c.none-done.result c.insert.new.self c.requires c.none-done.ensures c.insert.ensures.holds (rw c.none-waiting.ensures at c.insert.ensures.others);
  small = rw c.none-done.ensures (omega arith);
}

pub loop-next-preserved : goal.loop-next-preserved
loop-next-preserved c = record {
  growing = growing_next c.args.self.now c.args.node c.in-Some.next c.loop-next.done c.loop-next.waiting c.neighbours.result c.union.result c.insert-in-Some.new.self c.minus-waiting.result
      c.cables_are_two_ended.ensures c.loop-next.invariant.growing c.in-Some.ensures.holds
      (record { done_now = c.insert-in-Some.ensures.holds; done_others = c.insert-in-Some.ensures.others; near_is = c.neighbours.ensures.members; both_is = c.union.ensures.members; after = c.minus-waiting.ensures.members });
  small = c.insert-in-Some.ensures.small;
}

pub loop-next-smaller : goal.loop-next-smaller
loop-next-smaller c = more_than c.loop-next.done c.insert-in-Some.new.self c.in-Some.next c.insert-in-Some.ensures.small (c.insert-in-Some.ensures.value (c.loop-next.invariant.growing.apart c.in-Some.next c.in-Some.ensures.holds))

pub returns-clause-component : goal.returns-clause-component
returns-clause-component c = growing_last c.args.self.now c.args.node c.loop-next.done c.loop-next.waiting c.loop-next.invariant.growing c.in_default.ensures.none

pub returns-clause-exist : goal.returns-clause-exist
returns-clause-exist c = λ x h. c.loop-next.invariant.growing.exist x (inl h)
