use Rattle.std.proofs.Common.{Some, None, arith}
use Rattle.cabling.proofs.Near.{end_at, at_row, small_far, near_none, near_one, near_loose, near_all}
use Rattle.cabling.proofs.wiring.Cabling.neighbours.Goals as goal
use Rattle.cabling.proofs.wiring.Cabling.neighbours.Goals.{in-Some, in-None}

pub insert-requires : goal.insert-requires
insert-requires c =
    small_far c.args.self.now (end_at c.args.node c.loop-end.end-index) c.in-Some.other c.ends-end-items.ensures.cabling
    (at_row c.args.self.now c.ends-end-items.result.now c.args.node c.loop-end.end-index (Some c.in-Some.other) c.ends-end-items.ensures.value c.in-Some.is)

pub loop-end-init : goal.loop-end-init
loop-end-init c = record { near = near_none c.args.self.now c.args.node c.none-found.result c.none-found.ensures; small = rw c.none-found.ensures (omega arith) }

pub loop-end-preserved : goal.loop-end-preserved
loop-end-preserved c = elim c.match-end.branch [
  | in-Some w ↦ record {
    near = rw w.found-is (near_one c.args.self.now c.args.node c.loop-end.end-index c.loop-end.found w.insert.new.self w.in-Some.other
        (at_row c.args.self.now c.ends-end-items.result.now c.args.node c.loop-end.end-index (Some w.in-Some.other) c.ends-end-items.ensures.value w.in-Some.is)
        c.loop-end.invariant.near w.insert.ensures.holds w.insert.ensures.others);
    small = rw w.found-is w.insert.ensures.small;
  }
  | in-None w ↦ record {
    near = rw w.found-is (near_loose c.args.self.now c.args.node c.loop-end.end-index c.loop-end.found
        (at_row c.args.self.now c.ends-end-items.result.now c.args.node c.loop-end.end-index None c.ends-end-items.ensures.value w.in-None.is)
        c.loop-end.invariant.near);
    small = rw w.found-is c.loop-end.invariant.small;
  }
]

pub returns : goal.returns
returns c = record {
  members = near_all c.args.self.now c.args.node c.loop-end.end-index c.loop-end.found c.loop-end.invariant.near (rw (← c.ends-end-items.ensures.value) c.loop-end-test.false);
  small = c.loop-end.invariant.small;
}
