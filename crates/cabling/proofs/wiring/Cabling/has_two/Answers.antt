use Rattle.std.proofs.Common.{Bool, subst}
use Rattle.cabling.proofs.Stripping.{Counted, counted_no, counted_first, counted_all, leads_if, leads_not}
use Rattle.cabling.proofs.wiring.Cabling.has_two.Goals as goal
use Rattle.cabling.proofs.wiring.Cabling.has_two.Goals.{then-leads_into+else-one, else-leads_into}

pub loop-end-preserved : goal.loop-end-preserved
loop-end-preserved c = elim c.if-leads_into.branch [
  | then-leads_into+else-one w ↦ rw w.one-is (counted_first c.args.self.now c.args.set c.args.node c.loop-end.end-index
      (subst (λ (one : Bool). Counted c.args.self.now c.args.set c.args.node c.loop-end.end-index one) w.if-one.false c.loop-end.invariant)
      (leads_if c.args.self.now c.args.set c.args.node c.loop-end.end-index c.ends-end-items.result.now c.leads_into.result c.ends-end-items.ensures.value w.if-leads_into.true c.leads_into.ensures))
  | else-leads_into w ↦ rw w.one-is (counted_no c.args.self.now c.args.set c.args.node c.loop-end.end-index c.loop-end.one
      (leads_not c.args.self.now c.args.set c.args.node c.loop-end.end-index c.ends-end-items.result.now c.leads_into.result c.ends-end-items.ensures.value w.if-leads_into.false c.leads_into.ensures)
      c.loop-end.invariant)
]

pub returns : goal.returns
returns c = counted_all c.args.self.now c.args.set c.args.node c.loop-end.end-index c.loop-end.one c.loop-end.invariant (rw (← c.ends-end-items.ensures.value) c.loop-end-test.false)
