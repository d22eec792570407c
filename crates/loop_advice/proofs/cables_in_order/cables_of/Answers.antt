use Rattle.std.proofs.lemmas.Result.{IfOk-weaker}
use Rattle.loop_advice.proofs.Components.{one_component, same_order}
use Rattle.loop_advice.proofs.cables_in_order.cables_of.Goals as goal

pub returns : goal.returns
returns c = IfOk-weaker c.cables_within.result _ _
    (λ cables order set is. same_order c.args.cabling.now c.component.result set cables (one_component c.args.cabling.now c.args.node c.component.result set c.component.ensures.component is) order)
    c.cables_within.ensures
