use Rattle.std.proofs.Common.{◌≡◌, ℕ, ◌+◌, List, [], ◌∷◌, ◌++◌, refl, sym, subst, ap, ◌∙◌, arith}
use Rattle.cabling.specs.declared.cable.Cable.{Cable}
use Rattle.cabling.specs.Wiring.{Wiring, IsCabling}
use Rattle.cabling.specs.NodeSet.{Holds}
use Rattle.cabling.specs.Component.{IsClosed}
use Rattle.cabling.proofs.Lemmas.{end_at}
use Rattle.loop_advice.specs.codings.Collected.{Collected, StartsAt}
use Rattle.loop_advice.proofs.Listed.{not_true}
use Rattle.loop_advice.proofs.Marking.{cable}
use Rattle.loop_advice.proofs.Collecting.{collected_one, collected_none, collected_row, collected_skip}
use Rattle.loop_advice.proofs.cables_in_order.push_cables.Goals as goal
use Rattle.loop_advice.proofs.cables_in_order.push_cables.Goals.{in-Some+in_ok-push, in_default}

pub returns-then-not-has : goal.returns-then-not-has
returns-then-not-has c = collected_skip c.args.cabling.now c.args.set c.args.node c.args.list.now (λ h. not_true (c.if-not-has.ensures.1 h)) c.requires.before

-- the cable at a port was appended
pushed : (c : Wiring) (set node port : ℕ) (x : Cable) (old new : List Cable) → IsCabling c →
    IsClosed c set → Holds set node → StartsAt c (end_at node port) x → new ≡ old ++ x ∷ [] →
    Collected c set node port old → Collected c set node (port + 1) new
pushed c set node port x old new is closed h starts e k =
    let same : cable (end_at node port) x.b ≡ x = ap (λ a. cable a x.b) (sym starts.first) in
    subst (λ (xs : List Cable). Collected c set node (port + 1) xs) (ap (λ (y : Cable). old ++ y ∷ []) same ∙ sym e)
    (collected_one c set node port x.b old is closed h starts.joined starts.low k)

pub loop-port-preserved : goal.loop-port-preserved
loop-port-preserved c = elim c.match-cable_from.branch [
  | in-Some+in_ok-push w ↦ pushed c.args.cabling.now c.args.set c.args.node c.loop-port.port w.in-Some.cable c.loop-port.list c.match-cable_from.list c.cables_are_two_ended.ensures c.requires.closed (c.if-not-has.ensures.0 refl) w.in-Some.ensures (w.list-is ∙ w.in_ok-push.ensures.ok) c.loop-port.invariant
  | in_default w ↦ subst (λ (xs : List Cable). Collected c.args.cabling.now c.args.set c.args.node (c.loop-port.port + 1) xs) (sym w.list-is)
      (collected_none c.args.cabling.now c.args.set c.args.node c.loop-port.port c.loop-port.list w.in_default.ensures c.loop-port.invariant)
]

pub returns : goal.returns
returns c = collected_row c.args.cabling.now c.args.set c.args.node c.loop-port.port c.loop-port.list (omega (arith, c.loop-port-test.false, c.ports-port-end.ensures.value)) c.loop-port.invariant
