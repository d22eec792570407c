use Rattle.std.proofs.Common.{◌<◌, List, ℕ, length, sym, subst, ◌∙◌, arith}
use Rattle.flawed_capture.specs.Spoilt.{IsListOfBus}
use Rattle.flawed_capture.proofs.Counted.{some_emitted}
use Rattle.flawed_capture.proofs.Grown.{of_bus}
use Rattle.flawed_capture.proofs.made.made_bus.Goals as goal

pub returns-clause-bus : goal.returns-clause-bus
returns-clause-bus c =
    subst (IsListOfBus c.args.standard c.args.nodes) (sym c.in_ok-made_list.ensures.list)
    (of_bus c.args.standard c.args.nodes c.args.words.now (omega (arith, c.if-nodes-eq0.false)) c.requires)

pub returns-clause-some : goal.returns-clause-some
returns-clause-some c =
    let b = of_bus c.args.standard c.args.nodes c.args.words.now (omega (arith, c.if-nodes-eq0.false)) c.requires in
    subst (λ (l : List ℕ). 0 < length l) (b.emitted ∙ sym c.in_ok-made_list.ensures.list) (some_emitted c.args.standard b.t b.bus)
