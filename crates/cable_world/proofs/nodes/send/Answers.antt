use Rattle.std.proofs.Common.{◌∙◌, ap, sym}
use Rattle.cable_world.specs.Turn.{wires_after_sends}
use Rattle.cable_world.proofs.running.Sending.{no-sends}
use Rattle.cable_world.proofs.nodes.send.Goals as goal

pub returns-then-is_none-clause-sent : goal.returns-then-is_none-clause-sent
returns-then-is_none-clause-sent c =
    sym (no-sends 0 c.args.wires.now)
    ∙ ap (λ sends. wires_after_sends 0 sends c.args.wires.now) (sym (c.is_none.ensures.0 c.if-is_none.true))
