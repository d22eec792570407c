use Rattle.cable_world.proofs.Lemmas.{lawful-now}
use Rattle.script_trace.proofs.Turns.{each-ticks, still-told}
use Rattle.script_trace.proofs.steps.pass_over.Goals as goal

pub returns-clause-heard : goal.returns-clause-heard
returns-clause-heard g c = λ voice legend news.
    let w = g.W.WorldRun.world c.args.world.now in
    still-told voice legend c.still_turns-still.result w news c.still_turns_pass.ensures
    (lawful-now w (g.met.W.WorldRun.reached c.args.world.now c.requires.fine)).well_formed.count c.still_turns-still.ensures.still
    (each-ticks c.still_turns-still.result w c.still_turns-still.ensures.ticks)
