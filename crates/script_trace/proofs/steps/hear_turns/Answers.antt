use Rattle.std.proofs.Common.{◌++◌, ◌∙◌, ℕ, List, sym, ap}
use Rattle.std.proofs.lemmas.List.{append-nil}
use Rattle.std.proofs.lemmas.Result.{on_ok_weaker}
use Rattle.script_trace.proofs.Turns.{mute-told}
use Rattle.script_trace.proofs.steps.hear_turns.Goals as goal

pub returns-clause-heard : goal.returns-clause-heard
returns-clause-heard g c =
    let out = g.L.Listener.written c.args.listener.now in
    on_ok_weaker c.run_turns.result
    (λ passed. sym (append-nil out) ∙ ap (λ (l : List ℕ). out ++ l)
    (sym (mute-told g.L.Listener.voice c.args.legend.now c.args.count (g.W.WorldRun.world c.args.world.now) (c.hears.ensures.silent c.if-hears.false))))
    c.run_turns.ensures.passed
