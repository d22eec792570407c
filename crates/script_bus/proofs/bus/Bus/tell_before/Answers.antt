use Rattle.std.proofs.Common.{◌++◌, ◌∙◌, ℕ, ap}
use Rattle.cable_world.specs.World.{CableWorld}
use Rattle.script_trace.specs.News.{picked}
use Rattle.script_trace.specs.Step.{seen_before_act}
use Rattle.script_bus.proofs.bus.Bus.tell_before.Goals as goal

pub returns-clause-seen : goal.returns-clause-seen
returns-clause-seen g c = λ looks.
    c.in_ok-seen.ensures looks
    ∙ ap (λ (z : CableWorld). picked c.args.touched 0 (seen_before_act z 0 z.nodes)) c.world.ensures.is

pub returns-clause-written : goal.returns-clause-written
returns-clause-written g c =
    c.in_ok-command.ensures
    ∙ ap (λ (turn : ℕ). g.L.Listener.written c.args.listener.now ++ g.L.Listener.voice.command turn c.args.command.now) c.turns.ensures
