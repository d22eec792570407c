use Rattle.std.proofs.Common.{◌++◌, ◌∙◌, ap, sym, subst}
use Rattle.cable_world.specs.World.{CableWorld}
use Rattle.script_trace.specs.News.{IsEnough}
use Rattle.script_trace.specs.Voice.{Legend}
use Rattle.script_bus.proofs.bus.Bus.tell_after.Goals as goal

pub returns : goal.returns
returns g c = λ all enough.
    let bus = c.args.self.now in
    let out = g.L.Listener.written c.args.listener.now in
    let voice = g.L.Listener.voice in
    c.in_ok-since.ensures all (subst (IsEnough g.L.Listener.looks c.args.touched c.args.seen.now all) (sym c.world.ensures.is) enough)
    ∙ ap (λ (w : CableWorld). out ++ voice.since c.legend.result all w) c.world.ensures.is
    ∙ ap (λ (legend : Legend). out ++ voice.since legend all bus.world) c.legend.ensures
