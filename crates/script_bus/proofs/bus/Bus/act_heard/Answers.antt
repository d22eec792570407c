use Rattle.std.specs.Prelude.{Ok, []}
use Rattle.std.proofs.lemmas.Result.{IfErr-weaker}
use Rattle.script_trace.specs.Voice.{legend_of}
use Rattle.script_trace.specs.Trace.{act_trace}
use Rattle.script_told.specs.Step.{Acts, Does}
use Rattle.script_bus.specs.Running.{Stops}
use Rattle.script_bus.proofs.Doing.{ok-then, stops-as}
use Rattle.script_bus.proofs.bus.Bus.act_heard.Goals as goal

pub act_told-requires : goal.act_told-requires
act_told-requires g c = c.requires.is

pub returns-clause-done : goal.returns-clause-done
returns-clause-done g c =
    ok-then c.act_told.result _ _ (λ bus acts. c.requires.comes (Ok (bus, [])) acts) c.act_told.ensures.done

pub returns-clause-heard : goal.returns-clause-heard
returns-clause-heard g c =
    let before = c.args.self in
    let voice = g.L.Listener.voice in
    ok-then c.act_told.result _ _ (λ after told. record {
      lines = act_trace voice (legend_of after.notes) c.args.command.now before.world after.world;
      traces = c.requires.told voice after;
      written = told;
    }) c.act_told.ensures.heard

pub returns-clause-stop : goal.returns-clause-stop
returns-clause-stop g c =
    let acts = Acts c.args.self c.args.act in
    let does = Does c.args.self c.args.command.now in
    IfErr-weaker c.act_told.result (Stops acts) (Stops does) (stops-as acts does c.requires.comes) c.act_told.ensures.stop
