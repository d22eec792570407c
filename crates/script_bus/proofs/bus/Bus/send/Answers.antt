use Rattle.std.proofs.Common.{◌∙◌, Some, ap, sym, arith}
use Rattle.std.proofs.lemmas.Option.{slice_get_within}
use Rattle.cable_world.proofs.Lemmas.{lawful-now}
use Rattle.script_lines.specs.declared.command.Command.TheVariants as command
use Rattle.script_trace.specs.Step.{seen_before_act}
use Rattle.script_trace.specs.Voice.{legend_of}
use Rattle.script_trace.proofs.Lemmas.{seen-length}
use Rattle.script_bus.proofs.Hearing.{both-heard}
use Rattle.script_bus.proofs.bus.Bus.send.Goals as goal
use Rattle.std.proofs.Common.{length}

pub returns-clause-sent : goal.returns-clause-sent
returns-clause-sent g c =
    let w = c.args.self.world in
    let bus = c.in_ok-bus.bus in
    let plan = c.args.plan.now in
    let voice = g.L.Listener.voice in
    let all = seen_before_act w 0 w.nodes in
    let count = (lawful-now w c.buses_are_sound.ensures.reached).well_formed.count in
    record {
      sends = c.in_ok-bus.ensures.done;
      written = both-heard (voice.command w.turns (command.Config c.args.name.now (Some plan.root_id) (Some plan.gap))) (voice.since (legend_of bus.notes) all bus.world)
          _ _ _ c.in_ok-seen.ensures.written
          (c.in_ok-tell_after.ensures all (record {
            count = seen-length w 0 w.nodes ∙ sym c.in_ok-bus.ensures.passed.nodes;
            picked = λ looks. c.deref.ensures.value ∙ c.in_ok-seen.ensures.seen looks;
            others = λ k s x here at out.
                let inside = slice_get_within bus.world.nodes k x at in
                absurd (out ((c.first-touched.ensures k).1
                (omega (arith, inside, c.in_ok-bus.ensures.passed.nodes, count, c.nodes.ensures.value, ap length c.cabling.ensures))));
          }));
    }
