use Rattle.std.proofs.Common.{◌≡◌, ◌++◌, ◌∙◌, sym, subst}
use Rattle.std.specs.Prelude.{Ok, []}
use Rattle.cable_world.proofs.Lemmas.{lawful-now}
use Rattle.script_told.specs.Bus.{Bus}
use Rattle.script_told.specs.Step.{Acts}
use Rattle.script_trace.specs.Step.{seen_before_act}
use Rattle.script_trace.specs.Trace.{act_trace}
use Rattle.script_trace.specs.Voice.{legend_of}
use Rattle.script_trace.proofs.Lemmas.{seen-length}
use Rattle.script_bus.proofs.Hearing.{both-heard}
use Rattle.script_bus.proofs.bus.Bus.act_told.Goals as goal

pub returns-clause-done : goal.returns-clause-done
returns-clause-done g c =
    subst (λ (b : Bus). Acts c.args.self c.args.act.now (Ok (b, []))) (sym c.tallied.ensures) c.in_ok-bus.ensures.done

pub returns-clause-heard : goal.returns-clause-heard
returns-clause-heard g c =
    let w = c.args.self.world in
    let bus = c.in_ok-bus.bus in
    let acts = c.in_ok-bus.ensures.done in
    let voice = g.L.Listener.voice in
    let all = seen_before_act w 0 w.nodes in
    let out = g.L.Listener.written c.args.listener.now in
    let now = g.L.Listener.written c.tell_after.new.listener in
    let told = both-heard (voice.command w.turns c.args.command.now) (voice.since (legend_of bus.notes) all bus.world) _ _ _ c.in_ok-seen.ensures.written
    (c.in_ok-tell_after.ensures all (record {
      count = seen-length w 0 w.nodes ∙ sym c.in_ok-bus.ensures.passed.nodes;
      picked = λ looks. c.deref.ensures.value ∙ c.in_ok-seen.ensures.seen looks;
      others = c.touched_by-touched.ensures w bus.world (sym c.cabling.ensures) (c.requires, acts.0, acts.1) (lawful-now w c.buses_are_sound.ensures.reached);
    })) in
    subst (λ (b : Bus). now ≡ out ++ act_trace voice (legend_of b.notes) c.args.command.now w b.world) (sym c.tallied.ensures) told
