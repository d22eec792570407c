use Rattle.std.proofs.Common.{◌++◌, ◌∙◌, map, sym, ap, subst}
use Rattle.std.proofs.lemmas.Bool.{false_from_ne_true, false≢true}
use Rattle.std.proofs.lemmas.List.{length-map}
use Rattle.cable_world.specs.World.{CableWorld}
use Rattle.cable_world.specs.Turn.{turn}
use Rattle.cable_world.specs.Lawful.{IsLawful}
use Rattle.cable_world.proofs.Lemmas.{lawful-now}
use Rattle.script_trace.specs.News.{IsNewWithin}
use Rattle.script_trace.specs.Step.{seen_before_turn}
use Rattle.script_trace.proofs.News.{turn-news}
use Rattle.script_trace.proofs.steps.turn_heard.Goals as goal

pub returns-clause-heard : goal.returns-clause-heard
returns-clause-heard g c =
    let w = g.W.WorldRun.world c.args.world.now in
    let v = g.W.WorldRun.world c.turn.new.self in
    let done = c.in_ok-turn.ensures.done in
    let seen = map seen_before_turn w.nodes in
    let before = lawful-now w (g.met.W.WorldRun.reached c.args.world.now c.requires.fine) in
    let fine = false_from_ne_true (g.W.WorldRun.is_spent c.turn.new.self)
    (λ spent. false≢true (c.in_ok-turn.ensures.spent.1 spent)) in
    let after : IsLawful (turn w) = subst IsLawful done (lawful-now v (g.met.W.WorldRun.reached c.turn.new.self fine)) in
    let news : IsNewWithin c.touched-touched.result seen (turn w) =
    turn-news w c.turn_by_number.ensures.node c.turn_by_number.ensures.wire before after c.touched-touched.result (c.touched-touched.ensures c.requires.fine) in
    c.in_ok-since.ensures seen (record {
      count = length-map w.nodes seen_before_turn ∙ sym c.in_ok-turn.ensures.passed.nodes;
      picked = λ looks. c.deref.ensures.value ∙ c.in_ok-seen.ensures;
      others = subst (IsNewWithin c.touched-touched.result seen) (sym done) news;
    })
    ∙ ap (λ (u : CableWorld). g.L.Listener.written c.args.listener.now ++ g.L.Listener.voice.since c.args.legend.now seen u) done
