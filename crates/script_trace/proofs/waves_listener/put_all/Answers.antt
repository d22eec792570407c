use Rattle.std.proofs.Common.{◌∙◌, refl, sym, arith}
use Rattle.std.proofs.lemmas.Bool.{false≢true}
use Rattle.script_trace.proofs.Walked.{all-told}
use Rattle.script_trace.proofs.Picked.{some-there, told-in, told-out}
use Rattle.script_trace.specs.waves.Change.{node_changes}
use Rattle.script_trace.specs.waves.Moment.{all_changes}
use Rattle.script_trace.proofs.waves.News.{no-news}
use Rattle.script_trace.proofs.waves.Walked.{none-left}
use Rattle.script_trace.proofs.waves_listener.put_all.Goals as goal

pub loop-node-init : goal.loop-node-init
loop-node-init g c = record {
  place = omega arith;
  told = λ all enough. (refl, enough.picked refl);
}

pub loop-node-preserved : goal.loop-node-preserved
loop-node-preserved g c =
    let w = g.W.WorldRun.world c.args.world.now in
    let inv = c.loop-node.invariant in
    let x = some-there w.nodes c.loop-node.node (omega (arith, c.loop-node-test.true, c.requires.nodes)) in
    record {
      place = omega (arith, inv.place);
      told = λ all enough.
          told-in w (node_changes w) (all_changes w) (λ k s seen y nodes. refl) c.args.touched c.loop-node.node c.loop-node.next x.0
          c.args.seen.now all c.loop-node.out.items _ _ enough x.1 (c.has.ensures.0 c.if-not-has.false) c.in_ok-put_seen.ensures (inv.told all enough);
    }

pub loop-node-preserved-then-not-has : goal.loop-node-preserved-then-not-has
loop-node-preserved-then-not-has g c =
    let w = g.W.WorldRun.world c.args.world.now in
    let inv = c.loop-node.invariant in
    let x = some-there w.nodes c.loop-node.node (omega (arith, c.loop-node-test.true, c.requires.nodes)) in
    record {
      place = omega (arith, inv.place);
      told = λ all enough.
          told-out w (node_changes w) (all_changes w) (λ k s seen y nodes. refl) c.args.touched c.loop-node.node c.loop-node.next x.0
          c.args.seen.now all c.loop-node.out.items _ enough x.1 (λ has. false≢true (sym c.if-not-has.true ∙ c.has.ensures.1 has))
          (λ s new. no-news w c.loop-node.node s x.0.state.view new) (inv.told all enough);
    }

pub returns : goal.returns
returns g c = λ all enough.
    let w = g.W.WorldRun.world c.args.world.now in
    all-told c.loop-node.out.items _ _
    (none-left w c.loop-node.node all w.nodes (omega (arith, c.loop-node-test.false, c.requires.nodes)))
    (c.loop-node.invariant.told all enough).0
