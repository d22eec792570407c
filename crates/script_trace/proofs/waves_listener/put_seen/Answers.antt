use Rattle.std.proofs.Common.{◌++◌, ◌∙◌, length, refl, sym, ap, arith}
use Rattle.std.proofs.lemmas.Option.{slice_get_read, slice_get_within}
use Rattle.port_state.specs.declared.view.View.{View}
use Rattle.port_state.specs.Machine.{PortNode}
use Rattle.cable_world.proofs.Lemmas.{some-of, some-same}
use Rattle.script_trace.specs.Event.{Seen}
use Rattle.script_trace.specs.waves.Change.{node_changes}
use Rattle.script_trace.proofs.waves_listener.put_seen.Goals as goal

pub returns-then-at-count : goal.returns-then-at-count
returns-then-at-count g c = λ s x here at.
    absurd (omega (arith, slice_get_within c.args.seen.now c.args.at s here, c.if-at-count.true))

pub returns : goal.returns
returns g c = λ s x here at.
    let w = g.W.WorldRun.world c.args.world.now in
    let out = c.args.out.now.items in
    let y = some-of _ _ c.view-view.ensures in
    let read = slice_get_read c.args.seen.now (length c.args.seen.now) c.args.at c.index-seen-at.result refl
    (omega (arith, c.if-at-count.false)) c.index-seen-at.is in
    c.in_ok-put_node.ensures
    ∙ ap (λ (v : View). out ++ node_changes w c.args.node c.index-seen-at.result v)
    (y.2 ∙ ap (λ (z : PortNode). z.state.view) (some-same y.0 x (sym y.1 ∙ at)))
    ∙ ap (λ (t : Seen). out ++ node_changes w c.args.node t x.state.view) (some-same c.index-seen-at.result s (sym read ∙ here))
