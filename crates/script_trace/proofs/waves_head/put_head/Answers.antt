use Rattle.std.proofs.Common.{◌≡◌, ℕ, List, ◌++◌, ap}
use Rattle.std.specs.Prelude.{codes}
use Rattle.script_trace.specs.Voice.{Legend}
use Rattle.script_trace.specs.waves.Head.{head, opening, all_scopes, all_values}
use Rattle.script_trace.proofs.waves.Walked.{then-more}
use Rattle.script_trace.proofs.waves_head.put_head.Goals as goal

pub returns : goal.returns
unfolding head
returns g c =
    let w = g.W.WorldRun.world c.args.world.now in
    let first = opening c.args.legend.now.nanoseconds w.delay in
    let time : c.legend.inside.nanoseconds ≡ c.args.legend.now.nanoseconds = ap (λ (l : Legend). l.nanoseconds) c.legend.view_is in
    let named : c.legend.inside.names.now ≡ c.args.legend.now.names = ap (λ (l : Legend). l.names) c.legend.view_is in
    let scopes = all_scopes c.args.legend.now.names 0 w.nodes in
    let between : List ℕ = codes "$enddefinitions $end\n#0\n$dumpvars\n" in
    let values = all_values 0 w.nodes in
    let end : List ℕ = codes "$end\n" in
    let opened = c.put_opening.new.out.items in
    let declared = c.put_scopes.new.out.items in
    let begun = c.extend_from_slice.new.self.items in
    let out = c.extend_from_slice-2.new.self.items in
    then-more c.args.out.now.items first (scopes ++ (between ++ (values ++ end))) opened out (rw (c.delay.ensures, time) at c.in_ok-put_opening.ensures)
    (then-more opened scopes (between ++ (values ++ end)) declared out (rw named at c.in_ok-put_scopes.ensures)
    (then-more declared between (values ++ end) begun out c.in_ok-extend_from_slice.ensures.items
    (then-more begun values end c.put_all_values.new.out.items out c.in_ok-put_all_values.ensures c.in_ok-extend_from_slice-2.ensures.items)))
