use Rattle.std.proofs.Common.{ℕ, List, ◌++◌}
use Rattle.std.specs.Prelude.{codes}
use Rattle.script_text.specs.ReportText.{spaced}
use Rattle.script_trace.specs.waves.Head.{node_variables, missed_variable, all_port_variables}
use Rattle.script_trace.proofs.waves.Walked.{then-more}
use Rattle.script_trace.proofs.waves_head.put_scope.Goals as goal

pub returns : goal.returns
returns c =
    let name = spaced c.args.names.now c.args.node in
    let own = node_variables c.args.node in
    let missed = missed_variable c.args.node c.args.steady in
    let ports = all_port_variables c.args.node 0 c.args.ports.now in
    let end : List ℕ = codes "$upscope $end\n" in
    let out = c.extend_from_slice-3.new.self.items in
    let first = c.extend_from_slice.new.self.items in
    let named = c.put_name.new.out.items in
    let opened = c.extend_from_slice-2.new.self.items in
    let owned = c.put_node_variables.new.out.items in
    let more = c.put_missed_variable.new.out.items in
    let rest = missed ++ (ports ++ end) in
    then-more c.args.out.now.items (codes "$scope module") (name ++ (codes " $end\n" ++ (own ++ rest))) first out c.in_ok-extend_from_slice.ensures.items
    (then-more first name (codes " $end\n" ++ (own ++ rest)) named out c.in_ok-put_name.ensures
    (then-more named (codes " $end\n") (own ++ rest) opened out c.in_ok-extend_from_slice-2.ensures.items
    (then-more opened own rest owned out c.in_ok-put_node_variables.ensures
    (then-more owned missed (ports ++ end) more out c.in_ok-put_missed_variable.ensures
    (then-more more ports end c.put_all_port_variables.new.out.items out c.in_ok-put_all_port_variables.ensures c.in_ok-extend_from_slice-3.ensures.items)))))
