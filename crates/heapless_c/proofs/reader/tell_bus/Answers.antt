use Rattle.std.proofs.Common.{length, refl, ap, ◌∙◌, arith}
use Rattle.c_records.specs.Shown.{shown, too_short}
use Rattle.heapless_c.specs.Reader.{whole, no_tree}
use Rattle.heapless_c.proofs.Lasting.{all_taken, tree_is_short}
use Rattle.heapless_c.proofs.reader.tell_bus.Goals as goal

pub returns-then-nodes-found-clause-state : goal.returns-then-nodes-found-clause-state
returns-then-nodes-found-clause-state c = λ list e.
    let t = c.in-Ok.ensures.found in
    whole t.0 t.2.bus (t.2.emitted ∙ all_taken list c.args.quads.now e (omega (arith, tree_is_short c.args.standard t.0 t.2.bus, ap length t.2.emitted))) refl
    (too_short t.1 (omega (arith, c.if-nodes-found.true, t.1.nodes)) refl refl)

pub returns-else-nodes-found-clause-state : goal.returns-else-nodes-found-clause-state
returns-else-nodes-found-clause-state c = λ list e.
    let t = c.in-Ok.ensures.found in
    whole t.0 t.2.bus (t.2.emitted ∙ all_taken list c.args.quads.now e (omega (arith, tree_is_short c.args.standard t.0 t.2.bus, ap length t.2.emitted))) refl
    (shown t.1 (c.show_nodes.ensures t.0 t.2) refl)

pub returns-in-Err-clause-state : goal.returns-in-Err-clause-state
returns-in-Err-clause-state c = λ list e. no_tree (c.tell_fault.ensures c.args.standard c.args.quads.now list e c.in-Err.ensures.refused)
