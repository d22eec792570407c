use Rattle.std.proofs.Common.{◌≡◌, get_or, sym, arith}
use Rattle.std.proofs.lemmas.Grind.{common_steps}
use Rattle.std.proofs.lemmas.Option.{get_or_from_slice_get}
use Rattle.topology_stack.proofs.text.put_lines.Goals as goal

pub loop-i-preserved : goal.loop-i-preserved
loop-i-preserved c =
    let below : c.of.result.now ≡ get_or c.args.children.now c.loop-i.i c.of.result.now = sym (get_or_from_slice_get c.args.children.now c.loop-i.i c.of.result.now c.of.result.now c.of.ensures) in
    grind (arith, common_steps)
