use Rattle.std.proofs.Common.{refl, ap, length, ◌∙◌, arith}
use Rattle.self_id.specs.declared.standard.Standard.TheVariants.{Ieee2000}
use Rattle.heapless_c.specs.Reader.{whole, no_tree}
use Rattle.heapless_c.proofs.Lasting.{all_taken, tree_is_short}
use Rattle.heapless_c.proofs.reader.busconf_reader_state.Goals as goal

pub returns-in-Ok : goal.returns-in-Ok
returns-in-Ok c = λ list has.
    let t = c.in-Ok.ensures.found in
    whole t.0 t.2.bus (t.2.emitted ∙ all_taken list c.kept.result.now (c.kept.ensures list has) (omega (arith, tree_is_short Ieee2000 t.0 t.2.bus, ap length t.2.emitted))) refl refl

pub returns-in-Err : goal.returns-in-Err
returns-in-Err c = λ list has. no_tree (c.tell_fault.ensures Ieee2000 c.kept.result.now list (c.kept.ensures list has) c.in-Err.ensures.refused)
