use Rattle.std.proofs.Common.{ℕ, ap, sym, ◌∙◌, ◌+◌, ◌*◌, ◌%◌, get_or, set, List, arith}
use Rattle.quad_lanes.proofs.Lemmas.{all_quadlets}
use Rattle.flawed_capture.proofs.Turned.{turned}
use Rattle.flawed_capture.proofs.change.turned_capture.Goals as goal

pub returns-clause-sure : goal.returns-clause-sure
returns-clause-sure c = λ standard.
    let list = c.args.list.now in
    let was = c.index.result.now in
    let same = c.in_ok-bytes.ensures in
    turned standard list c.args.at (c.args.word % 8) c.other_byte.result was _ c.capture_is_read_back.ensures.whole
    (all_quadlets list (λ i. omega (arith, c.type_inv.list i))) c.requires.at (omega arith) (omega arith)
    (λ e. c.other_byte.ensures.other (e ∙ ap (λ (l : List ℕ). get_or l (8 * c.args.at + c.args.word % 8) was) (sym same) ∙ sym c.index.ensures))
    (ap (λ (l : List ℕ). set l (8 * c.args.at + c.args.word % 8) c.other_byte.result) same)
