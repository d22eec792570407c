use Rattle.view_text.proofs.OneDigit.{gap_words_are}
use Rattle.view_text.proofs.node.put_gap_words.Goals as goal

pub returns : goal.returns
returns c =
    gap_words_are c.args.out.now.items c.extend_from_slice.new.self.items c.put_number.new.out.items c.args.attrs
    (rw c.gap_front.ensures at c.in_ok-extend_from_slice.ensures.items) (rw c.from.ensures at c.in_ok-put_number.ensures)
