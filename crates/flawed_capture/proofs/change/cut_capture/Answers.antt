use Rattle.std.proofs.Common.{length, ◌%◌, ap, ◌∙◌, arith}
use Rattle.flawed_capture.proofs.Changed.{cut}
use Rattle.flawed_capture.proofs.change.cut_capture.Goals as goal

pub returns-clause-sure : goal.returns-clause-sure
returns-clause-sure c = λ standard.
    cut standard c.in_ok-bytes.bytes.items c.truncate.new.self.items c.args.at (c.args.word % 7)
    (length c.args.list.now) (omega arith) c.requires.at
    (ap length c.in_ok-bytes.ensures ∙ c.capture_is_read_back.ensures.whole c.args.list.now) c.truncate.ensures.items
