use Rattle.std.proofs.Common.{◌∙◌, length-set}
use Rattle.heapless_c.proofs.Taking.{more, full}
use Rattle.heapless_c.proofs.reader.busconf_reader_push.Goals as goal

pub returns-then-count-lt-READER_QUADS : goal.returns-then-count-lt-READER_QUADS
returns-then-count-lt-READER_QUADS c = λ list has. record {
  places = length-set c.args.reader.now.quads c.args.reader.now.count c.args.quad ∙ has.places;
  kept = more c.args.reader.now.quads list c.args.reader.now.count c.args.quad has.places c.if-count-lt-READER_QUADS.true has.kept;
}

pub returns-else-count-lt-READER_QUADS : goal.returns-else-count-lt-READER_QUADS
returns-else-count-lt-READER_QUADS c = λ list has. record {
  places = has.places;
  kept = full c.args.reader.now.quads list c.args.reader.now.count c.args.quad has.places c.if-count-lt-READER_QUADS.false has.kept;
}
