use Rattle.std.proofs.Common.{◌∙◌}
use Rattle.reset_log.proofs.Ascii.{ascii_utf8}
use Rattle.reset_log.proofs.values.put_ascii.Goals as goal

pub unreachable-requires : goal.unreachable-requires
unreachable-requires c =
    c.in-Err.ensures.cases.0 (ascii_utf8 c.args.bytes.now c.deref.result.now (c.deref.ensures.value ∙ c.in_ok-text.ensures))
