use Rattle.std.proofs.Common.{◌-◌, refl}
use Rattle.reset_log.proofs.Ascii.{device_utf8}
use Rattle.reset_log.proofs.values.put_card.Goals as goal

pub unreachable-requires : goal.unreachable-requires
unreachable-requires c =
    c.in-Err.ensures.cases.0 (device_utf8 (c.args.card - 4294967296) c.deref.result.now (rw (c.deref.ensures.value, c.in_ok-put_device.ensures, c.new-name.ensures.items) refl))
