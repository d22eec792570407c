use Rattle.std.proofs.Common.{append-nil, arith, sym}
use Rattle.std.proofs.lemmas.Option.{slice_get_past}
use Rattle.bus_json.proofs.bus.put_name.Goals as goal

pub returns-else-id-names : goal.returns-else-id-names
returns-else-id-names c =
    rw (slice_get_past c.args.names.now c.args.id (omega arith)) (sym (append-nil c.args.out.now))
