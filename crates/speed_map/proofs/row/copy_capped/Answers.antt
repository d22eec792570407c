use Rattle.speed_map.proofs.Copied.{written}
use Rattle.speed_map.proofs.row.copy_capped.Goals as goal

pub returns : goal.returns
returns c =
    written c.args.rows.now c.min_row.new.dst c.copy_from_slice.new.self c.args.of c.args.to c.args.low c.args.high c.args.cap c.requires.of_row c.requires.to_row c.requires.part c.requires.inside
    c.min_row.ensures c.copy_from_slice.ensures.after
