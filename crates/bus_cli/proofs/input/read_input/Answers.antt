use Rattle.std.proofs.Common.{[], arith}
use Rattle.io_edges.specs.Told.{TookOver}
use Rattle.bus_cli.specs.Form.{standard_of}
use Rattle.bus_cli.specs.codings.Reading.{IsReadAs}
use Rattle.bus_cli.proofs.Gathering.{reads_all, spares, told_still}
use Rattle.bus_cli.proofs.input.read_input.Goals as goal

pub returns-in_ok-read_pieces-in-Read-clause-reading : goal.returns-in_ok-read_pieces-in-Read-clause-reading
returns-in_ok-read_pieces-in-Read-clause-reading g c =
    let all = c.in_ok-read_pieces-in-Read.ensures.all [] c.new-reader.ensures in
    let holds = all.1 (omega (arith, all.3)) in
    let reads : IsReadAs (standard_of c.args.form) all.0 c.finish.result = rw c.in-Read.is (reads_all all.0 _ c.finish.result holds c.finish.ensures.tree c.finish.ensures.fault) in
    (all.0, all.2, reads, λ form. spares all.0 _ c.finish.result holds c.finish.ensures.memory)

pub returns-in_ok-read_pieces-in-Read-clause-long : goal.returns-in_ok-read_pieces-in-Read-clause-long
returns-in_ok-read_pieces-in-Read-clause-long g c = told_still _ _ _ _ _ _ _ _ (TookOver 1048576) c.in_ok-read_pieces-in-Read.ensures.long
