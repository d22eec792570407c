use Rattle.std.proofs.Common.{◌≡◌, ◌≤◌, length, take, refl, length-take-le, arith}
use Rattle.nosy_dump.specs.Record.{IsOpen}
use Rattle.nosy_dump.specs.codings.Going.{IsFilled}
use Rattle.nosy_dump.proofs.Going.{bytes_more}
use Rattle.nosy_dump.proofs.dump.DumpReader.fill.Goals as goal

pub returns-clause-ok : goal.returns-clause-ok
returns-clause-ok c = λ done text few some st.
    let within : c.min-count.result ≤ length c.args.bytes.now = omega arith in
    let size : length (take c.min-count.result c.args.bytes.now) ≡ c.min-count.result =
    length-take-le c.min-count.result c.args.bytes.now within in
    let fits : length (take c.min-count.result c.args.bytes.now) ≤ c.lacks.result =
    omega (arith, size, c.lacks.ensures.some st.holds) in
    bytes_more IsOpen IsFilled c.args.self.now _ done (take c.min-count.result c.args.bytes.now)
    text st
    (rw c.in_ok-extend_from_slice.ensures.items
    (c.lacks.ensures.filled st.holds (take c.min-count.result c.args.bytes.now) fits))
    c.in_ok-extend_from_slice.ensures.items refl refl refl refl refl
    (omega (arith, size, within, few, st.taken_is, c.saturating_add-self.ensures))
