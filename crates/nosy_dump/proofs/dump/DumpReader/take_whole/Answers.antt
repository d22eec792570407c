use Rattle.std.proofs.Common.{refl, sym, arith, length-append}
use Rattle.nosy_dump.specs.Record.{record_bytes}
use Rattle.nosy_dump.proofs.Records.{length-record_bytes}
use Rattle.nosy_dump.proofs.Going.{in_place}
use Rattle.nosy_dump.proofs.dump.DumpReader.take_whole.Goals as goal

pub returns-clause-ok : goal.returns-clause-ok
returns-clause-ok c = λ done text few fits none st.
    c.in_ok-judge.ensures.ok _ text
    (omega (
      arith,
      few,
      length-append done (record_bytes c.args.bytes.now),
      length-record_bytes
          c.args.bytes.now,
    ))
    (in_place c.args.self.now _ c.args.self.now.taken c.record_of.result done c.args.bytes.now _ st
    refl (sym c.record_of.ensures) fits none
    refl refl refl refl refl refl (omega (arith, few, st.taken_is, c.saturating_add-self.ensures)))
