use Rattle.std.proofs.Common.{◌∙◌, ℕ, List, refl, sym, ap, arith}
use Rattle.std.proofs.lemmas.List.{take_rest}
use Rattle.nosy_dump.specs.Record.{record_of}
use Rattle.nosy_dump.proofs.Going.{of_part}
use Rattle.nosy_dump.proofs.dump.DumpReader.take_part.Goals as goal

pub returns-clause-ok : goal.returns-clause-ok
returns-clause-ok c = λ done text few st.
    c.in_ok-judge.ensures.ok done text few
    (of_part c.args.self.now _ c.saturating_sub-byte.result c.record_of-record.result done _ st
    (omega (arith, c.saturating_sub-byte.ensures, c.len.ensures, c.args.self.now.part.ok.0))
    (rw (← c.deref.ensures.value) (ap (λ (l : List ℕ). record_of l)
    (sym (take_rest c.deref.result.now 4)) ∙ sym c.record_of-record.ensures))
    c.clear.ensures.items refl refl refl refl refl refl)
