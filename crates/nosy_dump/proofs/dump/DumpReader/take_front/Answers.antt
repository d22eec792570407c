use Rattle.std.proofs.Common.{◌≡◌, ◌++◌, [], ℕ, List, subst}
use Rattle.nosy_dump.specs.Record.{IsOpen}
use Rattle.nosy_dump.specs.codings.Going.{Knows}
use Rattle.nosy_dump.proofs.Records.{front_taken, front_fits}
use Rattle.nosy_dump.proofs.Shown.{none_kept}
use Rattle.nosy_dump.proofs.dump.DumpReader.take_front.Goals as goal

pub returns-in-Some-clause-ok : goal.returns-in-Some-clause-ok
returns-in-Some-clause-ok c = λ done text few some st.
    let none : c.args.self.now.part.items ≡ [] =
    none_kept _ _ _ c.is_empty.ensures c.if-is_empty.true c.args.self.now.part.ok.0 in
    let took = front_taken c.in-Some.whole.now c.args.bytes.now c.in-Some.ensures.front in
    subst (λ (l : List ℕ). Knows IsOpen c.take_whole.new.self (done ++ l)
    (text ++ c.take_whole.new.out.items)) took
    (c.in_ok-take_whole.ensures.ok done text (front_fits c.in-Some.whole.now c.args.bytes.now done
    c.in-Some.ensures.front few) c.in-Some.ensures.sized none st)
