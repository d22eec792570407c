use Rattle.std.specs.Prelude.{◌++◌}
use Rattle.reset_list.proofs.Lemmas.{on_err}
use Rattle.nosy_dump.specs.Record.{IsOpen}
use Rattle.nosy_dump.specs.codings.Going.{Goes}
use Rattle.nosy_dump.proofs.AsJson.{write_gathered}
use Rattle.nosy_dump.proofs.Fronts.{none_gathered, writes_on, front_on, whole_on}
use Rattle.nosy_dump.proofs.dump.DumpReader.take.Goals as goal

pub returns-clause-ok : goal.returns-clause-ok
returns-clause-ok g c = λ done start few all.
    let none = none_gathered IsOpen c.args.self.now done all.text c.new-out.result.items
    c.new-out.ensures.items all.is in
    writes_on (Goes c.in_ok-size.size c.gather-gathered.new.self (done ++ c.args.bytes.now))
    all.text c.gather-gathered.new.out.items start c.args.sink.now c.put.new.sink
    all.wrote (rw c.deref.ensures.value at c.in_ok-put.ensures.ok)
    (c.in_ok-size.ensures.ok done all.text few none)

pub returns-in_err-put-clause-part : goal.returns-in_err-put-clause-part
returns-in_err-put-clause-part g c =
    on_err c.from_residual.result _ (λ done left start few all.
    let none = none_gathered IsOpen c.args.self.now done all.text c.new-out.result.items
    c.new-out.ensures.items all.is in
    front_on c.args.self.now.form ((done ++ c.args.bytes.now) ++ left) all.text
    c.gather-gathered.new.out.items start c.args.sink.now c.put.new.sink
    all.wrote (rw c.deref.ensures.value at c.in_err-put.ensures.part)
    (c.gather-gathered.ensures.front done all.text few none left))

pub returns-in_err-size-clause-part : goal.returns-in_err-size-clause-part
returns-in_err-size-clause-part g c =
    on_err c.from_residual-in_err-size.result _ (λ done left start few all.
    let none = none_gathered IsOpen c.args.self.now done all.text c.new-out.result.items
    c.new-out.ensures.items all.is in
    whole_on c.args.self.now.form ((done ++ c.args.bytes.now) ++ left) all.text
    c.gather-gathered.new.out.items start c.args.sink.now c.put.new.sink
    all.wrote (rw c.deref.ensures.value at c.in_ok-put.ensures.ok)
    (c.gather-gathered.ensures.front done all.text few none left))

pub returns-clause-json : goal.returns-clause-json
returns-clause-json g c =
    write_gathered c.args.self.now.form c.new-out.result.items c.gather-gathered.new.out.items _ _
    c.new-out.ensures.items c.in_ok-size.ensures.json
    (rw c.deref.ensures.value at c.in_ok-put.ensures.ok.appended)
