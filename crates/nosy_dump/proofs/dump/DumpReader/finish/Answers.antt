use Rattle.std.proofs.Common.{List, ℕ, ◌++◌}
use Rattle.reset_list.proofs.Lemmas.{on_err}
use Rattle.nosy_dump.specs.Record.{EndsSo}
use Rattle.nosy_dump.specs.Dump.{IsDumpShown}
use Rattle.nosy_dump.proofs.AsJson.{write_gathered}
use Rattle.nosy_dump.proofs.Fronts.{none_gathered, writes_on, front_on, whole_on}
use Rattle.nosy_dump.proofs.dump.DumpReader.finish.Goals as goal

pub returns-clause-ok : goal.returns-clause-ok
returns-clause-ok g c = λ done more start few all.
    let none = none_gathered (λ (bytes : List ℕ). EndsSo (bytes ++ more) c.args.fault)
    c.args.self.now done all.text c.new-out.result.items c.new-out.ensures.items all.is in
    writes_on (λ (text : List ℕ). IsDumpShown c.args.self.now.form (done ++ more) text
    c.in_ok-bad.bad) all.text c.end-ended.new.out.items start c.args.sink.now c.put.new.sink
    all.wrote (rw c.deref.ensures.value at c.in_ok-put.ensures.ok)
    (c.in_ok-bad.ensures.ok done more all.text few none)

pub returns-in_err-put-clause-part : goal.returns-in_err-put-clause-part
returns-in_err-put-clause-part g c =
    on_err c.from_residual.result _ (λ done more start few all.
    let none = none_gathered (λ (bytes : List ℕ). EndsSo (bytes ++ more) c.args.fault)
    c.args.self.now done all.text c.new-out.result.items c.new-out.ensures.items all.is in
    front_on c.args.self.now.form (done ++ more) all.text c.end-ended.new.out.items start
    c.args.sink.now c.put.new.sink
    all.wrote (rw c.deref.ensures.value at c.in_err-put.ensures.part)
    (c.end-ended.ensures.front done more all.text few none))

pub returns-in_err-bad-clause-part : goal.returns-in_err-bad-clause-part
returns-in_err-bad-clause-part g c =
    on_err c.from_residual-in_err-bad.result _ (λ done more start few all.
    let none = none_gathered (λ (bytes : List ℕ). EndsSo (bytes ++ more) c.args.fault)
    c.args.self.now done all.text c.new-out.result.items c.new-out.ensures.items all.is in
    whole_on c.args.self.now.form (done ++ more) all.text c.end-ended.new.out.items start
    c.args.sink.now c.put.new.sink
    all.wrote (rw c.deref.ensures.value at c.in_ok-put.ensures.ok)
    (c.end-ended.ensures.front done more all.text few none))

pub returns-clause-json : goal.returns-clause-json
returns-clause-json g c =
    write_gathered c.args.self.now.form c.new-out.result.items c.end-ended.new.out.items _ _
    c.new-out.ensures.items c.in_ok-bad.ensures.json
    (rw c.deref.ensures.value at c.in_ok-put.ensures.ok.appended)
