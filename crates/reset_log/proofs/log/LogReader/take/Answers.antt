use Rattle.reset_log.specs.Log.{parted}
use Rattle.std.specs.Prelude.{◌++◌}
use Rattle.reset_list.proofs.Lemmas.{on_err}
use Rattle.reset_log.proofs.Fronts.{broke_front, broke_whole, holds_none, stands_on}
use Rattle.reset_log.proofs.InJson.{written_gathered}
use Rattle.reset_log.proofs.log.LogReader.take.Goals as goal

pub returns-clause-ok : goal.returns-clause-ok
returns-clause-ok g c = λ done start few st.
    let none = holds_none c.args.self.now done st.text c.new-out.result.items
    c.new-out.ensures.items st.holds in
    stands_on c.args.self.now c.gather-gathered.new.self done c.args.bytes.now
    c.gather-gathered.new.out.items start c.args.sink.now c.put.new.sink st
    (c.in_ok-gathered.ensures.ok done st.text few none)
    (rw c.deref.ensures.value at c.in_ok-put.ensures.ok)

pub returns-in_err-put-clause-part : goal.returns-in_err-put-clause-part
returns-in_err-put-clause-part g c =
    on_err c.from_residual.result _ (λ done start few st.
    let none = holds_none c.args.self.now done st.text c.new-out.result.items
    c.new-out.ensures.items st.holds in
    broke_front c.args.self.now.form (parted (done ++ c.args.bytes.now)).lines st.text
    c.gather-gathered.new.out.items start c.args.sink.now c.put.new.sink st.wrote
    (c.gather-gathered.ensures.begun done st.text few none)
    (rw c.deref.ensures.value at c.in_err-put.ensures.part))

pub returns-in_err-gathered-clause-part : goal.returns-in_err-gathered-clause-part
returns-in_err-gathered-clause-part g c =
    on_err c.from_residual-in_err-gathered.result _ (λ done start few st.
    let none = holds_none c.args.self.now done st.text c.new-out.result.items
    c.new-out.ensures.items st.holds in
    broke_whole c.args.self.now.form (parted (done ++ c.args.bytes.now)).lines st.text
    c.gather-gathered.new.out.items start c.args.sink.now c.put.new.sink st.wrote
    (c.gather-gathered.ensures.begun done st.text few none)
    (rw c.deref.ensures.value at c.in_ok-put.ensures.ok))

pub returns-clause-json : goal.returns-clause-json
returns-clause-json g c =
    let whole = rw c.deref.ensures.value at c.in_ok-put.ensures.ok in
    written_gathered c.args.self.now.form _ _ c.new-out.result.items c.gather-gathered.new.out.items
    c.new-out.ensures.items
    c.in_ok-gathered.ensures.json whole.appended
