use Rattle.std.proofs.Common.{rules, refl, ◌≡◌, arith}
use Rattle.nosy_dump.specs.Notes.{noted}
use Rattle.nosy_dump.proofs.Going.{all_told}
use Rattle.nosy_dump.proofs.AsJson.{gather_text, gather_both}
use Rattle.nosy_dump.proofs.Fronts.{opens_first, opens_all, opens_whole}
use Rattle.nosy_dump.proofs.dump.DumpReader.end.Goals as goal

pub returns-clause-ok : goal.returns-clause-ok
returns-clause-ok c = λ done more text few st.
    rw c.is_bad.ensures.either
    (all_told c.args.self.now done more text c.args.out.now.items c.show.new.out.items _
    c.args.fault c.saturating_sub-byte.result c.show.new.self.number
    (noted c.show.new.self.notes) c.show.new.self.bad st few
    (omega (arith, c.saturating_sub-byte.ensures, c.len.ensures, c.args.self.now.part.ok.0))
    c.in_ok-show.ensures.ok.shown
    (rw (c.deref.ensures.value, c.in_ok-text.ensures.last) at
    c.in_ok-extend_from_slice.ensures.items))

pub returns-clause-front : goal.returns-clause-front
returns-clause-front c = λ done more text few st.
    opens_whole c.args.self.now.form _ _ _ (returns-clause-ok c done more text few st)

pub returns-in_err-show-clause-front : goal.returns-in_err-show-clause-front
returns-in_err-show-clause-front c = λ done more text few st.
    rw c.in_err-show.ensures.part (opens_first c.args.self.now done more _ c.args.fault st)

pub returns-in_err-text-clause-front : goal.returns-in_err-text-clause-front
returns-in_err-text-clause-front c = λ done more text few st.
    opens_all c.args.self.now done more text c.args.out.now.items c.show.new.out.items c.args.fault
    c.show.new.self.number (noted c.show.new.self.notes) c.show.new.self.bad st few
    c.in_ok-show.ensures.ok.shown

pub returns-in_err-extend_from_slice-clause-front :
    goal.returns-in_err-extend_from_slice-clause-front
returns-in_err-extend_from_slice-clause-front c = λ done more text few st.
    let same : c.extend_from_slice.new.self.items ≡ c.show.new.out.items = search rules in
    rw same
    (opens_all c.args.self.now done more text c.args.out.now.items c.show.new.out.items c.args.fault
    c.show.new.self.number (noted c.show.new.self.notes) c.show.new.self.bad st few
    c.in_ok-show.ensures.ok.shown)

pub returns-clause-json : goal.returns-clause-json
returns-clause-json c =
    gather_both c.args.self.now.form c.args.self.now.form _ _ _ refl c.in_ok-show.ensures.json
    (gather_text c.args.self.now.form _ _ c.deref.result.now _ c.deref.ensures.value
    c.in_ok-extend_from_slice.ensures.items c.in_ok-text.ensures.json)
