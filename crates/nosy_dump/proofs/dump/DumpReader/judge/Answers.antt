use Rattle.std.proofs.Common.{ap}
use Rattle.nosy_dump.specs.declared.dump.DumpReader.{DumpReader}
use Rattle.nosy_dump.specs.Notes.{noted}
use Rattle.nosy_dump.proofs.AsJson.{gather_none}
use Rattle.nosy_dump.proofs.Going.{after_other, after_packet, after_reset}
use Rattle.nosy_dump.proofs.dump.DumpReader.judge.Goals as goal

pub returns-in_ok-begin-in-Reset-clause-ok : goal.returns-in_ok-begin-in-Reset-clause-ok
returns-in_ok-begin-in-Reset-clause-ok c = λ done text few a.
    let then = c.in_ok-begin-in-Reset.ensures.ok in
    after_reset c.args.self.now c.begin.new.self c.args.byte c.in-Reset.time c.args.last done text
    c.args.out.now.items c.begin.new.out.items c.in-Reset.is a few
    then.shows.shown then.pending then.shows.part_is then.shows.form then.shows.taken_is

pub returns-in_ok-keep-in-SelfId-clause-ok : goal.returns-in_ok-keep-in-SelfId-clause-ok
returns-in_ok-keep-in-SelfId-clause-ok c = λ done text few a.
    let same = c.in_ok-keep-in-SelfId.ensures.same in
    after_packet c.args.self.now c.keep.new.self c.args.byte c.args.last done _ c.in-SelfId.quad
    c.in-SelfId.is a
    c.in_ok-keep-in-SelfId.ensures.pending (ap (λ (r : DumpReader). r.part.items) same)
    (ap (λ (r : DumpReader). r.form) same) (ap (λ (r : DumpReader). noted r.notes) same)
    (ap (λ (r : DumpReader). r.number) same) (ap (λ (r : DumpReader). r.bad) same)
    (ap (λ (r : DumpReader). r.taken) same)

pub returns-in-Other-clause-ok : goal.returns-in-Other-clause-ok
returns-in-Other-clause-ok c = λ done text few a.
    after_other c.args.self.now c.args.byte c.args.last done _ c.in-Other.is a

pub returns-in_ok-keep-in-SelfId-clause-json : goal.returns-in_ok-keep-in-SelfId-clause-json
returns-in_ok-keep-in-SelfId-clause-json c =
    gather_none c.args.self.now.form c.args.out.now.items

pub returns-in-Other-clause-json : goal.returns-in-Other-clause-json
returns-in-Other-clause-json c = gather_none c.args.self.now.form c.args.out.now.items
