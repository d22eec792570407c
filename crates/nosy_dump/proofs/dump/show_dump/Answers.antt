use Rattle.std.proofs.Common.{◌≡◌, ◌∙◌, ◌-◌, ◌<◌, ◌≤◌, ℕ, [], length, take, sym, subst, arith}
use Rattle.std.specs.Io.KnownBytes.{Consumes, IsAtEnd}
use Rattle.nosy_dump.specs.Dump.{IsDumpShown}
use Rattle.reset_list.proofs.Lemmas.{is_front, is_sure}
use Rattle.nosy_dump.proofs.Reading.{at_first, reads_on, less_room, waited, whole, cut_off, map_ok, not_well}
use Rattle.nosy_dump.proofs.AsJson.{write_both, on_json}
use Rattle.nosy_dump.proofs.Fronts.{front_left, front_piece, front_end, front_cut, shown, exact_shown, complete_shown}
use Rattle.nosy_dump.proofs.dump.show_dump.Goals as goal

pub loop-count-init : goal.loop-count-init
loop-count-init g c =
    at_first c.new-reader.result c.args.form (g.S.Source.left c.args.source.now) c.args.sink.now _
    c.new-reader.ensures.start c.new-reader.ensures.same

pub loop-count-preserved : goal.loop-count-preserved
loop-count-preserved g c =
    let size : length (take c.in-Ok.count c.read.new.buf) ≡ c.in-Ok.count =
    sym c.in-Ok.ensures.bound.1 in
    let fits : length (take c.in-Ok.count c.read.new.buf) ≤ 9223372036854775807 -
    c.loop-count.reader.taken = omega (
      arith,
      size,
      c.if-count-saturating_sub.false,
      c.saturating_sub.ensures,
    ) in
    reads_on c.loop-count.reader c.take.new.self c.args.form _ _ _ _ _ _ _ _ _
    (take c.in-Ok.count c.read.new.buf) c.loop-count.invariant c.in-Ok.ensures.bytes.0
    c.in-Ok.ensures.told fits
    (rw c.in_default-2.is at c.in_ok-size.ensures.ok) c.in_ok-size.ensures.same
    c.in-Ok.ensures.later c.take.ensures.later c.in_ok-size.ensures.json

pub loop-count-smaller : goal.loop-count-smaller
loop-count-smaller g c =
    let size : length (take c.in-Ok.count c.read.new.buf) ≡ c.in-Ok.count =
    sym c.in-Ok.ensures.bound.1 in
    let fits : length (take c.in-Ok.count c.read.new.buf) ≤ 9223372036854775807 -
    c.loop-count.reader.taken = omega (
      arith,
      size,
      c.if-count-saturating_sub.false,
      c.saturating_sub.ensures,
    ) in
    let some : 0 < length (take c.in-Ok.count c.read.new.buf) =
    omega (arith, size, c.if-count-eq0.false) in
    less_room c.loop-count.reader c.take.new.self c.args.form _ _ _ _ _ _ _
    (take c.in-Ok.count c.read.new.buf) c.loop-count.invariant some fits
    (rw c.in_default-2.is at c.in_ok-size.ensures.ok)

pub returns-in_default-clause-waits : goal.returns-in_default-clause-waits
returns-in_default-clause-waits g c = λ _.
    waited c.loop-count.reader c.args.form (g.S.Source.left c.args.source.now)
    (g.S.Source.left c.loop-count.source) (g.S.Source.left c.read.new.self) c.args.sink.now
    c.loop-count.sink _ _ c.loop-count.invariant c.in_default.ensures.bytes

pub returns-in_default-clause-part : goal.returns-in_default-clause-part
returns-in_default-clause-part g c = λ _.
    is_front _ _ _ (IsDumpShown c.args.form) (g.S.Source.left c.args.source.now) c.args.sink.now
    c.loop-count.sink
    (front_left c.loop-count.reader c.args.form _ (g.S.Source.left c.loop-count.source)
    c.args.sink.now c.loop-count.sink _ _ c.loop-count.invariant)

pub returns-in_default-clause-sure : goal.returns-in_default-clause-sure
returns-in_default-clause-sure g c =
    is_sure _ _ _ (IsDumpShown c.args.form) (g.S.Source.left c.args.source.now) c.args.sink.now
    c.loop-count.sink
    (front_left c.loop-count.reader c.args.form _ (g.S.Source.left c.loop-count.source)
    c.args.sink.now c.loop-count.sink _ _ c.loop-count.invariant)

pub returns-then-count-saturating_sub-clause-part :
    goal.returns-then-count-saturating_sub-clause-part
returns-then-count-saturating_sub-clause-part g c = λ _.
    is_front _ _ _ (IsDumpShown c.args.form) (g.S.Source.left c.args.source.now) c.args.sink.now
    c.loop-count.sink
    (front_left c.loop-count.reader c.args.form _ (g.S.Source.left c.loop-count.source)
    c.args.sink.now c.loop-count.sink _ _ c.loop-count.invariant)

pub returns-then-count-saturating_sub-clause-sure :
    goal.returns-then-count-saturating_sub-clause-sure
returns-then-count-saturating_sub-clause-sure g c =
    is_sure _ _ _ (IsDumpShown c.args.form) (g.S.Source.left c.args.source.now) c.args.sink.now
    c.loop-count.sink
    (front_left c.loop-count.reader c.args.form _ (g.S.Source.left c.loop-count.source)
    c.args.sink.now c.loop-count.sink _ _ c.loop-count.invariant)

pub returns-in_err-size-clause-part : goal.returns-in_err-size-clause-part
returns-in_err-size-clause-part g c = λ _.
    let size : length (take c.in-Ok.count c.read.new.buf) ≡ c.in-Ok.count =
    sym c.in-Ok.ensures.bound.1 in
    let fits : length (take c.in-Ok.count c.read.new.buf) ≤ 9223372036854775807 -
    c.loop-count.reader.taken = omega (
      arith,
      size,
      c.if-count-saturating_sub.false,
      c.saturating_sub.ensures,
    ) in
    is_front _ _ _ (IsDumpShown c.args.form) (g.S.Source.left c.args.source.now) c.args.sink.now
    c.take.new.sink
    (front_piece c.loop-count.reader c.args.form _ _ _ _ _ _ _ _ (take c.in-Ok.count c.read.new.buf)
    c.loop-count.invariant c.in-Ok.ensures.bytes.0 c.in-Ok.ensures.told fits
    c.in_err-size.ensures.part)

pub returns-in_err-size-clause-sure : goal.returns-in_err-size-clause-sure
returns-in_err-size-clause-sure g c =
    let size : length (take c.in-Ok.count c.read.new.buf) ≡ c.in-Ok.count =
    sym c.in-Ok.ensures.bound.1 in
    let fits : length (take c.in-Ok.count c.read.new.buf) ≤ 9223372036854775807 -
    c.loop-count.reader.taken = omega (
      arith,
      size,
      c.if-count-saturating_sub.false,
      c.saturating_sub.ensures,
    ) in
    is_sure _ _ _ (IsDumpShown c.args.form) (g.S.Source.left c.args.source.now) c.args.sink.now
    c.take.new.sink
    (front_piece c.loop-count.reader c.args.form _ _ _ _ _ _ _ _ (take c.in-Ok.count c.read.new.buf)
    c.loop-count.invariant c.in-Ok.ensures.bytes.0 c.in-Ok.ensures.told fits
    c.in_err-size.ensures.part)

pub returns-then-count-eq0-clause-part : goal.returns-then-count-eq0-clause-part
returns-then-count-eq0-clause-part g c = λ _.
    let none : Consumes (g.S.Source.left c.loop-count.source) (g.S.Source.left c.read.new.self) [] =
    subst (λ (n : ℕ). Consumes (g.S.Source.left c.loop-count.source)
    (g.S.Source.left c.read.new.self) (take n c.read.new.buf)) c.if-count-eq0.true
    c.in-Ok.ensures.bytes.0 in
    let end : IsAtEnd (g.S.Source.left c.read.new.self) =
    c.in-Ok.ensures.bytes.1 c.if-count-eq0.true (search arith) in
    is_front _ _ _ (IsDumpShown c.args.form) (g.S.Source.left c.args.source.now) c.args.sink.now
    c.finish.new.sink
    (front_end c.loop-count.reader c.args.form _ _ _ _ _ _ _ _ _ c.finish.result
    c.loop-count.invariant none end c.end_fault-fault.ensures c.finish.ensures.ok
    c.finish.ensures.part)

pub returns-then-count-eq0-clause-sure : goal.returns-then-count-eq0-clause-sure
returns-then-count-eq0-clause-sure g c =
    let none : Consumes (g.S.Source.left c.loop-count.source) (g.S.Source.left c.read.new.self) [] =
    subst (λ (n : ℕ). Consumes (g.S.Source.left c.loop-count.source)
    (g.S.Source.left c.read.new.self) (take n c.read.new.buf)) c.if-count-eq0.true
    c.in-Ok.ensures.bytes.0 in
    let end : IsAtEnd (g.S.Source.left c.read.new.self) =
    c.in-Ok.ensures.bytes.1 c.if-count-eq0.true (search arith) in
    is_sure _ _ _ (IsDumpShown c.args.form) (g.S.Source.left c.args.source.now) c.args.sink.now
    c.finish.new.sink
    (front_end c.loop-count.reader c.args.form _ _ _ _ _ _ _ _ _ c.finish.result
    c.loop-count.invariant none end c.end_fault-fault.ensures c.finish.ensures.ok
    c.finish.ensures.part)

pub returns-then-count-eq0-clause-shown : goal.returns-then-count-eq0-clause-shown
returns-then-count-eq0-clause-shown g c =
    let none : Consumes (g.S.Source.left c.loop-count.source) (g.S.Source.left c.read.new.self) [] =
    subst (λ (n : ℕ). Consumes (g.S.Source.left c.loop-count.source)
    (g.S.Source.left c.read.new.self) (take n c.read.new.buf)) c.if-count-eq0.true
    c.in-Ok.ensures.bytes.0 in
    let end : IsAtEnd (g.S.Source.left c.read.new.self) =
    c.in-Ok.ensures.bytes.1 c.if-count-eq0.true (search arith) in
    shown g.K.Sink.written g.K.Sink.faults g.K.Sink.surely_takes c.args.form
    (g.S.Source.left c.args.source.now) c.args.sink.now c.finish.new.sink c.finish.result
    (map_ok c.finish.result _ _ (λ bad then. whole c.loop-count.reader c.args.form _ _ _ _ _ _ _ _ _
    bad c.loop-count.invariant none end c.end_fault-fault.ensures then) c.finish.ensures.ok)

pub returns-then-count-eq0-clause-exact : goal.returns-then-count-eq0-clause-exact
returns-then-count-eq0-clause-exact g c =
    exact_shown c.args.form (g.S.Source.left c.args.source.now) (g.K.Sink.written c.args.sink.now)
    (g.K.Sink.written c.finish.new.sink) c.finish.result
    (returns-then-count-eq0-clause-shown g c)

pub returns-then-count-eq0-clause-complete : goal.returns-then-count-eq0-clause-complete
returns-then-count-eq0-clause-complete g c = λ read sound.
    complete_shown c.args.form (g.S.Source.left c.args.source.now)
    (g.K.Sink.written c.args.sink.now) (g.K.Sink.written c.finish.new.sink) _ _ _
    c.finish.result (returns-then-count-eq0-clause-shown g c) c.finish.ensures.stops
    c.loop-count.invariant.wrote_later sound

pub returns-in-Some-clause-part : goal.returns-in-Some-clause-part
returns-in-Some-clause-part g c = λ _.
    let size : length (take c.in-Ok.count c.read.new.buf) ≡ c.in-Ok.count =
    sym c.in-Ok.ensures.bound.1 in
    let fits : length (take c.in-Ok.count c.read.new.buf) ≤ 9223372036854775807 -
    c.loop-count.reader.taken = omega (
      arith,
      size,
      c.if-count-saturating_sub.false,
      c.saturating_sub.ensures,
    ) in
    is_front _ _ _ (IsDumpShown c.args.form) (g.S.Source.left c.args.source.now) c.args.sink.now
    c.finish-in-Some.new.sink
    (front_cut c.loop-count.reader c.take.new.self c.args.form _ _ _ _ _ _ _ _ _
    (take c.in-Ok.count c.read.new.buf) c.in-Some.size c.finish-in-Some.result
    c.loop-count.invariant c.in-Ok.ensures.bytes.0 c.in-Ok.ensures.told fits
    (rw c.in-Some.is at c.in_ok-size.ensures.ok) c.in_ok-size.ensures.same
    c.finish-in-Some.ensures.ok c.finish-in-Some.ensures.part)

pub returns-in-Some-clause-sure : goal.returns-in-Some-clause-sure
returns-in-Some-clause-sure g c =
    let size : length (take c.in-Ok.count c.read.new.buf) ≡ c.in-Ok.count =
    sym c.in-Ok.ensures.bound.1 in
    let fits : length (take c.in-Ok.count c.read.new.buf) ≤ 9223372036854775807 -
    c.loop-count.reader.taken = omega (
      arith,
      size,
      c.if-count-saturating_sub.false,
      c.saturating_sub.ensures,
    ) in
    is_sure _ _ _ (IsDumpShown c.args.form) (g.S.Source.left c.args.source.now) c.args.sink.now
    c.finish-in-Some.new.sink
    (front_cut c.loop-count.reader c.take.new.self c.args.form _ _ _ _ _ _ _ _ _
    (take c.in-Ok.count c.read.new.buf) c.in-Some.size c.finish-in-Some.result
    c.loop-count.invariant c.in-Ok.ensures.bytes.0 c.in-Ok.ensures.told fits
    (rw c.in-Some.is at c.in_ok-size.ensures.ok) c.in_ok-size.ensures.same
    c.finish-in-Some.ensures.ok c.finish-in-Some.ensures.part)

pub returns-in-Some-clause-shown : goal.returns-in-Some-clause-shown
returns-in-Some-clause-shown g c =
    let size : length (take c.in-Ok.count c.read.new.buf) ≡ c.in-Ok.count =
    sym c.in-Ok.ensures.bound.1 in
    let fits : length (take c.in-Ok.count c.read.new.buf) ≤ 9223372036854775807 -
    c.loop-count.reader.taken = omega (
      arith,
      size,
      c.if-count-saturating_sub.false,
      c.saturating_sub.ensures,
    ) in
    shown g.K.Sink.written g.K.Sink.faults g.K.Sink.surely_takes c.args.form
    (g.S.Source.left c.args.source.now) c.args.sink.now c.finish-in-Some.new.sink
    c.finish-in-Some.result
    (map_ok c.finish-in-Some.result _ _
    (λ bad then.
    cut_off c.loop-count.reader c.take.new.self c.args.form _ _ _ _ _ _ _ _ _
    (take c.in-Ok.count c.read.new.buf) c.in-Some.size bad c.loop-count.invariant
    c.in-Ok.ensures.bytes.0 c.in-Ok.ensures.told fits
    (rw c.in-Some.is at c.in_ok-size.ensures.ok) c.in_ok-size.ensures.same then)
    c.finish-in-Some.ensures.ok)

pub returns-in-Some-clause-end : goal.returns-in-Some-clause-end
returns-in-Some-clause-end g c =
    map_ok _ _ _ (λ bad none. not_well bad _ _ none) c.finish-in-Some.ensures.none

pub returns-in-Some-clause-exact : goal.returns-in-Some-clause-exact
returns-in-Some-clause-exact g c =
    exact_shown c.args.form (g.S.Source.left c.args.source.now) (g.K.Sink.written c.args.sink.now)
    (g.K.Sink.written c.finish-in-Some.new.sink) c.finish-in-Some.result
    (returns-in-Some-clause-shown g c)

pub returns-in-Some-clause-complete : goal.returns-in-Some-clause-complete
returns-in-Some-clause-complete g c = λ read sound.
    complete_shown c.args.form (g.S.Source.left c.args.source.now)
    (g.K.Sink.written c.args.sink.now) (g.K.Sink.written c.finish-in-Some.new.sink) _ _ _
    c.finish-in-Some.result (returns-in-Some-clause-shown g c) c.finish-in-Some.ensures.stops
    (omega (arith, c.loop-count.invariant.wrote_later, c.take.ensures.later)) sound

pub returns-then-count-eq0-clause-json : goal.returns-then-count-eq0-clause-json
returns-then-count-eq0-clause-json g c = λ standard is.
    on_json c.finish.result _ _ _ c.args.form c.loop-count.reader.form standard is
    c.loop-count.invariant.same c.loop-count.invariant.json c.finish.ensures.json

pub returns-in-Some-clause-json : goal.returns-in-Some-clause-json
returns-in-Some-clause-json g c = λ standard is.
    let on = write_both c.args.form c.loop-count.reader.form _ _ _ c.loop-count.invariant.same
    c.loop-count.invariant.json c.in_ok-size.ensures.json in
    on_json c.finish-in-Some.result _ _ _ c.args.form c.take.new.self.form standard is
    (c.in_ok-size.ensures.same ∙ c.loop-count.invariant.same) on c.finish-in-Some.ensures.json
