use Rattle.std.proofs.Common.{◌≡◌, ◌-◌, ◌<◌, ◌≤◌, ◌++◌, ℕ, Option, List, Bool, [], length, take, sym, subst, arith, length-append}
use Rattle.std.proofs.lemmas.Result.{err_from_is_err_and}
use Rattle.std.specs.Io.KnownBytes.{Consumes, IsAtEnd}
use Rattle.reset_list.specs.declared.form.LogForm.{LogForm}
use Rattle.reset_log.specs.Log.{lines_of, IsLogShown}
use Rattle.reset_list.proofs.Lemmas.{is_front, is_sure, consumes_then}
use Rattle.reset_log.proofs.Reading.{at_first, reads_on, less_room, not_too_long}
use Rattle.reset_log.proofs.Fronts.{front_left, front_piece, front_end, shown_end, exact_end, complete_end}
use Rattle.reset_log.proofs.InJson.{written_none, written_next, all_written}
use Rattle.reset_log.proofs.log.show_log.Goals as goal

abbrev IsTextBy : LogForm → List ℕ → List ℕ → Bool → Type 0
IsTextBy form log = IsLogShown form (lines_of log)

-- where a read gives no byte, none is taken from the source
none_read : (left behind : Option (List ℕ)) (count : ℕ) (buf : List ℕ) → count ≡ 0 →
    Consumes left behind (take count buf) → Consumes left behind []
none_read left behind count buf e h = subst (λ (n : ℕ). Consumes left behind (take n buf)) e h

pub loop-count-init : goal.loop-count-init
loop-count-init g c = (
  at_first c.new-reader.result c.args.form (g.S.Source.left c.args.source.now) c.args.sink.now _
      c.new-reader.ensures.start c.new-reader.ensures.same,
  written_none c.args.form (g.K.Sink.written c.args.sink.now),
)

pub loop-count-preserved : goal.loop-count-preserved
loop-count-preserved g c =
    let piece = take c.in-Ok.count c.read.new.buf in
    let size : length piece ≡ c.in-Ok.count = sym c.in-Ok.ensures.bound.1 in
    let fits : length piece ≤ 9223372036854775807 - c.loop-count.reader.taken =
    omega (arith, size, c.if-count-saturating_sub.false, c.saturating_sub.ensures) in (
      reads_on c.loop-count.reader c.take.new.self c.args.form _ _ _ _ _ _ _ _ _ piece
          c.loop-count.invariant.0 c.in-Ok.ensures.bytes.0 c.in-Ok.ensures.told fits
          c.in_ok-take.ensures.ok c.in_ok-take.ensures.same c.in-Ok.ensures.later
          c.take.ensures.later,
      written_next c.args.form c.loop-count.reader.form _ _ _ c.loop-count.invariant.0.same
          c.loop-count.invariant.1 c.in_ok-take.ensures.json,
    )

pub loop-count-smaller : goal.loop-count-smaller
loop-count-smaller g c =
    let piece = take c.in-Ok.count c.read.new.buf in
    let size : length piece ≡ c.in-Ok.count = sym c.in-Ok.ensures.bound.1 in
    let fits : length piece ≤ 9223372036854775807 - c.loop-count.reader.taken =
    omega (arith, size, c.if-count-saturating_sub.false, c.saturating_sub.ensures) in
    let some : 0 < length piece = omega (arith, size, c.if-count-eq0.false) in
    less_room c.loop-count.reader c.take.new.self c.args.form _ _ _ _ _ _ _ piece
    c.loop-count.invariant.0 some fits c.in_ok-take.ensures.ok

pub returns-in_default-clause-part : goal.returns-in_default-clause-part
returns-in_default-clause-part g c = λ _.
    is_front _ _ _ (IsTextBy c.args.form) (g.S.Source.left c.args.source.now) c.args.sink.now
    c.loop-count.sink
    (front_left c.loop-count.reader c.args.form _ (g.S.Source.left c.loop-count.source)
    c.args.sink.now c.loop-count.sink _ _ c.loop-count.invariant.0)

pub returns-in_default-clause-sure : goal.returns-in_default-clause-sure
returns-in_default-clause-sure g c =
    is_sure _ _ _ (IsTextBy c.args.form) (g.S.Source.left c.args.source.now) c.args.sink.now
    c.loop-count.sink
    (front_left c.loop-count.reader c.args.form _ (g.S.Source.left c.loop-count.source)
    c.args.sink.now c.loop-count.sink _ _ c.loop-count.invariant.0)

pub returns-then-count-saturating_sub-clause-part :
    goal.returns-then-count-saturating_sub-clause-part
returns-then-count-saturating_sub-clause-part g c = λ _.
    is_front _ _ _ (IsTextBy c.args.form) (g.S.Source.left c.args.source.now) c.args.sink.now
    c.loop-count.sink
    (front_left c.loop-count.reader c.args.form _ (g.S.Source.left c.loop-count.source)
    c.args.sink.now c.loop-count.sink _ _ c.loop-count.invariant.0)

pub returns-then-count-saturating_sub-clause-sure :
    goal.returns-then-count-saturating_sub-clause-sure
returns-then-count-saturating_sub-clause-sure g c =
    is_sure _ _ _ (IsTextBy c.args.form) (g.S.Source.left c.args.source.now) c.args.sink.now
    c.loop-count.sink
    (front_left c.loop-count.reader c.args.form _ (g.S.Source.left c.loop-count.source)
    c.args.sink.now c.loop-count.sink _ _ c.loop-count.invariant.0)

pub returns-in_err-take-clause-long : goal.returns-in_err-take-clause-long
returns-in_err-take-clause-long g c =
    let p = err_from_is_err_and c.from_residual.result c.from_residual.ensures.1 in
    let piece = take c.in-Ok.count c.read.new.buf in
    let size : length piece ≡ c.in-Ok.count = sym c.in-Ok.ensures.bound.1 in
    let fits : length piece ≤ 9223372036854775807 - c.loop-count.reader.taken =
    omega (arith, size, c.if-count-saturating_sub.false, c.saturating_sub.ensures) in
    let log = c.loop-count.invariant.0 in
    rw (p.1, p.2) (not_too_long Bool c.in_err-take.field-0.0 _ _ (log.done ++ piece) _ _ c.in_err-take.ensures.stops
    (consumes_then _ _ _ log.done piece log.told log.came c.in-Ok.ensures.bytes.0)
    (omega (arith, length-append log.done piece, fits, log.stands.holds.taken_is, log.small)))

pub returns-in_err-take-clause-part : goal.returns-in_err-take-clause-part
returns-in_err-take-clause-part g c = λ _.
    let piece = take c.in-Ok.count c.read.new.buf in
    let size : length piece ≡ c.in-Ok.count = sym c.in-Ok.ensures.bound.1 in
    let fits : length piece ≤ 9223372036854775807 - c.loop-count.reader.taken =
    omega (arith, size, c.if-count-saturating_sub.false, c.saturating_sub.ensures) in
    is_front _ _ _ (IsTextBy c.args.form) (g.S.Source.left c.args.source.now) c.args.sink.now
    c.take.new.sink
    (front_piece c.loop-count.reader c.args.form _ _ _ _ _ _ _ _ piece c.loop-count.invariant.0
    c.in-Ok.ensures.bytes.0 c.in-Ok.ensures.told fits c.in_err-take.ensures.part)

pub returns-in_err-take-clause-sure : goal.returns-in_err-take-clause-sure
returns-in_err-take-clause-sure g c =
    let piece = take c.in-Ok.count c.read.new.buf in
    let size : length piece ≡ c.in-Ok.count = sym c.in-Ok.ensures.bound.1 in
    let fits : length piece ≤ 9223372036854775807 - c.loop-count.reader.taken =
    omega (arith, size, c.if-count-saturating_sub.false, c.saturating_sub.ensures) in
    is_sure _ _ _ (IsTextBy c.args.form) (g.S.Source.left c.args.source.now) c.args.sink.now
    c.take.new.sink
    (front_piece c.loop-count.reader c.args.form _ _ _ _ _ _ _ _ piece c.loop-count.invariant.0
    c.in-Ok.ensures.bytes.0 c.in-Ok.ensures.told fits c.in_err-take.ensures.part)

pub returns-then-count-eq0-clause-part : goal.returns-then-count-eq0-clause-part
returns-then-count-eq0-clause-part g c = λ _.
    let left = g.S.Source.left in
    let none = none_read (left c.loop-count.source) (left c.read.new.self) _ c.read.new.buf
    c.if-count-eq0.true c.in-Ok.ensures.bytes.0 in
    let end : IsAtEnd (left c.read.new.self) =
    c.in-Ok.ensures.bytes.1 c.if-count-eq0.true (search arith) in
    is_front _ _ _ (IsTextBy c.args.form) (g.S.Source.left c.args.source.now) c.args.sink.now
    c.finish.new.sink
    (front_end c.loop-count.reader c.args.form _ _ _ _ _ _ _ _ c.finish.result
    c.loop-count.invariant.0 none end c.finish.ensures.ok c.finish.ensures.part)

pub returns-then-count-eq0-clause-sure : goal.returns-then-count-eq0-clause-sure
returns-then-count-eq0-clause-sure g c =
    let left = g.S.Source.left in
    let none = none_read (left c.loop-count.source) (left c.read.new.self) _ c.read.new.buf
    c.if-count-eq0.true c.in-Ok.ensures.bytes.0 in
    let end : IsAtEnd (left c.read.new.self) =
    c.in-Ok.ensures.bytes.1 c.if-count-eq0.true (search arith) in
    is_sure _ _ _ (IsTextBy c.args.form) (g.S.Source.left c.args.source.now) c.args.sink.now
    c.finish.new.sink
    (front_end c.loop-count.reader c.args.form _ _ _ _ _ _ _ _ c.finish.result
    c.loop-count.invariant.0 none end c.finish.ensures.ok c.finish.ensures.part)

pub returns-then-count-eq0-clause-shown : goal.returns-then-count-eq0-clause-shown
returns-then-count-eq0-clause-shown g c =
    let left = g.S.Source.left in
    let none = none_read (left c.loop-count.source) (left c.read.new.self) _ c.read.new.buf
    c.if-count-eq0.true c.in-Ok.ensures.bytes.0 in
    let end : IsAtEnd (left c.read.new.self) =
    c.in-Ok.ensures.bytes.1 c.if-count-eq0.true (search arith) in
    shown_end c.loop-count.reader c.args.form _ _ _ _ _ _ _ _ c.finish.result
    c.loop-count.invariant.0 none end c.finish.ensures.ok

pub returns-then-count-eq0-clause-exact : goal.returns-then-count-eq0-clause-exact
returns-then-count-eq0-clause-exact g c =
    let left = g.S.Source.left in
    let none = none_read (left c.loop-count.source) (left c.read.new.self) _ c.read.new.buf
    c.if-count-eq0.true c.in-Ok.ensures.bytes.0 in
    let end : IsAtEnd (left c.read.new.self) =
    c.in-Ok.ensures.bytes.1 c.if-count-eq0.true (search arith) in
    exact_end c.loop-count.reader c.args.form _ _ _ _ _ _ _ _ c.finish.result
    c.loop-count.invariant.0 none end c.finish.ensures.ok

pub returns-then-count-eq0-clause-complete : goal.returns-then-count-eq0-clause-complete
returns-then-count-eq0-clause-complete g c = λ read sound.
    let left = g.S.Source.left in
    let none = none_read (left c.loop-count.source) (left c.read.new.self) _ c.read.new.buf
    c.if-count-eq0.true c.in-Ok.ensures.bytes.0 in
    let end : IsAtEnd (left c.read.new.self) =
    c.in-Ok.ensures.bytes.1 c.if-count-eq0.true (search arith) in
    complete_end c.loop-count.reader c.args.form _ _ _ _ _ _ _ _ c.finish.result
    c.loop-count.invariant.0 none end c.finish.ensures.ok c.finish.ensures.stops sound

pub returns-then-count-eq0-clause-json : goal.returns-then-count-eq0-clause-json
returns-then-count-eq0-clause-json g c = λ standard e.
    all_written c.finish.result c.args.form c.loop-count.reader.form standard _ _ _
    c.loop-count.invariant.0.same e c.loop-count.invariant.1 c.finish.ensures.json
