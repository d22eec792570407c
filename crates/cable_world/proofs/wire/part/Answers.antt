use Rattle.std.proofs.Common.{ℕ, ◌<◌, ◌∙◌, ◌+◌, length, get_or, sym, arith}
use Rattle.std.proofs.lemmas.List.{drop-set-lt, get_or_default}
use Rattle.port_state.specs.PortSet.{has_port}
use Rattle.cable_world.proofs.running.Rows.{same-left, same-next, cut-more, uncut-more, kept-passed, kept-pushed}
use Rattle.cable_world.proofs.wire.part.Goals as goal

pub loop-at-preserved-then-is_none : goal.loop-at-preserved-then-is_none
loop-at-preserved-then-is_none c =
    let i = c.loop-at.at in
    let now = c.loop-at.arriving in
    let old = c.args.arriving.now in
    let e = get_or now i c.index-arriving-at.result in
    let inside : i < length now = omega arith in
    let within : i < length old = omega arith in
    let is = get_or_default now i c.index-arriving-at.result e inside in
    let left = c.loop-at.invariant.left in
    let none = λ (p : ℕ). sym (c.both-kept.ensures p) ∙ c.is_none.ensures.0 c.if-is_none.true p in
    record {
      left = same-left i now old left;
      stays = λ p. kept-passed p i old c.loop-at.staying.items e (has_port c.args.ports p) within
          (is ∙ same-next i now old e left) (c.loop-at.invariant.stays p) (none p);
      arrives = λ p. uncut-more p i now old e (has_port c.args.ports p) inside within left is (c.loop-at.invariant.arrives p) (none p);
    }

pub loop-at-preserved : goal.loop-at-preserved
loop-at-preserved c =
    let i = c.loop-at.at in
    let now = c.loop-at.arriving in
    let old = c.args.arriving.now in
    let e = get_or now i c.index-arriving-at.result in
    let inside : i < length now = omega arith in
    let within : i < length old = omega arith in
    let is = get_or_default now i c.index-arriving-at.result e inside in
    let left = c.loop-at.invariant.left in
    record {
      left = drop-set-lt (i + 1) now i _ (omega arith) ∙ same-left i now old left;
      stays = λ p. kept-pushed p i old c.loop-at.staying.items e (has_port c.args.ports p) within
          (is ∙ same-next i now old e left) (c.loop-at.invariant.stays p) c.both-kept.result c.saturating_add.result
          c.push.new.self.items c.in_ok-push.ensures.items c.saturating_add.ensures (c.both-kept.ensures p);
      arrives = λ p. cut-more p i now old e (has_port c.args.ports p) inside within left is (c.loop-at.invariant.arrives p)
          c.minus-given.result c.index-arriving-at-in-loop-at.result (c.minus-given.ensures p);
    }
