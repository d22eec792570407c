use Rattle.std.proofs.Common.{◌<◌, ◌==◌, ◌∙◌, ◌+◌, length, get_or, refl, arith}
use Rattle.std.proofs.lemmas.List.{drop-set-lt, get_or_default}
use Rattle.cable_world.proofs.running.Rows.{same-left, cut-more, places-more, places-before, places-all}
use Rattle.cable_world.proofs.wire.clear_port.Goals as goal

pub loop-at-init : goal.loop-at-init
loop-at-init c = record { left = refl; done = λ p n few. places-before p c.args.port c.args.from n c.args.sent.now c.requires few }

pub loop-at-preserved : goal.loop-at-preserved
loop-at-preserved c =
    let i = c.loop-at.at in
    let now = c.loop-at.sent in
    let old = c.args.sent.now in
    let d = c.index-sent-at.result in
    let inside : i < length now = omega arith in
    let within : i < length old = omega arith in
    record {
      left = drop-set-lt (i + 1) now i _ (omega arith) ∙ same-left i now old c.loop-at.invariant.left;
      done = λ p. places-more p i now old _ (p == c.args.port) (c.loop-at.invariant.done p)
          (cut-more p i now old (get_or now i d) (p == c.args.port) inside within c.loop-at.invariant.left
          (get_or_default now i d (get_or now i d) inside) (c.loop-at.invariant.done p i (omega arith)) c.remove.new.self d (c.remove.ensures p));
    }

pub returns : goal.returns
returns c p n = places-all p c.loop-at.at n c.loop-at.sent c.args.sent.now (p == c.args.port) (omega arith) (omega arith) (c.loop-at.invariant.done p)
