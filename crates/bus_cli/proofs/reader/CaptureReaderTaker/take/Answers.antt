use Rattle.std.proofs.Common.{◌++◌, List, ℕ, take, drop, sym, subst, ap, ◌∙◌, append_assoc, length, arith, ◌≤◌, ◌+◌, ◌-◌}
use Rattle.std.proofs.lemmas.List.{take_all, length-drop}
use Rattle.bus_cli.specs.codings.Pieces.{HoldsBytes}
use Rattle.bus_cli.proofs.Gathering.{take_on}
use Rattle.bus_cli.proofs.reader.CaptureReaderTaker.take.Goals as goal

pub loop-at-preserved : goal.loop-at-preserved
loop-at-preserved c =
    let piece = c.args.piece.now in
    let at = c.loop-at.at in
    let count = c.take_front-at.result in
    let long = length-drop at piece in
    let all = take_all (length piece - at) (drop at piece) (omega (arith, long)) in
    let most : at + count ≤ length piece = omega (arith, c.take_front-at.ensures.most, ap length all, long, c.loop-at-test.true) in (
      most,
      λ bytes h.
          let q = c.take_front-at.ensures.held (bytes ++ take at piece) (c.loop-at.invariant.1 bytes h) in
          subst (HoldsBytes c.take_front-at.new.self) (append_assoc bytes (take at piece) (take count (take (length piece - at) (drop at piece)))
          ∙ ap (λ (x : List ℕ). bytes ++ x) (ap (λ (x : List ℕ). take at piece ++ take count x) all ∙ sym (take_on at count piece))) q,
    )

pub returns : goal.returns
returns c = λ bytes h.
    subst (λ (x : List ℕ). HoldsBytes c.loop-at.self (bytes ++ x)) (take_all c.loop-at.at c.args.piece.now c.loop-at-test.false) (c.loop-at.invariant.1 bytes h)
