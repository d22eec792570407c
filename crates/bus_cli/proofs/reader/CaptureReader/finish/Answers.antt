use Rattle.std.proofs.Common.{subst, sym}
use Rattle.std.proofs.lemmas.Bool.{eqb-true}
use Rattle.std.proofs.lemmas.Result.{err_from_is_err_and}
use Rattle.topology_stack.specs.Tree.{Tree}
use Rattle.bus_cli.specs.codings.Pieces.{Pieces, HoldsExactly}
use Rattle.bus_cli.proofs.Gathering.{captured, spelled, stop_fault, stop_memory}
use Rattle.bus_cli.proofs.reader.CaptureReader.finish.Goals as goal

pub returns-in_err-finish-clause-fault : goal.returns-in_err-finish-clause-fault
returns-in_err-finish-clause-fault c =
    let p = err_from_is_err_and c.from_residual.result c.from_residual.ensures.1 in
    rw (p.1, p.2) (stop_fault Tree Tree _ c.in_err-finish.field-0.0 (HoldsExactly c.args.self.now) c.in_err-finish.ensures.refused (λ bytes h.
    captured c.good_pairs_are_a_capture.ensures _ bytes (subst (λ (r : Pieces). HoldsExactly r bytes) (sym c.self.view_is) h) (eqb-true _ _ (sym c.if-not-is_empty.ensures)) c.in_default.is))

pub returns-in_err-finish-clause-memory : goal.returns-in_err-finish-clause-memory
returns-in_err-finish-clause-memory c =
    let p = err_from_is_err_and c.from_residual.result c.from_residual.ensures.1 in
    rw (p.1, p.2) (stop_memory Tree Tree _ c.in_err-finish.field-0.0 (HoldsExactly c.args.self.now) c.one_answer.ensures.some c.in_err-finish.ensures.exact (λ bytes h.
    captured c.good_pairs_are_a_capture.ensures _ bytes (subst (λ (r : Pieces). HoldsExactly r bytes) (sym c.self.view_is) h) (eqb-true _ _ (sym c.if-not-is_empty.ensures)) c.in_default.is))

pub returns-clause-tree : goal.returns-clause-tree
returns-clause-tree c = λ bytes h.
    let is = subst (λ (r : Pieces). HoldsExactly r bytes) (sym c.self.view_is) h in
    let k = captured c.good_pairs_are_a_capture.ensures _ bytes is (eqb-true _ _ (sym c.if-not-is_empty.ensures)) c.in_default.is in
    spelled bytes _ c.in_ok-finish.field-0 k.0 (c.in_ok-finish.ensures.found _ k.1)
