use Rattle.std.proofs.Common.{arith}
use Rattle.std.proofs.lemmas.Result.{IfOk-weaker}
use Rattle.quad_lanes.proofs.Lemmas.{all_quadlets}
use Rattle.flawed_capture.proofs.change.captured.Goals as goal

pub returns : goal.returns
returns c =
    IfOk-weaker c.capture_of.result _ _ (λ bytes e. record {
      fit = all_quadlets c.args.list.now (λ i. omega (arith, c.type_inv.list i));
      bytes_are = e;
    }) c.capture_of.ensures
