-- The parts of answers.
use Rattle.std.proofs.Common.{ℕ, List, []}
use Rattle.std.specs.Prelude.{Ok, Err}
use Rattle.script_told.specs.Step.{LineAnswer}
use Rattle.script_told.specs.Script.{Stage, fresh, StageAnswer}

abbrev pub text-in : LineAnswer → List ℕ
text-in (Ok (bus, text)) = text
text-in (Err kind) = []

abbrev pub stage-in : StageAnswer → Stage
stage-in (Ok (stage, text)) = stage
stage-in (Err kind) = fresh

abbrev pub printed-in : StageAnswer → List ℕ
printed-in (Ok (stage, text)) = text
printed-in (Err kind) = []
