use Rattle.outcomes.proofs.forced.Spread.{all-reset}
use Rattle.outcomes.proofs.forced.Waits.{taken-by}
use Rattle.outcomes.proofs.laws.resets_spread.Goals as goal

pub returns-clause-spread : goal.returns-clause-spread
returns-clause-spread c = λ holds w node set i l comp fresh late soon k x h at. all-reset holds w l node set comp fresh i late soon k x h at

pub returns-clause-taken : goal.returns-clause-taken
returns-clause-taken c = λ holds w node set i k x y l comp fresh late h. taken-by holds w l node set comp fresh i k x y late h
