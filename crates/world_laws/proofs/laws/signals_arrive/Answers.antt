use Rattle.world_laws.proofs.Arriving.{sent-arrive, cables-stay, signals-arrive, keep-order}
use Rattle.world_laws.proofs.laws.signals_arrive.Goals as goal

pub returns-clause-arrive : goal.returns-clause-arrive
returns-clause-arrive c = signals-arrive

pub returns-clause-order : goal.returns-clause-order
returns-clause-order c = keep-order

pub returns-clause-joined : goal.returns-clause-joined
returns-clause-joined c = cables-stay

pub returns-clause-sent : goal.returns-clause-sent
returns-clause-sent c = sent-arrive
