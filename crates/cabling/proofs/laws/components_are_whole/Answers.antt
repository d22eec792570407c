use Rattle.cabling.proofs.Whole.{shared}
use Rattle.cabling.proofs.laws.components_are_whole.Goals as goal

pub returns : goal.returns
returns c = record {
  shared = λ a b set k h. shared c.args.c.now a b set c.cables_are_two_ended.ensures k h;
  least = λ node set other k has closed. k.least other has closed;
}
