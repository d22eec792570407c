use Rattle.std.proofs.Common.{ℕ, [], get_or, subst}
use Rattle.cabling.specs.NodeSet.{Holds}
use Rattle.cabling.proofs.Lemmas.{none_of_zero}
use Rattle.world_agenda.proofs.Rest.{none-at}
use Rattle.world_agenda.proofs.Hears.{all-spared}
use Rattle.world_agenda.proofs.heard.hearers.Goals as goal

pub loop-node-init : goal.loop-node-init
loop-node-init c = record {
  left = λ k has. has;
  gives = λ k out port end e free. none-at (get_or c.args.arrivals.now k []) port (c.requires.none k out);
  below = λ k has. absurd (none_of_zero k (subst (λ (n : ℕ). Holds n k) c.requires.unmarked has));
}

pub returns-clause-spared : goal.returns-clause-spared
returns-clause-spared c =
    all-spared c.loop-node.heard c.args.arrivals.now c.args.cabling.now c.cables_are_two_ended.ensures
    (λ j. c.loop-node.invariant.gives j (c.in_default.ensures.none j))
