use Rattle.std.proofs.Common.{sym}
use Rattle.script_lines.proofs.GivenValues.{right_coins}
use Rattle.script_lines.proofs.node.coins.Goals as goal

pub returns-in-Some-clause-few : goal.returns-in-Some-clause-few
returns-in-Some-clause-few c =
    rw c.as_bytes.ensures
    (right_coins c.args.times c.args.pairs.now c.in-Some.coins.now c.requires.right
    (sym c.in-Some.ensures)).0

pub returns-in-Some-clause-coins : goal.returns-in-Some-clause-coins
returns-in-Some-clause-coins c =
    rw c.as_bytes.ensures
    (right_coins c.args.times c.args.pairs.now c.in-Some.coins.now c.requires.right
    (sym c.in-Some.ensures)).1
