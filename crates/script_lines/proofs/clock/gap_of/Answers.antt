use Rattle.std.proofs.Common.{arith}
use Rattle.std.proofs.lemmas.Nat.{le-div}
use Rattle.script_lines.proofs.clock.gap_of.Goals as goal

pub returns-clause-some : goal.returns-clause-some
returns-clause-some c = λ few. le-div 1 1000000 c.args.ppm (omega (arith, c.requires)) (omega (arith, few))
