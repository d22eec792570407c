use Rattle.std.proofs.Common.{◌==◌, length, ap, arith}
use Rattle.std.proofs.lemmas.List.Splits.{length-slice_split}
use Rattle.std.proofs.lemmas.List.Sums.{count_by-le-length}
use Rattle.script_words.proofs.sentence.CutScript.new.Goals as goal

pub returns-clause-few : goal.returns-clause-few
returns-clause-few c =
    omega (arith, ap (λ ls. length ls) c.in_ok-lines.ensures, length-slice_split (λ b. b == 10) c.args.script.now, count_by-le-length (λ b. b == 10) c.args.script.now)
