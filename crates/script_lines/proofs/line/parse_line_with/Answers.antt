use Rattle.std.proofs.Common.{List, ℕ, subst}
use Rattle.script_lines.specs.codings.Reading.{read_line}
use Rattle.script_lines.specs.Answer.{AnswersReading}
use Rattle.script_lines.proofs.LineRead.{found_of, refused_of, only_of}
use Rattle.script_lines.proofs.line.parse_line_with.Goals as goal

pub returns-clause-found : goal.returns-clause-found
returns-clause-found c =
    let Says : List ℕ → Type 0 =
    λ text. AnswersReading c.read_line.result (read_line c.args.times text) in
    found_of c.args.times c.args.line.now c.read_line.result
    (subst Says c.without_return.ensures c.read_line.ensures.value)

pub returns-clause-refused : goal.returns-clause-refused
returns-clause-refused c =
    let Says : List ℕ → Type 0 =
    λ text. AnswersReading c.read_line.result (read_line c.args.times text) in
    refused_of c.args.times c.args.line.now c.read_line.result
    (subst Says c.without_return.ensures c.read_line.ensures.value)

pub returns-clause-only : goal.returns-clause-only
returns-clause-only c =
    let Says : List ℕ → Type 0 =
    λ text. AnswersReading c.read_line.result (read_line c.args.times text) in
    only_of c.args.times c.args.line.now c.read_line.result
    (subst Says c.without_return.ensures c.read_line.ensures.value)
