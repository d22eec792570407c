use Rattle.std.proofs.Common.{List}
use Rattle.bus_json.specs.Lines.{IsJsonLine, AreJsonLines, none}
use Rattle.bus_json.proofs.Lemmas.{one_line}
use Rattle.bus_view.specs.Explained.{told_in}
use Rattle.bus_view.proofs.Told.{on_ok}
use Rattle.bus_view.proofs.explain.put_line_said.Goals as goal

pub returns-in-None-clause-json : goal.returns-in-None-clause-json
returns-in-None-clause-json c = rw c.in-None.is (λ json. none)

pub returns-in-Some-clause-json : goal.returns-in-Some-clause-json
returns-in-Some-clause-json c =
    let told = told_in c.args.form c.args.script.now (record { line = c.args.number; kind = c.in-Some.kind }) in
    rw c.in-Some.is (λ json. on_ok c.put_told.result (IsJsonLine told) (AreJsonLines told) (one_line told) (c.put_told.ensures.json json))
