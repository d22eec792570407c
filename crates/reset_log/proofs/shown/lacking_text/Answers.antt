use Rattle.std.proofs.Common.{ℕ, Vec, Global}
use Rattle.reset_log.proofs.InJson.{in_lines_if}
use Rattle.reset_log.proofs.shown.lacking_text.Goals as goal

pub returns-in-Json-clause-json : goal.returns-in-Json-clause-json
returns-in-Json-clause-json c =
    in_lines_if (λ (line : Vec ℕ Global). line.items) c.args.form c.lacking_line.result c.lacking_line.ensures.json
