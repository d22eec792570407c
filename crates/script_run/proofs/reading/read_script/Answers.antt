use Rattle.std.proofs.Common.{◌≡◌}
use Rattle.std.specs.Prelude.{Ok}
use Rattle.script_lines.specs.declared.kind.ScriptStop.{ScriptStop}
use Rattle.script_told.specs.Script.{ScriptResult}
use Rattle.script_run.specs.Answered.{StopsWith, IsOnlyFault}
use Rattle.script_run.proofs.Answering.{ok-all, err-all, stops-as, only-fault}
use Rattle.script_run.proofs.reading.read_script.Goals as goal

pub returns-clause-only : goal.returns-clause-only
returns-clause-only g c =
    let R = g.R.Reading in
    ok-all (λ t. R.tells c.args.reading c.args.bytes.now (Ok (R.list_of t)))
    (λ t. (other : ScriptResult) → R.tells c.args.reading c.args.bytes.now other → other ≡ Ok (R.list_of t))
    (λ t is other also. c.one.ensures c.args.bytes.now other (Ok (R.list_of t)) also is)
    c.told_of.result c.told_of.ensures.told

pub returns-clause-exact : goal.returns-clause-exact
returns-clause-exact g c =
    let R = g.R.Reading in
    err-all (StopsWith (R.refuses c.args.reading c.args.bytes.now))
    (λ (stop : ScriptStop). (told : ScriptResult) → R.tells c.args.reading c.args.bytes.now told → IsOnlyFault told stop)
    (λ stop h. only-fault (R.tells c.args.reading c.args.bytes.now) stop (c.one.ensures c.args.bytes.now)
    (stops-as (R.refuses c.args.reading c.args.bytes.now) (R.tells c.args.reading c.args.bytes.now)
    (g.met.R.Reading.is_told c.args.reading c.args.bytes.now) stop h))
    c.told_of.result c.told_of.ensures.refused
