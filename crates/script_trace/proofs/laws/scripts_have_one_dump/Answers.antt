use Rattle.script_trace.proofs.waves.OneDump.{one-dump, dumped-told, fault-told, some-dumps}
use Rattle.script_trace.proofs.laws.scripts_have_one_dump.Goals as goal

pub returns : goal.returns
returns c = record {
  one = one-dump c.scripts_tell_one_thing.ensures.run c.runs_are_told_once.ensures.one;
  told = dumped-told;
  fault = fault-told;
  some = some-dumps c.runs_are_told_once.ensures.some;
}
