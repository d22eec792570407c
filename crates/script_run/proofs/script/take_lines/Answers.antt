use Rattle.std.proofs.Common.{arith}
use Rattle.script_told.specs.Script.{script_lines}
use Rattle.script_run.proofs.Going.{gone-first, gone-next, refused-line}
use Rattle.script_run.proofs.script.take_lines.Goals as goal

pub loop-rest-init : goal.loop-rest-init
loop-rest-init g c = (
  omega (arith, c.requires.few),
  gone-first g.R.Hears.Listener.voice g.R.Writes.Writer.writes c.args.bytes.now _ _ _ c.new-text.ensures.items c.requires.none c.new-stage.ensures,
)

pub returns-in-Err-clause-refused : goal.returns-in-Err-clause-refused
returns-in-Err-clause-refused g c =
    let have = c.loop-rest.invariant.1 in
    refused-line c.args.bytes.now have.entries c.loop-rest.number c.cut_line.result.0.now (script_lines c.cut_line.result.1.now) _ c.loop-rest.stage c.in-Err.stop c.at_line.result
    c.cut_line.ensures.lines c.at_line.ensures c.in-Err.ensures.stop have.went

pub loop-rest-preserved : goal.loop-rest-preserved
loop-rest-preserved g c = (
  omega (arith, c.cut_line.ensures.shorter, c.loop-rest.invariant.0),
  gone-next g.R.Hears.Listener.voice g.R.Writes.Writer.writes c.args.bytes.now c.loop-rest.text.items _ _ _ c.loop-rest.number c.cut_line.result.0.now (script_lines c.cut_line.result.1.now) _ c.loop-rest.stage c.take.new.self
      c.cut_line.ensures.lines c.in-Ok.ensures.done c.loop-rest.invariant.1,
)
