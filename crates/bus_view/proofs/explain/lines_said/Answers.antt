use Rattle.std.proofs.Common.{◌+◌, arith, sym, subst}
use Rattle.bus_json.specs.Lines.{AreJsonLines}
use Rattle.bus_json.proofs.Lemmas.{all_lines}
use Rattle.bus_view.specs.Explained.{line_said}
use Rattle.bus_view.proofs.Said.{says_none, says_line, says_all}
use Rattle.bus_view.proofs.Told.{no_lines}
use Rattle.bus_view.proofs.explain.lines_said.Goals as goal

pub loop-number-init : goal.loop-number-init
loop-number-init c = (
  says_none c.args.form c.args.script.now c.args.first c.new-text.result.items c.new-text.ensures.items,
  λ json. no_lines c.new-text.result.items c.new-text.ensures.items,
)

pub loop-number-preserved : goal.loop-number-preserved
loop-number-preserved c = (
  says_line c.args.form c.args.script.now c.args.first c.loop-number.number c.in_ok-fault.fault c.loop-number.text.items c.put_line_said.new.out.items
      (omega (arith, c.loop-number-test.true, c.len-number-end.ensures)) c.in_ok-fault.ensures c.in_ok-put_line_said.ensures.told c.loop-number.invariant.0,
  λ json. subst AreJsonLines (sym c.in_ok-put_line_said.ensures.told)
      (all_lines c.loop-number.text.items (line_said c.args.form c.args.script.now (c.loop-number.number + 1) c.in_ok-fault.fault)
      (c.loop-number.invariant.1 json) (c.in_ok-put_line_said.ensures.json json)),
)

pub returns-clause-told : goal.returns-clause-told
returns-clause-told c =
    says_all c.args.form c.args.script.now c.args.first c.loop-number.number c.loop-number.text.items (omega (arith, c.loop-number-test.false, c.len-number-end.ensures))
    c.loop-number.invariant.0

pub returns-clause-json : goal.returns-clause-json
returns-clause-json c = c.loop-number.invariant.1
