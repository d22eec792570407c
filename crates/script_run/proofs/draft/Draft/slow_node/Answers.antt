use Rattle.std.proofs.Common.{◌∙◌, true, sym}
use Rattle.std.specs.Vec.{with_item}
use Rattle.script_run.specs.declared.draft.Draft as kept
use Rattle.script_run.proofs.Slowing.{is-slowed, from-sound, slowed-nodes, slowed-done, slowed-sound}
use Rattle.script_run.proofs.draft.Draft.slow_node.Goals as goal

pub returns-clause-done : goal.returns-clause-done
returns-clause-done c =
    let draft = c.args.self.now in
    let old = c.index_mut-machine.result.now in
    let new = c.slow_down.new.self in
    let ranges = c.in_ok-self.field-0 in
    let s = is-slowed draft c.args.number c.args.ppm c.gap_of-gap.result c.before_first.result c.args.first old new c.timing.result ranges c.requires.exists c.index_mut-machine.ensures.value (sym c.is_even.ensures ∙ c.if-not-is_even.false) c.gap_of-gap.ensures.value c.before_first.ensures c.slow_down.ensures c.timing.ensures c.in_ok-self.ensures in
    slowed-done draft c.args.number c.args.ppm c.args.first old new ranges s _ (slowed-nodes draft c.args.number c.args.ppm c.args.first old new ranges s)

pub returns-clause-sound : goal.returns-clause-sound
returns-clause-sound c =
    let draft = c.args.self.now in
    let old = c.index_mut-machine.result.now in
    let new = c.slow_down.new.self in
    let ranges = c.in_ok-self.field-0 in
    let s = is-slowed draft c.args.number c.args.ppm c.gap_of-gap.result c.before_first.result c.args.first old new c.timing.result ranges c.requires.exists c.index_mut-machine.ensures.value (sym c.is_even.ensures ∙ c.if-not-is_even.false) c.gap_of-gap.ensures.value c.before_first.ensures c.slow_down.ensures c.timing.ensures c.in_ok-self.ensures in
    let after : kept.Draft = record draft {
      times = record draft.times { ranges = ranges };
      machines = with_item draft.machines c.args.number new;
      slowed = true;
    } in
    from-sound after (slowed-sound draft c.args.number c.args.ppm c.args.first old new ranges s c.requires.sound _ (slowed-nodes draft c.args.number c.args.ppm c.args.first old new ranges s))
