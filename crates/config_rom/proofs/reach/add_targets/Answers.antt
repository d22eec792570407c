use Rattle.std.proofs.Common.{◌≡◌, ◌+◌, sym, ◌∙◌, subst, arith}
use Rattle.std.specs.Prelude.{slice_index}
use Rattle.config_rom.specs.Layout.{end_of}
use Rattle.config_rom.specs.Block.{value_of}
use Rattle.config_rom.specs.codings.Marks.{Adds, AddsTargets}
use Rattle.config_rom.proofs.Reached.{skip_entry, add_entry}
use Rattle.config_rom.proofs.reach.add_targets.Goals as goal
use Rattle.config_rom.proofs.reach.add_targets.Goals.{in-Some+else-value-eq0, in_default}

pub loop-entry-preserved : goal.loop-entry-preserved
loop-entry-preserved c =
    let quads = c.args.quads.now in
    let entry = c.loop-entry.entry in (
      elim c.match-kind_of.branch [
        | in-Some+else-value-eq0 w ↦
            let value : w.value_of-value.result ≡ value_of (slice_index quads entry) = w.value_of-value.ensures in
            let adds : Adds c.loop-entry.marks w.add.new.self w.in-Some.kind (entry + value_of (slice_index quads entry)) = subst (λ v. Adds c.loop-entry.marks w.add.new.self w.in-Some.kind (entry + v)) value w.add.ensures in
            rw (w.marks-is)
            (add_entry quads c.args.at entry w.in-Some.kind c.args.marks.now c.loop-entry.marks w.add.new.self
            (record { behind = c.loop-entry.invariant.1; inside = omega (arith, c.loop-entry-test.true, c.end_of-entry-end.ensures.value) })
            (sym w.in-Some.ensures)
            (λ zero. w.if-value-eq0.false (value ∙ zero)) adds c.loop-entry.invariant.0)
        | in_default w ↦ rw (w.marks-is) (skip_entry quads c.args.at entry c.args.marks.now c.loop-entry.marks (sym w.in_default.ensures) c.loop-entry.invariant.0)
      ],
      omega (arith, c.loop-entry.invariant.1),
    )

pub returns-clause-ok : goal.returns-clause-ok
returns-clause-ok c =
    let done : c.loop-entry.entry ≡ end_of c.args.quads.now c.args.at = omega (arith, c.loop-entry-test.false, c.loop-entry.auto.entry-end, c.end_of-entry-end.ensures.value, c.end_of-entry-end.ensures.behind) in
    subst (λ e. AddsTargets c.args.quads.now c.args.at e c.args.marks.now c.loop-entry.marks) done c.loop-entry.invariant.0
