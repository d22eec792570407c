use Rattle.std.proofs.Common.{◌<◌, Option, Some, ℕ, length, sym, ap, ◌∙◌, inl, inr, arith}
use Rattle.std.specs.Prelude.{slice_get}
use Rattle.std.proofs.lemmas.Option.{slice_get-get_or}
use Rattle.self_id.specs.declared.node.PortStatus.TheVariants.{Absent, Unplugged, Up, Down}
use Rattle.topology_stack.proofs.Lemmas.{end_at, fewer_before, status_at}
use Rattle.heapless_c.proofs.shown.far_end.Goals as goal

pub returns-in-Absent : goal.returns-in-Absent
returns-in-Absent c = elim c.in-Absent.is [
  | inl e ↦ end_at c.args.ports.now c.args.parent c.args.children.now c.args.slot Absent (status_at c.args.ports.now c.args.slot Absent _ c.requires.inside e)
  | inr e ↦ end_at c.args.ports.now c.args.parent c.args.children.now c.args.slot Unplugged (status_at c.args.ports.now c.args.slot Unplugged _ c.requires.inside e)
]

pub returns-in-Up : goal.returns-in-Up
returns-in-Up c = end_at c.args.ports.now c.args.parent c.args.children.now c.args.slot Up (status_at c.args.ports.now c.args.slot Up _ c.requires.inside c.in-Up.is)

pub bounds-children-count_down : goal.bounds-children-count_down
bounds-children-count_down c =
    let here = status_at c.args.ports.now c.args.slot Down _ c.requires.inside c.in-Down.is in
    omega (arith, c.requires.children, c.count_down.ensures.value, fewer_before c.args.ports.now c.args.slot here)

pub returns-in-Down : goal.returns-in-Down
returns-in-Down c =
    let here = status_at c.args.ports.now c.args.slot Down _ c.requires.inside c.in-Down.is in
    let small : c.count_down.result < length c.args.children.now = omega (arith, c.requires.children, c.count_down.ensures.value, fewer_before c.args.ports.now c.args.slot here) in
    end_at c.args.ports.now c.args.parent c.args.children.now c.args.slot Down here ∙ ap (λ (o : Option ℕ). Some o) (ap (slice_get c.args.children.now) (sym c.count_down.ensures.value) ∙ slice_get-get_or c.args.children.now c.count_down.result 0 small)
