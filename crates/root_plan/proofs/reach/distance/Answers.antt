use Rattle.std.proofs.Common.{◌≡◌, ◌+◌, ◌<◌, length, ℕ, ◌≤◌, subst, sym, arith}
use Rattle.topology_stack.specs.Tree.{Tree, walk}
use Rattle.root_plan.specs.codings.Climb.{Closes}
use Rattle.root_plan.proofs.Climbing.{climb_one, climb_other, climb_end, parent_within}
use Rattle.root_plan.proofs.reach.distance.Goals as goal
use Rattle.root_plan.proofs.reach.distance.Goals.{then-one-other, else-one-other}

pub loop-one-preserved : goal.loop-one-preserved
loop-one-preserved c = let inv = c.loop-one.invariant in elim c.if-one-other.branch [
  | then-one-other w ↦
      let less : c.loop-one.one < c.loop-one.other = w.if-one-other.true in
      let after : c.loop-one.one < w.parent_of-one.result = w.parent_of-one.ensures.after in
      let inside = parent_within t c.loop-one.one w.parent_of-one.result (omega (arith, less, inv.2)) w.parent_of-one.ensures.far after in
      moved c.if-one-other.one c.if-one-other.other w.parent_of-one.result c.loop-one.other w.one-is w.other-is (climb_one t c.args.from c.args.to c.loop-one.one c.loop-one.other w.parent_of-one.result c.loop-one.cables inv.0 less w.parent_of-one.ensures.far after) inside inv.2 (omega (arith, after, inv.3))
  | else-one-other w ↦
      let less : c.loop-one.other < c.loop-one.one = omega (arith, w.if-one-other.false, c.loop-one-test.true) in
      let after : c.loop-one.other < w.parent_of-other.result = w.parent_of-other.ensures.after in
      let inside = parent_within t c.loop-one.other w.parent_of-other.result (omega (arith, less, inv.1)) w.parent_of-other.ensures.far after in
      moved c.if-one-other.one c.if-one-other.other c.loop-one.one w.parent_of-other.result w.one-is w.other-is (climb_other t c.args.from c.args.to c.loop-one.one c.loop-one.other w.parent_of-other.result c.loop-one.cables c.len-len.ensures.valid inv.2 inv.0 less w.parent_of-other.ensures.far after inside) inv.1 inside (omega (arith, after, inv.3))
]
  where
    t : Tree
    t = c.args.tree.now

    Stands : ℕ → ℕ → Type 0
    Stands one other = Closes t c.args.from c.args.to one other (c.loop-one.cables + 1) × (one < length (walk t)) × (other < length (walk t)) × (c.loop-one.cables + 1 ≤ one + other)

    moved : (one other x y : ℕ) → one ≡ x → other ≡ y → Closes t c.args.from c.args.to x y (c.loop-one.cables + 1) → x < length (walk t) → y < length (walk t) → c.loop-one.cables + 1 ≤ x + y → Stands one other
    moved one other x y e f closes within there few = (subst (λ (a : ℕ). Closes t c.args.from c.args.to a other (c.loop-one.cables + 1)) (sym e) (subst (λ (b : ℕ). Closes t c.args.from c.args.to x b (c.loop-one.cables + 1)) (sym f) closes), omega (arith, e, within), omega (arith, f, there), omega (arith, e, f, few))

pub returns : goal.returns
returns c = climb_end c.args.tree.now c.args.from c.args.to c.loop-one.one c.loop-one.other c.loop-one.cables c.loop-one.invariant.0 (omega (arith, c.loop-one-test.false))
