use Rattle.std.proofs.Common.{◌≡◌, ◌≢◌, ◌∙◌, ℕ, ◌+◌, false, Some, List, ◌∷◌, drop, sym, arith}
use Rattle.std.specs.Prelude.{slice_get}
use Rattle.std.proofs.lemmas.Bool.Decides.{nat_tests}
use Rattle.self_id.specs.Node.{Node}
use Rattle.topology_stack.specs.Tree.{walk}
use Rattle.view_text.specs.Drawing.{all_have}
use Rattle.quad_lanes.proofs.Lemmas.{at_drop, item_at}
use Rattle.view_text.proofs.gaps.all_have.Goals as goal

other_gap : (gap id : ℕ) (ns : List Node) (n : Node) → slice_get ns id ≡ Some n →
    n.attrs.gap ≢ gap → all_have gap (drop id ns) ≡ all_have gap ns → false ≡ all_have gap ns
other_gap gap id ns n at ne h =
    let e : all_have gap (n ∷ drop (id + 1) ns) ≡ all_have gap ns = rw (at_drop ns id n at) at h in
    grind (arith, nat_tests)

same_gap : (gap id : ℕ) (ns : List Node) (n : Node) → slice_get ns id ≡ Some n → n.attrs.gap ≡ gap →
    all_have gap (drop id ns) ≡ all_have gap ns → all_have gap (drop (id + 1) ns) ≡ all_have gap ns
same_gap gap id ns n at is h =
    let e : all_have gap (n ∷ drop (id + 1) ns) ≡ all_have gap ns = rw (at_drop ns id n at) at h in
    grind (arith, nat_tests)

pub returns-then-gap_at-gap : goal.returns-then-gap_at-gap
returns-then-gap_at-gap c =
    let x = item_at (walk c.args.tree.now) c.loop-id.id (omega (arith, c.len-id-end.ensures.value)) in
    let g = c.gap_at.ensures x.0 x.1 in
    other_gap c.args.gap c.loop-id.id (walk c.args.tree.now) x.0 x.1 (λ e. c.if-gap_at-gap.true (g ∙ e)) c.loop-id.invariant

pub loop-id-preserved : goal.loop-id-preserved
loop-id-preserved c =
    let x = item_at (walk c.args.tree.now) c.loop-id.id (omega (arith, c.len-id-end.ensures.value)) in
    let g = c.gap_at.ensures x.0 x.1 in
    same_gap c.args.gap c.loop-id.id (walk c.args.tree.now) x.0 x.1 (sym g ∙ c.if-gap_at-gap.false) c.loop-id.invariant
