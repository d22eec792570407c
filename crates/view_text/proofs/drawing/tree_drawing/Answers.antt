use Rattle.std.proofs.Common.{◌≡◌, ℕ, ◌-◌, Some, length, subst, arith, append_assoc}
use Rattle.std.specs.Prelude.{slice_get}
use Rattle.topology_stack.specs.Tree.{walk}
use Rattle.topology_stack.specs.Far.{ends}
use Rattle.view_text.specs.codings.Parts.{HasPart}
use Rattle.quad_lanes.proofs.Lemmas.{item_at, has-itself}
use Rattle.view_text.proofs.drawing.tree_drawing.Goals as goal

pub returns : goal.returns
returns c =
    let ns = walk c.args.tree.now in
    let n = item_at ns (length ns - 1) (omega (arith, c.root.ensures)) in
    let place : length ns - 1 ≡ c.root.result = omega (arith, c.root.ensures) in
    let t = c.args.tree.now in
    let whole : HasPart t 0 63 t = record { nodes = has-itself (walk t); ends_too = has-itself (ends t) } in
    let lines = rw c.in_ok-margin.ensures.items at (c.in_ok-put_tree.ensures.lines 0 63 t whole (omega (arith, c.root.ensures))) in
    let gap = c.gap_at-gap.ensures n.0 (subst (λ (k : ℕ). slice_get ns k ≡ Some n.0) place n.1) in
    record {
      hops = c.hops-hops.result;
      root = n.0;
      are_hops = c.hops-hops.ensures.longest;
      is_root = n.1;
      text_is =
          simp (c.in_ok-put_gaps.ensures, c.in_ok-put_hops.ensures, lines, c.elect.ensures.value, c.in_ok-out.ensures.items, append_assoc, gap);
    }
