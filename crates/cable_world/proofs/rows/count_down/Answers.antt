use Rattle.std.proofs.Common.{◌≡◌, ◌∙◌, ◌-◌, ◌<◌, ◌==◌, ℕ, not, length, map, get_or, ap, refl, sym, subst, arith}
use Rattle.std.proofs.lemmas.Bool.{or_parts, not-false, eqb-true}
use Rattle.std.proofs.lemmas.List.{length-map, get_or_default, take_more_set}
use Rattle.std.proofs.lemmas.List.Elements.{All-push}
use Rattle.cable_world.proofs.running.Mixed.{next-is, mixed-map}
use Rattle.cable_world.proofs.running.Rows.{AreFree}
use Rattle.cable_world.proofs.rows.count_down.Goals as goal

pub loop-at-preserved : goal.loop-at-preserved
loop-at-preserved c =
    let i = c.loop-at.at in
    let now = c.loop-at.held in
    let old = c.args.held.now in
    let less : ℕ → ℕ = λ h. h - c.args.turns in
    let inside : i < length now = omega arith in
    let within : i < length old = omega arith in
    let x : ℕ = get_or now i 0 in
    let y = c.saturating_sub-turns_left.result in
    let at = next-is i (map less old) old now x (length-map old less) within c.loop-at.invariant.less (get_or_default now i 0 x inside) in
    let made : y ≡ less x = c.saturating_sub-turns_left.ensures ∙ ap less c.from.ensures in
    record {
      less = mixed-map less i old old now x y refl within c.loop-at.invariant.less at made;
      left = λ none.
          let parts = or_parts c.loop-at.left (not (y == 0)) none in
          subst AreFree (sym (take_more_set now i y inside))
          (All-push (λ (h : ℕ). h ≡ 0) _ y (c.loop-at.invariant.left parts.0) (eqb-true y 0 (not-false (y == 0) parts.1)));
    }
