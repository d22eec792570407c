use Rattle.std.proofs.Common.{◌≡◌, ◌≢◌, ◌<◌, ℕ, ◌+◌, List, length, set, length-set, get_or, arith, ◌∙◌, get_or-set_other, get_or-set_same, below_more}
use Rattle.loop_advice.proofs.groups.Groups.new.Goals as goal

next : (xs : List ℕ) (i : ℕ) → i < 63 → ((k : ℕ) → k < i → get_or xs k 0 ≡ k) × (length xs ≡ 63) →
    ((k : ℕ) → k < i + 1 → get_or (set xs i i) k 0 ≡ k) × (length (set xs i i) ≡ 63)
next xs i h (own, len) = (
  below_more (λ k. get_or (set xs i i) k 0 ≡ k) i
      (λ k less. let ne : k ≢ i = omega arith in get_or-set_other xs i k i 0 ne ∙ own k less)
      (get_or-set_same xs i i 0 (omega (arith, len, h))),
  length-set xs i i ∙ len,
)

pub loop-node-preserved : goal.loop-node-preserved
loop-node-preserved c = next c.loop-node.of c.loop-node.node c.loop-node-test.true c.loop-node.invariant
