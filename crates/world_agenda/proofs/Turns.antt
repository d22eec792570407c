-- Turns, one after the other.
use Rattle.std.proofs.Common.{◌≡◌, ℕ, zero, suc, ◌+◌, ◌-◌, ◌<◌, ◌≤◌, refl, sym, ◌∙◌, ap, arith}
use Rattle.cable_world.specs.World.{CableWorld}
use Rattle.cable_world.specs.Turn.{turn, turns_after}

pub no-turns : (w : CableWorld) → turns_after 0 w ≡ w
unfolding turns_after
no-turns w = refl

one-first : (k : ℕ) (w : CableWorld) → turns_after (suc k) w ≡ turns_after k (turn w)
unfolding turns_after
one-first k w = refl

pub turns-add : (j k : ℕ) (w : CableWorld) → turns_after k (turns_after j w) ≡ turns_after (j + k) w
turns-add zero k w = let e : 0 + k ≡ k = omega arith in ap (turns_after k) (no-turns w) ∙ sym (ap (λ n. turns_after n w) e)
turns-add (suc j) k w =
    let e : suc j + k ≡ suc (j + k) = omega arith in
    ap (turns_after k) (one-first j w) ∙ turns-add j k (turn w) ∙ sym (one-first (j + k) w) ∙ sym (ap (λ n. turns_after n w) e)

-- some turns are passed over, and others are left
pub some-left :
    (passed left all : ℕ) (first now : CableWorld) → passed ≤ all → left ≡ all - passed → now ≡ turns_after passed first →
    turns_after left now ≡ turns_after all first
some-left passed left all first now few l h =
    let e : passed + left ≡ all = omega (arith, few, l) in
    ap (turns_after left) h ∙ turns-add passed left first ∙ ap (λ n. turns_after n first) e

-- so many turns are left, and one is done
pub one-done :
    (left : ℕ) (w v : CableWorld) → 0 < left → v ≡ turn w → turns_after (left - 1) v ≡ turns_after left w
one-done left w v some h =
    let e : suc (left - 1) ≡ left = omega (arith, some) in
    ap (turns_after (left - 1)) h ∙ sym (one-first (left - 1) w) ∙ ap (λ n. turns_after n w) e

pub none-left : (left : ℕ) (now end : CableWorld) → left ≤ 0 → turns_after left now ≡ end →
    now ≡ end
none-left left now end none h =
    let e : 0 ≡ left = omega (arith, none) in
    sym (no-turns now) ∙ ap (λ n. turns_after n now) e ∙ h

pub one-turn : (w v : CableWorld) → v ≡ turn w → v ≡ turns_after 1 w
one-turn w v h = h ∙ sym (no-turns (turn w)) ∙ sym (one-first 0 w)
