use Rattle.std.proofs.Common.{◌≡◌, ℕ, zero, suc, ◌-◌, ◌+◌, ◌/◌, ◌%◌, ◌^◌, ◌<◌, List, [], ◌∷◌, ◌++◌, refl, ap, sym, ◌∙◌, arith, append_assoc, append-nil}
use Rattle.script_trace.specs.waves.Value.{binary}
use Rattle.script_trace.proofs.waves_value.put_binary.Goals as goal

step : (p n : ℕ) → 0 < p → binary p n ≡ (48 + n / 2 ^ (p - 1) % 2) ∷ binary (p - 1) n
step zero n lt = absurd (omega (arith, lt))
step (suc q) n lt = let e : suc q - 1 ≡ q = omega arith in rw e refl

push-step : (out new : List ℕ) (p n : ℕ) (whole : List ℕ) → 0 < p →
    new ≡ out ++ (48 + n / 2 ^ (p - 1) % 2) ∷ [] →
    out ++ binary p n ≡ whole → new ++ binary (p - 1) n ≡ whole
push-step out new p n whole lt e h =
    ap (λ xs. xs ++ binary (p - 1) n) e
    ∙ append_assoc out ((48 + n / 2 ^ (p - 1) % 2) ∷ []) (binary (p - 1) n)
    ∙ ap (λ xs. out ++ xs) (sym (step p n lt)) ∙ h

pub loop-place-preserved : goal.loop-place-preserved
loop-place-preserved c =
    push-step c.loop-place.out.items c.push.new.self.items c.loop-place.place c.args.n (c.args.out.now.items ++ binary c.args.digits c.args.n) c.loop-place-test.true
    c.in_ok-push.ensures.items c.loop-place.invariant

pub returns : goal.returns
returns c =
    let none : c.loop-place.place ≡ 0 = omega arith in
    sym (append-nil c.loop-place.out.items) ∙ ap (λ p. c.loop-place.out.items ++ binary p c.args.n) (sym none) ∙ c.loop-place.invariant
