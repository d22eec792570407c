use Rattle.std.proofs.Common.{◌≡◌, ℕ, zero, suc, ◌-◌, ◌*◌, ◌/◌, ◌%◌, ◌^◌, ◌<◌, List, [], ◌∷◌, ◌++◌, refl, ap, sym, ◌∙◌, arith, append_assoc, append-nil}
use Rattle.topology_stack.specs.Hex.{hex_digit, hex}
use Rattle.topology_stack.proofs.number.put_hex.Goals as goal

hex_step : (p n : ℕ) → 0 < p → hex p n ≡ hex_digit (n / 2 ^ (4 * (p - 1)) % 16) ∷ hex (p - 1) n
hex_step zero n lt = absurd (omega (arith, lt))
hex_step (suc q) n lt = let e : suc q - 1 ≡ q = omega arith in rw e refl

push_step : (out new : List ℕ) (p n digit : ℕ) (whole : List ℕ) → 0 < p →
    digit ≡ hex_digit (n / 2 ^ (4 * (p - 1)) % 16) → new ≡ out ++ digit ∷ [] →
    out ++ hex p n ≡ whole → new ++ hex (p - 1) n ≡ whole
push_step out new p n digit whole lt d e h =
    ap (λ xs. xs ++ hex (p - 1) n) e ∙ append_assoc out (digit ∷ []) (hex (p - 1) n)
    ∙ ap (λ x. out ++ (x ∷ hex (p - 1) n)) d ∙ ap (λ xs. out ++ xs) (sym (hex_step p n lt)) ∙ h

pub loop-place-preserved : goal.loop-place-preserved
loop-place-preserved c =
    push_step c.loop-place.out.items c.push.new.self.items c.loop-place.place c.args.n c.hex_digit.result (c.args.out.now.items ++ hex c.args.digits c.args.n) c.loop-place-test.true
    c.hex_digit.ensures c.in_ok-push.ensures.items c.loop-place.invariant

pub returns : goal.returns
returns c =
    let none : c.loop-place.place ≡ 0 = omega arith in
    sym (append-nil c.loop-place.out.items) ∙ ap (λ p. c.loop-place.out.items ++ hex p c.args.n) (sym none) ∙ c.loop-place.invariant
