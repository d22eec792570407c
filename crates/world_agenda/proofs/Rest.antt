-- Rows of wires that are at rest: turns leave them as they are, and nothing arrives from them.
use Rattle.std.proofs.Common.{◌≡◌, ℕ, zero, suc, ◌-◌, List, [], ◌∷◌, All, map, length, slice_index_or, refl, sym, ◌∙◌, ap, arith}
use Rattle.std.proofs.lemmas.List.Elements.{All-tail}
use Rattle.port_state.specs.declared.signal.Signal.{Signal}
use Rattle.cable_world.specs.Wire.{Wire, empty_wire, arrives, stays}
use Rattle.cable_world.specs.Still.{IsSilent, hold_less}
use Rattle.cable_world.specs.running.Rest.{AreAtRest, AreNone}

abbrev AtRest : Wire → Type 0
AtRest w = w ≡ empty_wire

abbrev NoneHere : List Signal → Type 0
NoneHere ss = ss ≡ []

-- what leaves an empty wire as it is, leaves a row of them
same-row : (f : Wire → Wire) (row : List Wire) → f empty_wire ≡ empty_wire → AreAtRest row →
    map f row ≡ row
same-row f [] e h = refl
same-row f (w ∷ row) e h =
    let here : w ≡ empty_wire = h 0 w (omega arith) in
    ap (λ v. v ∷ map f row) (ap f here ∙ e ∙ sym here) ∙ ap (λ r. w ∷ r) (same-row f row e (All-tail AtRest w row h))

pub rest-stays : (d : ℕ) (row : List Wire) → AreAtRest row → map (stays d) row ≡ row
rest-stays d row h = same-row (stays d) row refl h

pub rest-passes : (k : ℕ) (row : List Wire) → AreAtRest row → map (hold_less k) row ≡ row
rest-passes k row h =
    let z : 0 - k ≡ 0 = omega arith in
    same-row (hold_less k) row (ap (λ n. record empty_wire { held = n }) z) h

pub rest-silent : (row : List Wire) → AreAtRest row → All IsSilent row
rest-silent row h = λ k w inside. ap (λ (v : Wire). v.signals) (h k w inside)

-- nothing arrives, as nothing did
pub rest-arrives :
    (d : ℕ) (row : List Wire) (came : List (List Signal)) → AreAtRest row → AreNone came → length came ≡ length row →
    came ≡ map (arrives d) row
rest-arrives d [] [] h none e = refl
rest-arrives d [] (a ∷ came) h none e = absurd (omega (arith, e))
rest-arrives d (w ∷ row) [] h none e = absurd (omega (arith, e))
rest-arrives d (w ∷ row) (a ∷ came) h none e =
    ap (λ b. b ∷ came) (none 0 a (omega arith) ∙ ap (arrives d) (sym (h 0 w (omega arith))))
    ∙ ap (λ l. arrives d w ∷ l)
    (rest-arrives d row came (All-tail AtRest w row h) (All-tail NoneHere a came none) (omega (arith, e)))

pub none-at : (came : List (List Signal)) (p : ℕ) → AreNone came → slice_index_or came p [] ≡ []
none-at [] p h = refl
none-at (a ∷ came) zero h = h 0 a (omega arith)
none-at (a ∷ came) (suc p) h = none-at came p (All-tail NoneHere a came h)
