use Rattle.std.proofs.Common.{◌≡◌, ◌++◌, ◌∷◌, ◌+◌, ℕ, List, drop, get_or, sym, ap, ◌∙◌, append_assoc}
use Rattle.std.specs.Int.{w32, to_be_bytes}
use Rattle.std.proofs.lemmas.List.{drop_more}
use Rattle.quad_lanes.specs.Capture.{capture}
use Rattle.quad_lanes.specs.Pairs.{inverse}
use Rattle.quad_lanes.proofs.capture.capture_of.Goals as goal

-- one pair more was written
moved : (old new quad turned rest whole : List ℕ) → new ≡ old ++ (quad ++ turned) →
    old ++ (quad ++ (turned ++ rest)) ≡ whole → new ++ rest ≡ whole
moved old new quad turned rest whole is so =
    ap (λ (l : List ℕ). l ++ rest) is ∙ append_assoc old (quad ++ turned) rest
    ∙ ap (λ (l : List ℕ). old ++ l) (append_assoc quad turned rest) ∙ so

pub loop-quad-preserved : goal.loop-quad-preserved
loop-quad-preserved c =
    let list = c.args.list.now in
    let at = c.loop-quad.quad-index in
    let quad = get_or list at 0 in
    let old = c.loop-quad.bytes.items in
    let left : drop at list ≡ quad ∷ drop (at + 1) list = drop_more list at 0 c.loop-quad-test.true in
    moved old c.put_pair.new.out.items (to_be_bytes w32 quad) (to_be_bytes w32 (inverse quad)) (capture (drop (at + 1) list)) (capture list) c.in_ok-put_pair.ensures
    (ap (λ (l : List ℕ). old ++ capture l) (sym left) ∙ c.loop-quad.invariant)
