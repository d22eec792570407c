-- Bytes as they are read, to the end.
use Rattle.std.proofs.Common.{◌∙◌, ℕ, Option, Some, None, List, [], ◌++◌, refl, sym, ap, subst, append_assoc, append-nil}
use Rattle.std.specs.Prelude.{IfSome}
use Rattle.std.specs.Io.KnownBytes.{Consumes, IsAtEnd}
use Rattle.io_edges.specs.Told.{StayTold}

pub nothing_came : (a : Option (List ℕ)) → Consumes a a []
nothing_came None = tt
nothing_came (Some xs) = refl

pub consumes_then : (a b c : Option (List ℕ)) (xs ys : List ℕ) → StayTold a b → Consumes a b xs →
    Consumes b c ys → Consumes a c (xs ++ ys)
consumes_then None b c xs ys told p q = tt
consumes_then (Some x) None c xs ys told p q = absurd p
consumes_then (Some x) (Some y) None xs ys told p q = absurd q
consumes_then (Some x) (Some y) (Some z) xs ys told p q = p ∙ ap (λ (w : List ℕ). xs ++ w) q ∙ sym (append_assoc xs ys z)

-- what was read is all
pub all_came : (first now next : Option (List ℕ)) (done : List ℕ) (P : List ℕ → Type 0) →
    Consumes first now done → StayTold first now → Consumes now next [] → IsAtEnd next → P done →
    IfSome first P
all_came None now next done P came told none end p = tt
all_came (Some xs) None next done P came told none end p = absurd came
all_came (Some xs) (Some ys) None done P came told none end p = absurd none
all_came (Some xs) (Some ys) (Some zs) done P came told none end p =
    subst P (sym (came ∙ ap (λ (w : List ℕ). done ++ w) (none ∙ end) ∙ append-nil done)) p
