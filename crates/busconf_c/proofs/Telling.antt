-- What holds of a list that is told.
use Rattle.std.proofs.Common.{ℕ, List, Result, Ok, Err, IfOk, sym, subst}
use Rattle.c_border.specs.Places.{Tells, some, no_memory, TellsOk}

pub tells_ok : {E : Type 0} (P : List ℕ → Type 0) (r : Result (List ℕ) E) (before after : List ℕ) (needed_before needed status : ℕ) →
    TellsOk r before after needed_before needed status → IfOk r P →
    Tells P before after needed_before needed status
tells_ok P (Ok list) before after needed_before needed status (some told is tells) holds = some told (subst P (sym is) holds) tells
tells_ok P (Ok list) before after needed_before needed status (no_memory a n s) holds = no_memory a n s
tells_ok P (Err e) before after needed_before needed status (a, n, s) holds = no_memory a n s
