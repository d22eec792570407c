-- Texts that are lines of events, one behind the other.
use Rattle.std.proofs.Common.{◌≡◌, ℕ, ◌+◌, List, [], ◌∷◌, ◌++◌, length, drop, append-nil, append_assoc, length-append, refl, ap, sym, subst, ◌∙◌, arith}
use Rattle.std.proofs.lemmas.List.{drop_at}
use Rattle.trace_event.specs.declared.event.Event.{Event}
use Rattle.trace_event.specs.Event.{IsShownAt}
use Rattle.trace_event.specs.Stands.{Stands}
use Rattle.trace_laws.specs.Events.{StandFrom, IsOfEvents}

-- what stands in the middle of a text stands there
pub stands :
    (before word rest : List ℕ) →
    Stands (before ++ (word ++ rest)) (length before) word (length before + length word)
stands before word rest =
    let whole : before ++ (word ++ rest) ≡ (before ++ word) ++ rest = sym (append_assoc before word rest) in
    let behind : drop (length before + length word) (before ++ (word ++ rest)) ≡ rest =
    rw whole (drop_at (before ++ word) rest (length before + length word) (length-append before word)) in
    record {
      is = drop_at before (word ++ rest) (length before) refl ∙ ap (λ (l : List ℕ). word ++ l) (sym behind);
      next_is = refl;
      inside = omega (arith, length-append before (word ++ rest), length-append word rest);
    }

-- a line is that of an event, wherever it stands in a text
abbrev pub IsLine : List ℕ → Type 0
IsLine line =
    (before rest : List ℕ) → (event : Event)
    × IsShownAt (before ++ (line ++ rest)) (length before) event (length before + length line)

-- lines of events, one behind the other
pub data AreLines : List ℕ → Type 0 where
  none : AreLines []
  more : (line rest : List ℕ) → IsLine line → AreLines rest → AreLines (line ++ rest)

pub one-line : (line : List ℕ) → IsLine line → AreLines line
one-line line is = subst AreLines (append-nil line) (more line [] is none)

pub both-lines : (xs ys : List ℕ) → AreLines xs → AreLines ys → AreLines (xs ++ ys)
both-lines _ ys none q = q
both-lines _ ys (more line rest is p) q =
    subst AreLines (sym (append_assoc line rest ys)) (more line (rest ++ ys) is (both-lines rest ys p q))

-- their events, one behind the other
events-from : (before rest : List ℕ) → AreLines rest →
    (events : List Event) × StandFrom (before ++ rest) (length before) events
events-from before _ none = ([], omega (arith, length-append before []))
events-from before _ (more line rest is p) =
    let first = is before rest in
    let later = events-from (before ++ line) rest p in
    let place : length (before ++ line) ≡ length before + length line = length-append before line in
    let there : StandFrom (before ++ (line ++ rest)) (length before + length line) later.0 =
    subst (λ (k : ℕ). StandFrom (before ++ (line ++ rest)) k later.0) place
    (subst (λ (t : List ℕ). StandFrom t (length (before ++ line)) later.0) (append_assoc before line rest) later.1) in
    (first.0 ∷ later.0, (length before + length line, first.1, there))

pub of-events : (text : List ℕ) → AreLines text → IsOfEvents text
of-events text are = let found = events-from [] text are in record { events = found.0; stand = found.1 }
