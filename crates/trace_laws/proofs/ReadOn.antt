-- A trace that is read event by event is read whole.
use Rattle.std.proofs.Common.{◌≡◌, ℕ, List, [], ◌∷◌, Option, Some, None, length, subst}
use Rattle.std.specs.Prelude.{IfSome, IsSome, IsSomeAnd}
use Rattle.trace_event.specs.declared.event.Event.{Event}
use Rattle.trace_event.specs.declared.line.Found.{Found}
use Rattle.trace_event.specs.Event.{IsEventAt}
use Rattle.trace_laws.specs.Events.{StandFrom}
use Rattle.trace_laws.specs.Traces.{TracesAreOfEvents}
use Rattle.trace_laws.specs.Reading.{AreAnswers, FindsUpTo, TracesAreReadWhole}
use Rattle.trace_laws.proofs.Feeds.{lines-end-once}

-- what was found ends where the line of the event does
found-next :
    (text : List ℕ) (at next : ℕ) (event : Event) (answer : ℕ → Option Found) (count : ℕ) (o : Option Found) →
    IsEventAt text at event next → IfSome o (λ f. IsEventAt text at f.event f.next) → IsSome o →
    FindsUpTo (length text) answer count next → IsSomeAnd o (λ f. FindsUpTo (length text) answer count f.next)
found-next text at next event answer count None is found some rest = absurd cc
found-next text at next event answer count (Some f) is found some rest =
    let same : next ≡ f.next = lines-end-once text at event f.event next f.next is found in
    subst (λ (k : ℕ). FindsUpTo (length text) answer count k) same rest

finds :
    (text : List ℕ) (answer : ℕ → Option Found) (at : ℕ) (events : List Event) → AreAnswers text answer →
    StandFrom text at events → FindsUpTo (length text) answer (length events) at
finds text answer at [] a x = x
finds text answer at (event ∷ events) a x =
    found-next text at x.0 event answer (length events) (answer at) x.1.is (a.found at) (a.only at event x.0 x.1)
    (finds text answer x.0 events a x.2)

pub traces-are-read-whole : TracesAreOfEvents → TracesAreReadWhole
traces-are-read-whole of-events bytes text answer is a =
    let e = of-events bytes text is in
    (length e.events, finds text answer 0 e.events a e.stand)
