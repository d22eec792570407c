-- What comes of a trace that is read event by event.
use Rattle.std.specs.Prelude.{◌≡◌, ℕ, zero, suc, List, Option, IfSome, IsSome, IsSomeAnd, length, Ok}
use Rattle.trace_event.specs.declared.event.Event.{Event}
use Rattle.trace_event.specs.declared.line.Found.{Found}
use Rattle.trace_event.specs.Event.{IsEventAt, IsShownAt}
use Rattle.script_trace.specs.Trace.{IsTrace}

-- these are answers of `event_at` at the places of a text, as far as its contract tells
pub record AreAnswers (text : List ℕ) (answer : ℕ → Option Found) : Type 0 where
  pub found : (at : ℕ) → IfSome (answer at) (λ f. IsEventAt text at f.event f.next)
  pub only :
      (at : ℕ) (event : Event) (next : ℕ) → IsShownAt text at event next → IsSome (answer at)

-- asked at this place, and then always behind the event that was found, so many events are found, and
-- the last ends here
abbrev pub FindsUpTo : ℕ → (ℕ → Option Found) → ℕ → ℕ → Type 0
FindsUpTo end answer zero at = at ≡ end
FindsUpTo end answer (suc count) at = IsSomeAnd (answer at) (λ f. FindsUpTo end answer count f.next)

-- so a trace is read from its first byte to its last
abbrev pub TracesAreReadWhole : Type 0
TracesAreReadWhole =
    (bytes text : List ℕ) (answer : ℕ → Option Found) → IsTrace bytes (Ok text) →
    AreAnswers text answer → (count : ℕ) × FindsUpTo (length text) answer count 0
