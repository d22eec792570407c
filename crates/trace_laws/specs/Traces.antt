-- What the trace of a script consists of.
use Rattle.std.specs.Prelude.{◌≡◌, ℕ, List, Ok}
use Rattle.trace_event.specs.declared.event.Event.{Event}
use Rattle.trace_event.specs.Event.{IsEventAt}
use Rattle.script_trace.specs.Trace.{IsTrace}
use Rattle.trace_laws.specs.Events.{IsOfEvents}

-- it is the lines of events, whose numbers have 32 bits
abbrev pub TracesAreOfEvents : Type 0
TracesAreOfEvents = (bytes text : List ℕ) → IsTrace bytes (Ok text) → IsOfEvents text

-- whichever event the line at a place is read as, it ends at one place
abbrev pub LinesEndOnce : Type 0
LinesEndOnce =
    (text : List ℕ) (at : ℕ) (one other : Event) (next last : ℕ) → IsEventAt text at one next →
    IsEventAt text at other last → next ≡ last
