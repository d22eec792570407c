-- A text that is the lines of events, one behind the other.
use Rattle.std.specs.Prelude.{◌≡◌, ℕ, List, [], ◌∷◌, length}
use Rattle.trace_event.specs.declared.event.Event.{Event}
use Rattle.trace_event.specs.Event.{IsShownAt}

-- from this place of a text to its end the lines of these events stand, one behind the other
abbrev pub StandFrom : List ℕ → ℕ → List Event → Type 0
StandFrom text at [] = at ≡ length text
StandFrom text at (event ∷ events) =
    (next : ℕ) × IsShownAt text at event next × StandFrom text next events

-- the whole text is the lines of these events
pub record IsOfEvents (text : List ℕ) : Type 0 where
  pub events : List Event
  pub stand : StandFrom text 0 events
