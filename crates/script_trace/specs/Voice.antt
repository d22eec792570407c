-- A way to tell what happens on a script's bus.
use Rattle.std.specs.Prelude.{◌≡◌, ℕ, zero, suc, List, [], ◌++◌, Option, map}
use Rattle.cable_world.specs.World.{CableWorld}
use Rattle.cable_world.specs.Turn.{turn}
use Rattle.script_lines.specs.declared.command.Command.{Command}
use Rattle.script_text.specs.ReportText.{Names}
use Rattle.script_told.specs.Bus.{Notes}
use Rattle.script_trace.specs.Event.{Seen}
use Rattle.script_trace.specs.Step.{seen_before_turn}
use Rattle.script_trace.specs.News.{IsNewWithin}

-- what is known of a bus beside its world
pub record Legend : Type 0 where
  -- the name of each node
  pub names : Names
  -- so many nanoseconds are as long as the delay of a cable, where the script says it
  pub nanoseconds : Option ℕ

abbrev pub legend_of : Notes → Legend
legend_of notes = record { names = notes.names; nanoseconds = notes.times.nanoseconds }

pub record Voice : Type 0 where
  -- an act or a hold, which comes once so many turns are done
  pub command : ℕ → Command → List ℕ
  -- what happened up to a world since its nodes showed that
  pub since : Legend → List Seen → CableWorld → List ℕ

-- what happens in so many turns, turn by turn
unfoldable pub turns_told : Voice → Legend → ℕ → CableWorld → List ℕ
turns_told voice legend zero w = []
turns_told voice legend (suc k) w =
    voice.since legend (map seen_before_turn w.nodes) (turn w) ++ turns_told voice legend k (turn w)

-- it tells nothing where nothing is new
abbrev pub TellsNewsAlone : Voice → Type 0
TellsNewsAlone voice =
    (legend : Legend) (seen : List Seen) (w : CableWorld) → IsNewWithin 0 seen w →
    voice.since legend seen w ≡ []

-- nor else
abbrev pub TellsNothing : Voice → Type 0
TellsNothing voice =
    (legend : Legend) (seen : List Seen) (w : CableWorld) → voice.since legend seen w ≡ []
