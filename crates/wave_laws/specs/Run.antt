-- A dump that is read shows each moment of its script's run.
use Rattle.std.specs.Prelude.{◌≡◌, ℕ, List, [], ◌∷◌, ◌++◌, None, Ok}
use Rattle.cable_world.specs.World.{CableWorld}
use Rattle.script_told.specs.Bus.{Bus}
use Rattle.script_told.specs.Script.{Stage, bus_of}
use Rattle.script_told.specs.Run.{Entry, ScriptRun, IsRun}
use Rattle.script_trace.specs.Voice.{legend_of}
use Rattle.script_trace.specs.waves.Moment.{at_time, time_of}
use Rattle.script_trace.specs.waves.Head.{head}
use Rattle.script_trace.specs.waves.Waves.{IsWaves}
use Rattle.wave_laws.specs.Reading.{last_time}
use Rattle.wave_laws.specs.Moments.{AreWorldsAt}
use Rattle.wave_laws.specs.Shown.{ShowsWorld}

-- the time of a world in the units of the dump
abbrev pub time_at : Stage → CableWorld → ℕ
time_at stage w = time_of (bus_of stage).notes.times.nanoseconds w.delay w.turns

-- these changes are under this time and tell no other, or there are none
abbrev pub IsUnder : ℕ → List ℕ → Type 0
IsUnder time part = (changes : List ℕ) × (part ≡ at_time time changes) × (last_time changes ≡ None)

-- Behind what is there before, the text has a part for each of these worlds, in order. It is under
-- the world's time, and read up to its end the dump shows the world.
abbrev pub ShowsEach : (CableWorld → ℕ) → List ℕ → List CableWorld → List ℕ → Type 0
ShowsEach time before [] text = text ≡ []
ShowsEach time before (w ∷ worlds) text =
    (part : List ℕ) × (rest : List ℕ) × (text ≡ part ++ rest) × IsUnder (time w) part
    × ShowsWorld (before ++ part) w × ShowsEach time (before ++ part) worlds rest

-- so it is for the worlds of each command
abbrev pub ShowsAll : List ℕ → List Entry → List ℕ → Type 0
ShowsAll before [] text = text ≡ []
ShowsAll before (entry ∷ entries) text =
    (worlds : List CableWorld) × (one : List ℕ) × (more : List ℕ)
    × AreWorldsAt entry.before entry.command entry.after worlds × (text ≡ one ++ more)
    × ShowsEach (time_at entry.after) before worlds one × ShowsAll (before ++ one) entries more

-- Behind its head the dump of a script shows the worlds of its run.
pub record ShowsItsRun (bytes dump : List ℕ) : Type 0 where
  pub run : ScriptRun
  pub is : IsRun bytes run
  pub bus : Bus
  pub end : run.end ≡ Ok bus
  pub changes : List ℕ
  pub text_is : dump ≡ head (legend_of bus.notes) bus.world ++ changes
  pub shows : ShowsAll (head (legend_of bus.notes) bus.world) run.entries changes

-- ---- a law

abbrev pub DumpsShowTheRun : Type 0
DumpsShowTheRun = (bytes dump : List ℕ) → IsWaves bytes (Ok dump) → ShowsItsRun bytes dump
