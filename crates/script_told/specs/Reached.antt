-- The worlds of a script come of power-on, wherever it is cut, and so settle where they are left alone.
use Rattle.std.specs.Prelude.{ℕ, List, All}
use Rattle.cable_world.specs.World.{CableWorld}
use Rattle.cable_world.specs.Run.{IsReached}
use Rattle.outcomes.specs.Headline.{IsLeftAlone, AllSettled}
use Rattle.script_told.specs.Script.{Stage, bus_of}
use Rattle.script_told.specs.Run.{Entry, ScriptRun, IsRun}

-- the world of the bus that runs from a stage on
abbrev pub world_of : Stage → CableWorld
world_of stage = (bus_of stage).world

-- before and behind each command of a script the world comes of power-on by acts, holds and turns
abbrev pub ScriptWorldsAreReached : Type 0
ScriptWorldsAreReached =
    (bytes : List ℕ) (run : ScriptRun) → IsRun bytes run →
    All (λ (e : Entry). IsReached (world_of e.before) × IsReached (world_of e.after)) run.entries

-- a script that is cut behind any of its commands and left alone settles
abbrev pub ScriptsConverge : Type 0
ScriptsConverge =
    (bytes : List ℕ) (run : ScriptRun) → IsRun bytes run →
    All (λ (e : Entry). (v : CableWorld) → IsLeftAlone (world_of e.after) v → AllSettled v) run.entries
