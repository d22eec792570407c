-- Whoever tells what happens in a run tells one thing, and there is something to tell of each run.
use Rattle.std.specs.Prelude.{◌≡◌, ℕ, List}
use Rattle.script_told.specs.Run.{ScriptRun, IsRun}
use Rattle.script_trace.specs.Voice.{Voice}
use Rattle.script_trace.specs.Trace.{AllTrace}

abbrev pub RunsAreToldOnce : Type 0
RunsAreToldOnce =
    (voice : Voice) (bytes : List ℕ) (run : ScriptRun) (one other : List ℕ) → IsRun bytes run →
    AllTrace voice run.entries one → AllTrace voice run.entries other → one ≡ other

abbrev pub RunsAreTold : Type 0
RunsAreTold =
    (voice : Voice) (bytes : List ℕ) (run : ScriptRun) → IsRun bytes run →
    (lines : List ℕ) × AllTrace voice run.entries lines
