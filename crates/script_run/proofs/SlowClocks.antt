-- What is heard of a line that slows a clock.
use Rattle.std.proofs.Common.{ℕ, List, [], Option, append-nil, refl, sym}
use Rattle.std.specs.Prelude.{Result, Ok, Err, OnOk}
use Rattle.script_lines.specs.declared.command.Command.TheVariants.{Clock}
use Rattle.script_told.specs.Script.{Stage, fresh, declaring, running}
use Rattle.script_trace.specs.Voice.{Voice}
use Rattle.script_run.specs.codings.Going.{HearsAt}

-- nothing is heard
pub clock-unheard : (voice : Voice) (stage : Stage) (name : List ℕ) (ppm : ℕ) (first : Option ℕ) (next : Stage) (out : List ℕ) →
    HearsAt voice stage (Clock name ppm first) next out out
clock-unheard voice stage name ppm first fresh out = record { lines = []; traces = refl; written = sym (append-nil out) }
clock-unheard voice stage name ppm first (declaring draft) out = record { lines = []; traces = refl; written = sym (append-nil out) }
clock-unheard voice stage name ppm first (running bus) out = record { lines = []; traces = refl; written = sym (append-nil out) }

pub on-ok : {X E : Type 0} (P : Type 0) (r : Result X E) → P → OnOk r P
on-ok P (Ok x) p = p
on-ok P (Err e) p = tt
