-- What the fault of a script is in each reading. No public contract cites this file.
use Rattle.std.specs.Prelude.{◌≡◌, ℕ, ◌+◌, List, length, Result, Ok, Err}
use Rattle.std.proofs.Common.{inl, refl, sym, ap}
use Rattle.script_lines.specs.declared.kind.ScriptFault.{ScriptFault}
use Rattle.script_told.specs.Bus.{Bus}
use Rattle.script_told.specs.Script.{script_lines}
use Rattle.script_told.specs.Run.{ScriptRun, IsRun, printed, unless_stopped, IsResult}
use Rattle.script_advice.specs.Advice.{IsAdvice}
use Rattle.script_run.specs.Listed.{listed_at, IsListed}

-- what ended a run that tells a fault
end_is :
    (text : List ℕ) (fault : ScriptFault) (end : Result Bus ScriptFault) →
    Err fault ≡ unless_stopped text end → end ≡ Err fault
end_is text fault (Ok bus) e = absurd cc
end_is text fault (Err other) e = cc

-- the script's run ends with its fault
pub end_of_fault : (bytes : List ℕ) (fault : ScriptFault) → IsResult bytes (Err fault) →
    (run : ScriptRun) × IsRun bytes run × (run.end ≡ Err fault)
end_of_fault bytes fault (run, is, told) =
    (run, is, end_is (printed run.entries) fault run.end told)

-- so it is the fault of its list
pub list_of_fault : (bytes name : List ℕ) (fault : ScriptFault) → IsResult bytes (Err fault) →
    IsListed bytes name (Err fault)
list_of_fault bytes name fault told =
    let ends = end_of_fault bytes fault told in
    (ends.0, ends.1, ap (listed_at (length (script_lines bytes) + 1) name) (sym ends.2))

-- and of its advice
pub advice_of_fault : (bytes : List ℕ) (fault : ScriptFault) → IsResult bytes (Err fault) →
    IsAdvice bytes (Err fault)
advice_of_fault bytes fault told = inl (record { fault = fault; told_so = told; is = refl })
