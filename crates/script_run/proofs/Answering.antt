-- What is told of a script, or why nothing is.
use Rattle.std.proofs.Common.{◌≡◌, ℕ, ◌+◌, List, length, sym, subst, arith}
use Rattle.std.specs.Prelude.{Result, Ok, Err, IfOk, IfErr}
use Rattle.script_lines.specs.declared.kind.Kind.{Kind}
use Rattle.script_lines.specs.declared.kind.LineStop.{LineStop}
use Rattle.script_lines.specs.declared.kind.LineStop.TheVariants.{Fault, Memory}
use Rattle.script_lines.specs.declared.kind.ScriptFault.{ScriptFault}
use Rattle.script_lines.specs.declared.kind.ScriptStop.{ScriptStop}
use Rattle.script_lines.specs.declared.kind.ScriptStop.TheVariants as script
use Rattle.script_told.specs.Script.{ScriptResult, fault_at, script_lines}
use Rattle.script_bus.specs.Running.{IfFault}
use Rattle.script_run.specs.Answered.{StopsWith, IsOnlyFault}
use Rattle.script_run.specs.codings.Going.{stop_at}

-- what holds of each answer holds of this one
pub ok-all :
    {X E : Type 0} (P Q : X → Type 0) → ((x : X) → P x → Q x) → (r : Result X E) → IfOk r P →
    IfOk r Q
ok-all P Q all (Ok x) h = all x h
ok-all P Q all (Err e) h = tt

pub err-all :
    {X E : Type 0} (P Q : E → Type 0) → ((e : E) → P e → Q e) → (r : Result X E) → IfErr r P →
    IfErr r Q
err-all P Q all (Ok x) h = tt
err-all P Q all (Err e) h = all e h

-- a fault that one thing tells is told by another
pub stops-as :
    (Tells Other : ScriptResult → Type 0) → ((fault : ScriptFault) → Tells (Err fault) → Other (Err fault)) →
    (stop : ScriptStop) → StopsWith Tells stop → StopsWith Other stop
stops-as Tells Other also (script.Fault fault) h = also fault h
stops-as Tells Other also (script.Memory e) h = tt

-- what holds of a fault
pub if-fault : (P Q : Kind → Type 0) → ((kind : Kind) → P kind → Q kind) → (stop : LineStop) → IfFault P stop →
    IfFault Q stop
if-fault P Q all (Fault kind) h = all kind h
if-fault P Q all (Memory e) h = tt

-- a fault of what is told at the end has the number of lines and 1
pub stops-at-end :
    (Read : List ℕ → Type 0) (Refuses : List ℕ → ScriptResult → Type 0) (bytes : List ℕ) (number : ℕ)
    (stop : LineStop) (r : ScriptStop) → r ≡ stop_at number stop → number + 0 ≡ length (script_lines bytes) + 1 →
    IfFault (λ (kind : Kind). (b : List ℕ) → Read b → Refuses b (Err (fault_at (length (script_lines b) + 1) kind))) stop →
    Read bytes → StopsWith (Refuses bytes) r
stops-at-end Read Refuses bytes number (Fault kind) r is same stops read =
    let count = length (script_lines bytes) + 1 in
    let at : count ≡ number = omega (arith, same) in
    subst (StopsWith (Refuses bytes)) (sym is)
    (subst (λ (n : ℕ). Refuses bytes (Err (fault_at n kind))) at (stops bytes read))
stops-at-end Read Refuses bytes number (Memory e) r is same stops read = subst (StopsWith (Refuses bytes)) (sym is) tt

-- what is told of one thing alone
pub only-fault :
    (Tells : ScriptResult → Type 0) (r : ScriptStop) → ((one other : ScriptResult) → Tells one →
    Tells other → one ≡ other) → StopsWith Tells r →
    (told : ScriptResult) → Tells told → IsOnlyFault told r
only-fault Tells (script.Fault fault) one is told other = one told (Err fault) other is
only-fault Tells (script.Memory e) one is told other = tt
