-- How runs and their results end: well or with a fault, and in one way.
use Rattle.std.proofs.Common.{◌≡◌}
use Rattle.std.specs.Prelude.{Result, Ok, Err}
use Rattle.script_lines.specs.declared.kind.ScriptFault.{ScriptFault}

pub same-end : {A : Type 0} (a b : A) → ◌≡◌ {A = Result A ScriptFault} (Ok a) (Ok b) → a ≡ b
same-end a b e = cc

pub same-fault : {A : Type 0} (f g : ScriptFault) → ◌≡◌ {A = Result A ScriptFault} (Err f) (Err g) → f ≡ g
same-fault f g e = cc

pub not-both : {A : Type 0} (a : A) (f : ScriptFault) → ◌≡◌ {A = Result A ScriptFault} (Ok a) (Err f) → ⊥
not-both a f e = absurd cc
