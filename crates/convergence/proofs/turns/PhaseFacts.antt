-- Facts of phases that several parts use.
use Rattle.std.proofs.Common.{◌≡◌, true, false, arith}
use Rattle.convergence.proofs.Common.{Phase, is_resetting, hears_packets, is_before_tree}
use Rattle.port_state.specs.declared.signal.Phase.TheVariants as phase

pub start-late : (f : Phase) → f ≡ phase.TreeStart → is_before_tree f ≡ false → ⊥
start-late f a b = grind arith

pub not-shake : (f : Phase) → f ≡ phase.ParentShake → f ≡ phase.ChildShake → ⊥
not-shake f a b = cc

pub contend-shake : (f : Phase) → f ≡ phase.Contend → f ≡ phase.ParentShake → ⊥
contend-shake f a b = cc

pub late-start : (f : Phase) → is_before_tree f ≡ false → is_resetting f ≡ false
late-start f e = grind arith

pub start-mute : (f : Phase) → is_resetting f ≡ true → hears_packets f ≡ false
start-mute f e = grind arith
