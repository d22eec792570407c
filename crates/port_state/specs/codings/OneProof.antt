-- That a record is valid has one proof at most, so a machine can keep it as a fact of its own. No
-- public contract cites this file.
use Rattle.std.proofs.Common.{◌≡◌, ℕ, Bool, List, Option}
use Rattle.std.specs.Coded.{Coded-set, coded_ℕ, coded_bool, coded_option, le_prop}
use Rattle.port_state.specs.declared.signal.Phase.{Phase}
use Rattle.port_state.specs.declared.signal.Phase.TheVariants.{ResetStart, ResetWait, TreeStart, ChildShake, ParentShake, Contend, SelfIdent, Ready}
use Rattle.port_state.specs.declared.ports.PortView.{PortView}
use Rattle.port_state.specs.declared.states.NodeState.{NodeState}
use Rattle.port_state.specs.Valid.{FitsPhase, IsValid}

same_numbers : (a b : ℕ) → IsProp (a ≡ b)
same_numbers = Coded-set coded_ℕ

same_flags : (a b : Bool) → IsProp (a ≡ b)
same_flags = Coded-set coded_bool

same_ports : (a b : Option ℕ) → IsProp (a ≡ b)
same_ports = Coded-set (coded_option coded_ℕ)

fits_prop :
    (ph : Phase) (parent : Option ℕ) (ports : List PortView) → IsProp (FitsPhase ph parent ports)
fits_prop ResetStart parent ports = hlevel (same_flags, same_ports)
fits_prop ResetWait parent ports = hlevel (same_flags, same_ports)
fits_prop TreeStart parent ports = hlevel (same_flags, same_ports)
fits_prop ChildShake parent ports = hlevel (same_numbers, same_flags)
fits_prop ParentShake parent ports = hlevel (same_numbers, same_flags)
fits_prop Contend parent ports = hlevel (same_numbers, same_flags)
fits_prop SelfIdent parent ports = hlevel (same_numbers, same_flags)
fits_prop Ready parent ports = hlevel (same_numbers, same_flags)

pub valid_prop : (x : NodeState) → IsProp (IsValid x)
valid_prop x = hlevel (same_numbers, le_prop, fits_prop)
