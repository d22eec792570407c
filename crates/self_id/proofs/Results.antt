-- How reading ends: with what was read or with a fault, and in one way.
use Rattle.std.proofs.Common.{◌≡◌, Result, Ok, Err}
use Rattle.self_id.specs.declared.fault.GroupFault.{GroupFault}

pub same_read : {A : Type 0} (x y : A) → ◌≡◌ {A = Result A GroupFault} (Ok x) (Ok y) → x ≡ y
same_read x y e = cc

pub same_fault : {A : Type 0} (f g : GroupFault) →
    ◌≡◌ {A = Result A GroupFault} (Err f) (Err g) → f ≡ g
same_fault f g e = cc

pub not_both : {A : Type 0} (x : A) (f : GroupFault) →
    ◌≡◌ {A = Result A GroupFault} (Ok x) (Err f) → ⊥
not_both x f e = absurd cc
