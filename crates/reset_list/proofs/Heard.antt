-- That a list is refused is that it is heard as no tree.
use Rattle.std.proofs.Common.{◌≡◌, Bool, true, false, is_none, is_some, Option, Some, None, refl}
use Rattle.std.specs.Prelude.{not}
use Rattle.topology_stack.specs.Tree.{Tree}

pub none_is : (heard : Option Tree) (bad : Bool) → is_some heard ≡ not bad → bad ≡ is_none heard
none_is None true e = refl
none_is None false e = absurd cc
none_is (Some t) true e = absurd cc
none_is (Some t) false e = refl
