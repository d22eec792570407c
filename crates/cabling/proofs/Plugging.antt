-- What is known where no fault was found, and what the two writes of a call then make.
use Rattle.std.proofs.Common.{◌≡◌, ◌≢◌, ◌==◌, ℕ, ◌<◌, Bool, true, false, not, Option, Some, None, length, arith, nat_lt, is_some, refl, ap, if◌then◌else◌, List, get_or, slice_set, sym, subst, ◌∙◌, []}
use Rattle.std.proofs.lemmas.List.{get_or-set_other, get_or_default}
use Rattle.std.proofs.lemmas.Bool.Decides.{nat_tests}
use Rattle.cabling.specs.declared.cable.End.{End}
use Rattle.cabling.specs.declared.cable.CableFault.{CableFault}
use Rattle.cabling.specs.Wiring.{Wiring, ports_of, far, HasEnd, IsCabling}
use Rattle.cabling.proofs.Ends.{with_far, wrote_both, added_by_writes, cabling_added, taken_by_writes, cabling_taken, plugged}
use Rattle.cabling.specs.Change.{Added, TakenOut, has_node, has_port, is_plugged, plug_fault, pull_fault}

pub record Pluggable (c : Wiring) (a b : End) : Type 0 where
  pub has_a : HasEnd c a
  pub has_b : HasEnd c b
  pub free_a : far c a ≡ None
  pub free_b : far c b ≡ None
  pub apart : a.node ≢ b.node

-- a test that was passed, and what comes after it
passed : (b : Bool) (f : CableFault) (rest : Option CableFault) →
    (if not b then Some f else rest) ≡ None → (b ≡ true) × (rest ≡ None)
passed true f rest e = (refl, e)
passed false f rest e = absurd cc

free : (b : Bool) (f : CableFault) (rest : Option CableFault) →
    (if b then Some f else rest) ≡ None → (b ≡ false) × (rest ≡ None)
free true f rest e = absurd cc
free false f rest e = (refl, e)

none_of : (x : Option End) → is_some x ≡ false → x ≡ None
none_of None e = refl
none_of (Some a) e = absurd cc

pub less : (a b : ℕ) → nat_lt a b ≡ true → a < b
less a b e = grind (arith, nat_tests)

other : (a b : ℕ) → (a == b) ≡ false → a ≢ b
other a b e same = grind (arith, nat_tests)

pub pluggable : (c : Wiring) (a b : End) → plug_fault c a b ≡ None → Pluggable c a b
pluggable c a b e =
    let t1 = passed (has_node c a) _ _ e in
    let t2 = passed (has_node c b) _ _ t1.1 in
    let t3 = passed (has_port c a) _ _ t2.1 in
    let t4 = passed (has_port c b) _ _ t3.1 in
    let t5 = free (is_plugged c a) _ _ t4.1 in
    let t6 = free (is_plugged c b) _ _ t5.1 in
    let t7 = free (a.node == b.node) _ _ t6.1 in
    record {
      has_a = record { node = less a.node (length c) t1.0; port = less a.port (length (ports_of c a.node)) t3.0 };
      has_b = record { node = less b.node (length c) t2.0; port = less b.port (length (ports_of c b.node)) t4.0 };
      free_a = none_of (far c a) t5.0;
      free_b = none_of (far c b) t6.0;
      apart = other a.node b.node t7.0;
    }

pub record Plugs (old new : Wiring) (a b : End) : Type 0 where
  pub added : Added old new a b
  pub cabling : IsCabling new

pub plugs : (c : Wiring) (a b : End) (row_a new_a row_b new_b : List (Option End)) → IsCabling c →
    plug_fault c a b ≡ None → row_a ≡ get_or c a.node row_a →
    new_a ≡ slice_set row_a a.port (Some b) →
    row_b ≡ get_or (slice_set c a.node new_a) b.node row_b →
    new_b ≡ slice_set row_b b.port (Some a) →
    Plugs c (slice_set (slice_set c a.node new_a) b.node new_b) a b
plugs c a b row_a new_a row_b new_b is none at_a is_a at_b is_b =
    let may : Pluggable c a b = pluggable c a b none in
    let added : Added c (with_far (with_far c a (Some b)) b (Some a)) a b = added_by_writes c a b may.has_a may.has_b may.free_a may.free_b may.apart in
    let all : Plugs c (with_far (with_far c a (Some b)) b (Some a)) a b = record { added = added; cabling = cabling_added c (with_far (with_far c a (Some b)) b (Some a)) a b is may.apart added } in
    subst (λ (new : Wiring). Plugs c new a b) (sym (wrote_both c a b (Some b) (Some a) row_a new_a row_b new_b may.has_a may.has_b at_a is_a at_b is_b)) all

pub record Pulls (old new : Wiring) (a b : End) : Type 0 where
  pub taken : TakenOut old new a b
  pub cabling : IsCabling new

pub pulls : (c : Wiring) (a b : End) (row_a new_a row_b new_b : List (Option End)) → IsCabling c →
    far c a ≡ Some b → row_a ≡ get_or c a.node row_a → new_a ≡ slice_set row_a a.port None →
    row_b ≡ get_or (slice_set c a.node new_a) b.node row_b → new_b ≡ slice_set row_b b.port None →
    Pulls c (slice_set (slice_set c a.node new_a) b.node new_b) a b
pulls c a b row_a new_a row_b new_b is e at_a is_a at_b is_b =
    let taken : TakenOut c (with_far (with_far c a None) b None) a b = taken_by_writes c a b is e in
    let all : Pulls c (with_far (with_far c a None) b None) a b = record { taken = taken; cabling = cabling_taken c (with_far (with_far c a None) b None) a b is taken } in
    subst (λ (new : Wiring). Pulls c new a b) (sym (wrote_both c a b None None row_a new_a row_b new_b (plugged c a b e) (plugged c b a (is.both_ways a b e)) at_a is_a at_b is_b)) all

-- the other end of a cable is there
pub other_there : (c : Wiring) (a b : End) → IsCabling c → far c a ≡ Some b → HasEnd c b
other_there c a b is e = plugged c b a (is.both_ways a b e)

-- also after a write to the node of the first end
pub other_port : (c : Wiring) (a b : End) (row new : List (Option End)) → IsCabling c →
    far c a ≡ Some b → row ≡ get_or (slice_set c a.node new) b.node row → b.port < length row
other_port c a b row new is e at =
    let there : HasEnd c b = other_there c a b is e in
    let same : row ≡ ports_of c b.node = at ∙ get_or-set_other c a.node b.node new row (λ same. is.two_nodes a b e (sym same)) ∙ get_or_default c b.node row [] there.node in
    rw same there.port

-- a cable that is plugged in can be pulled
pub can-pull : (c : Wiring) (a b : End) → far c a ≡ Some b → pull_fault c a ≡ None
can-pull c a b at =
    let there : HasEnd c a = plugged c a b at in
    let node : has_node c a ≡ true = let h = there.node in grind (arith, nat_tests) in
    let port : has_port c a ≡ true = let h = there.port in grind (arith, nat_tests) in
    let here : is_plugged c a ≡ true = ap (λ (o : Option End). is_some o) at in
    rw (node, port, here) refl
