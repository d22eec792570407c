-- Where the pulls of a valid advice are gone, no loop is left.
use Rattle.std.proofs.Common.{◌≡◌, ℕ, ◌^◌, ◌<◌, inl, inr, List, ◌++◌, Some, refl, ap, ◌∙◌, arith}
use Rattle.cabling.specs.declared.cable.End.{End}
use Rattle.cabling.specs.declared.cable.Cable.{Cable}
use Rattle.cabling.specs.Wiring.{Wiring, far}
use Rattle.cabling.specs.NodeSet.{Holds, IsWithin}
use Rattle.cabling.specs.Component.{IsComponent}
use Rattle.cabling.specs.Looped.{HasTwo, IsLooped}
use Rattle.cabling.proofs.Lemmas.{end_at}
use Rattle.loop_advice.specs.Cables.{Lists, HoldsEachOnce, JoinAll}
use Rattle.loop_advice.specs.Certificate.{IsCertificate}
use Rattle.loop_advice.proofs.Listed.{lists_append}
use Rattle.loop_advice.proofs.Marking.{cable}
use Rattle.loop_advice.proofs.Components.{one_component, same_size, same_each}
use Rattle.loop_advice.proofs.Growing.{TwoOf, no_loop}

-- cables were taken out, and these are among them
pub record Without (old new : Wiring) (cables : List Cable) : Type 0 where
  pub within : (a b : End) → far new a ≡ Some b → far old a ≡ Some b
  pub gone : (a b : End) → far new a ≡ Some b → Lists cables (cable a b) → ⊥

-- a cable that is left is a kept one
kept_one : (old new : Wiring) (set : ℕ) (pulls kept : List Cable) →
    HoldsEachOnce old set (pulls ++ kept) → Without old new pulls → (a b : End) → Holds set a.node →
    far new a ≡ Some b → Lists kept (cable a b)
kept_one old new set pulls kept each p a b h e =
    elim (lists_append pulls kept (cable a b) ((each.all (cable a b)).1 (record { joined = p.within a b e; here = h }))) [
      | inl l ↦ absurd (p.gone a b e l)
      | inr r ↦ r
    ]

two_kept : (old new : Wiring) (set : ℕ) (pulls kept : List Cable) (part x : ℕ) →
    HoldsEachOnce old set (pulls ++ kept) → Without old new pulls → Holds set x →
    HasTwo new part x → TwoOf kept part x
two_kept old new set pulls kept part x each p h two = record {
  one = end_at x two.low;
  other = end_at x two.high;
  apart = λ e. let same : two.low ≡ two.high = ap (λ (y : End). y.port) e in omega (arith, same, two.apart);
  at_one = refl;
  at_other = refl;
  far_one = two.low_leads.0;
  far_other = two.high_leads.0;
  lists_one = kept_one old new set pulls kept each p (end_at x two.low) two.low_leads.0 h two.low_leads.1;
  lists_other = kept_one old new set pulls kept each p (end_at x two.high) two.high_leads.0 h two.high_leads.1;
  into_one = two.low_leads.2;
  into_other = two.high_leads.2;
}

pub no_loop_left : (old new : Wiring) (node : ℕ) (pulls kept : List Cable) (set part x : ℕ) →
    set < 2 ^ 63 → IsCertificate old node pulls kept → Without old new pulls →
    IsComponent old node set → IsWithin part set → IsLooped new part → Holds part x → ⊥
no_loop_left old new node pulls kept set part x small k p is inside looped h =
    let same = one_component old node k.component set k.of_node is in
    let each : HoldsEachOnce old set (pulls ++ kept) = same_each old k.component set (pulls ++ kept) same k.each in
    let join : JoinAll kept node set = λ y hy. k.join y ((same y).1 hy) in
    no_loop kept set node 63 refl small join (k.count ∙ same_size k.component set 63 same) part x h
    (λ y hy. two_kept old new set pulls kept part y each p (inside y hy) (looped y hy))
