use Rattle.std.proofs.Common.{◌≡◌, ℕ, ◌+◌, ◌≤◌, ◌<◌, ◌^◌, List, [], ◌++◌, ◌∷◌, length, take, drop, suc, get_or, refl, sym, subst}
use Rattle.std.proofs.lemmas.List.{take_more}
use Rattle.std.proofs.Math.Seq.{take_all}
use Rattle.cabling.specs.declared.cable.Cable.{Cable}
use Rattle.cabling.specs.Wiring.{Wiring, IsCabling}
use Rattle.cabling.specs.Component.{IsClosed}
use Rattle.loop_advice.specs.Cables.{IsCableOf}
use Rattle.loop_advice.specs.Order.{AreInOrder}
use Rattle.loop_advice.specs.declared.groups.Groups.{Groups}
use Rattle.loop_advice.specs.codings.Groups.{group}
use Rattle.loop_advice.specs.codings.Placed.{WasPlaced}
use Rattle.loop_advice.proofs.Listed.{read_at, lists_at, parted}
use Rattle.loop_advice.proofs.Marking.{few_nodes}
use Rattle.loop_advice.proofs.Components.{one_component}
use Rattle.loop_advice.proofs.Splitting.{Split, split_first, split_next, split_advised, split_valid, same_advised}
use Rattle.loop_advice.proofs.advice.advise.Goals as goal

-- no cable was placed yet
first : (c : Wiring) (set : ℕ) (g : Groups) (pulls kept : List Cable) → set < 2 ^ 63 → pulls ≡ [] →
    kept ≡ [] → ((node : ℕ) → node < 63 → group g node ≡ node) → Split c set 63 [] g pulls kept
first c set g pulls kept small no_pulls no_kept own =
    subst (λ (ps : List Cable). Split c set 63 [] g ps kept) (sym no_pulls)
    (subst (λ (ks : List Cable). Split c set 63 [] g [] ks) (sym no_kept) (split_first c set 63 g small own))

pub loop-cable-init : goal.loop-cable-init
loop-cable-init c set small closed order = first c.args.cabling.now set c.new-groups.result c.new.result c.new-2.result small c.new.ensures c.new-2.ensures c.new-groups.ensures

-- the cable at a place of the list is one of the set
cable_of : (c : Wiring) (set : ℕ) (xs : List Cable) (i : ℕ) (d : Cable) → AreInOrder c set xs →
    i < length xs → IsCableOf c set (get_or xs i d)
cable_of c set xs i d order h = (order.each.all (get_or xs i d)).0 (lists_at xs i (get_or xs i d) (read_at xs i d h))

in_order : (c : Wiring) (set : ℕ) (xs ys : List Cable) → ys ≡ xs → AreInOrder c set xs →
    AreInOrder c set ys
in_order c set xs ys e order = subst (λ (zs : List Cable). AreInOrder c set zs) (sym e) order

low : (c : Wiring) (set : ℕ) (x : Cable) → IsCabling c → IsCableOf c set x → x.a.node < 63
low c set x is of = few_nodes c x.a x.b is of.joined

high : (c : Wiring) (set : ℕ) (x : Cable) → IsCabling c → IsCableOf c set x → x.b.node < 63
high c set x is of = few_nodes c x.b x.a is (is.both_ways x.a x.b of.joined)

pub place-requires-clause-a : goal.place-requires-clause-a
place-requires-clause-a c = low c.args.cabling.now c.component-component.result _ c.cables_are_two_ended.ensures
    (cable_of c.args.cabling.now c.component-component.result c.as_slice-cable-items.result.now c.loop-cable.cable-index _ (in_order c.args.cabling.now c.component-component.result c.in_ok-cables.cables c.as_slice-cable-items.result.now c.as_slice-cable-items.ensures c.in_ok-cables.ensures) c.loop-cable-test.true)

pub place-requires-clause-b : goal.place-requires-clause-b
place-requires-clause-b c = high c.args.cabling.now c.component-component.result _ c.cables_are_two_ended.ensures
    (cable_of c.args.cabling.now c.component-component.result c.as_slice-cable-items.result.now c.loop-cable.cable-index _ (in_order c.args.cabling.now c.component-component.result c.in_ok-cables.cables c.as_slice-cable-items.result.now c.as_slice-cable-items.ensures c.in_ok-cables.ensures) c.loop-cable-test.true)

next : (c : Wiring) (set : ℕ) (xs : List Cable) (i : ℕ) (d : Cable) (g after : Groups) (pulls pulls_after kept kept_after : List Cable) →
    IsCabling c → set < 2 ^ 63 → IsClosed c set → AreInOrder c set xs → i < length xs →
    WasPlaced (record { groups = g; pulls = pulls; kept = kept }) (record { groups = after; pulls = pulls_after; kept = kept_after }) (get_or xs i d) →
    Split c set 63 (take i xs) g pulls kept → Split c set 63 (take (i + 1) xs) after pulls_after kept_after
next c set xs i d g after pulls pulls_after kept kept_after is small closed order h w s =
    let at : xs ≡ take i xs ++ get_or xs i d ∷ drop (suc i) xs = parted xs i (get_or xs i d) (read_at xs i d h) in
    subst (λ (zs : List Cable). Split c set 63 zs after pulls_after kept_after) (sym (take_more xs i d h))
    (split_next c set 63 (take i xs) (get_or xs i d) (drop (suc i) xs) g after pulls pulls_after kept kept_after refl
    (record { cabling = is; closed = closed; small = small; order = in_order c set xs (take i xs ++ get_or xs i d ∷ drop (suc i) xs) (sym at) order }) w s)

pub loop-cable-preserved : goal.loop-cable-preserved
loop-cable-preserved c set small closed order = next c.args.cabling.now set c.as_slice-cable-items.result.now c.loop-cable.cable-index _ c.loop-cable.groups c.place.new.groups c.loop-cable.advice.pulls c.place.new.advice.pulls c.loop-cable.advice.kept c.place.new.advice.kept
    c.cables_are_two_ended.ensures small closed order c.loop-cable-test.true c.in_ok-place.ensures (c.loop-cable.invariant set small closed order)

-- all cables were placed
whole : (c : Wiring) (set : ℕ) (xs : List Cable) (i : ℕ) (g : Groups) (pulls kept : List Cable) →
    length xs ≤ i → Split c set 63 (take i xs) g pulls kept → Split c set 63 xs g pulls kept
whole c set xs i g pulls kept h s = subst (λ (zs : List Cable). Split c set 63 zs g pulls kept) (take_all i xs h) s

pub returns-clause-advised : goal.returns-clause-advised
returns-clause-advised c set is =
    let order : AreInOrder c.args.cabling.now c.component-component.result c.as_slice-cable-items.result.now = in_order c.args.cabling.now c.component-component.result c.in_ok-cables.cables c.as_slice-cable-items.result.now c.as_slice-cable-items.ensures c.in_ok-cables.ensures in
    same_advised c.args.cabling.now c.component-component.result set c.loop-cable.advice.pulls c.loop-cable.advice.kept
    (one_component c.args.cabling.now c.args.node c.component-component.result set c.component-component.ensures.component is)
    (split_advised c.args.cabling.now c.component-component.result 63 c.as_slice-cable-items.result.now c.loop-cable.groups c.loop-cable.advice.pulls c.loop-cable.advice.kept order
    (whole c.args.cabling.now c.component-component.result c.as_slice-cable-items.result.now c.loop-cable.cable-index c.loop-cable.groups c.loop-cable.advice.pulls c.loop-cable.advice.kept c.loop-cable-test.false
    (c.loop-cable.invariant c.component-component.result c.component-component.ensures.small c.component-component.ensures.component.closed order)))

pub returns-clause-valid : goal.returns-clause-valid
returns-clause-valid c =
    let order : AreInOrder c.args.cabling.now c.component-component.result c.as_slice-cable-items.result.now = in_order c.args.cabling.now c.component-component.result c.in_ok-cables.cables c.as_slice-cable-items.result.now c.as_slice-cable-items.ensures c.in_ok-cables.ensures in
    split_valid c.args.cabling.now c.args.node c.component-component.result 63 c.as_slice-cable-items.result.now c.loop-cable.groups c.loop-cable.advice.pulls c.loop-cable.advice.kept refl
    c.component-component.ensures.small c.component-component.ensures.component order
    (whole c.args.cabling.now c.component-component.result c.as_slice-cable-items.result.now c.loop-cable.cable-index c.loop-cable.groups c.loop-cable.advice.pulls c.loop-cable.advice.kept c.loop-cable-test.false
    (c.loop-cable.invariant c.component-component.result c.component-component.ensures.small c.component-component.ensures.component.closed order))
