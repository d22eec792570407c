use Rattle.std.proofs.Common.{◌≡◌, ℕ, ◌+◌, ◌<◌, length, List, ◌++◌, Bool, true, false, MatchBool, sym, subst, ap, ◌∙◌}
use Rattle.cabling.specs.declared.cable.Cable.{Cable}
use Rattle.cabling.specs.Wiring.{Wiring, IsCabling}
use Rattle.cabling.specs.NodeSet.{size_below}
use Rattle.cabling.specs.Component.{IsComponent}
use Rattle.loop_advice.specs.Cables.{Lists, HoldsEachOnce, JoinAll}
use Rattle.loop_advice.specs.Certificate.{IsCertificate}
use Rattle.loop_advice.proofs.Listed.{lists_right}
use Rattle.loop_advice.proofs.Marking.{few_nodes}
use Rattle.loop_advice.proofs.Components.{one_component, same_size, same_each}
use Rattle.loop_advice.proofs.certificate.check.Goals as goal

small : (c : Wiring) (set : ℕ) (pulls kept list : List Cable) → IsCabling c →
    HoldsEachOnce c set (pulls ++ kept) → list ≡ kept → (x : Cable) → Lists list x → x.a.node < 63
small c set pulls kept list is each e x l = few_nodes c x.a x.b is ((each.all x).0 (lists_right pulls kept x (subst (λ (xs : List Cable). Lists xs x) e l))).joined

pub join_all-requires-clause-small : goal.join_all-requires-clause-small
join_all-requires-clause-small c = small c.args.cabling.now c.component-component.result c.args.advice.now.pulls c.args.advice.now.kept c.as_slice-kept.result.now c.cables_are_two_ended.ensures c.if-not-holds_each_once.ensures c.as_slice-kept.ensures

-- a certificate speaks of the component that was found
each_of : (c : Wiring) (node set : ℕ) (pulls kept : List Cable) → IsComponent c node set →
    IsCertificate c node pulls kept → HoldsEachOnce c set (pulls ++ kept)
each_of c node set pulls kept is k = same_each c k.component set (pulls ++ kept) (one_component c node k.component set k.of_node is) k.each

count_of : (c : Wiring) (node set : ℕ) (pulls kept : List Cable) → IsComponent c node set →
    IsCertificate c node pulls kept → length kept + 1 ≡ size_below set 63
count_of c node set pulls kept is k = k.count ∙ same_size k.component set 63 (one_component c node k.component set k.of_node is)

join_of : (c : Wiring) (node set : ℕ) (pulls kept : List Cable) → IsComponent c node set →
    IsCertificate c node pulls kept → JoinAll kept node set
join_of c node set pulls kept is k other h = k.join other ((one_component c node k.component set k.of_node is other).1 h)

pub returns-then-not-holds_each_once : goal.returns-then-not-holds_each_once
returns-then-not-holds_each_once c k = c.if-not-holds_each_once.ensures (each_of c.args.cabling.now c.args.node c.component-component.result c.args.advice.now.pulls c.args.advice.now.kept c.component-component.ensures.component k)

last : (c : Wiring) (node set : ℕ) (pulls kept list : List Cable) (b : Bool) → list ≡ kept →
    IsComponent c node set → HoldsEachOnce c set (pulls ++ kept) →
    length list + 1 ≡ size_below set 63 →
    MatchBool b (JoinAll list node set) (JoinAll list node set → ⊥) → MatchBool b (IsCertificate c node pulls kept) (IsCertificate c node pulls kept → ⊥)
last c node set pulls kept list true e is each count p = record {
  component = set;
  of_node = is;
  each = each;
  count = subst (λ (xs : List Cable). length xs + 1 ≡ size_below set 63) e count;
  join = subst (λ (xs : List Cable). JoinAll xs node set) e p;
}
last c node set pulls kept list false e is each count p = λ k. p (subst (λ (xs : List Cable). JoinAll xs node set) (sym e) (join_of c node set pulls kept is k))

-- another number of cables than the component has nodes, less one
differ : (list kept : List Cable) (size len : ℕ) → list ≡ kept → len ≡ size →
    (length list + 1 ≡ len → ⊥) → length kept + 1 ≡ size → ⊥
differ list kept size len e f ne count = ne (ap (λ (xs : List Cable). length xs + 1) e ∙ count ∙ sym f)

pub returns-then-kept-len : goal.returns-then-kept-len
returns-then-kept-len c k = differ c.as_slice-kept.result.now c.args.advice.now.kept (size_below c.component-component.result 63) c.len.result c.as_slice-kept.ensures c.len.ensures c.if-kept-len.true
    (count_of c.args.cabling.now c.args.node c.component-component.result c.args.advice.now.pulls c.args.advice.now.kept c.component-component.ensures.component k)

pub returns : goal.returns
returns c = last c.args.cabling.now c.args.node c.component-component.result c.args.advice.now.pulls c.args.advice.now.kept c.as_slice-kept.result.now c.join_all.result c.as_slice-kept.ensures c.component-component.ensures.component c.if-not-holds_each_once.ensures (c.if-kept-len.false ∙ c.len.ensures) c.join_all.ensures
