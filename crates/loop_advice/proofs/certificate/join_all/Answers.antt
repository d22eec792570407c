use Rattle.std.proofs.Common.{◌≡◌, ℕ, ◌+◌, ◌<◌, ◌≤◌, length, List, take, get_or, ◌^◌, refl, sym, subst, arith}
use Rattle.std.proofs.lemmas.List.{take_more}
use Rattle.std.proofs.Math.Seq.{take_all}
use Rattle.cabling.specs.declared.cable.Cable.{Cable}
use Rattle.cabling.specs.NodeSet.{Holds}
use Rattle.cabling.proofs.Lemmas.{below}
use Rattle.loop_advice.specs.Cables.{turned, Lists, JoinAll}
use Rattle.loop_advice.specs.codings.Groups.{group, merged}
use Rattle.loop_advice.specs.declared.groups.Groups.{Groups}
use Rattle.loop_advice.proofs.Listed.{read_at, lists_at, lists_take, lists_turned, not_true}
use Rattle.loop_advice.proofs.Grouping.{Grouped, grouped_next, not_joined}
use Rattle.loop_advice.proofs.certificate.join_all.Goals as goal

listed : (xs : List Cable) (i : ℕ) (d : Cable) → i < length xs → Lists xs (get_or xs i d)
listed xs i d h = lists_at xs i (get_or xs i d) (read_at xs i d h)

pub join-requires-clause-a : goal.join-requires-clause-a
join-requires-clause-a c = c.requires.small _ (listed c.args.cables.now c.loop-cable.cable-index _ c.loop-cable-test.true)

pub join-requires-clause-b : goal.join-requires-clause-b
join-requires-clause-b c = c.requires.small _ (lists_turned c.args.cables.now _ (listed c.args.cables.now c.loop-cable.cable-index _ c.loop-cable-test.true))

next : (g after : Groups) (xs : List Cable) (i : ℕ) (d : Cable) → i < length xs →
    ((x : Cable) → Lists xs x → x.a.node < 63) → Grouped g (take i xs) →
    ((node : ℕ) → node < 63 → group after node ≡ merged (group g (get_or xs i d).b.node) (group g (get_or xs i d).a.node) (group g node)) →
    Grouped after (take (i + 1) xs)
next g after xs i d h small k is =
    let small_b : (x : Cable) → Lists xs x → x.b.node < 63 = λ x l. small (turned x) (lists_turned xs x l) in
    let x_in : Lists xs (get_or xs i d) = listed xs i d h in
    subst (λ (zs : List Cable). Grouped after zs) (sym (take_more xs i d h))
    (grouped_next g after (take i xs) (get_or xs i d) (small (get_or xs i d) x_in) (small_b (get_or xs i d) x_in) k
    (λ z l. small z (lists_take xs i z l)) (λ z l. small_b z (lists_take xs i z l)) is)

pub loop-cable-preserved : goal.loop-cable-preserved
loop-cable-preserved c = next c.loop-cable.groups c.join.new.self c.args.cables.now c.loop-cable.cable-index _ c.loop-cable-test.true c.requires.small c.loop-cable.invariant c.join.ensures

all : (g : Groups) (xs : List Cable) (i : ℕ) → length xs ≤ i → Grouped g (take i xs) → Grouped g xs
all g xs i h k = subst (λ (zs : List Cable). Grouped g zs) (take_all i xs h) k

pub returns-then-not-are_joined : goal.returns-then-not-are_joined
returns-then-not-are_joined c joins =
    let done = all c.loop-cable.groups c.args.cables.now c.loop-cable.cable-index c.loop-cable-test.false c.loop-cable.invariant in
    not_joined c.loop-cable.groups c.args.cables.now c.args.node c.loop-other.other done (λ e. not_true (c.if-not-are_joined.ensures.1 e)) (joins c.loop-other.other (c.if-has.ensures.0 refl))

every : (g : Groups) (xs : List Cable) (node set at : ℕ) → node < 63 → set < 2 ^ 63 → 63 ≤ at →
    Grouped g xs → ((k : ℕ) → k < at → Holds set k → group g node ≡ group g k) → JoinAll xs node set
every g xs node set at h small ends k same other in_set = k.joined node other h (below set other small in_set) (same other (omega (arith, below set other small in_set, ends)) in_set)

pub returns : goal.returns
returns c = every c.loop-cable.groups c.args.cables.now c.args.node c.args.set c.loop-other.other c.requires.node c.requires.set c.loop-other-test.false (all c.loop-cable.groups c.args.cables.now c.loop-cable.cable-index c.loop-cable-test.false c.loop-cable.invariant) c.loop-other.invariant
