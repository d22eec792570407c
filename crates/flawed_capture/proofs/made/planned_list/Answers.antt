use Rattle.std.proofs.Common.{◌≡◌, ◌++◌, ℕ, List, length, ap, subst, ◌∙◌, refl, arith}
use Rattle.std.proofs.lemmas.List.{length-append}
use Rattle.flawed_capture.specs.SeededBus.{Made, first_nodes}
use Rattle.flawed_capture.proofs.Seeded.{one_more, nodes_more}
use Rattle.flawed_capture.proofs.made.planned_list.Goals as goal

pub loop-id-init : goal.loop-id-init
loop-id-init c = record {
  waiting = omega arith;
  few = omega (arith, ap length c.new-list.ensures);
  list = c.new-list.ensures;
  trees = refl;
  words = refl;
}

pub made_group-requires-clause-children : goal.made_group-requires-clause-children
made_group-requires-clause-children c =
    omega (arith, c.children-children.ensures.few, c.loop-id.invariant.waiting, c.loop-id-test.true, c.requires.nodes)

pub overflow_add-waiting : goal.overflow_add-waiting
overflow_add-waiting c = omega (arith, c.loop-id.invariant.waiting, c.loop-id-test.true, c.requires.nodes)

pub loop-id-preserved : goal.loop-id-preserved
loop-id-preserved c =
    let before = first_nodes c.args.plan c.args.words.now c.loop-id.id in
    let longer = c.in_ok-extend_from_slice.ensures.ok ∙ ap (λ (l : List ℕ). c.loop-id.list ++ l) c.as_slice.ensures.value in
    let more = one_more c.args.plan c.loop-id.id c.loop-id.waiting c.children-children.result _
    c.loop-id.words c.children-children.new.words c.made_group.new.words c.loop-id.list _ c.extend_from_slice.new.self before
    refl c.loop-id.invariant.list c.loop-id.invariant.trees c.loop-id.invariant.words
    c.children-children.ensures.value c.children-children.ensures.words
    c.in_ok-group.ensures.group c.in_ok-group.ensures.words longer in
    let next = nodes_more c.args.plan c.args.words.now c.loop-id.id in
    record {
      waiting = omega (arith, c.loop-id.invariant.waiting, c.children-children.ensures.few);
      few = omega (arith, c.loop-id.invariant.few, ap length longer, length-append c.loop-id.list c.in_ok-group.group, c.as_slice.ensures.few, ap length c.as_slice.ensures.value);
      list = more.0 ∙ ap (λ (m : Made). m.list) next;
      trees = more.1 ∙ ap (λ (m : Made). m.waiting) next;
      words = more.2 ∙ ap (λ (m : Made). m.words) next;
    }

pub returns-clause-few : goal.returns-clause-few
returns-clause-few c = omega (arith, c.loop-id.invariant.few, c.loop-id-test.false, c.loop-id.auto.id-end, c.requires.nodes)

pub returns-clause-list : goal.returns-clause-list
returns-clause-list c =
    let done : c.loop-id.id ≡ c.args.plan.nodes = omega (arith, c.loop-id-test.false, c.loop-id.auto.id-end) in
    subst (λ (n : ℕ). c.loop-id.list ≡ (first_nodes c.args.plan c.args.words.now n).list) done c.loop-id.invariant.list

pub returns-clause-words : goal.returns-clause-words
returns-clause-words c =
    let done : c.loop-id.id ≡ c.args.plan.nodes = omega (arith, c.loop-id-test.false, c.loop-id.auto.id-end) in
    subst (λ (n : ℕ). c.loop-id.words ≡ (first_nodes c.args.plan c.args.words.now n).words) done c.loop-id.invariant.words
