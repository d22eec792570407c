use Rattle.std.proofs.Common.{◌∙◌, None, sym, arith}
use Rattle.cabling.specs.declared.visits.Visit.{Visit}
use Rattle.cabling.specs.Labels.{labels}
use Rattle.cabling.proofs.Cores.{core_within}
use Rattle.cabling.proofs.Emitted.{Listed, good_item, item_node, tree_is_bus, list_is, read_seen, no_fault}
use Rattle.cabling.proofs.wiring.Cabling.tree_from.Goals as goal

abbrev none : Visit
none = record { node = 0; from = None }

pub bounds-attrs-visit : goal.bounds-attrs-visit
bounds-attrs-visit c =
    let l : Listed c.args.self.now c.args.attrs.now c.args.root c.as_slice-visit-items.result.now =
    record {
      cabling = c.cables_are_two_ended.ensures;
      there = c.requires.root;
      entries = c.requires.entries;
      valid = c.requires.valid;
      small = c.core_of-core.ensures.small_trees (c.is_empty.ensures.0 c.if-not-is_empty.false) (labels c.args.attrs.now);
      items_are = c.as_slice-visit-items.ensures.value ∙ c.visits-visits.ensures (labels c.args.attrs.now) (c.core_of-core.ensures.small_trees (c.is_empty.ensures.0 c.if-not-is_empty.false) (labels c.args.attrs.now)).tree (c.core_of-core.ensures.small_trees (c.is_empty.ensures.0 c.if-not-is_empty.false) (labels c.args.attrs.now)).seen;
    } in
    omega (arith, c.requires.entries, (good_item c.args.self.now c.args.attrs.now c.args.root c.as_slice-visit-items.result.now c.loop-id.id none l c.loop-id-test.true).there)

pub slots-requires : goal.slots-requires
slots-requires c =
    let l : Listed c.args.self.now c.args.attrs.now c.args.root c.as_slice-visit-items.result.now =
    record {
      cabling = c.cables_are_two_ended.ensures;
      there = c.requires.root;
      entries = c.requires.entries;
      valid = c.requires.valid;
      small = c.core_of-core.ensures.small_trees (c.is_empty.ensures.0 c.if-not-is_empty.false) (labels c.args.attrs.now);
      items_are = c.as_slice-visit-items.ensures.value ∙ c.visits-visits.ensures (labels c.args.attrs.now) (c.core_of-core.ensures.small_trees (c.is_empty.ensures.0 c.if-not-is_empty.false) (labels c.args.attrs.now)).tree (c.core_of-core.ensures.small_trees (c.is_empty.ensures.0 c.if-not-is_empty.false) (labels c.args.attrs.now)).seen;
    } in
    (good_item c.args.self.now c.args.attrs.now c.args.root c.as_slice-visit-items.result.now c.loop-id.id none l c.loop-id-test.true).there

pub new-node-requires : goal.new-node-requires
new-node-requires c =
    let l : Listed c.args.self.now c.args.attrs.now c.args.root c.as_slice-visit-items.result.now =
    record {
      cabling = c.cables_are_two_ended.ensures;
      there = c.requires.root;
      entries = c.requires.entries;
      valid = c.requires.valid;
      small = c.core_of-core.ensures.small_trees (c.is_empty.ensures.0 c.if-not-is_empty.false) (labels c.args.attrs.now);
      items_are = c.as_slice-visit-items.ensures.value ∙ c.visits-visits.ensures (labels c.args.attrs.now) (c.core_of-core.ensures.small_trees (c.is_empty.ensures.0 c.if-not-is_empty.false) (labels c.args.attrs.now)).tree (c.core_of-core.ensures.small_trees (c.is_empty.ensures.0 c.if-not-is_empty.false) (labels c.args.attrs.now)).seen;
    } in
    rw (c.as_slice.ensures.value, c.slots.ensures) (item_node c.args.self.now c.args.attrs.now c.args.root c.as_slice-visit-items.result.now c.loop-id.id none l c.loop-id-test.true)

pub returns-in-Ok-clause-tree : goal.returns-in-Ok-clause-tree
returns-in-Ok-clause-tree c =
    let l : Listed c.args.self.now c.args.attrs.now c.args.root c.as_slice-visit-items.result.now =
    record {
      cabling = c.cables_are_two_ended.ensures;
      there = c.requires.root;
      entries = c.requires.entries;
      valid = c.requires.valid;
      small = c.core_of-core.ensures.small_trees (c.is_empty.ensures.0 c.if-not-is_empty.false) (labels c.args.attrs.now);
      items_are = c.as_slice-visit-items.ensures.value ∙ c.visits-visits.ensures (labels c.args.attrs.now) (c.core_of-core.ensures.small_trees (c.is_empty.ensures.0 c.if-not-is_empty.false) (labels c.args.attrs.now)).tree (c.core_of-core.ensures.small_trees (c.is_empty.ensures.0 c.if-not-is_empty.false) (labels c.args.attrs.now)).seen;
    } in
    read_seen c.args.self.now c.args.attrs.now c.args.root c.as_slice-visit-items.result.now c.in-Ok.tree l
    (c.in-Ok.ensures.only l.small.tree (tree_is_bus c.args.self.now c.args.attrs.now c.args.root c.as_slice-visit-items.result.now l) (list_is c.args.self.now c.args.attrs.now c.args.root c.as_slice-visit-items.result.now c.loop-id.id c.loop-id.quads l c.loop-id-test.false c.loop-id.invariant ∙ sym c.as_slice-2.ensures))

pub returns-in-Ok-clause-bus : goal.returns-in-Ok-clause-bus
returns-in-Ok-clause-bus c = c.in-Ok.ensures.found.0

pub returns-in-Ok-clause-acyclic : goal.returns-in-Ok-clause-acyclic
returns-in-Ok-clause-acyclic c = λ core is x h. c.is_empty.ensures.0 c.if-not-is_empty.false x (core_within c.args.self.now c.args.root core c.core_of-core.result is c.core_of-core.ensures.core x h)

pub unreachable-requires : goal.unreachable-requires
unreachable-requires c =
    let l : Listed c.args.self.now c.args.attrs.now c.args.root c.as_slice-visit-items.result.now =
    record {
      cabling = c.cables_are_two_ended.ensures;
      there = c.requires.root;
      entries = c.requires.entries;
      valid = c.requires.valid;
      small = c.core_of-core.ensures.small_trees (c.is_empty.ensures.0 c.if-not-is_empty.false) (labels c.args.attrs.now);
      items_are = c.as_slice-visit-items.ensures.value ∙ c.visits-visits.ensures (labels c.args.attrs.now) (c.core_of-core.ensures.small_trees (c.is_empty.ensures.0 c.if-not-is_empty.false) (labels c.args.attrs.now)).tree (c.core_of-core.ensures.small_trees (c.is_empty.ensures.0 c.if-not-is_empty.false) (labels c.args.attrs.now)).seen;
    } in
    no_fault c.read_tree.result c.in-Err-Fault.field-0 c.in-Err-Fault.field-0-0 l.small.tree c.in-Err-Fault.is c.in-Err-Fault.field-0-is
    (c.read_tree.ensures.only l.small.tree (tree_is_bus c.args.self.now c.args.attrs.now c.args.root c.as_slice-visit-items.result.now l) (list_is c.args.self.now c.args.attrs.now c.args.root c.as_slice-visit-items.result.now c.loop-id.id c.loop-id.quads l c.loop-id-test.false c.loop-id.invariant ∙ sym c.as_slice-2.ensures))
