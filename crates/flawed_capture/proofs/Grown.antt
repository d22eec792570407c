-- The list that a seed makes is that of a bus: the trees that wait grow node by node, and the root takes them all.
use Rattle.std.proofs.Common.{◌≡◌, ℕ, zero, suc, ◌+◌, ◌-◌, ◌<◌, ◌≤◌, ◌==◌, min, max, nat_lt, Bool, true, false, List, [], ◌∷◌, ◌++◌, length, if◌then◌else◌, refl, ap, subst, sym, ◌∙◌, append_assoc, arith, length-append}
use Rattle.std.proofs.lemmas.Bool.{eq-eqb, ne_eqb, ltb-true, ltb-false}
use Rattle.rand_pcg.specs.Lcg.{Lcg}
use Rattle.self_id.specs.declared.node.PortStatus.{PortStatus}
use Rattle.self_id.specs.declared.standard.Standard.{Standard}
use Rattle.self_id.specs.declared.standard.Standard.TheVariants.{Ieee1995, Ieee2000}
use Rattle.self_id.specs.Node.{Node, IsNode, node_with, ups, downs}
use Rattle.self_id.specs.Group.{group}
use Rattle.topology_stack.specs.Tree.{Label, Tree, Slots as TreeSlots, branch, statuses, node_of, walk, AreParts, AreOf, groups}
use Rattle.topology_stack.specs.Forest.{AreWaiting, walks, Forest}
use Rattle.topology_stack.proofs.Lemmas.{groups-snoc}
use Rattle.flawed_capture.specs.declared.made.Plan.{Plan}
use Rattle.flawed_capture.specs.declared.made.Shape.{Shape}
use Rattle.flawed_capture.specs.declared.made.Shape.TheVariants.{Line, Star, Hubs, Random}
use Rattle.flawed_capture.specs.Draws.{word, behind}
use Rattle.flawed_capture.specs.SeededNode.{Slots, most_slots, slots_of, attrs_by, group_by}
use Rattle.flawed_capture.specs.SeededBus.{Made, wanted_children, children_by, with_node_if, with_node, first_nodes, plan_by, made_by}
use Rattle.flawed_capture.specs.Spoilt.{IsListOfBus}
use Rattle.flawed_capture.proofs.Filled.{Full, full, is_node, is_shown}
use Rattle.flawed_capture.proofs.Rootless.{of-snoc}
use Rattle.flawed_capture.proofs.Waiting.{walk_all, fill, statuses-fill, walk-fill, parts-fill, latest}

-- ---- a node takes the latest trees

record Hung (ts : List Tree) (n : Node) : Type 0 where
  label : Label
  slots : TreeSlots
  us : List Tree
  same : node_of label slots ≡ n
  statuses_are : statuses slots ≡ n.ports
  all : walks us ++ walk (branch label slots) ≡ walks ts ++ n ∷ []
  parts : AreParts slots
  rest : AreWaiting us
  count : length us + downs n.ports ≡ length ts

hung : (ts : List Tree) (n : Node) → AreWaiting ts → downs n.ports ≤ length ts → Hung ts n
hung ts n h enough =
    let k = latest (downs n.ports) ts h enough in
    let s : TreeSlots = fill n.ports k.taken in
    let label : Label = record { attrs = n.attrs; kept_a = n.kept_a; kept_b = n.kept_b } in
    let slots_are : statuses s ≡ n.ports = statuses-fill n.ports k.taken k.many in
    let same : node_of label s ≡ n = ap (λ (ps : List PortStatus). node_with n.attrs ps n.kept_a n.kept_b) slots_are in
    record {
      label = label;
      slots = s;
      us = k.before;
      same = same;
      statuses_are = slots_are;
      all =
          ap (λ (ns : List Node). walks k.before ++ (ns ++ node_of label s ∷ [])) (walk-fill n.ports k.taken k.many)
          ∙ sym (append_assoc (walks k.before) (walk_all k.taken) (node_of label s ∷ []))
          ∙ ap (λ (ns : List Node). ns ++ node_of label s ∷ []) (sym k.walked)
          ∙ ap (λ (m : Node). walks ts ++ m ∷ []) same;
      parts = parts-fill n.ports k.taken k.waiting;
      rest = k.rest;
      count = k.left;
    }

no_trees : (us : List Tree) → length us ≡ 0 → walks us ≡ []
no_trees [] e = refl
no_trees (u ∷ us) e = absurd (omega (arith, e))

-- ---- how many it takes

record Takes (waiting most children : ℕ) : Type 0 where
  there : children ≤ waiting
  few : children + 1 ≤ most
  room : waiting + 1 - children ≤ most

wanted_few : (shape : Shape) (waiting most w : ℕ) → 16 ≤ most → wanted_children shape waiting most w ≤ most - 1
wanted_few Line waiting most w many = omega (arith, many)
wanted_few Star waiting most w many = omega arith
wanted_few Hubs waiting most w many = by (nat_lt waiting (most - 1)) refl
  where
    by : (b : Bool) → nat_lt waiting (most - 1) ≡ b → (if b then 0 else most - 1) ≤ most - 1
    by true e = omega arith
    by false e = omega arith
wanted_few Random waiting most w many = omega (arith, many)

takes : (shape : Shape) (waiting most w : ℕ) → 16 ≤ most → waiting ≤ most → Takes waiting most (children_by shape waiting most w)
unfolding children_by
takes shape waiting most w many few = by (nat_lt waiting most) refl
  where
    bound : wanted_children shape waiting most w ≤ most - 1
    bound = wanted_few shape waiting most w many

    by : (b : Bool) → nat_lt waiting most ≡ b →
        Takes waiting most (min (max (wanted_children shape waiting most w) (if b then 0 else 1)) waiting)
    by true e =
        let less : waiting < most = ltb-true waiting most e in
        record { there = omega arith; few = omega (arith, bound, many); room = omega (arith, less) }
    by false e =
        let full_up : most ≤ waiting = ltb-false waiting most e in
        record { there = omega arith; few = omega (arith, bound, many); room = omega (arith, full_up, few, many) }

-- ---- node by node

record Grown (plan : Plan) (n : ℕ) (m : Made) : Type 0 where
  ts : List Tree
  forest : Forest plan.standard ts m.list
  count : length ts ≡ m.waiting
  nodes : length (walks ts) ≡ n
  few : m.waiting ≤ most_slots plan.standard

many_slots : (standard : Standard) → 16 ≤ most_slots standard
many_slots Ieee1995 = omega arith
many_slots Ieee2000 = omega arith

-- the node that is added, and its packets
abbrev the_node : Plan → Slots → Node
the_node plan slots = node_with (attrs_by plan.gap (word slots.words)) slots.slots 0 0

added : (plan : Plan) (id children : ℕ) (is_root : Bool) (slots : Slots) → plan.gap < 64 →
    Full plan.standard children is_root slots.slots →
    IsNode (the_node plan slots) × (group_by plan.gap id slots ≡ group (the_node plan slots) id)
unfolding group_by
added plan id children is_root slots small f =
    let is = is_node plan.standard children plan.gap (word slots.words) is_root slots.slots small f in
    (is, is_shown (attrs_by plan.gap (word slots.words)) slots.slots id is)

one_grown : (plan : Plan) (n : ℕ) (m : Made) → plan.gap < 64 → Grown plan n m → Grown plan (n + 1) (with_node_if plan n false m)
one_grown plan n m small h =
    let most : ℕ = most_slots plan.standard in
    let children : ℕ = children_by plan.shape m.waiting most (word m.words) in
    let t = takes plan.shape m.waiting most (word m.words) (many_slots plan.standard) h.few in
    let slots : Slots = slots_of plan.standard children false (behind m.words) in
    let f = full plan.standard children false (behind m.words) t.few in
    let node : Node = the_node plan slots in
    let own = added plan n children false slots small f in
    let hang = hung h.ts node h.forest.waiting (omega (arith, f.downs_are, t.there, h.count)) in
    let up_is : ups (statuses hang.slots) ≡ 1 = ap ups hang.statuses_are ∙ f.ups_are in
    record {
      ts = branch hang.label hang.slots ∷ hang.us;
      forest = record {
        waiting = ((subst IsNode (sym hang.same) own.0, up_is, hang.parts), hang.rest);
        are_of = subst (AreOf plan.standard) (sym hang.all) (of-snoc plan.standard (walks h.ts) node h.forest.are_of f.of);
        emitted =
            ap (λ (l : List ℕ). l ++ group_by plan.gap n slots) h.forest.emitted
            ∙ ap (λ (l : List ℕ). groups 0 (walks h.ts) ++ l) (own.1 ∙ ap (group node) (sym h.nodes))
            ∙ sym (groups-snoc (walks h.ts) node)
            ∙ ap (groups 0) (sym hang.all);
      };
      count = omega (arith, hang.count, h.count, f.downs_are);
      nodes = omega (arith, ap length hang.all, length-append (walks h.ts) (node ∷ []), h.nodes);
      few = t.room;
    }

grown : (plan : Plan) (g : Lcg) → plan.gap < 64 → (n : ℕ) → n < plan.nodes → Grown plan n (first_nodes plan g n)
unfolding with_node
grown plan g small zero inside = record {
  ts = [];
  forest = record { waiting = tt; are_of = tt; emitted = refl };
  count = refl;
  nodes = refl;
  few = omega arith;
}
grown plan g small (suc n) inside =
    let m = first_nodes plan g n in
    let h = grown plan g small n (omega (arith, inside)) in
    let other : (n + 1 == plan.nodes) ≡ false = ne_eqb (n + 1) plan.nodes (λ e. omega (arith, e, inside)) in
    let next : n + 1 ≡ suc n = omega arith in
    subst (λ (k : ℕ). Grown plan k (with_node plan n m)) next
    (subst (λ (b : Bool). Grown plan (n + 1) (with_node_if plan n b m)) (sym other) (one_grown plan n m small h))

-- ---- the root

rooted : (plan : Plan) (n : ℕ) (m : Made) → plan.gap < 64 → n ≤ 62 → Grown plan n m →
    IsListOfBus plan.standard (n + 1) (with_node_if plan n true m).list
rooted plan n m small inside h =
    let slots : Slots = slots_of plan.standard m.waiting true m.words in
    let f = full plan.standard m.waiting true m.words (omega (arith, h.few)) in
    let node : Node = the_node plan slots in
    let own = added plan n m.waiting true slots small f in
    let hang = hung h.ts node h.forest.waiting (omega (arith, f.downs_are, h.count)) in
    let up_is : ups (statuses hang.slots) ≡ 0 = ap ups hang.statuses_are ∙ f.ups_are in
    let none : walks hang.us ≡ [] = no_trees hang.us (omega (arith, hang.count, f.downs_are, h.count)) in
    let t : Tree = branch hang.label hang.slots in
    let walked : walk t ≡ walks h.ts ++ node ∷ [] = ap (λ (ns : List Node). ns ++ walk t) (sym none) ∙ hang.all in
    let long : length (walk t) ≡ n + 1 = omega (arith, ap length walked, length-append (walks h.ts) (node ∷ []), h.nodes) in
    let of : AreOf plan.standard (walk t) = subst (AreOf plan.standard) (sym walked) (of-snoc plan.standard (walks h.ts) node h.forest.are_of f.of) in
    record {
      t = t;
      bus = record {
        bus = record {
          whole = (subst IsNode (sym hang.same) own.0, up_is, hang.parts);
          small = omega (arith, long, inside);
          one_standard = (plan.standard, of);
        };
        nodes = of;
      };
      count = long;
      emitted =
          ap (groups 0) walked
          ∙ groups-snoc (walks h.ts) node
          ∙ sym (ap (λ (l : List ℕ). l ++ group_by plan.gap n slots) h.forest.emitted
          ∙ ap (λ (l : List ℕ). groups 0 (walks h.ts) ++ l) (own.1 ∙ ap (group node) (sym h.nodes)));
    }

of_plan : (plan : Plan) (g : Lcg) (n : ℕ) → plan.gap < 64 → n ≤ 62 → plan.nodes ≡ suc n →
    IsListOfBus plan.standard (n + 1) (first_nodes plan g (suc n)).list
unfolding with_node
of_plan plan g n small inside e =
    let m = first_nodes plan g n in
    let last : (n + 1 == plan.nodes) ≡ true = eq-eqb (n + 1) plan.nodes (omega (arith, e)) in
    subst (λ (b : Bool). IsListOfBus plan.standard (n + 1) (with_node_if plan n b m).list) (sym last)
    (rooted plan n m small inside (grown plan g small n (omega (arith, e))))

-- what the words make of 1 to 63 nodes is the list of a bus
pub of_bus : (standard : Standard) (nodes : ℕ) (g : Lcg) → 1 ≤ nodes → nodes ≤ 63 →
    IsListOfBus standard nodes (made_by standard nodes g).list
unfolding made_by
of_bus standard zero g some few = absurd (omega (arith, some))
of_bus standard (suc n) g some few =
    let plan = plan_by standard (suc n) (word g) (word (behind g)) in
    let next : n + 1 ≡ suc n = omega arith in
    subst (λ (k : ℕ). IsListOfBus standard k (first_nodes plan (behind (behind g)) (suc n)).list) next
    (of_plan plan (behind (behind g)) n (omega arith) (omega (arith, few)) refl)
