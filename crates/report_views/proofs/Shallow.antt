-- The value of a report nests a few levels deep, so its line is read back.
use Rattle.std.proofs.Common.{◌≡◌, ℕ, zero, suc, ◌+◌, ◌≤◌, Bool, true, false, List, [], ◌∷◌, sym, subst, arith}
use Rattle.std.specs.Prelude.{◌==◌, codes}
use Rattle.std.specs.Int.{bit_at}
use Rattle.json.specs.Json.{Items, Members, object, no_members, member, max_depth}
use Rattle.json.specs.Tree.{depth, items_depth, members_depth}
use Rattle.cabling.specs.NodeSet.{Nodes}
use Rattle.bus_json.specs.Bus.{tree_members}
use Rattle.bus_json.proofs.Lemmas.{tree_shallow}
use Rattle.settle.specs.declared.report.Outcome.{Outcome}
use Rattle.settle.specs.declared.report.Outcome.TheVariants as reported
use Rattle.settle.specs.declared.report.Part.{Part}
use Rattle.script_text.specs.ReportText.{Names, name_of, names_in}
use Rattle.report_views.specs.ReportJson.{held_item, names_from, set_names, contention_member, loop_member, IsOutcomeMember, component_value, AreComponents, report_value}

-- ---- names

held_flat : (held : Bool) (name : List ℕ) (rest : Items) → items_depth (held_item held name rest) ≤ items_depth rest
held_flat false name rest = omega arith
held_flat true name rest = omega arith

names_flat : (names : Names) (set : Nodes) (node count : ℕ) → items_depth (names_from names set node count) ≤ 0
names_flat names set node zero = omega arith
names_flat names set node (suc count) =
    omega (arith, held_flat (bit_at set node == 1) (name_of names node) (names_from names set (node + 1) count), names_flat names set (node + 1) count)

set_flat : (names : Names) (set : Nodes) → items_depth (set_names names set) ≤ 0
unfolding set_names
set_flat names set = names_flat names set 0 63

-- ---- components

outcome_shallow : (names : Names) (o : Outcome) (members : Members) → IsOutcomeMember names o members →
    members_depth members ≤ 5
outcome_shallow names (reported.Tree root list order) members h =
    subst (λ (m : Members). members_depth m ≤ 5) (sym h.is) (omega (arith, tree_shallow (names_in names order) h.tree))
outcome_shallow names (reported.Contention a b) members h =
    subst (λ (m : Members). members_depth m ≤ 5) (sym h) (omega arith)
outcome_shallow names (reported.Loop core) members h =
    subst (λ (m : Members). members_depth m ≤ 5) (sym h) (omega (arith, set_flat names core))

components_shallow : (names : Names) (parts : List Part) (items : Items) → AreComponents names parts items →
    items_depth items ≤ 6
components_shallow names [] items h = subst (λ (js : Items). items_depth js ≤ 6) (sym h) (omega arith)
components_shallow names (part ∷ parts) items h =
    subst (λ (js : Items). items_depth js ≤ 6) (sym h.4)
    (omega (arith, set_flat names part.nodes, outcome_shallow names part.outcome h.0 h.2, components_shallow names parts h.1 h.3))

-- ---- reports

pub report_shallow : (names : Names) (parts : List Part) (items : Items) (number turn : ℕ) → AreComponents names parts items →
    depth (report_value number turn items) ≤ max_depth
report_shallow names parts items number turn h = omega (arith, components_shallow names parts items h)
