-- How deep the value of changes nests.
use Rattle.std.proofs.Common.{ℕ, ◌≤◌, Option, Some, None, List, [], ◌∷◌, arith}
use Rattle.view_text.specs.declared.cable.Cable.{Cable}
use Rattle.bus_diff.specs.declared.change.Change.{Change}
use Rattle.bus_diff.specs.declared.change.Change.TheVariants.{Went, Came, Moved, Value, Root, Manager}
use Rattle.bus_diff.specs.declared.change.Quality.{Quality}
use Rattle.bus_diff.specs.declared.change.Quality.TheVariants.{Link, Gap, Speed, Contender, Power}
use Rattle.json.specs.Json.{max_depth}
use Rattle.json.specs.Tree.{depth, items_depth}
use Rattle.bus_json.specs.Bus.{manager_value}
use Rattle.diff_json.specs.Changes.{place_value, quality_value, change_value, change_items, changes_value}

place_shallow : (c : Option Cable) → depth (place_value c) ≤ 1
place_shallow None = omega arith
place_shallow (Some c) = omega arith

quality_shallow : (q : Quality) (n : ℕ) → depth (quality_value q n) ≤ 0
quality_shallow Link n = omega arith
quality_shallow Gap n = omega arith
quality_shallow Speed n = omega arith
quality_shallow Contender n = omega arith
quality_shallow Power n = omega arith

manager_shallow : (m : Option ℕ) → depth (manager_value m) ≤ 0
manager_shallow None = omega arith
manager_shallow (Some id) = omega arith

change_shallow : (change : Change) → depth (change_value change) ≤ 2
change_shallow (Went id c) = omega (arith, place_shallow c)
change_shallow (Came id c) = omega (arith, place_shallow c)
change_shallow (Moved p c d) = omega (arith, place_shallow c, place_shallow d)
change_shallow (Value p q m n) = omega (arith, quality_shallow q m, quality_shallow q n)
change_shallow (Root m n) = omega arith
change_shallow (Manager m n) = omega (arith, manager_shallow m, manager_shallow n)

items_shallow : (changes : List Change) → items_depth (change_items changes) ≤ 2
items_shallow [] = omega arith
items_shallow (change ∷ changes) = omega (arith, change_shallow change, items_shallow changes)

pub changes_shallow : (changes : List Change) → depth (changes_value changes) ≤ max_depth
changes_shallow changes = omega (arith, items_shallow changes)
