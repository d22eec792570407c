-- Where a reader stands in the quadlets that it keeps. No public contract cites this file.
use Rattle.std.specs.Prelude.{◌≡◌, ℕ, ◌+◌, ◌*◌, ◌<◌, ◌≤◌, true, false, MatchBool, List, [], ◌++◌, length, take, drop, Option, MatchOption}
use Rattle.self_id.specs.declared.fault.GroupFault.TheVariants.{Cut}
use Rattle.self_id.specs.declared.standard.Standard.TheVariants.{Ieee2000}
use Rattle.self_id.specs.Node.{Node, IsNode, IsOf}
use Rattle.self_id.specs.Group.{group}
use Rattle.self_id.specs.Refused.{GroupRefused}
use Rattle.topology_stack.specs.declared.fault.TreeFault.{TreeFault}
use Rattle.topology_stack.specs.declared.reader.Place.{Place}
use Rattle.topology_stack.specs.declared.waiting.Waiting.{Waiting}
use Rattle.topology_stack.specs.Tree.{Tree, IsBusTreeOf, emits, walk}
use Rattle.topology_stack.specs.Forest.{Forest, walks}

-- a bus tree emits the list, and it has so many nodes
pub record IsWholeTree (front : List ℕ) (nodes : ℕ) : Type 0 where
  pub tree : Tree
  pub bus : IsBusTreeOf Ieee2000 tree
  pub emitted : front ≡ emits tree
  pub count : nodes ≡ length (walk tree)

-- trees that wait emit the list, so many, and they have so many nodes
pub record IsWaiting (front : List ℕ) (trees nodes : ℕ) : Type 0 where
  pub wait : List Tree
  pub forest : Forest Ieee2000 wait front
  pub count : trees ≡ length wait
  pub nodes_are : nodes ≡ length (walks wait)

abbrev pub IsTreeOrWaiting : List ℕ → ℕ → Waiting → Type 0
IsTreeOrWaiting front nodes w =
    MatchBool w.rooted (IsWholeTree front nodes) (IsWaiting front w.trees nodes)

-- what holds of each place: the groups of so many nodes stand before it
pub record IsPlace (quads : List ℕ) (p : Place) : Type 0 where
  pub room : p.at ≤ 3 * p.nodes
  pub few : p.nodes ≤ 63
  pub trees : p.waiting.trees ≤ p.nodes
  pub read : IsTreeOrWaiting (take p.at quads) p.nodes p.waiting

-- and from it on are the first packets of the next node's group, one or two of three, or none
pub record StandsAtEnd (quads : List ℕ) (p : Place) : Type 0 where
  pub place : IsPlace quads p
  pub inside : p.at ≤ length quads
  pub short : length quads ≤ p.at + 2
  pub full : p.nodes ≡ 63 → p.at ≡ length quads
  pub over : p.waiting.rooted ≡ true → p.at ≡ length quads
  pub cut : p.at < length quads → GroupRefused Ieee2000 p.at p.nodes (drop p.at quads) (Cut (length quads))

-- and from it on are the packets of a group of the next node, which may end with the last of them
pub record GroupMayEnd (quads : List ℕ) (p : Place) : Type 0 where
  pub place : IsPlace quads p
  pub some : p.at < length quads
  pub short : length quads ≤ p.at + 3
  pub room : p.nodes ≤ 62
  pub open_ : p.waiting.rooted ≡ false
  pub last : (n : Node) (rest : List ℕ) → IsNode n → IsOf Ieee2000 n →
      drop p.at quads ≡ group n p.nodes ++ rest → rest ≡ []

-- where a fault was found no place is kept
abbrev pub IsPlaced : List ℕ → Place → Option TreeFault → Type 0
IsPlaced quads p fault = MatchOption fault (StandsAtEnd quads p) (λ f. Unit {0})
