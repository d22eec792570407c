-- Trees that cables show: how many nodes they have, and that they are bus trees.
use Rattle.std.proofs.Common.{◌≡◌, ℕ, ◌+◌, Option, Some, None, List, [], ◌∷◌, length, refl, ◌∙◌, ap, arith, length-append}
use Rattle.topology_stack.specs.Tree.{Label, Tree, branch, Slots, no_more, absent, unplugged, up, down, walk, walk_below, IsBusTreeOf}
use Rattle.cabling.specs.declared.cable.End.{End}
use Rattle.cabling.specs.Wiring.{Wiring, ports_of}
use Rattle.cabling.specs.Sees.{Sees, SeesFrom, numbers, numbers_below}
use Rattle.cabling.proofs.Lemmas.{labels_fit, bus_seen, Loopless, tree_few}
use Rattle.topology_stack.proofs.Lemmas.{length-walk}
use Rattle.std.proofs.lemmas.List.{length-map}
use Rattle.self_id.specs.declared.standard.Standard.TheVariants.{Ieee2000}
use Rattle.cabling.specs.Labels.{labels}
use Rattle.port_state.specs.Group.{shown_attrs}
use Rattle.port_state.specs.Machine.{PortNode}
use Rattle.cable_world.specs.World.{CableWorld}
use Rattle.cable_world.specs.Lawful.{IsWellFormed}
use Rattle.cable_world.specs.Outcome.{attrs_now}
use Rattle.cable_world.proofs.Lemmas.{attrs-fit}

-- there are as many numbers of nodes as nodes in the walk
mutual
  pub so-many : (c : Wiring) (label : ℕ → Label) (x : ℕ) (fr : Option ℕ) (t : Tree) →
      Sees c label x fr t → length (numbers c x t) ≡ length (walk t)
  so-many c label x fr (branch a s) h = length-append (numbers_below c (ports_of c x) s) (x ∷ []) ∙ omega (arith, so-many-below c label fr 0 (ports_of c x) s h.2, length-walk a s)

  pub so-many-below : (c : Wiring) (label : ℕ → Label) (fr : Option ℕ) (q : ℕ) (row : List (Option End)) (s : Slots) →
      SeesFrom c label fr q row s → length (numbers_below c row s) ≡ length (walk_below s)
  so-many-below c label fr q [] no_more h = refl
  so-many-below c label fr q [] (absent s) h = so-many-below c label fr (q + 1) [] s h
  so-many-below c label fr q (None ∷ row) (unplugged s) h = so-many-below c label fr (q + 1) row s h
  so-many-below c label fr q (Some y ∷ row) (up s) h = so-many-below c label fr (q + 1) row s h.1
  so-many-below c label fr q (Some y ∷ row) (down t s) h =
      length-append (numbers c y.node t) (numbers_below c row s) ∙ omega (arith, so-many c label y.node (Some y.port) t h.1, so-many-below c label fr (q + 1) row s h.2, length-append (walk t) (walk_below s))
  so-many-below c label fr q row s h = absurd h

-- a tree that cables without loop show is a bus tree
pub bus-of :
    (c : Wiring) (u : CableWorld) → IsWellFormed u → u.cabling ≡ c → (root set : ℕ) → Loopless c root set →
    (t : Tree) → Sees c (labels (attrs_now u)) root None t → IsBusTreeOf Ieee2000 t
bus-of c u f same root set l t seen =
    let count : length (attrs_now u) ≡ length c = length-map u.nodes (λ (x : PortNode). shown_attrs x.state) ∙ f.count ∙ ap length same in
    bus_seen c (labels (attrs_now u)) root t l.cabling (labels_fit c (attrs_now u) count (attrs-fit u f)) l.there seen (tree_few c (labels (attrs_now u)) root set t l seen)
