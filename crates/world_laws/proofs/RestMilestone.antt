-- Trees come to rest 315 seen_turns after tree identify is over.
use Rattle.std.proofs.Common.{◌≡◌, ◌⊎◌, inl, inr, ℕ, ◌+◌, ◌-◌, ◌*◌, ◌^◌, ◌<◌, ◌≤◌, length, sym, ◌∙◌, ap, subst, arith}
use Rattle.std.proofs.lemmas.Option.{slice_get_within}
use Rattle.cabling.specs.Wiring.{Wiring}
use Rattle.cabling.specs.NodeSet.{Holds, IsEmpty}
use Rattle.cabling.specs.Component.{IsComponent}
use Rattle.cabling.specs.Looped.{IsCore}
use Rattle.cabling.specs.Sees.{numbers}
use Rattle.cabling.proofs.Lemmas.{plugged, shared}
use Rattle.cable_world.specs.World.{CableWorld}
use Rattle.cable_world.specs.Quiet.{HoldSchedule, holds_after, quiet_after}
use Rattle.cable_world.specs.Lawful.{IsLawful}
use Rattle.cable_world.specs.Outcome.{IsTree}
use Rattle.cable_world.proofs.Lemmas.{quiet-then, quiet-lawful, quiet-comes, after-cabling, comes-lawful}
use Rattle.convergence.specs.Kept.{IsGrown}
use Rattle.convergence.specs.Milestones.{AreIdentifying, HasContention}
use Rattle.convergence.proofs.Lemmas.{taken-reached, decided-reached, start-grown, grown-of, contention-after}
use Rattle.outcomes.specs.Numbered.{Settles, IsAtRest}
use Rattle.outcomes.proofs.Lemmas.{tree-soon, comes-numbering, quiet-numbering, tree-rests, room-to-rest}
use Rattle.world_laws.specs.RestMilestone.{IsDecided, TreesRestOnceDecided, TreesRestByThen}
use Rattle.world_laws.proofs.SmallSets.{small-component}
use Rattle.convergence.specs.Turns.{seen_turns}

module _
    (hs : HoldSchedule) (w : CableWorld) (j k : ℕ) (is : IsDecided hs w k)
    (late : 315 * seen_turns w ≤ j) (node set core : ℕ)
    (comp : IsComponent (quiet_after hs (k + j) w).cabling node set)
    (is_core : IsCore (quiet_after hs (k + j) w).cabling set core) where
  abbrev later : ℕ → CableWorld
  later i = quiet_after hs i w

  lawful : IsLawful w
  lawful = comes-lawful w is.comes

  v-lawful : IsLawful (later (k + j))
  v-lawful = quiet-lawful hs (k + j) w lawful

  u-lawful : IsLawful (later k)
  u-lawful = quiet-lawful hs k w lawful

  cables : (later (k + j)).cabling ≡ (later k).cabling
  cables = after-cabling hs (k + j) w ∙ sym (after-cabling hs k w)

  comp-then : (n : ℕ) → IsComponent (later (k + j)).cabling n set →
      IsComponent (later k).cabling n set
  comp-then n c = subst (λ (d : Wiring). IsComponent d n set) cables c

  core-then : IsCore (later k).cabling set core
  core-then = subst (λ (d : Wiring). IsCore d set core) cables is_core

  -- a component of which node number n is there, all of whose nodes identified themselves
  rest-from :
      AreIdentifying (later k) set → (n : ℕ) → Holds set n →
      n < length (later (k + j)).cabling → IsAtRest (later (k + j)) set
  rest-from all n inside less =
      let whole : IsComponent (later (k + j)).cabling n set = shared (later (k + j)).cabling node n set v-lawful.well_formed.cabling comp inside in
      let small : set < 2 ^ 63 = small-component (later (k + j)).cabling n set v-lawful.well_formed.cabling less whole in
      let here : n < length (later k).nodes = omega (arith, less, ap length cables, u-lawful.well_formed.count) in
      let s : Settles (later k) set core = (quiet-numbering hs k w lawful (comes-numbering w is.comes)).walks n set core here (comp-then n whole) core-then small all in
      let few : 5 * length (numbers (later k).cabling s.root s.tree) * seen_turns w ≤ j = omega (arith, late, room-to-rest (length (numbers (later k).cabling s.root s.tree)) (seen_turns w) s.is.walk.few) in
      let tree : IsTree (later (k + j)) set s.root s.tree = tree-soon hs w is.comes k is.over set core s.root s.tree s.is j few in
      tree-rests (later (k + j)) (quiet-comes hs (k + j) w is.comes) n set whole small s.root s.tree tree

  rests : AreIdentifying (later k) set → IsAtRest (later (k + j)) set
  rests all = record {
    ready = λ n x inside at.
        (rest-from all n inside (omega (arith, slice_get_within (later (k + j)).nodes n x at, v-lawful.well_formed.count))).ready n x inside at;
    silent = λ a b inside joined.
        (rest-from all a.node inside (plugged (later (k + j)).cabling a b joined).node).silent a b inside joined;
  }

  contends : IsEmpty core → HasContention (later k) set →
      HasContention (later (k + j)) set
  contends empty h =
      subst (λ (u : CableWorld). HasContention u set) (sym (quiet-then hs k j w))
      (contention-after (holds_after k hs) (later k) set (grown-of (later k) node set core is.grown (comp-then node comp) core-then empty) j h)

  pub rest-or-contend :
      IsEmpty core → IsAtRest (later (k + j)) set ⊎ HasContention (later (k + j)) set
  rest-or-contend empty = elim (is.decided node set core (comp-then node comp) core-then empty) [
    | inl all ↦ inl (rests all)
    | inr h ↦ inr (contends empty h)
  ]

pub rest-once-decided : TreesRestOnceDecided
rest-once-decided placed w j k is late node set core comp is_core empty = rest-or-contend placed w j k is late node set core comp is_core empty

pub rest-by-then : TreesRestByThen
rest-by-then placed w m r late node set core comp is_core empty =
    let j : ℕ = 315 * seen_turns w in
    let k : ℕ = m - j in
    let sum : k + j ≡ m = omega (arith, late) in
    let grown : IsGrown (quiet_after placed k w) = start-grown placed w r k (omega (arith, late)) (taken-reached placed w k r (omega (arith, late))) in
    let is : IsDecided placed w k = record { comes = r; over = omega (arith, late); grown = grown; decided = decided-reached placed w k r (omega (arith, late)) } in
    subst (λ (i : ℕ). IsAtRest (quiet_after placed i w) set ⊎ HasContention (quiet_after placed i w) set) sum
    (rest-or-contend placed w j k is (omega arith) node set core
    (subst (λ (i : ℕ). IsComponent (quiet_after placed i w).cabling node set) (sym sum) comp) (subst (λ (i : ℕ). IsCore (quiet_after placed i w).cabling set core) (sym sum) is_core) empty)
