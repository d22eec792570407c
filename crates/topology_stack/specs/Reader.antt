-- A reader, by IEEE 1394a-2000, of a list that comes quadlet by quadlet: what it keeps, and for
-- which list it stands.
use Rattle.std.specs.Prelude.{◌≡◌, ℕ, List, Option, MatchOption}
use Rattle.self_id.specs.declared.fault.GroupFault.TheVariants.{NotSelfId, WrongId, BadOrder, Cut, TwoParents}
use Rattle.self_id.specs.declared.standard.Standard.TheVariants.{Ieee2000}
use Rattle.topology_stack.specs.declared.fault.TreeFault.{TreeFault}
use Rattle.topology_stack.specs.declared.fault.TreeFault.TheVariants.{Group, Empty, TooFewChildren, TreesLeft, AfterRoot, NoRoot, TooMany}
use Rattle.topology_stack.specs.Refused.{Refused}

-- the first quadlets of the list, and a fault
pub record Kept : Type 0 where
  pub quads : List ℕ
  pub fault : Option TreeFault

-- faults that a list keeps however it goes on: all but those of its end
abbrev pub IsLasting : TreeFault → Type 0
IsLasting Empty = ⊥
IsLasting (NoRoot at) = ⊥
IsLasting (Group (Cut at)) = ⊥
IsLasting (Group (NotSelfId at)) = Unit {0}
IsLasting (Group (WrongId at found wanted)) = Unit {0}
IsLasting (Group (BadOrder at)) = Unit {0}
IsLasting (Group (TwoParents at)) = Unit {0}
IsLasting (TooFewChildren at found wanted) = Unit {0}
IsLasting (TreesLeft at found wanted) = Unit {0}
IsLasting (AfterRoot at) = Unit {0}
IsLasting (TooMany at) = Unit {0}

-- the reader keeps the whole list and no fault, or the list's fault, which lasts
abbrev pub StandsFor : Kept → List ℕ → Type 0
StandsFor kept l = MatchOption kept.fault (kept.quads ≡ l) (λ f. Refused Ieee2000 l f × IsLasting f)
