-- Where a cable goes, after earlier ones.
use Rattle.std.specs.Prelude.{◌≡◌, ◌≢◌, ◌⊎◌, ℕ, ◌<◌, List, [], ◌∷◌, ◌++◌}
use Rattle.cabling.specs.declared.cable.Cable.{Cable}
use Rattle.loop_advice.specs.declared.groups.Groups.{Groups}
use Rattle.loop_advice.specs.codings.Groups.{group, merged}

-- the groups of nodes, and the lists so far
pub record Stand : Type 0 where
  pub groups : Groups
  pub pulls : List Cable
  pub kept : List Cable

-- its nodes are in one group: it is pulled
pub record WasPulled (old new : Stand) (x : Cable) : Type 0 where
  pub joined : group old.groups x.a.node ≡ group old.groups x.b.node
  pub groups : new.groups ≡ old.groups
  pub pulls : new.pulls ≡ old.pulls ++ x ∷ []
  pub kept : new.kept ≡ old.kept

-- its nodes are in two groups, which it joins: it is kept
pub record WasKept (old new : Stand) (x : Cable) : Type 0 where
  pub apart : group old.groups x.a.node ≢ group old.groups x.b.node
  pub groups :
      (node : ℕ) → node < 63 →
      group new.groups node
      ≡ merged (group old.groups x.b.node) (group old.groups x.a.node) (group old.groups node)
  pub pulls : new.pulls ≡ old.pulls
  pub kept : new.kept ≡ old.kept ++ x ∷ []

abbrev pub WasPlaced : Stand → Stand → Cable → Type 0
WasPlaced old new x = WasPulled old new x ⊎ WasKept old new x
