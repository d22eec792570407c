-- The places that are marked while the blocks of a ROM are looked for. No public contract cites
-- this file.
use Rattle.std.specs.Prelude.{◌≡◌, ℕ, ◌<◌, ◌≤◌, ◌⊎◌, nat_lt, nat_le, Bool, true, false, if◌then◌else◌, Option, Some, None, List, length, slice_index_or}
use Rattle.config_rom.specs.declared.fault.RomFault.{RomFault}
use Rattle.config_rom.specs.declared.block.BlockKind.{BlockKind}
use Rattle.config_rom.specs.declared.block.BlockKind.TheVariants.{Directory, Leaf}
use Rattle.config_rom.specs.declared.marks.PlaceSet.{PlaceSet}
use Rattle.config_rom.specs.declared.marks.Marks.{Marks}
use Rattle.config_rom.specs.Layout.{end_of}
use Rattle.config_rom.specs.Block.{LeadsTo, IsReachable, IsSelfTarget, HasFault}

abbrev pub has_place : PlaceSet → ℕ → Bool
has_place places at = slice_index_or places.marked at false

-- a block with a place below 256 is marked
abbrev pub has_mark : Marks → BlockKind → ℕ → Bool
has_mark m Directory at = has_place m.directories at
has_mark m Leaf at = has_place m.leaves at

-- of the places from 256 on, all that aren't less than the least one that was marked
abbrev pub is_past : Option ℕ → ℕ → Bool
is_past None at = false
is_past (Some least) at = nat_le least at

abbrev pub covers : Marks → BlockKind → ℕ → Bool
covers m kind at = if nat_lt at 256 then has_mark m kind at else is_past m.beyond at

-- a block was marked, and no other
pub record Adds (old new : Marks) (kind : BlockKind) (at : ℕ) : Type 0 where
  pub covered : covers new kind at ≡ true
  pub kept : (k : BlockKind) (p : ℕ) → covers old k p ≡ true → covers new k p ≡ true
  pub only :
      (k : BlockKind) (p : ℕ) → p < 256 → has_mark new k p ≡ true →
      (has_mark old k p ≡ true) ⊎ ((k ≡ kind) × (p ≡ at))
  pub beyond :
      (b : ℕ) → new.beyond ≡ Some b → (old.beyond ≡ Some b) ⊎ ((b ≡ at) × (256 ≤ b))

-- the targets of a directory's entries before a place were marked, and nothing else
pub record AddsTargets (quads : List ℕ) (directory before : ℕ) (old new : Marks) : Type 0 where
  pub covered :
      (entry target : ℕ) (k : BlockKind) → entry < before → LeadsTo quads directory entry k target →
      covers new k target ≡ true
  pub kept : (k : BlockKind) (p : ℕ) → covers old k p ≡ true → covers new k p ≡ true
  pub only :
      (k : BlockKind) (p : ℕ) → p < 256 → has_mark new k p ≡ true →
      (has_mark old k p ≡ true) ⊎ ((entry : ℕ) × LeadsTo quads directory entry k p)
  pub beyond :
      (b : ℕ) → new.beyond ≡ Some b →
      (old.beyond ≡ Some b)
      ⊎ ((entry : ℕ) × (k : BlockKind) × LeadsTo quads directory entry k b × (256 ≤ b))
  pub none_itself : (entry : ℕ) → entry < before → IsSelfTarget quads directory entry → ⊥

-- the blocks at a place were taken: none passes the end, and what a directory leads to was marked
pub record TakesPlace (quads : List ℕ) (at : ℕ) (old new : Marks) : Type 0 where
  pub whole : (k : BlockKind) → has_mark old k at ≡ true → end_of quads at ≤ length quads
  pub targets : has_mark old Directory at ≡ true → AddsTargets quads at (end_of quads at) old new
  pub same : has_mark old Directory at ≡ false → new ≡ old

-- the places before `at` were taken
pub record Taken (quads : List ℕ) (root at : ℕ) (m : Marks) : Type 0 where
  pub root_in : covers m Directory root ≡ true
  pub closed :
      (directory entry target : ℕ) (k : BlockKind) → directory < at →
      has_mark m Directory directory ≡ true → LeadsTo quads directory entry k target →
      covers m k target ≡ true
  pub reached : (k : BlockKind) (p : ℕ) → p < 256 → has_mark m k p ≡ true → IsReachable quads root k p
  pub beyond : (b : ℕ) → m.beyond ≡ Some b → (k : BlockKind) × IsReachable quads root k b × (256 ≤ b)
  pub faultless :
      (k : BlockKind) (p : ℕ) → p < at → has_mark m k p ≡ true →
      (f : RomFault) → HasFault quads k p f → ⊥
