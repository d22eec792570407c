-- What an accepted capture says of cables.
use Rattle.std.specs.Prelude.{◌≡◌, ℕ, List, []}
use Rattle.self_id.specs.declared.standard.Standard.TheVariants.{Ieee2000}
use Rattle.topology_stack.specs.Tree.{Tree, IsBusTreeOf, emits}
use Rattle.topology_stack.specs.Text.{tree_text}
use Rattle.slot_cabling.specs.SlotCabling.{CablesTree}
use Rattle.world_laws.specs.SlotCabling.{IsEmitted}
use Rattle.world_laws.specs.TreeText.{AreAlikeButHidden}
use Rattle.capture_reading.specs.Capture.{IsCaptureOf}

-- The bytes are the packets that the nodes of some cabling emit, the text is that of the tree that
-- this cabling shows, and no cabling that emits them shows another. The text tells that tree: a bus
-- tree with the same text is alike but for delays and the bits that further packets carry unread.
pub record TellsCabling (bytes text : List ℕ) : Type 0 where
  pub tree : Tree
  pub cabled : CablesTree Ieee2000 tree
  pub captured : IsCaptureOf (emits tree) bytes
  pub text_is : text ≡ tree_text tree []
  pub only : (list : List ℕ) (e : IsEmitted list) → IsCaptureOf list bytes → e.tree ≡ tree
  pub told :
      (other : Tree) → IsBusTreeOf Ieee2000 other → text ≡ tree_text other [] →
      AreAlikeButHidden tree other

-- at status 0
abbrev pub AnswersCabling : List ℕ → ℕ → List ℕ → Type 0
AnswersCabling bytes status text = status ≡ 0 → TellsCabling bytes text

-- the bytes are the packets that the nodes of some cabling emit
abbrev pub AreEmitted : List ℕ → Type 0
AreEmitted bytes = (list : List ℕ) × IsEmitted list × IsCaptureOf list bytes
