-- What an accepted capture says of cables by a standard: by IEEE Std 1394-1995 too, whose nodes have up to
-- 27 ports.
use Rattle.std.specs.Prelude.{◌≡◌, ℕ, List, []}
use Rattle.self_id.specs.declared.standard.Standard.{Standard}
use Rattle.topology_stack.specs.Tree.{Tree, IsBusTreeOf, emits}
use Rattle.topology_stack.specs.Text.{tree_text}
use Rattle.slot_cabling.specs.SlotCabling.{CablesTree}
use Rattle.world_laws.specs.TreeText.{AreAlikeButHidden}
use Rattle.capture_reading.specs.Capture.{IsCaptureOf}

-- The bytes are the packets that the nodes of some cabling emit, the text is that of the tree that
-- this cabling shows, and no cabling that emits them shows another. The text tells that tree: a bus
-- tree with the same text is alike but for delays and the bits that further packets carry unread.
pub record TellsCablingBy (standard : Standard) (bytes text : List ℕ) : Type 0 where
  pub tree : Tree
  pub cabled : CablesTree standard tree
  pub captured : IsCaptureOf (emits tree) bytes
  pub text_is : text ≡ tree_text tree []
  pub only :
      (other : Tree) → CablesTree standard other → IsCaptureOf (emits other) bytes → other ≡ tree
  pub told :
      (other : Tree) → IsBusTreeOf standard other → text ≡ tree_text other [] →
      AreAlikeButHidden tree other

-- at status 0
abbrev pub AnswersCablingBy : Standard → List ℕ → ℕ → List ℕ → Type 0
AnswersCablingBy standard bytes status text = status ≡ 0 → TellsCablingBy standard bytes text

-- the bytes are the packets that the nodes of some cabling emit, which shows a tree with each of them
abbrev pub AreEmittedBy : Standard → List ℕ → Type 0
AreEmittedBy standard bytes =
    (t : Tree) × CablesTree standard t × IsCaptureOf (emits t) bytes
