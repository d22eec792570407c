-- Worked rows: what a text leaves out, and the slots of a wiring.
use Rattle.std.proofs.Common.{◌≡◌, ◌≢◌, ℕ, true, false, Some, None, [], ◌∷◌, refl, arith}
use Rattle.topology_stack.specs.Tree.{Label, Tree, branch, no_more, absent, unplugged, up, down}
use Rattle.world_laws.specs.TreeText.{told_tree, AreAlikeButHidden}
use Rattle.slot_cabling.specs.SlotCabling.{no_port, no_cable, cable_to}
use Rattle.world_laws.specs.WiringSlots.{slots_of}
use Rattle.cabling.specs.declared.cable.End.{End}
use Rattle.cabling.specs.Wiring.{Wiring}

-- ---- texts

abbrev label : ℕ → ℕ → ℕ → Label
label speed delay kept = record {
  attrs = record { link = true; gap = 63; speed = speed; delay = delay; contender = false; power = 4; initiated = false };
  kept_a = kept;
  kept_b = 0;
}

-- a node with 11 slots below one with three
abbrev pair : Label → Tree
pair a =
    branch (label 2 0 0)
    (down (branch a (unplugged (up (absent (absent (absent (absent (absent (absent (absent (absent (absent no_more))))))))))))
    (unplugged (unplugged no_more)))

-- the delay and the bits that its second packet carries unread are hidden
hidden : AreAlikeButHidden (pair (label 2 3 5)) (pair (label 2 0 0))
hidden = record { nodes = refl; far_ends = refl }

-- the speed isn't
speeds : told_tree (pair (label 2 0 0)) ≢ told_tree (pair (label 1 0 0))
speeds e = let two : ◌≡◌ {A = ℕ} 2 1 = cc in omega (arith, two)

-- ---- slots

abbrev end : ℕ → ℕ → End
end node port = record { node = node; port = port }

-- a node with one port, and one with four
abbrev two_nodes : Wiring
two_nodes = (Some (end 1 2) ∷ []) ∷ (None ∷ None ∷ Some (end 0 0) ∷ None ∷ []) ∷ []

-- they show 3 and 11 slots, the ports first
slots :
    slots_of two_nodes
    ≡ (cable_to (end 1 2) ∷ no_port ∷ no_port ∷ [])
    ∷ (no_cable ∷ no_cable ∷ cable_to (end 0 0) ∷ no_cable ∷ no_port ∷ no_port ∷ no_port ∷ no_port ∷ no_port
    ∷ no_port ∷ no_port ∷ [])
    ∷ []
slots = refl
