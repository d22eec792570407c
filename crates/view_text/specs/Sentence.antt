-- What was found and what was wanted where a capture is refused, in a sentence.
use Rattle.std.specs.Prelude.{ℕ, zero, suc, ◌+◌, ◌*◌, ◌/◌, ◌^◌, nat_lt, true, false, if◌then◌else◌, Option, Some, None, List, ◌++◌, length, slice_index, codes}
use Rattle.quad_lanes.specs.Pairs.{inverse}
use Rattle.phy_packet.specs.declared.packet.PhyPacket.{PhyPacket}
use Rattle.phy_packet.specs.declared.packet.PhyPacket.TheVariants.{Config, LinkOn, SelfZero, SelfMore, Extended, Other}
use Rattle.self_id.specs.declared.standard.Standard.{Standard}
use Rattle.self_id.specs.declared.standard.Standard.TheVariants.{Ieee1995, Ieee2000}
use Rattle.self_id.specs.declared.fault.GroupFault.{GroupFault}
use Rattle.self_id.specs.declared.fault.GroupFault.TheVariants.{NotSelfId, WrongId, BadOrder, Cut, TwoParents}
use Rattle.topology_stack.specs.Hex.{hex}
use Rattle.topology_stack.specs.declared.fault.TreeFault.{TreeFault}
use Rattle.topology_stack.specs.declared.fault.TreeFault.TheVariants.{Group, Empty, TooFewChildren, TreesLeft, AfterRoot, NoRoot, TooMany}
use Rattle.view_text.specs.Packet.{field}

-- the quadlets of a pair, where it is whole, and else 0
abbrev pub first_at : List ℕ → ℕ → ℕ
first_at quads pair = if nat_lt pair (length quads / 2) then slice_index quads (2 * pair) else 0

abbrev pub second_at : List ℕ → ℕ → ℕ
second_at quads pair =
    if nat_lt pair (length quads / 2) then slice_index quads (2 * pair + 1) else 0

-- the top two bits of a quadlet
abbrev pub top_bits : ℕ → List ℕ
top_bits zero = codes "00"
top_bits (suc zero) = codes "01"
top_bits (suc (suc zero)) = codes "10"
top_bits (suc (suc (suc n))) = codes "11"

-- Which packet of a node has to follow this one: where m is set its next one, up to n 1, or by
-- 1394-1995 up to n 2.
abbrev pub next_after : Standard → PhyPacket → List ℕ
next_after s (Config root_id force set_gap gap rest) = codes "packet zero"
next_after s (LinkOn phy_id rest) = codes "packet zero"
next_after s (SelfZero phy_id link gap speed delay contender power p0 p1 p2 initiated false) =
    codes "packet zero"
next_after s (SelfZero phy_id link gap speed delay contender power p0 p1 p2 initiated true) =
    codes "packet n 0"
next_after s (SelfMore phy_id n kept bits r false) = codes "packet zero"
next_after s (SelfMore phy_id zero kept bits r true) = codes "packet n 1"
next_after Ieee1995 (SelfMore phy_id (suc zero) kept bits r true) = codes "packet n 2"
next_after Ieee1995 (SelfMore phy_id (suc (suc n)) kept bits r true) = codes "packet zero"
next_after Ieee2000 (SelfMore phy_id (suc n) kept bits r true) = codes "packet zero"
next_after s (Extended word) = codes "packet zero"
next_after s (Other word) = codes "packet zero"

-- which packet of a node has to stand behind the one before, if there is one
abbrev pub next_words : Standard → Option PhyPacket → List ℕ
next_words s None = codes "packet zero"
next_words s (Some p) = next_after s p

-- the bytes of a capture end within a pair
abbrev pub length_sentence : List ℕ
length_sentence =
    codes "Found the end of the input inside this pair, wanted 8 bytes: a quadlet and its inverse.\n"

-- the second quadlet of a pair isn't the inverse of the first
unfoldable pub inverse_sentence : ℕ → ℕ → List ℕ
inverse_sentence first second =
    codes "Found the second quadlet " ++ (hex 8 second ++ (codes ", wanted "
    ++ (hex 8 (inverse first) ++ codes ", the bitwise inverse of the first.\n")))

unfoldable pub top_sentence : ℕ → List ℕ
top_sentence first =
    codes "Found the top two bits "
    ++ (top_bits (first / 2 ^ 30) ++ codes ", wanted 10, those of a self-ID packet.\n")

unfoldable pub id_sentence : ℕ → ℕ → List ℕ
id_sentence found wanted =
    field (codes "Found a self-ID packet of node ") found
    ++ (field (codes ", wanted one of node ") wanted
    ++ codes ": IDs count up from 0, and a node's packets stand together.\n")

unfoldable pub order_sentence : List ℕ → List ℕ
order_sentence wanted =
    codes "Found another packet of the node, wanted its " ++ (wanted ++ codes ".\n")

unfoldable pub children_sentence : ℕ → ℕ → List ℕ → List ℕ
children_sentence found wanted why =
    field (codes "Found trees of nodes that wait for a parent: ") found
    ++ (field (codes ", wanted ") wanted ++ why)

-- the sentence of a list's fault by a standard, of the quadlet at its place and the packet before that
abbrev pub group_sentence : Standard → ℕ → Option PhyPacket → GroupFault → List ℕ
group_sentence s quad before (NotSelfId at) = top_sentence quad
group_sentence s quad before (WrongId at found wanted) = id_sentence found wanted
group_sentence s quad before (BadOrder at) = order_sentence (next_words s before)
group_sentence s quad before (Cut at) =
    codes "Found the end of the list, wanted a further packet: m is 1 in the one before.\n"
group_sentence s quad before (TwoParents at) =
    codes "Found more than one port to a parent in this node's packets, wanted one at most.\n"

abbrev pub tree_sentence : Standard → ℕ → Option PhyPacket → TreeFault → List ℕ
tree_sentence s quad before (Group f) = group_sentence s quad before f
tree_sentence s quad before Empty = codes "Found no packet, wanted those of one node at least.\n"
tree_sentence s quad before (TooFewChildren at found wanted) =
    children_sentence found wanted (codes ", as many as this node has ports to children.\n")
tree_sentence s quad before (TreesLeft at found wanted) =
    children_sentence found wanted
    (codes ": this node has no port to a parent, so it is the root, and those are its children.\n")
tree_sentence s quad before (AfterRoot at) =
    codes "Found a packet behind the root's, wanted none: the node without a parent comes last.\n"
tree_sentence s quad before (NoRoot at) =
    codes "Found the end of the list, wanted the root: each node has a port to a parent.\n"
tree_sentence s quad before (TooMany at) =
    codes "Found a packet of a 64th node, wanted 63 nodes at most.\n"
