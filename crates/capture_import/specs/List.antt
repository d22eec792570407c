-- How the self-ID packets of a bus stand among quadlets.
use Rattle.std.specs.Prelude.{◌≡◌, ℕ, ◌+◌, ◌*◌, ◌/◌, ◌%◌, ◌^◌, ◌==◌, ◌||◌, ◌&&◌, not, nat_le, Bool, true, false, List, [], ◌∷◌, length, drop, map, position, slice_index, Option, Some, None, if◌then◌else◌}
use Rattle.quad_lanes.specs.Pairs.{inverse}
use Rattle.capture_import.specs.Order.{turned, is_packet, order_of, order_of_buffer}
use Rattle.capture_import.specs.Image.{HasList, IsBadImage}
use Rattle.capture_import.specs.declared.taken.Layout.{Layout}
use Rattle.capture_import.specs.declared.taken.Layout.TheVariants.{Pairs, Firsts, Buffer, Map}
use Rattle.capture_import.specs.declared.taken.Order.{Order}
use Rattle.capture_import.specs.declared.taken.Order.TheVariants.{Big, Little, Halves, HalfBytes}
use Rattle.capture_import.specs.declared.fault.FaultKind.TheVariants.{BadInverse, NotSelfId}
use Rattle.capture_import.specs.declared.fault.ImportFault.{ImportFault}

-- a quadlet and its bitwise inverse stand first; whichever order their bytes have, it is the same
abbrev pub begins_pair : List ℕ → Bool
begins_pair (a ∷ b ∷ quads) = b == inverse a
begins_pair quads = false

-- The image of a topology map tells its length in the high half of the first quadlet, and that of its
-- list in the low half of the third, which is 2 less. More quadlets may follow.
abbrev pub begins_map : List ℕ → Bool
begins_map quads =
    nat_le 3 (length quads) && (nat_le (slice_index quads 0 / 2 ^ 16 + 1) (length quads)
    && (slice_index quads 2 % 2 ^ 16 + 2 == slice_index quads 0 / 2 ^ 16))

-- how packets stand among quadlets: what fits first
abbrev pub layout_of : List ℕ → Layout
layout_of quads =
    if begins_pair quads then Pairs
    else if begins_pair (drop 1 quads) then Buffer
    else if begins_map quads then Map
    else Firsts

-- the first quadlets of the pairs before the first that has no inverse behind it
abbrev pub good_firsts : List ℕ → List ℕ
good_firsts (a ∷ b ∷ quads) = if b == inverse a then a ∷ good_firsts quads else []
good_firsts quads = []

-- ---- the end of the list in a buffer

-- the two bits above this one are 10: a port that leads to the parent
abbrev pub is_up : ℕ → ℕ → Bool
is_up bit q = q / bit % 4 == 2

-- the ports of packet zero, in which bit 23 is 0, and of others
abbrev pub leads_up : ℕ → Bool
leads_up q =
    if q / 2 ^ 23 % 2 == 0 then is_up 64 q || is_up 16 q || is_up 4 q
    else
    is_up 65536 q || is_up 16384 q || is_up 4096 q || is_up 1024 q
    || is_up 256 q || is_up 64 q || is_up 16 q || is_up 4 q

-- The packets up to those of the first node of which no port leads to a parent: the root, which is
-- the last to identify itself. Bit 0 says that a packet of the same node follows.
abbrev pub up_to_root : Bool → List ℕ → List ℕ
up_to_root up [] = []
up_to_root up (q ∷ quads) =
    if q % 2 == 1 then q ∷ up_to_root (up || leads_up q) quads
    else if up || leads_up q then q ∷ up_to_root false quads
    else q ∷ []

-- ---- the packets that quadlets name

-- with their bytes as they were read, and those bytes' order
abbrev pub packets_in : Layout → List ℕ → List ℕ
packets_in Pairs quads = good_firsts quads
packets_in Buffer quads = good_firsts (drop 1 quads)
packets_in Firsts quads = quads
packets_in Map quads = []

abbrev pub order_in : Layout → List ℕ → Option Order
order_in Pairs quads = order_of (packets_in Pairs quads)
order_in Buffer quads = order_of_buffer (packets_in Buffer quads)
order_in Firsts quads = order_of (packets_in Firsts quads)
order_in Map quads = None

-- the list that ends with the root, in a buffer
abbrev pub to_its_end : Layout → List ℕ → List ℕ
to_its_end Buffer list = up_to_root false list
to_its_end Pairs list = list
to_its_end Firsts list = list
to_its_end Map list = list

-- all quadlets are in good pairs, where they are to be
abbrev pub are_good : Layout → List ℕ → Bool
are_good Pairs quads = 2 * length (good_firsts quads) == length quads
are_good Buffer quads = true
are_good Firsts quads = true
are_good Map quads = true

-- the packets of quadlets that stand so, whose bytes are in this order
pub record HasPackets (layout : Layout) (order : Order) (quads list : List ℕ) : Type 0 where
  pub good : are_good layout quads ≡ true
  pub order_is : order_in layout quads ≡ Some order
  pub list_is : list ≡ to_its_end layout (map (turned order) (packets_in layout quads))

abbrev pub NamesList : Layout → Order → List ℕ → List ℕ → Type 0
NamesList Map order quads list = HasList quads list × (order ≡ Big)
NamesList Pairs order quads list = HasPackets Pairs order quads list
NamesList Buffer order quads list = HasPackets Buffer order quads list
NamesList Firsts order quads list = HasPackets Firsts order quads list

-- ---- and why they name none

-- the first that is no packet with its highest byte first, or the first
abbrev pub or_first : Option ℕ → ℕ
or_first None = 0
or_first (Some place) = place

abbrev pub is_other : ℕ → Bool
is_other q = not (is_packet Big q)

abbrev pub first_other : List ℕ → ℕ
first_other list = or_first (position is_other list)

-- the quadlet of the packet at a place
abbrev pub quadlet_at : Layout → ℕ → ℕ
quadlet_at Pairs place = 2 * place
quadlet_at Buffer place = 2 * place + 1
quadlet_at Firsts place = place
quadlet_at Map place = place

-- a quadlet is no inverse of that before it, or the packets are none in any order
pub record HasNoPackets (layout : Layout) (quads : List ℕ) (f : ImportFault) : Type 0 where
  pub order_is : are_good layout quads ≡ true → order_in layout quads ≡ None
  pub kind_is : f.kind ≡ (if are_good layout quads then NotSelfId else BadInverse)
  pub place_is :
      f.quadlet ≡ (if are_good layout quads then
      quadlet_at layout (first_other (packets_in layout quads)) else
      2 * length (good_firsts quads) + 1)

abbrev pub IsBadList : Layout → List ℕ → ImportFault → Type 0
IsBadList Map quads f = IsBadImage quads f.kind f.quadlet
IsBadList Pairs quads f = HasNoPackets Pairs quads f
IsBadList Buffer quads f = HasNoPackets Buffer quads f
IsBadList Firsts quads f = HasNoPackets Firsts quads f
