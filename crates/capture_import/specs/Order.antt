-- The orders in which the bytes of quadlets may stand.
use Rattle.std.specs.Prelude.{◌≡◌, ℕ, ◌+◌, ◌*◌, ◌/◌, ◌%◌, ◌^◌, ◌==◌, ◌||◌, ◌&&◌, not, Bool, true, false, List, [], ◌∷◌, map, Option, Some, None, if◌then◌else◌}
use Rattle.std.specs.List.{list_all}
use Rattle.quad_lanes.specs.Pairs.{big_endian}
use Rattle.capture_import.specs.declared.taken.Order.{Order}
use Rattle.capture_import.specs.declared.taken.Order.TheVariants.{Big, Little, Halves, HalfBytes}

-- the quadlet of four bytes that stand in such an order
abbrev pub ordered : Order → ℕ → ℕ → ℕ → ℕ → ℕ
ordered Big a b c d = big_endian a b c d
ordered Little a b c d = big_endian d c b a
ordered Halves a b c d = big_endian c d a b
ordered HalfBytes a b c d = big_endian b a d c

-- the quadlet of the bytes of another one, which was read with the highest byte first
abbrev pub turned : Order → ℕ → ℕ
turned order q =
    ordered order (q / 2 ^ 24) (q / 2 ^ 16 % 2 ^ 8) (q / 2 ^ 8 % 2 ^ 8) (q % 2 ^ 8)

-- the highest byte: 128 and the ID, in a self-ID packet
abbrev pub top : Order → ℕ → ℕ
top order q = turned order q / 2 ^ 24

-- it begins with the bits 10, as a self-ID packet does
abbrev pub is_packet : Order → ℕ → Bool
is_packet order q = top order q / 2 ^ 6 == 2

abbrev pub are_packets : Order → List ℕ → Bool
are_packets order list = list_all (is_packet order) list

-- each highest byte is that before it or one more
abbrev pub goes_up : Order → ℕ → List ℕ → Bool
goes_up order before [] = true
goes_up order before (q ∷ list) =
    ((top order q == before) || (top order q == before + 1)) && goes_up order (top order q) list

-- the first packet is one of node 0
abbrev pub begins_at_0 : Order → List ℕ → Bool
begins_at_0 order [] = false
begins_at_0 order (q ∷ list) = top order q == 128

-- and the IDs go up by one at most
abbrev pub is_list : Order → List ℕ → Bool
is_list order list = begins_at_0 order list && (are_packets order list && goes_up order 128 list)

-- the order of quadlets: the first in which their IDs go up, else the first in which they are packets
abbrev pub order_of : List ℕ → Option Order
order_of list =
    if is_list Big list then Some Big
    else if is_list Little list then Some Little
    else if is_list Halves list then Some Halves
    else if is_list HalfBytes list then Some HalfBytes
    else if are_packets Big list then Some Big
    else if are_packets Little list then Some Little
    else if are_packets Halves list then Some Halves
    else if are_packets HalfBytes list then Some HalfBytes
    else None

-- the order of those in a controller's buffer, whose lowest byte is mostly the first
abbrev pub order_of_buffer : List ℕ → Option Order
order_of_buffer list =
    if is_list Little list then Some Little
    else if is_list Big list then Some Big
    else if begins_at_0 Little list then Some Little
    else if begins_at_0 Big list then Some Big
    else None
