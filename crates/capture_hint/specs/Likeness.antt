-- What bytes look like that are no capture.
use Rattle.std.specs.Prelude.{ℕ, ◌+◌, ◌*◌, ◌/◌, ◌%◌, ◌==◌, ◌||◌, ◌&&◌, not, nat_le, nat_lt, length, drop, ◌-◌, Bool, true, false, if◌then◌else◌, List, [], ◌∷◌, codes, Option, Some, None}
use Rattle.std.specs.List.{list_all, starts_with}
use Rattle.std.specs.Str.{bytes_eq}
use Rattle.capture_hint.specs.declared.likeness.Likeness.{Likeness}
use Rattle.capture_hint.specs.declared.likeness.Likeness.TheVariants.{Compressed, Utf16, Marked, Digits, Dump, NumberList, Trace, Script, Rom, TurnedRom, Turned, Halves, Buffer, TopologyMap, Recording, FirstQuadlets, LineFeed}

-- a hexadecimal digit
abbrev pub is_hex_digit : ℕ → Bool
is_hex_digit c =
    (nat_le 48 c && nat_le c 57) || (nat_le 65 c && nat_le c 70) || (nat_le 97 c && nat_le c 102)

-- what may stand between digits, before them and behind: blanks, ends of lines, `x X h H u U`, and the
-- signs , : ; - " ' ( ) [ ] { }
abbrev pub is_sign : ℕ → Bool
is_sign c =
    (c == 32) || (c == 9) || (c == 10) || (c == 13) || (c == 120) || (c == 88) || (c == 104) || (c == 72)
    || (c == 117) || (c == 85) || (c == 44) || (c == 58) || (c == 59) || (c == 45) || (c == 34)
    || (c == 39) || (c == 40) || (c == 41) || (c == 91) || (c == 93) || (c == 123) || (c == 125)

-- the bytes begin so
abbrev pub begins : List ℕ → List ℕ → Bool
begins front bytes = starts_with (λ a b. a == b) bytes front

-- this stands somewhere in the bytes
abbrev pub has_piece : List ℕ → List ℕ → Bool
has_piece piece [] = false
has_piece piece (c ∷ bytes) = begins piece (c ∷ bytes) || has_piece piece bytes

-- gzip writes these two bytes first
abbrev pub is_compressed : List ℕ → Bool
is_compressed bytes = begins (0x1F ∷ 0x8B ∷ []) bytes

-- text of two bytes a character has a mark of two bytes first
abbrev pub is_utf16 : List ℕ → Bool
is_utf16 bytes = begins (0xFF ∷ 0xFE ∷ []) bytes || begins (0xFE ∷ 0xFF ∷ []) bytes

-- and UTF-8 may have one of three
abbrev pub is_marked : List ℕ → Bool
is_marked bytes = begins (0xEF ∷ 0xBB ∷ 0xBF ∷ []) bytes

-- a remark begins here
abbrev pub begins_remark : List ℕ → Bool
begins_remark bytes = begins (codes "#") bytes || begins (codes "//") bytes

-- digits and such signs alone, but for remarks to the ends of lines; at first in a remark or not
abbrev pub are_digits : Bool → List ℕ → Bool
are_digits inside [] = true
are_digits true (c ∷ bytes) = are_digits (not (c == 10)) bytes
are_digits false (c ∷ bytes) =
    if begins_remark (c ∷ bytes) then are_digits true bytes
    else (is_hex_digit c || is_sign c) && are_digits false bytes

-- a digit stands outside of remarks
abbrev pub has_digit : Bool → List ℕ → Bool
has_digit inside [] = false
has_digit true (c ∷ bytes) = has_digit (not (c == 10)) bytes
has_digit false (c ∷ bytes) =
    if begins_remark (c ∷ bytes) then has_digit true bytes
    else is_hex_digit c || has_digit false bytes

-- words of digits
abbrev pub is_digit_text : List ℕ → Bool
is_digit_text bytes = has_digit false bytes && are_digits false bytes

-- the offset 0 stands first, as in the dumps of xxd, hexdump, od and Wireshark
abbrev pub is_dump : List ℕ → Bool
is_dump bytes =
    begins (codes "00000000:") bytes || begins (codes "00000000  ") bytes
    || begins (codes "0000000 ") bytes || begins (codes "000000 ") bytes
    || begins (codes "0000  ") bytes

-- plain text with hexadecimal numbers and a brace, as an array of C or one event of a kernel
abbrev pub is_number_list : List ℕ → Bool
is_number_list bytes =
    list_all (λ c. nat_lt c 128) bytes && (has_piece (codes "{") bytes && has_piece (codes "0x") bytes)

-- a trace of the Linux kernel says so or has one of its events, and a log has packets by name
abbrev pub is_trace : List ℕ → Bool
is_trace bytes =
    begins (codes "# tracer:") bytes || has_piece (codes "bus_reset_handle:") bytes
    || has_piece (codes "self_id_complete:") bytes || has_piece (codes "selfID 0:") bytes

-- a script begins with a remark, a node, a delay or times; answers of `read` and `tree` begin so too, and
-- say who initiated the reset
abbrev pub is_script : List ℕ → Bool
is_script bytes =
    (begins (codes "#") bytes || begins (codes "node ") bytes || begins (codes "delay ") bytes
    || begins (codes "times ") bytes) && not (has_piece (codes " initiated ") bytes)

-- a recording by `nosy-dump` begins with a record of a reset or of a packet
abbrev pub is_recording : List ℕ → Bool
is_recording bytes =
    begins (0x04 ∷ 0x00 ∷ 0x00 ∷ 0x00 ∷ []) bytes || begins (0x10 ∷ 0x00 ∷ 0x00 ∷ 0x00 ∷ []) bytes

-- the second quadlet, in characters
abbrev pub has_second : List ℕ → List ℕ → Bool
has_second text (a ∷ b ∷ c ∷ d ∷ e ∷ f ∷ g ∷ h ∷ bytes) =
    bytes_eq (e ∷ f ∷ g ∷ h ∷ []) text
has_second text bytes = false

-- a quadlet and its bitwise inverse, whichever byte is the highest
abbrev pub is_pair : ℕ → ℕ → ℕ → ℕ → ℕ → ℕ → ℕ → ℕ → Bool
is_pair a b c d e f g h =
    (a + e == 255) && ((b + f == 255) && ((c + g == 255) && (d + h == 255)))

-- a pair of which the first is a self-ID packet of node 0, the lowest byte first and not the highest:
-- such a packet's highest byte is 10 000000
abbrev pub begins_turned : List ℕ → Bool
begins_turned (a ∷ b ∷ c ∷ d ∷ e ∷ f ∷ g ∷ h ∷ bytes) =
    is_pair a b c d e f g h && ((d == 128) && not (a == 128))
begins_turned bytes = false

-- the second pair is of node 1 if the halves of its quadlets are swapped, and of none of the nodes 0 to 2 if
-- they aren't
abbrev pub goes_on_swapped : List ℕ → Bool
goes_on_swapped (a ∷ b ∷ c ∷ d ∷ e ∷ f ∷ g ∷ h ∷ bytes) =
    is_pair a b c d e f g h && ((c == 129) && nat_lt 130 a)
goes_on_swapped bytes = false

-- a pair of which the first is a packet of node 0, the halves of its quadlets swapped
abbrev pub begins_swapped : List ℕ → Bool
begins_swapped (a ∷ b ∷ c ∷ d ∷ e ∷ f ∷ g ∷ h ∷ bytes) =
    is_pair a b c d e f g h && ((c == 128) && (not (a == 128) || goes_on_swapped bytes))
begins_swapped bytes = false

-- the image of a topology map: the first two bytes count the quadlets behind the first, and the last two
-- of the third quadlet those of the list, which are 2 less
abbrev pub is_topology_map : List ℕ → Bool
is_topology_map (a ∷ b ∷ c ∷ d ∷ e ∷ f ∷ g ∷ h ∷ i ∷ j ∷ k ∷ l ∷ bytes) =
    (256 * k + l + 2 == 256 * a + b) && nat_le (4 * (256 * a + b)) (length bytes + 8)
is_topology_map bytes = false

-- each quadlet begins with the bits 10, as self-ID packets do and their inverses don't
abbrev pub are_firsts : List ℕ → Bool
are_firsts [] = true
are_firsts (a ∷ b ∷ c ∷ d ∷ bytes) = (a / 64 == 2) && are_firsts bytes
are_firsts bytes = false

-- a self-ID packet and its inverse stand first
abbrev pub begins_capture : List ℕ → Bool
begins_capture (a ∷ b ∷ c ∷ d ∷ e ∷ f ∷ g ∷ h ∷ bytes) = is_pair a b c d e f g h && (a / 64 == 2)
begins_capture bytes = false

-- and one line feed is left over behind whole pairs
abbrev pub has_line_feed : List ℕ → Bool
has_line_feed bytes =
    begins_capture bytes && (length bytes % 8 == 1) && begins (codes "\n") (drop (length bytes - 1) bytes)

-- what the bytes look like: the first of these that fits
abbrev pub likeness_of : List ℕ → Option Likeness
likeness_of bytes =
    if is_compressed bytes then Some Compressed
    else if is_utf16 bytes then Some Utf16
    else if is_marked bytes then Some Marked
    else if is_dump bytes then Some Dump
    else if is_digit_text bytes then Some Digits
    else if is_trace bytes then Some Trace
    else if is_number_list bytes then Some NumberList
    else if is_script bytes then Some Script
    else if has_second (codes "1394") bytes then Some Rom
    else if has_second (codes "4931") bytes then Some TurnedRom
    else if begins_turned bytes then Some Turned
    else if begins_swapped bytes then Some Halves
    else if begins_turned (drop 4 bytes) then Some Buffer
    else if is_topology_map bytes then Some TopologyMap
    else if is_recording bytes then Some Recording
    else if not (length bytes == 0) && are_firsts bytes then Some FirstQuadlets
    else if has_line_feed bytes then Some LineFeed
    else None
