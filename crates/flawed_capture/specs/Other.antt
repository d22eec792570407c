-- The quadlet that takes the place of a packet's.
use Rattle.std.specs.Prelude.{◌≡◌, ◌≢◌, ℕ, ◌+◌, ◌-◌, ◌*◌, ◌/◌, ◌%◌, ◌^◌, Bool, false, ◌==◌, ◌&&◌, if◌then◌else◌, bit_and, bit_or, bit_xor}
use Rattle.self_id.specs.declared.standard.Standard.{Standard}
use Rattle.self_id.specs.declared.standard.Standard.TheVariants.{Ieee1995, Ieee2000}
use Rattle.flawed_capture.specs.declared.flaw.Flaw.{Flaw}
use Rattle.flawed_capture.specs.declared.flaw.Flaw.TheVariants.{NotSelfId, WrongId, BadOrder, Cut, TwoParents, TooFewChildren, TreesLeft, AfterRoot, NoRoot, TooMany}

-- its bits from `low` up to `end` are those of a number
abbrev pub with_bits : ℕ → ℕ → ℕ → ℕ → ℕ
with_bits low end value quad = quad / 2 ^ end * 2 ^ end + (value * 2 ^ low + quad % 2 ^ low)

-- the port fields of packet zero, which are its bits from 2 up to 8, are those of a number
abbrev pub with_slots : ℕ → ℕ → ℕ
with_slots slots quad = with_bits 2 8 slots quad

-- packet n = 1 of IEEE 1394a-2000 has five port fields
abbrev pub has_five : Standard → ℕ → Bool
has_five Ieee1995 quad = false
has_five Ieee2000 quad = (quad / 2 ^ 23 % 2 == 1) && (quad / 2 ^ 20 % 8 == 1)

-- where the last port field of a packet stands
abbrev pub last_field : Standard → ℕ → ℕ
last_field standard quad = if has_five standard quad then 8 else 2

-- the port field there is 10, which is the parent
abbrev pub with_up : ℕ → ℕ → ℕ
with_up low quad = with_bits low (low + 2) 2 quad

-- Each port field is 01, which is no cable: the three of packet zero, which are the bits 2 to 7, the
-- five of a packet that has five, or else eight.
abbrev pub without_cables : Standard → ℕ → ℕ
without_cables standard quad =
    if quad / 2 ^ 23 % 2 == 0 then with_bits 2 8 21 quad
    else (if has_five standard quad then with_bits 8 18 341 quad
    else with_bits 2 18 21845 quad)

-- what is other in it, by the kind of flaw
abbrev pub IsOther : Flaw → Standard → ℕ → ℕ → Type 0
-- the top two bits, which are 10 in self-ID packets
IsOther NotSelfId standard quad other = other / 2 ^ 30 ≢ quad / 2 ^ 30
-- the phy_ID alone
IsOther WrongId standard quad other =
    (other / 2 ^ 30 ≡ quad / 2 ^ 30) × (other / 2 ^ 24 ≢ quad / 2 ^ 24)
    × (other % 2 ^ 24 ≡ quad % 2 ^ 24)
-- the bit behind it, which tells packet zero from further packets
IsOther BadOrder standard quad other =
    (other / 2 ^ 24 ≡ quad / 2 ^ 24) × (other / 2 ^ 23 ≢ quad / 2 ^ 23)
-- the m bit is set
IsOther Cut standard quad other = other ≡ quad / 2 * 2 + 1
-- each port field of packet zero is 10, which is the parent
IsOther TwoParents standard quad other = quad / 2 ^ 23 % 2 ≡ 0 → other ≡ with_slots 42 quad
-- or 11, which is a child
IsOther TooFewChildren standard quad other = quad / 2 ^ 23 % 2 ≡ 0 → other ≡ with_slots 63 quad
-- each port field is 01, which is no cable
IsOther TreesLeft standard quad other = other ≡ without_cables standard quad
-- the last port field is 10
IsOther NoRoot standard quad other = other ≡ with_up (last_field standard quad) quad
IsOther TooMany standard quad other = other ≡ with_up (last_field standard quad) quad
IsOther flaw standard quad other = Unit {0}

-- ---- and which one it is, as a word says what the kind leaves open

-- the bits of a packet's port fields
abbrev pub fields_of : Standard → ℕ → ℕ
fields_of standard quad =
    if quad / 2 ^ 23 % 2 == 0 then 252 else if has_five standard quad then 261888 else 262140

-- these fields of a packet are those of a pattern
abbrev pub with_fields : ℕ → ℕ → ℕ → ℕ
with_fields pattern fields quad =
    bit_or (bit_and quad (2 ^ 32 - 1 - fields)) (bit_and pattern fields)

-- the lower bit of each field that is 10, which is the parent
abbrev pub parents_in : ℕ → ℕ → ℕ
parents_in fields quad =
    bit_and (bit_and (bit_and (quad / 2) (2 ^ 32 - 1 - quad)) 0x55555555) fields

unfoldable pub other_by : Flaw → Standard → ℕ → ℕ → ℕ
other_by NotSelfId standard quad w = bit_xor quad ((w % 3 + 1) * 2 ^ 30)
other_by WrongId standard quad w = bit_xor quad ((w % 63 + 1) * 2 ^ 24)
other_by BadOrder standard quad w = bit_xor quad (2 ^ 23)
other_by Cut standard quad w = bit_or quad 1
other_by TwoParents standard quad w = with_fields 0xaaaaaaaa (fields_of standard quad) quad
other_by TooFewChildren standard quad w = bit_or quad (fields_of standard quad)
other_by TreesLeft standard quad w = with_fields 0x55555555 (fields_of standard quad) quad
other_by AfterRoot standard quad w = quad - parents_in (fields_of standard quad) quad
other_by NoRoot standard quad w = with_up (last_field standard quad) quad
other_by TooMany standard quad w = with_up (last_field standard quad) quad
other_by flaw standard quad w = quad
