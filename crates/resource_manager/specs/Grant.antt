-- Granting a channel and bandwidth, and giving them back, by what was seen of the registers before.
use Rattle.std.specs.Prelude.{◌≡◌, ◌≢◌, ℕ, ◌+◌, ◌-◌, ◌<◌, ◌==◌, ◌⊎◌, nat_lt, not, Option, None, Some, if◌then◌else◌}
use Rattle.resource_manager.specs.declared.register.Register.TheVariants.{BandwidthAvailable}
use Rattle.resource_manager.specs.declared.grant.Seen.{Seen}
use Rattle.resource_manager.specs.declared.grant.GrantFault.{GrantFault}
use Rattle.resource_manager.specs.declared.grant.GrantFault.TheVariants.{NoChannel, NoBandwidth, Changed}
use Rattle.resource_manager.specs.Register.{Values, layout, with_value}
use Rattle.resource_manager.specs.Channel.{register_of, place_of, seen_of, word_of, bit_of, without_bit, with_bit}

-- the first register that no longer has the value that was seen: the bandwidth, and then the
-- channel's
abbrev pub change_fault : Values → Seen → ℕ → Option GrantFault
change_fault values seen channel =
    if not (now.bandwidth == seen.bandwidth) then
    Some (Changed (layout BandwidthAvailable).offset now.bandwidth)
    else if not (word_of now channel == word_of seen channel) then
    Some (Changed (layout (register_of channel)).offset (word_of now channel))
    else None
  where
    now : Seen
    now = seen_of values

-- why an allocation is refused, if it is: the channel was seen held, or too little bandwidth was
-- seen, or a register changed
abbrev pub allocate_fault : Values → Seen → ℕ → ℕ → Option GrantFault
allocate_fault values seen channel units =
    if bit_of seen channel == 0 then Some NoChannel
    else if nat_lt seen.bandwidth units then Some (NoBandwidth seen.bandwidth)
    else change_fault values seen channel

-- why a release is refused, if it is: the channel was seen free, or the bandwidth would pass its
-- initial value, or a register changed
abbrev pub release_fault : Values → Seen → ℕ → ℕ → Option GrantFault
release_fault values seen channel units =
    if bit_of seen channel == 1 then Some NoChannel
    else if nat_lt (layout BandwidthAvailable).initial (seen.bandwidth + units) then
    Some (NoBandwidth seen.bandwidth)
    else change_fault values seen channel

-- the registers with another bandwidth, and another word in the channel's register
abbrev pub with_bandwidth_and_word : Values → ℕ → ℕ → ℕ → Values
with_bandwidth_and_word values channel bandwidth word =
    with_value (record values { bandwidth_available = bandwidth }) (register_of channel) word

-- the registers after a grant: the bandwidth is less by the units, and the channel's bit is 0
abbrev pub after_allocation : Values → ℕ → ℕ → Values
after_allocation values channel units =
    with_bandwidth_and_word values channel
    (values.bandwidth_available - units)
    (without_bit (word_of (seen_of values) channel) (place_of channel))

-- the registers after a release: the bandwidth is more by the units, and the channel's bit is 1
abbrev pub after_release : Values → ℕ → ℕ → Values
after_release values channel units =
    with_bandwidth_and_word values channel
    (values.bandwidth_available + units)
    (with_bit (word_of (seen_of values) channel) (place_of channel))

-- A grant takes a channel and units of bandwidth: a release is one backwards.
pub record Takes (before after : Values) (channel units : ℕ) : Type 0 where
  -- the channel was free, and is held
  pub was_free : bit_of (seen_of before) channel ≡ 1
  pub is_held : bit_of (seen_of after) channel ≡ 0
  -- every other channel is as it was
  pub others :
      (other : ℕ) → other < 64 → other ≢ channel →
      bit_of (seen_of after) other ≡ bit_of (seen_of before) other
  -- the units are taken from the bandwidth
  pub bandwidth : after.bandwidth_available + units ≡ before.bandwidth_available
  -- the bus manager is as it was
  pub manager : after.bus_manager_id ≡ before.bus_manager_id

-- the bandwidth differs from what was seen, or else the channel's register does; this is its offset
-- and its value
abbrev pub IsFirstChanged : Values → Seen → ℕ → ℕ → ℕ → Type 0
IsFirstChanged values seen channel offset old =
    ((now.bandwidth ≢ seen.bandwidth)
    × (offset ≡ (layout BandwidthAvailable).offset)
    × (old ≡ now.bandwidth))
    ⊎ ((now.bandwidth ≡ seen.bandwidth)
    × (word_of now channel ≢ word_of seen channel)
    × (offset ≡ (layout (register_of channel)).offset)
    × (old ≡ word_of now channel))
  where
    now : Seen
    now = seen_of values

-- a fault Changed names the first register that changed
abbrev pub NamesFirstChanged : Values → Seen → ℕ → GrantFault → Type 0
NamesFirstChanged values seen channel NoChannel = Unit {0}
NamesFirstChanged values seen channel (NoBandwidth left) = Unit {0}
NamesFirstChanged values seen channel (Changed offset old) =
    IsFirstChanged values seen channel offset old
