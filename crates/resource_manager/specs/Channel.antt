-- The bits of the 64 isochronous channels: 1 while the channel is free, 0 while it is held.
use Rattle.std.specs.Prelude.{ℕ, ◌-◌, ◌%◌, ◌^◌, nat_lt, if◌then◌else◌, bit_and, bit_or}
use Rattle.std.specs.Int.{bit_at, bit_not, w32}
use Rattle.resource_manager.specs.declared.register.Register.{Register}
use Rattle.resource_manager.specs.declared.register.Register.TheVariants.{ChannelsAvailableHi, ChannelsAvailableLo}
use Rattle.resource_manager.specs.declared.grant.Seen.{Seen}
use Rattle.resource_manager.specs.Register.{Values}

-- channels 0 to 31 stand in CHANNELS_AVAILABLE_HI, and 32 to 63 in CHANNELS_AVAILABLE_LO
abbrev pub register_of : ℕ → Register
register_of channel = if nat_lt channel 32 then ChannelsAvailableHi else ChannelsAvailableLo

-- the place of a channel's bit in its register: channels 0 and 32 have the top bit, which is bit 31
abbrev pub place_of : ℕ → ℕ
place_of channel = 31 - channel % 32

-- what a look at the registers shows
abbrev pub seen_of : Values → Seen
seen_of values = record {
  bandwidth = values.bandwidth_available;
  hi = values.channels_available_hi;
  lo = values.channels_available_lo;
}

-- the value seen of the channel's register
abbrev pub word_of : Seen → ℕ → ℕ
word_of seen channel = if nat_lt channel 32 then seen.hi else seen.lo

-- the bit seen of the channel
abbrev pub bit_of : Seen → ℕ → ℕ
bit_of seen channel = bit_at (word_of seen channel) (place_of channel)

-- a register's value with one bit made 0
abbrev pub without_bit : ℕ → ℕ → ℕ
without_bit value place = bit_and value (bit_not w32 (2 ^ place))

-- a register's value with one bit made 1
abbrev pub with_bit : ℕ → ℕ → ℕ
with_bit value place = bit_or value (2 ^ place)
